-- The pieces of arcs under the junctions of a greater map.
use Rattle.std.proofs.Common.{◌≡◌, Bool, true, false, not, List, [], ◌∷◌, ◌++◌, map, inl, inr, refl, sym, subst}
use Rattle.std.specs.List.{list_any}
use Rattle.theory.specs.Arcs.{AreArcsOf}
use Rattle.theory.specs.Chain.{Free}
use Rattle.theory.specs.Geometry.{Geometry, IsSound, IsLineOf, IsRingOf, JunctionOf, IsChainOf}
use Rattle.theory.specs.Lists.{Has, Each}
use Rattle.theory.specs.Refinement.{Alike, AreArcsAsMap, IsPartOf, LoopArc, OpenArc, arcs_as_map, both_of, unclosed}
use Rattle.theory.specs.Stitching.{ArePiecesOf, AreRingPiecesOf}
use Rattle.theory.specs.TopologyFunction.{arcs_of}
use Rattle.theory.proofs.ArcsAsMap.{arcs_sound, arcs_alike, arcs_same, alike_back, arc_alike, chain_alike, turned_alike}
use Rattle.theory.proofs.ArcsOfMap.{are_arcs}
use Rattle.theory.proofs.PiecesExist.{are_arcs_as_map, whole_union}
use Rattle.grid.specs.declared.pos.Pos.{Pos}
use Rattle.lines.specs.Turned.{position_cmp}
use Rattle.chains.specs.ArcPieces.{pieces_at}
use Rattle.arcs.specs.Arcs.{Arcs}
use Rattle.chains.specs.Index.{IsIndexOf}
use Rattle.chains.specs.OfArcs.{arc_pieces, ArePiecesUnder}
use Rattle.arcs.specs.Among.{among, Tells}
use Rattle.arcs.specs.Pieces.{used, ArePieces}
use Rattle.chains.specs.Pieces.{started_ring, cut_inside, line_pieces, parts_round, ring_pieces}
use Rattle.arcs.specs.Table.{is_loop, free_at, IsTableOf}
use Rattle.arcs.specs.declared.piece.Piece.{Piece}
use Rattle.chains.proofs.Cuts.{line_is_cut, ring_is_cut}
use Rattle.lines.specs.Positions.{position_total, position_same}
use Rattle.lines.proofs.Positions.{position_dec}
use Rattle.chains.proofs.ArcsAtStops.{loop_as_ring}
use Rattle.chains.proofs.Oriented.{used_parts}
use Rattle.chains.proofs.TableOfMap.{line_good, ring_good}
use Rattle.chains.proofs.TablesAsMap.{meant, free_loop, index_alike}

-- what is of a map is of one that is alike
module _ (a u : Geometry Pos) (alike : Alike a u) where
  free_alike : (b : Bool) (c : List Pos) → Tells b (Free (JunctionOf a) c) → Tells b (Free (JunctionOf u) c)
  free_alike b c t = record {
    yes = λ e v h j. t.yes e v h (alike.junctions_back v j);
    no = λ e f. t.no e (λ v h j. f v h (alike.junctions v j));
  }

  each_alike : (cs : List (List Pos)) → Each (IsChainOf position_cmp a) cs → Each (IsChainOf position_cmp u) cs
  each_alike [] k = tt
  each_alike (c ∷ cs) k = (chain_alike position_cmp position_total position_same position_dec a u alike c k.0, each_alike cs k.1)

  pieces_alike : (l : List Pos) (cs : List (List Pos)) → ArePiecesOf position_cmp a l cs → ArePiecesOf position_cmp u l cs
  pieces_alike [] cs p = p
  pieces_alike (x ∷ r) cs p = (each_alike cs p.0, p.1)

  ring_pieces_alike : (r : List Pos) (cs : List (List Pos)) → AreRingPiecesOf position_cmp a r cs → AreRingPiecesOf position_cmp u r cs
  ring_pieces_alike r cs p = (
    p.0,
    p.1,
    turned_alike position_cmp position_total position_same position_dec a u alike r p.0 p.1 p.2,
    pieces_alike (p.0 ∷ (p.1 ++ (p.0 ∷ []))) cs p.3,
  )

  are_pieces_alike : (ps : List Piece) → ArePieces a ps → ArePieces u ps
  are_pieces_alike ps k p h = record {
    arc = arc_alike position_cmp position_total position_same position_dec a u alike p.chain (k p h).arc;
    free = free_alike p.free p.chain (k p h).free;
  }

  pub table_alike : (t : Arcs) → IsTableOf a t → IsTableOf u t
  table_alike t k = record {
    arcs = arcs_same position_cmp position_total position_same position_dec a u alike t.arcs k.arcs;
    free = λ n c e. free_alike (free_at t n) c (k.free n c e);
    once = record {
      in_an_arc = λ x y s. k.once.in_an_arc x y (alike.segments_back x y s);
      one_arc = k.once.one_arc;
      one_place = k.once.one_place;
      no_other = λ x y c h b. alike.segments x y (k.once.no_other x y c h b);
    };
  }

  -- the arcs of g, where its open arcs are lines and its free loops rings of a
  module _ (g : Geometry Pos) (sg : IsSound g) (t : Arcs) (table : IsTableOf g t) (sa : IsSound a)
      (opens : (l : List Pos) → OpenArc g t.arcs l → IsLineOf a l) (loops : (r : List Pos) → LoopArc g t.arcs r → IsRingOf a r)
      (js : List Pos) (index : IsIndexOf js a) where
    pub pieces_under : (c : List Pos) → Has c t.arcs → ArePiecesUnder g u c (arc_pieces js t.loops c)
    pieces_under c h = go (is_loop t.loops c) refl
      where
        go : (b : Bool) → is_loop t.loops c ≡ b → ArePiecesUnder g u c (pieces_at (among js) b c)
        go true e =
            let f = free_loop g sg t table c h e in
            let r : List Pos = unclosed c in
            let cs = parts_round (among js) r (started_ring (among js) r) in
            subst (ArePiecesUnder g u c) (sym (loop_as_ring g sg t table js c h e)) (record {
              each = are_pieces_alike (ring_pieces js r) (ring_good a sa js index r (loops r f.1));
              along = inr (
                r,
                f.0,
                (meant g sg t table c h).yes e,
                ring_pieces_alike r (map used (ring_pieces js r))
                    (ring_is_cut a sa js index r (loops r f.1) (map used (ring_pieces js r)) (used_parts (not (list_any (among js) r)) cs)),
              );
            })
        go false e =
            let f = (meant g sg t table c h).no e in
            record {
              each = are_pieces_alike (line_pieces js c) (line_good a sa js index c (opens c (h, f)));
              along = inl (
                f,
                pieces_alike c (map used (line_pieces js c))
                    (line_is_cut a sa js index c (opens c (h, f)) (map used (line_pieces js c)) (used_parts false (cut_inside (among js) c))),
              );
            }

-- the arcs of a map under the junctions of one that has all of its lines and rings
module _ (g u : Geometry Pos) (sg : IsSound g) (su : IsSound u) (part : IsPartOf g u) (t : Arcs) (table : IsTableOf g t) where
  all : AreArcsOf position_cmp u (arcs_of position_cmp u)
  all = are_arcs position_cmp position_total position_same position_dec u su

  abbrev a : Geometry Pos
  a = both_of (arcs_as_map position_cmp g t.arcs) (arcs_as_map position_cmp u (arcs_of position_cmp u))

  as_map : AreArcsAsMap g u t.arcs (arcs_of position_cmp u) a
  as_map = are_arcs_as_map position_cmp position_total position_same position_dec g u sg su t.arcs (arcs_of position_cmp u) table.arcs all

  sound : IsSound a
  sound = arcs_sound position_cmp position_total position_same position_dec g u u sg su su (whole_union g u part) t.arcs (arcs_of position_cmp u) table.arcs all a as_map

  alike : Alike a u
  alike = arcs_alike position_cmp position_total position_same position_dec g u u sg su su (whole_union g u part) t.arcs (arcs_of position_cmp u) table.arcs all a as_map

  pub part_pieces : (js : List Pos) → IsIndexOf js u → (c : List Pos) → Has c t.arcs → ArePiecesUnder g u c (arc_pieces js t.loops c)
  part_pieces js i c h =
      pieces_under a u alike g sg t table sound as_map.open_left as_map.loop_left js
      (index_alike u a (alike_back position_cmp position_total position_same position_dec a u alike) js i) c h
