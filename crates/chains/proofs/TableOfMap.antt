-- The table of all pieces is the arcs of the map, and the lists of used arcs stitch.
use Rattle.std.proofs.Common.{◌≡◌, ◌≤◌, Bool, true, false, cond, not, List, [], ◌∷◌, map, reverse, ◌⊎◌, inl, inr, refl, sym, ap, ◌∙◌, subst, Some, arith}
use Rattle.std.specs.Ordering.{is_lt, ordering_reverse}
use Rattle.std.specs.declared.cmp.Ordering.{Ordering}
use Rattle.std.specs.declared.cmp.Ordering.TheVariants.{Less, Equal, Greater}
use Rattle.std.specs.Cmp.Lexicographic.{slice_cmp, lists_total}
use Rattle.std.specs.List.{list_any, position_or_len}
use Rattle.theory.specs.Lists.{Has, Each}
use Rattle.theory.specs.Geometry.{Geometry, IsSound, IsLineOf, IsRingOf, SegmentOf, JunctionOf, AtMost, IsChainOf}
use Rattle.theory.specs.Chain.{Free}
use Rattle.theory.specs.Arcs.{IsArcOf, EitherWay, AreSortedOnce}
use Rattle.theory.specs.Stitching.{ArePiecesOf, HaveAllPieces}
use Rattle.theory.specs.ArcNumbers.{along, AreTaken, StitchTo}
use Rattle.theory.specs.Topology.{IsRingList}
use Rattle.theory.specs.TopologyFunction.{forward, lesser}
use Rattle.theory.proofs.ArcNumbers.{taken_line, taken_ring}
use Rattle.theory.proofs.ListsOfLists.{Each-Has, Has-map, map_has}
use Rattle.theory.proofs.ArcsOfMap.{forward_arc}
use Rattle.grid.specs.declared.pos.Pos.{Pos}
use Rattle.lines.specs.Turned.{position_cmp, list_cmp}
use Rattle.arcs.specs.Among.{among, Tells}
use Rattle.chains.specs.Index.{IsIndexOf}
use Rattle.chains.specs.Pieces.{begins_free, started_ring, cut_inside, line_pieces, parts_round, ring_pieces}
use Rattle.arcs.specs.Pieces.{chain_of, is_backwards_less, least_direction, piece_along, IsPieceOf, ArePieces}
use Rattle.arcs.specs.Table.{same_list, located, ArePiecesOfMap}
use Rattle.arcs.specs.declared.piece.Piece.{Piece}
use Rattle.lines.specs.Positions.{position_total, position_same}
use Rattle.lines.proofs.Positions.{position_dec}
use Rattle.arcs.proofs.Places.{along_found, found_index}
use Rattle.chains.proofs.LoopStops.{list_begins, ring_begins}
use Rattle.chains.proofs.Oriented.{marked, used_along}
use Rattle.chains.proofs.Cuts.{end_stops, line_is_cut, ring_is_cut, stops, passes}

-- both words for the least direction
least_forward : (c : List Pos) → least_direction c ≡ forward position_cmp c
least_forward c =
    ap (λ w. cond (is_lt w) (reverse c) c) ((lists_total position_total).antisymm (reverse c) c) ∙ go (slice_cmp position_cmp c (reverse c))
  where
    go : (o : Ordering) → cond (is_lt (ordering_reverse o)) (reverse c) c ≡ lesser o c (reverse c)
    go Less = refl
    go Equal = refl
    go Greater = refl

either_least : (ps : List (List Pos)) (c : List Pos) → Has (least_direction c) ps → EitherWay ps c
either_least ps c = go (is_backwards_less c)
  where
    go : (b : Bool) → Has (cond b (reverse c) c) ps → EitherWay ps c
    go true h = inr h
    go false h = inl h

each_of : (P : List Pos → Type 0) (cs : List (List Pos)) → ((c : List Pos) → Has c cs → P c) → Each P cs
each_of P [] h = tt
each_of P (c ∷ cs) h = (h c (inl refl), each_of P cs (λ d k. h d (inr k)))

pieces_chains : (g : Geometry Pos) (l : List Pos) (cs : List (List Pos)) → ArePiecesOf position_cmp g l cs → Each (IsChainOf position_cmp g) cs
pieces_chains g [] cs p = absurd p
pieces_chains g (x ∷ r) cs p = p.0

module _ (g : Geometry Pos) (sound : IsSound g) (keys : List Pos) (index : IsIndexOf keys g) where
  arc : (d : List Pos) → IsChainOf position_cmp g d → IsArcOf position_cmp g (least_direction d)
  arc d k = subst (IsArcOf position_cmp g) (sym (least_forward d)) (forward_arc position_cmp position_total position_same position_dec g sound d k)

  piece : (free : Bool) (d : List Pos) → IsChainOf position_cmp g d → begins_free (among keys) d ≡ free → IsPieceOf g (piece_along free d)
  piece free d k e = record {
    arc = arc d k;
    free = subst (λ b. Tells b (Free (JunctionOf g) (least_direction d))) e
        (marked (SegmentOf g) (JunctionOf g) (AtMost position_cmp) (among keys) (stops g sound keys index) (passes g sound keys index) d k);
  }

  chains_pieces : (free : Bool) (cs : List (List Pos)) → Each (IsChainOf position_cmp g) cs → ((c : List Pos) → Has c cs → begins_free (among keys) c ≡ free) →
      ArePieces g (map (piece_along free) cs)
  chains_pieces free cs e f p h =
      let t = map_has (piece_along free) cs p h in
      subst (IsPieceOf g) (sym t.2) (piece free t.0 (Each-Has (IsChainOf position_cmp g) cs e t.0 t.1) (f t.0 t.1))

  -- each piece of a line or a ring is one of the map
  pub line_good : (l : List Pos) → IsLineOf g l → ArePieces g (line_pieces keys l)
  line_good [] h = absurd (let k : 2 ≤ 0 = (sound.lines [] h).long in omega arith)
  line_good (x ∷ r) h =
      chains_pieces false (cut_inside (among keys) (x ∷ r))
      (pieces_chains g (x ∷ r) (cut_inside (among keys) (x ∷ r)) (line_is_cut g sound keys index (x ∷ r) h (cut_inside (among keys) (x ∷ r)) refl))
      (list_begins (among keys) x r (end_stops g sound keys index (x ∷ r) h x (inl refl)))

  abbrev ring_parts : List Pos → List (List Pos)
  ring_parts r = parts_round (among keys) r (started_ring (among keys) r)

  abbrev ring_free : List Pos → Bool
  ring_free r = not (list_any (among keys) r)

  pub ring_good : (r : List Pos) → IsRingOf g r → ArePieces g (ring_pieces keys r)
  ring_good [] h = absurd (let k : 3 ≤ 0 = (sound.rings [] h).long in omega arith)
  ring_good (x ∷ r) h =
      chains_pieces (ring_free (x ∷ r)) (ring_parts (x ∷ r)) (ring_is_cut g sound keys index (x ∷ r) h (ring_parts (x ∷ r)) refl).3.0
      (ring_begins (among keys) x r)

  module _ (ps : List Piece)
      (of_lines : (l : List Pos) → IsLineOf g l → (p : Piece) → Has p (line_pieces keys l) → Has p ps)
      (of_rings : (r : List Pos) → IsRingOf g r → (p : Piece) → Has p (ring_pieces keys r) → Has p ps) where
    of_line : (l c : List Pos) → IsLineOf g l → Has c (cut_inside (among keys) l) → Has (least_direction c) (map chain_of ps)
    of_line l c h k = Has-map chain_of ps (piece_along false c) (of_lines l h (piece_along false c) (Has-map (piece_along false) (cut_inside (among keys) l) c k))

    of_ring : (r c : List Pos) → IsRingOf g r → Has c (ring_parts r) → Has (least_direction c) (map chain_of ps)
    of_ring r c h k = Has-map chain_of ps (piece_along (ring_free r) c) (of_rings r h (piece_along (ring_free r) c) (Has-map (piece_along (ring_free r)) (ring_parts r) c k))

    pub have_all : HaveAllPieces position_cmp g (map chain_of ps)
    have_all = record {
      of_lines = λ l h. (
        cut_inside (among keys) l,
        line_is_cut g sound keys index l h (cut_inside (among keys) l) refl,
        each_of (EitherWay (map chain_of ps)) (cut_inside (among keys) l) (λ c k. either_least (map chain_of ps) c (of_line l c h k)),
      );
      of_rings = λ r h. (
        ring_parts r,
        ring_is_cut g sound keys index r h (ring_parts r) refl,
        each_of (EitherWay (map chain_of ps)) (ring_parts r) (λ c k. either_least (map chain_of ps) c (of_ring r c h k)),
      );
    }

    -- the pieces of all lines and rings, and no other
    pub are_pieces : ((p : Piece) → Has p ps →
        ((l : List Pos) × IsLineOf g l × Has p (line_pieces keys l)) ⊎ ((r : List Pos) × IsRingOf g r × Has p (ring_pieces keys r))) → ArePiecesOfMap g ps
    are_pieces from = record {
      each = λ p h. elim (from p h) [ inl t ↦ line_good t.0 t.1 p t.2 | inr t ↦ ring_good t.0 t.1 p t.2 ];
      all = have_all;
    }

    -- a chain whose arc is in the table is along its used arc
    located_along : (arcs : List (List Pos)) (free : Bool) (c : List Pos) → Has (least_direction c) arcs → along arcs (located arcs (piece_along free c)) ≡ Some c
    located_along arcs free c h =
        along_found arcs (piece_along free c) (least_direction c) (position_or_len (same_list (least_direction c)) arcs) (is_backwards_less c)
        (found_index (least_direction c) arcs h) refl refl ∙ ap Some (used_along free c)

    all_taken : (arcs : List (List Pos)) (free : Bool) (cs : List (List Pos)) → ((c : List Pos) → Has c cs → Has (least_direction c) arcs) →
        AreTaken arcs (map (located arcs) (map (piece_along free) cs)) cs
    all_taken arcs free [] h = tt
    all_taken arcs free (c ∷ cs) h = (located_along arcs free c (h c (inl refl)), all_taken arcs free cs (λ d k. h d (inr k)))

    -- the used arcs of a line stitch to it
    pub line_list : (arcs : List (List Pos)) → AreSortedOnce list_cmp (map chain_of ps) arcs → (l : List Pos) → IsLineOf g l →
        StitchTo arcs (map (located arcs) (line_pieces keys l)) l
    line_list arcs s l h =
        taken_line position_cmp g arcs (map (located arcs) (line_pieces keys l)) (cut_inside (among keys) l) l (sound.lines l h).long
        (line_is_cut g sound keys index l h (cut_inside (among keys) l) refl)
        (all_taken arcs false (cut_inside (among keys) l) (λ c k. s.there (least_direction c) (of_line l c h k)))

    -- the used arcs of a ring stitch to it, read from its seam
    pub ring_list : (arcs : List (List Pos)) → AreSortedOnce list_cmp (map chain_of ps) arcs → (r : List Pos) → IsRingOf g r →
        IsRingList position_cmp (JunctionOf g) arcs r (map (located arcs) (ring_pieces keys r))
    ring_list arcs s r h =
        taken_ring position_cmp g arcs (map (located arcs) (ring_pieces keys r)) (ring_parts r) r
        (ring_is_cut g sound keys index r h (ring_parts r) refl)
        (all_taken arcs (ring_free r) (ring_parts r) (λ c k. s.there (least_direction c) (of_ring r c h k)))
