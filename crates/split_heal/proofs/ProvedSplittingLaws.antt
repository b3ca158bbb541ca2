-- The laws of arcs that are cut again, from those of theory.
use Rattle.std.proofs.Common.{◌≡◌, ℕ, List, Some, slice_get, inl, inr, ap, ◌∙◌}
use Rattle.theory.specs.ArcNumbers.{ArcRef, Uses}
use Rattle.theory.specs.Geometry.{Geometry, IsSound, JunctionOf, SegmentOf}
use Rattle.theory.specs.Laws.{IsOrder}
use Rattle.theory.specs.Lists.{Beside}
use Rattle.theory.specs.Refinement.{ArePiecesOfArc, IsPartOf, IsRefinementOf, pieces_at}
use Rattle.theory.proofs.ListsOfLists.{get_has}
use Rattle.theory.proofs.ProvedLaws as law
use Rattle.theory.proofs.RefinementLaws.{pieces_unique}
use Rattle.grid.specs.declared.pos.Pos.{Pos}
use Rattle.lines.specs.Turned.{position_cmp}
use Rattle.arcs.specs.Arcs.{Arcs}
use Rattle.lines.specs.Positions.{position_total, position_same}
use Rattle.lines.proofs.Positions.{position_dec}
use Rattle.chains.proofs.TablesAsMap.{union_sound}
use Rattle.chains.proofs.Paired.{paired}
use Rattle.split_heal.specs.SplittingLaws.{ArcsOfOneArc, HaveOnePieces, IsOfOneArc, JunctionsOfBoth, NoOtherArcs, OnePieces}

order : IsOrder position_cmp
order = record { total = position_total; same = position_same }

pub junctions_of_both : JunctionsOfBoth
junctions_of_both m n u union v (inl j) = law.junctions_only_grow m u union.left v j
junctions_of_both m n u union v (inr j) = law.junctions_only_grow n u union.right v j

module _ (g u : Geometry Pos) (sg : IsSound g) (su : IsSound u) (part : IsPartOf g u) (old : Arcs) (table : List (List Pos)) (pieces : List (List ArcRef))
    (ref : IsRefinementOf position_cmp g u old.arcs table pieces) where
  one_list : HaveOnePieces g u old table pieces
  one_list i c used e are =
      let t = paired (ArePiecesOfArc position_cmp (JunctionOf g) (JunctionOf u) table) old.arcs pieces ref.cut i c e in
      t.1 ∙ ap Some (pieces_unique position_cmp position_total position_same position_dec (JunctionOf g) u su table ref.new c t.0 used t.2 are)

  of_one : (k : ℕ) (d : List Pos) (a b : Pos) → slice_get table k ≡ Some d → Beside a b d → SegmentOf g a b → IsOfOneArc g old pieces k d
  of_one k d a b e s h =
      let laws = law.pieces_in_place position_cmp g u order sg su part old.arcs table pieces ref in
      let t = laws.home k d a b e s h in
      let i : ℕ = t.0 in
      let c : List Pos = t.1 in
      let there : slice_get old.arcs i ≡ Some c = t.2 in
      let uses : Uses k (pieces_at pieces i) = t.3 in
      let within : (v w : Pos) → Beside v w d → Beside v w c = t.4 in
      record {
        number = i;
        arc = c;
        there = there;
        piece = uses;
        once = laws.one_place i;
        alone = λ j q. laws.one_home k j i q uses;
        within = within;
        whole = λ v w q. (law.each_segment_once position_cmp g order sg old.arcs ref.old).no_other v w c (get_has old.arcs i c there) (within v w q);
      }

pub one_pieces : OnePieces
one_pieces m n u sm sn union left right r is =
    let su = union_sound m n u sm sn union in
    (one_list m u sm su union.left left r.arcs.arcs r.left is.of_left, one_list n u sn su union.right right r.arcs.arcs r.right is.of_right)

pub arcs_of_one_arc : ArcsOfOneArc
arcs_of_one_arc m n u sm sn union left right r is k d a b e s =
    let su = union_sound m n u sm sn union in
    (of_one m u sm su union.left left r.arcs.arcs r.left is.of_left k d a b e s, of_one n u sn su union.right right r.arcs.arcs r.right is.of_right k d a b e s)

pub no_other_arcs : NoOtherArcs
no_other_arcs m n u sm sn union left right r is =
    law.arcs_of_a_union_are_pieces position_cmp m n u order sm sn (union_sound m n u sm sn union) union left.arcs right.arcs r.arcs.arcs r.left r.right is.of_left is.of_right
