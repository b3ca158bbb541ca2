use Rattle.std.proofs.Common.{◌≡◌, ◌++◌, ◌∙◌, ap, inl, inr, length, refl, subst, sym}
use Rattle.theory.specs.Lists.{Has}
use Rattle.arcs.specs.Arcs.{Arcs}
use Rattle.arcs.specs.Extents.{within}
use Rattle.arcs.specs.Holding.{HoldAll}
use Rattle.chains.specs.ManyTables.{UnmarkedStayWhole}
use Rattle.split_heal.specs.Cutting.{IsRecutOf}
use Rattle.split_heal.specs.SplitParts.{RecutParts}
use Rattle.split_heal.proofs.Held.{arcs_held}
use Rattle.split_heal.proofs.ManyRecut.{all_recut}
use Rattle.split_heal.proofs.Parted.{table_length}
use Rattle.split_heal.proofs.TwoTables.{both, index_of_both, recut_of_both, tables_of_both, union_of_both, unmarked_of_both}
use Rattle.split_heal.proofs.split.recut_owned.Goals as goal

pub cut_all-requires : goal.cut_all-requires
cut_all-requires c = λ p h.
    let cuts = c.in_ok-cuts.cuts in
    let held : (t : Arcs) → Has t (both c.args.left c.args.right) → HoldAll (within cuts.extent) t.arcs = λ t k. elim k [
      | inl e ↦ subst (λ (w : Arcs). HoldAll (within cuts.extent) w.arcs) (sym e) c.in_ok-cuts.ensures.left_extent
      | inr (inl e) ↦ subst (λ (w : Arcs). HoldAll (within cuts.extent) w.arcs) (sym e) c.in_ok-cuts.ensures.right_extent
      | inr (inr o) ↦ absurd o
    ] in
    arcs_held (within cuts.extent) (both c.args.left c.args.right) held p (subst (Has p) c.in_ok-arcs.ensures.arcs h)

pub returns : goal.returns
returns c =
    let cuts = c.in_ok-cuts.cuts in
    let over = c.in_ok-cuts.ensures in
    let s = c.args.left in
    let t = c.args.right in
    let js = cuts.index in
    let arcs = c.in_ok-arcs.arcs.items in
    let arcs_are = c.in_ok-arcs.ensures.arcs in
    let begins = c.in_ok-arcs.begins.items in
    let begins_is = c.in_ok-arcs.ensures.begins in
    let marks = c.deref-2.result.now in
    let marks_are : marks ≡ cuts.left.items ++ cuts.right.items =
    c.deref-2.ensures.value ∙ c.in_ok-extend_from_slice.ensures.items ∙ ap (λ w. cuts.left.items ++ w) c.deref.ensures.value in
    let r = c.in_ok-both.both in
    let made = c.in_ok-both.ensures in
    record {
      refined = λ m n u sm sn ms nt union.
          let stay : UnmarkedStayWhole js arcs marks =
          subst (λ w. UnmarkedStayWhole js w marks) (sym arcs_are)
          (subst (UnmarkedStayWhole js _) (sym marks_are)
          (unmarked_of_both js s t cuts.left.items cuts.right.items over.left_marks (over.left m n sm sn ms nt) (over.right m n sm sn ms nt))) in
          subst (IsRecutOf m n u s t) (sym c.of_both.ensures)
          (recut_of_both m n u s t r
          (all_recut (both m n) (both s t) (tables_of_both m n u s t sm sn ms nt) u (union_of_both m n u union) js (index_of_both js s t (over.arcs m n sm sn ms nt)) arcs arcs_are
          marks stay begins begins_is r made.arcs made.of_map made.lists));
      left = ap (λ (w : RecutParts). length w.left) c.of_both.ensures ∙ table_length js (both s t) arcs arcs_are marks r begins begins_is made.lists 0 s refl;
      right = ap (λ (w : RecutParts). length w.right) c.of_both.ensures ∙ table_length js (both s t) arcs arcs_are marks r begins begins_is made.lists 1 t refl;
    }
