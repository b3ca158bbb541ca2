use Rattle.std.proofs.Common.{◌≡◌, ◌+◌, ◌≤◌, All, List, ℕ, ap, arith, get_or, length, set, subst, sym, take, ◌∙◌}
use Rattle.std.proofs.lemmas.List.{get_or_default, length-set, length-take, set_past, take_all}
use Rattle.std.specs.Global.{Vec}
use Rattle.fault_reports.specs.LineColumns.{IsPlacedIn, offset_of, place_behind}
use Rattle.fault_reports.specs.declared.line_columns.LineColumn.{LineColumn}
use Rattle.fault_reports.proofs.PlacesLemmas.{Walks, goes_on, placed_more, stays}
use Rattle.fault_reports.proofs.line_columns.places_in_order.Goals as goal
use Rattle.fault_reports.proofs.line_columns.places_in_order.Goals.{in-Some, in-Some-get_mut, in_default, in_default-get_mut}

pub loop-offset-preserved : goal.loop-offset-preserved
loop-offset-preserved c =
    let text : List ℕ = c.args.text.now in
    let entries : List (ℕ × ℕ) = c.args.sorted.now in
    let i : ℕ = c.loop-offset.offset-index in
    let e : ℕ × ℕ = get_or entries i (0, 0) in
    let from : ℕ = c.loop-offset.passed in
    let walks : Walks text from c.match-get.passed e.0 c.match-get.here = elim c.match-get.branch [
      | in-Some w ↦ goes_on text w.in-Some.between.now from c.match-get.passed e.0 c.match-get.here w.in-Some.ensures.lookup.0 w.passed-is
          (w.here-is ∙ w.place_after-here.ensures (take from text) (omega (arith, length-take from text, w.in-Some.ensures.lookup.0)) c.loop-offset.invariant.here)
      | in_default w ↦ stays text from c.match-get.passed e.0 c.match-get.here w.in_default.ensures.lookup.0 c.loop-offset.invariant.within w.passed-is (w.here-is ∙ c.loop-offset.invariant.here)
    ] in
    let after : c.match-get_mut.places.items ≡ set c.loop-offset.places.items e.1 c.match-get.here = elim c.match-get_mut.branch [
      | in-Some-get_mut w ↦ ap (λ (v : Vec LineColumn). v.items) w.places-is
      | in_default-get_mut w ↦ ap (λ (v : Vec LineColumn). v.items) w.places-is ∙ sym (set_past c.loop-offset.places.items e.1 c.match-get.here w.in_default-get_mut.ensures.item.3)
    ] in
    record {
      len = c.match-get_mut.places.ok.0 ∙ ap length after ∙ length-set c.loop-offset.places.items e.1 c.match-get.here ∙ sym c.loop-offset.places.ok.0 ∙ c.loop-offset.invariant.len;
      within = walks.within;
      here = walks.is;
      passed = λ ascend d in'.
          let here : from ≤ e.0 = c.loop-offset.invariant.passed ascend (0, 0) c.loop-offset-test.true in
          let to : c.match-get.passed ≤ e.0 = walks.not_past here in
          omega (arith, ascend i (i + 1) d (omega arith) in', ap offset_of (get_or_default entries i (0, 0) d c.loop-offset-test.true));
      places = λ offsets numbered ascend. placed_more text offsets c.loop-offset.places.items c.match-get_mut.places.items c.match-get.here entries i (0, 0) numbered c.loop-offset-test.true
          (λ within. walks.is ∙ ap (λ n. place_behind (take n text)) (walks.reaches (c.loop-offset.invariant.passed ascend (0, 0) c.loop-offset-test.true) within)) after (c.loop-offset.invariant.places offsets numbered ascend);
    }

pub returns-clause-places : goal.returns-clause-places
returns-clause-places c = λ offsets numbered ascend.
    subst (λ es. All (IsPlacedIn c.args.text.now c.loop-offset.places.items) es) (take_all c.loop-offset.offset-index c.args.sorted.now (omega (arith, c.loop-offset-test.false))) (c.loop-offset.invariant.places offsets numbered ascend)
