use Rattle.std.proofs.Common.{arith, ℕ, List}
use Rattle.fault_reports.proofs.PlacesLemmas.{IsNumbering, all_places}
use Rattle.fault_reports.proofs.line_columns.line_columns.Goals as goal

pub returns-clause-places : goal.returns-clause-places
returns-clause-places c =
    let entries : List (ℕ × ℕ) = c.loop-number.sorted.items in
    let numbering : IsNumbering c.args.offsets.now entries = record {
      len = omega (arith, c.loop-number.sorted.ok.0, c.loop-number-test.false);
      each = λ k in'. c.loop-number.invariant.each k (omega (arith, c.loop-number.sorted.ok.0));
    } in
    all_places c.args.text.now c.args.offsets.now entries c.sort_unstable.new.self.items c.as_slice.result.now c.places_in_order.result numbering c.sort_unstable.ensures.permutation c.sort_unstable.ensures.sorted
    c.as_slice.ensures.value c.places_in_order.ensures.len c.places_in_order.ensures.places
