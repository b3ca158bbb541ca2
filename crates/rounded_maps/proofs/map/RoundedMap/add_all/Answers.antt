use Rattle.std.proofs.Common.{◌≡◌, ◌+◌, ◌∙◌, [], ap, arith, length, sym}
use Rattle.rounded_maps.specs.Fixed.{AreFixed, reals_from, tally_from}
use Rattle.rounded_maps.proofs.Ends.{at_end, nothing_left}
use Rattle.rounded_maps.proofs.map.RoundedMap.add_all.Goals as goal

pub returns : goal.returns
returns c =
    let rules = c.args.rules.now in
    let numbers = c.args.numbers in
    let map = c.loop-feature.self in
    let left = c.loop-feature.feature-iterator.rest in
    let ok = left.ok in
    let len = c.in-None.ensures.steps.0 in
    let none : left.items ≡ [] = nothing_left left.items (omega (arith, ok, len)) in
    record {
      more = c.loop-feature.invariant.done;
      features = c.loop-feature.invariant.are;
      fixed = at_end (AreFixed rules numbers (length map.features.items + 1)) (AreFixed rules numbers (length c.args.self.now.features.items + 1) c.args.features.items)
          c.loop-feature.invariant.done left.items none tt c.loop-feature.invariant.features;
      tally = ap (tally_from map.tally) (sym none) ∙ c.loop-feature.invariant.tally;
      reals = ap (reals_from map.reals) (sym none) ∙ c.loop-feature.invariant.reals;
    }
