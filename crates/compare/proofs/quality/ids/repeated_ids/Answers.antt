use Rattle.std.proofs.Common.{get_or, ◌∙◌}
use Rattle.compare.specs.Quality.Ids.{ids_in, occurs_again}
use Rattle.compare.proofs.QualityLemmas.Counted.{again_is, numbers_skip, numbers_take}
use Rattle.compare.proofs.quality.ids.repeated_ids.Goals as goal

pub loop-number-preserved-then-not-is_repeated : goal.loop-number-preserved-then-not-is_repeated
loop-number-preserved-then-not-is_repeated c =
    numbers_skip (occurs_again (ids_in c.args.geometries.now)) c.args.geometries.now c.loop-number.number c.index-geometries-number.result c.loop-number.numbers.items _
    c.loop-number-test.true c.index-geometries-number.is
    (again_is c.args.geometries.now c.in_ok-counts.counts (get_or c.args.geometries.now c.loop-number.number c.index-geometries-number.result).id c.is_repeated.result
    (c.in_ok-counts.ensures (get_or c.args.geometries.now c.loop-number.number c.index-geometries-number.result).id) c.is_repeated.ensures ∙ c.if-not-is_repeated.true) c.loop-number.invariant

pub loop-number-preserved : goal.loop-number-preserved
loop-number-preserved c =
    numbers_take (occurs_again (ids_in c.args.geometries.now)) c.args.geometries.now c.loop-number.number c.index-geometries-number.result c.loop-number.numbers.items c.push.new.self.items _
    c.loop-number-test.true c.index-geometries-number.is
    (again_is c.args.geometries.now c.in_ok-counts.counts (get_or c.args.geometries.now c.loop-number.number c.index-geometries-number.result).id c.is_repeated.result
    (c.in_ok-counts.ensures (get_or c.args.geometries.now c.loop-number.number c.index-geometries-number.result).id) c.is_repeated.ensures ∙ c.if-not-is_repeated.false) c.in_ok-push.ensures.items c.loop-number.invariant
