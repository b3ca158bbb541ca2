use Rattle.std.proofs.Common.{sym, ◌∙◌}
use Rattle.compare.specs.Quality.Ids.{is_missing}
use Rattle.compare.proofs.QualityLemmas.Counted.{numbers_skip, numbers_take}
use Rattle.compare.proofs.quality.ids.without_id.Goals as goal

pub loop-number-preserved-then-not-is_none : goal.loop-number-preserved-then-not-is_none
loop-number-preserved-then-not-is_none c =
    numbers_skip is_missing c.args.geometries.now c.loop-number.number c.index-geometries-number.result c.loop-number.numbers.items _ c.loop-number-test.true
    c.index-geometries-number.is (sym c.is_none.ensures ∙ c.if-not-is_none.true) c.loop-number.invariant

pub loop-number-preserved : goal.loop-number-preserved
loop-number-preserved c =
    numbers_take is_missing c.args.geometries.now c.loop-number.number c.index-geometries-number.result c.loop-number.numbers.items c.push.new.self.items _ c.loop-number-test.true
    c.index-geometries-number.is (sym c.is_none.ensures ∙ c.if-not-is_none.false) c.in_ok-push.ensures.items c.loop-number.invariant
