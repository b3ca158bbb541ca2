use Rattle.std.proofs.Common.{◌≡◌, ◌+◌, ◌-◌, ◌/◌, true, arith, refl}
use Rattle.lines.proofs.Dropping.{item_at}
use Rattle.compare.specs.Quality.Near.{beyond}
use Rattle.compare.proofs.QualityLemmas.Nearness.{beyond_none}
use Rattle.compare.proofs.quality.search.count_beyond.Goals as goal

pub loop-low-preserved-then-is_beyond : goal.loop-low-preserved-then-is_beyond
loop-low-preserved-then-is_beyond c =
    let b = c.is_beyond.ensures in
    let t = c.if-is_beyond.true in
    let i = c.index-behind-middle.is in
    let o : beyond c.args.steps c.args.one c.args.next c.index-behind-middle.result ≡ true = cc in
    record {
      low = omega (arith, c.loop-low-test.true);
      high = c.loop-low.invariant.high;
      none = λ a.
          beyond_none c.args.steps c.args.one c.args.next c.index-behind-middle.result c.args.behind.now (c.loop-low.low + (c.loop-low.high - c.loop-low.low) / 2)
          (c.loop-low.low + (c.loop-low.high - c.loop-low.low) / 2 + 1) refl a
          (item_at c.args.behind.now (c.loop-low.low + (c.loop-low.high - c.loop-low.low) / 2) c.index-behind-middle.result
          (omega (arith, c.loop-low-test.true, c.loop-low.invariant.high)) c.index-behind-middle.is) o;
    }
