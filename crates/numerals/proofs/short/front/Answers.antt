use Rattle.std.proofs.Common.{rules, arith}
use Rattle.numerals.proofs.Shortness.{digit, front_more, front_none}
use Rattle.numerals.proofs.short.front.Goals as goal

pub loop-byte-init : goal.loop-byte-init
loop-byte-init c = front_none c.args.value c.args.text.now

pub loop-byte-preserved : goal.loop-byte-preserved
loop-byte-preserved c =
    let d = digit c.in-Some.byte.now (search rules) (omega arith) in
    front_more c.args.value c.args.text.now c.loop-byte.number _ c.loop-byte.left.now c.in-Some.behind.now c.in-Some.byte.now c.in-Some.ensures.cases.0 d.0 (omega (arith, d.1))
    c.loop-byte.invariant
