use Rattle.std.proofs.Common.{◌+◌, ◌*◌, arith, rules, get_or, ap₂, sym, ◌∙◌}
use Rattle.std.proofs.lemmas.Int.Digits.{digits_more, digits_value_more}
use Rattle.reading.proofs.TokensLemmas.Numbers.{short, digit}
use Rattle.reading.proofs.tokens.number.few_digits.Goals as goal

pub overflow_mul-n : goal.overflow_mul-n
overflow_mul-n c =
    let less = short c.args.bytes.now c.loop-i.i 17 c.loop-i.invariant.digits (omega arith) in
    omega (arith, less, c.loop-i.invariant.value)

pub overflow_add-n : goal.overflow_add-n
overflow_add-n c =
    let less = short c.args.bytes.now c.loop-i.i 17 c.loop-i.invariant.digits (omega arith) in
    omega (arith, less, c.loop-i.invariant.value)

pub loop-i-preserved : goal.loop-i-preserved
loop-i-preserved c =
    let s = c.args.bytes.now in
    let i = c.loop-i.i in
    let d = digit (get_or s i 0) (search rules) (omega arith) in
    record {
      digits = digits_more 10 s i (omega arith) c.loop-i.invariant.digits d.0;
      value = ap₂ (λ a b. a * 10 + b) c.loop-i.invariant.value (sym d.1) ∙ sym (digits_value_more 10 s i (omega arith));
    }

pub returns-clause-small : goal.returns-clause-small
returns-clause-small c =
    let less = short c.args.bytes.now c.loop-i.i 18 c.loop-i.invariant.digits (omega arith) in
    omega (arith, less, c.loop-i.invariant.value)
