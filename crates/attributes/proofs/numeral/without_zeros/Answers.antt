use Rattle.std.proofs.Common.{rules, arith, sym, ◌∙◌}
use Rattle.attributes.proofs.Cut.{cut_zero, cut_other}
use Rattle.attributes.proofs.numeral.without_zeros.Goals as goal

pub loop-kept-preserved : goal.loop-kept-preserved
loop-kept-preserved c = record {
  within = omega (arith, c.loop-kept.invariant.within);
  same = sym (cut_zero c.args.bytes.now c.loop-kept.kept (search rules) (search rules)) ∙ c.loop-kept.invariant.same;
}

pub returns-else-bytes-kept-eq48-clause-value : goal.returns-else-bytes-kept-eq48-clause-value
returns-else-bytes-kept-eq48-clause-value c =
    sym (cut_other c.args.bytes.now c.loop-kept.kept (λ _. search rules)) ∙ c.loop-kept.invariant.same

pub returns-after-loop-kept-clause-value : goal.returns-after-loop-kept-clause-value
returns-after-loop-kept-clause-value c =
    sym (cut_other c.args.bytes.now c.loop-kept.kept (λ some _. absurd (omega (arith, some, c.loop-kept-test.false)))) ∙ c.loop-kept.invariant.same
