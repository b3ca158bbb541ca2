use Rattle.std.proofs.Common.{ap, length, sym, subst, ◌∙◌}
use Rattle.compare.specs.Keyed.{AreKeys}
use Rattle.compare.proofs.KeyTexts.{as_many}
use Rattle.compare.proofs.comparison.difference_by_values.Goals as goal

pub difference_of-requires : goal.difference_of-requires
difference_of-requires c = record {
  old = ap length c.as_slice.ensures.value ∙ as_many c.args.property.now c.args.old.now _ c.in_ok-old_keys.ensures;
  new = ap length c.as_slice-2.ensures.value ∙ as_many c.args.property.now c.args.new.now _ c.in_ok-new_keys.ensures;
}

pub returns : goal.returns
returns c = (
  c.as_slice.result.now,
  c.as_slice-2.result.now,
  subst (AreKeys c.args.property.now c.args.old.now) (sym c.as_slice.ensures.value) c.in_ok-old_keys.ensures,
  subst (AreKeys c.args.property.now c.args.new.now) (sym c.as_slice-2.ensures.value) c.in_ok-new_keys.ensures,
  c.in_ok-difference_of.ensures,
)
