use Rattle.std.proofs.Common.{◌≡◌, false, sym, subst}
use Rattle.grid.specs.declared.pos.Pos.{Pos}
use Rattle.lines.specs.Pairs.{position_eq}
use Rattle.lines.proofs.Pairs.{InOrder, pair_ordered, EndsAre, pair_between}
use Rattle.lines.proofs.Positions.{true_position, true_false}
use Rattle.chains.proofs.segment.Segment.new.Goals as goal

differ : (a b : Pos) → position_eq a b ≡ false → ¬ (a ≡ b)
differ a b e f = true_false (position_eq a b) (true_position a b f) e

pub invariant_of-result : goal.invariant_of-result
invariant_of-result c = record {
  ordered = subst InOrder (sym c.of.ensures) (pair_ordered c.args.a c.args.b (differ c.args.a c.args.b (sym c.if-eq.ensures)));
}

pub returns-clause-between : goal.returns-clause-between
returns-clause-between c = subst (EndsAre c.args.a c.args.b) (sym c.of.ensures) (pair_between c.args.a c.args.b)
