use Rattle.std.proofs.Common.{sym, ◌∙◌}
use Rattle.lines.proofs.Pairs.{pair_at}
use Rattle.lines.proofs.Positions.{position_true, true_position, true_false}
use Rattle.lines.specs.Pairs.{position_eq}
use Rattle.chains.proofs.RecordedIndexes.{as_they_are, second_means, turned_two}
use Rattle.chains.proofs.visits.are_same_two.Goals as goal

pub returns-then-eq : goal.returns-then-eq
returns-then-eq c =
    let first = position_true c.args.a c.args.d (sym c.eq.ensures ∙ c.if-eq.true) in (
      λ t. turned_two c.args.a c.args.b c.args.c c.args.d first (position_true c.args.b c.args.c (sym c.eq-then-eq.ensures ∙ t)),
      λ h. c.eq-then-eq.ensures ∙ true_position c.args.b c.args.c (second_means c.args.a c.args.b c.args.c c.args.d first h),
    )

pub returns-then-eq-2 : goal.returns-then-eq-2
returns-then-eq-2 c = (
  λ t. pair_at c.args.a c.args.b c.args.c c.args.d (position_true c.args.a c.args.c (sym c.eq-2.ensures ∙ c.if-eq-2.true)) (position_true c.args.b c.args.d (sym c.eq-then-eq-2.ensures ∙ t)),
  λ h. c.eq-then-eq-2.ensures ∙ true_position c.args.b c.args.d (as_they_are c.args.a c.args.b c.args.c c.args.d (sym c.eq.ensures ∙ c.if-eq.false) h).1,
)

pub returns-else-eq-2 : goal.returns-else-eq-2
returns-else-eq-2 c = (
  λ t. absurd cc,
  λ h. absurd (true_false (position_eq c.args.a c.args.c)
      (true_position c.args.a c.args.c (as_they_are c.args.a c.args.b c.args.c c.args.d (sym c.eq.ensures ∙ c.if-eq.false) h).0) (sym c.eq-2.ensures ∙ c.if-eq-2.false)),
)
