use Rattle.std.proofs.Common.{◌&&◌, not, refl, sym, ap, ◌∙◌}
use Rattle.lines.proofs.Codes.{closes_means}
use Rattle.fixing.specs.Left.{is_open}
use Rattle.fixing.proofs.closing.closes.Goals as goal

pub returns-then-rules : goal.returns-then-rules
returns-then-rules c =
    c.ne.ensures
    ∙ ap not (closes_means c.args.ring.now c.first.result c.last.result _ c.first.ensures.value c.last.ensures.value refl)
    ∙ ap (λ b. b && is_open c.args.ring.now) (sym c.if-rules.true)
