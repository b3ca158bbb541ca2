use Rattle.lines.proofs.Codes.{closes_means}
use Rattle.validate.proofs.noding.is_closed.Goals as goal

pub returns : goal.returns
returns c = closes_means c.args.arc.now c.first.result c.last.result c.eq.result c.first.ensures.value c.last.ensures.value c.eq.ensures
