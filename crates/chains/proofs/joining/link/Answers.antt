use Rattle.std.proofs.Common.{sym, ◌∙◌}
use Rattle.chains.specs.Walk.{links_in}
use Rattle.chains.proofs.Noting.{recorded_step}
use Rattle.chains.proofs.joining.link.Goals as goal

pub returns : goal.returns
returns c = λ q.
    recorded_step c.args.stops.now q c.args.at c.args.to (links_in c.args.links.now) (links_in c.insert.new.self q) c.copied-old.result c.joined_to.result
    (sym c.if-is_stop.ensures) (c.in_ok-insert.ensures.updates.0 q) c.joined_to.ensures (c.copied-old.ensures ∙ c.get.ensures.value)
