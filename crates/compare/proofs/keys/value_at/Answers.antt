use Rattle.lines.proofs.Dropping.{item_at}
use Rattle.compare.proofs.keys.value_at.Goals as goal

pub returns : goal.returns
returns c = item_at c.args.keys.now c.args.number c.index-keys-number.result c.requires c.index-keys-number.is
