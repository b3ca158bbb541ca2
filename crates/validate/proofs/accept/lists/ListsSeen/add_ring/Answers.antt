use Rattle.std.proofs.Common.{refl}
use Rattle.validate.proofs.AcceptLemmas.Adding.{ring_added}
use Rattle.validate.proofs.accept.lists.ListsSeen.add_ring.Goals as goal

pub returns : goal.returns
returns c = ring_added c.args.table.now c.args.refs.now c.is_valid_ring.result c.args.self.now _ c.is_valid_ring.ensures.stands c.is_valid_ring.ensures.used refl
