use Rattle.std.proofs.lemmas.Iterator.{YieldsList-from_slice}
use Rattle.std.proofs.lemmas.Iterator.Consumers.{map_from_collect}
use Rattle.merging.proofs.merge.borrow_texts.Goals as goal

pub returns : goal.returns
returns g c = map_from_collect c.collect.result c.collect.ensures.ran (YieldsList-from_slice c.args.texts.now c.iter.ensures.rest)
