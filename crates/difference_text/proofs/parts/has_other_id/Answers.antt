use Rattle.difference_text.proofs.DifferenceWriting.{other_ids}
use Rattle.difference_text.proofs.parts.has_other_id.Goals as goal

pub returns : goal.returns
returns c = other_ids c.args.old.now c.args.new.now c.eq.result c.eq.ensures
