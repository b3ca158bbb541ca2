use Rattle.difference_text.proofs.DifferenceWriting.{has_objects_is}
use Rattle.difference_text.proofs.object.has_objects.Goals as goal

pub returns : goal.returns
returns c =
    has_objects_is c.args.before c.args.changes.now c.as_slice.ensures.value c.as_slice-2.ensures.value c.as_slice-3.ensures.value c.has_some-has_olds.ensures c.has_some-has_news.ensures
    c.has_some.ensures
