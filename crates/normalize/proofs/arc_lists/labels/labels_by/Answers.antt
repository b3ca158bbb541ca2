use Rattle.std.proofs.Common.{◌≡◌, sym, subst, true}
use Rattle.normalize.specs.ArcLists.Labels.{all_agree}
use Rattle.normalize.proofs.ArcListsLemmas.Making.{no_labels_agree}
use Rattle.normalize.proofs.arc_lists.labels.labels_by.Goals as goal

pub returns : goal.returns
returns c = subst (λ l. all_agree l c.args.segments.now ≡ true) (sym c.new.ensures.items) (no_labels_agree c.args.segments.now)
