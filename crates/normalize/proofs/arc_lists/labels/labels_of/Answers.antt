use Rattle.std.proofs.Common.{◌≡◌, subst, true}
use Rattle.normalize.specs.ArcLists.Labels.{all_agree}
use Rattle.normalize.proofs.ArcListsLemmas.Making.{ok_map}
use Rattle.normalize.proofs.ArcListsLemmas.Sharing.{labels_shared}
use Rattle.normalize.proofs.arc_lists.labels.labels_of.Goals as goal

pub returns : goal.returns
returns c =
    ok_map c.labels_by.result _ _ c.labels_by.ensures (λ v e.
    labels_shared c.args.arcs.now c.in_ok-segments.segments.items v.items c.in_ok-segments.ensures (subst (λ w. all_agree v.items w ≡ true) c.deref.ensures.value e))
