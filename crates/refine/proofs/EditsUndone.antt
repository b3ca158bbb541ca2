-- Lists of one edit, and joins that are undone.
use Rattle.std.proofs.Common.{◌∙◌, refl, sym, ap, subst}
use Rattle.shapes.specs.Union.{union}
use Rattle.refine.specs.EditLaws.{JoinsAreUndoneByEdits, OneEditIsAList}
use Rattle.refine.specs.Edits.{IsEditedTo}
use Rattle.topo.specs.LayerLaws.Less.{less}
use Rattle.topo.proofs.LayerLawsLemmas.OneMap.{one_map}
use Rattle.topo.proofs.LayerLawsLemmas.JoinUndone.{join_undone}

pub one_edit : OneEditIsAList
one_edit m e n = (λ (k, done, is). subst (IsEditedTo m e) (sym is) done, λ done. (n, done, refl))

pub undone : JoinsAreUndoneByEdits
undone m n k t apart of_n (l, (o, of_o, is), (after, removed, same)) =
    same ∙ removed ∙ ap (λ x. less x n) (is ∙ ap (union m) (one_map t o n of_o of_n)) ∙ join_undone m n apart
