use Rattle.std.proofs.Common.{IfOk, subst}
use Rattle.grid.specs.declared.pos.Pos.{Pos}
use Rattle.theory.specs.Geometry.{Geometry, IsSound}
use Rattle.theory.specs.Refinement.{IsUnionOf}
use Rattle.arcs.specs.Arcs.{Arcs}
use Rattle.arcs.specs.Table.{IsTableOf}
use Rattle.split_heal.specs.Cutting.{IsRecutOf}
use Rattle.split_heal.specs.SplitParts.{RecutParts}
use Rattle.split_heal.proofs.split.recut.Goals as goal

-- what is promised of the tables
abbrev IsCutAgain : Arcs → Arcs → RecutParts → Type 0
IsCutAgain s t r = (m n u : Geometry Pos) → IsSound m → IsSound n → IsTableOf m s → IsTableOf n t → IsUnionOf m n u → IsRecutOf m n u s t r

pub returns-clause-refined : goal.returns-clause-refined
returns-clause-refined c =
    subst (λ s. IfOk c.recut_owned.result (IsCutAgain s c.args.right.now)) c.in_ok-share.ensures
    (subst (λ t. IfOk c.recut_owned.result (IsCutAgain c.in_ok-share.field-0 t)) c.in_ok-share-2.ensures c.recut_owned.ensures.refined)
