-- Laws of edits.
use Rattle.std.specs.Prelude.{◌≡◌, ◌↔◌, [], ◌∷◌}
use Rattle.shapes.specs.Maps.{Layers}
use Rattle.topo.specs.OfMap.{IsOf}
use Rattle.topo.specs.Parts.{TopologyParts}
use Rattle.refine.specs.Edits.{AreEditedTo, IsEditedTo}
use Rattle.topo.specs.LayerLaws.Less.{IsApart}
use Rattle.refine.specs.declared.edit.Edit.{Edit}
use Rattle.refine.specs.declared.edit.Edit.TheVariants.{Join, Remove}

-- one edit is the list of it alone
abbrev pub OneEditIsAList : Type 0
OneEditIsAList = (m : Layers) (e : Edit) (n : Layers) → AreEditedTo m (e ∷ []) n ↔ IsEditedTo m e n

-- what was joined, and is then removed, leaves the map that was there before
abbrev pub JoinsAreUndoneByEdits : Type 0
JoinsAreUndoneByEdits =
    (m n k : Layers) (t : TopologyParts) → IsApart m n → IsOf n t → AreEditedTo m (Join t ∷ Remove n ∷ []) k → k ≡ m
