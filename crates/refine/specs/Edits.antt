-- What edits do to a map.
use Rattle.std.specs.Prelude.{◌≡◌, ◌↔◌, ℕ, List, [], ◌∷◌, All, Some, slice_get, take, ⊤}
use Rattle.grid.specs.Place.{Transform}
use Rattle.shapes.specs.Maps.{Layers}
use Rattle.shapes.specs.Union.{union}
use Rattle.topo.specs.OfMap.{IsOf}
use Rattle.topo.specs.LayerLaws.Less.{less}
use Rattle.refine.specs.declared.edit.Edit.{Edit}
use Rattle.refine.specs.declared.edit.Edit.TheVariants.{Join, Remove}
use Rattle.merging.specs.declared.fault.JoinFault.{JoinFault}
use Rattle.merging.specs.declared.fault.JoinFault.TheVariants.{OtherGrid}

-- what a map becomes by an edit: a join adds the features of the joined map, a removal takes away those that it names
abbrev pub IsEditedTo : Layers → Edit → Layers → Type 0
IsEditedTo m (Join t) n = (k : Layers) × IsOf k t × (n ≡ union m k)
IsEditedTo m (Remove r) n = n ≡ less m r

-- what a map becomes by edits, one after the other
abbrev pub AreEditedTo : Layers → List Edit → Layers → Type 0
AreEditedTo m [] n = n ≡ m
AreEditedTo m (e ∷ es) n = (k : Layers) × IsEditedTo m e k × AreEditedTo k es n

-- the edit may be done on the grid: what is joined is on it
abbrev pub IsOnGrid : Transform → Edit → Type 0
IsOnGrid g (Join t) = g ≡ t.grid
IsOnGrid g (Remove r) = ⊤

-- the edits before the place are on the grid, and the one there is refused for another grid exactly where it is not
pub record AreRefusedAt (g : Transform) (es : List Edit) (place : ℕ) (fault : JoinFault) : Type 0 where
  pub before : All (IsOnGrid g) (take place es)
  pub refused : Edit
  pub there : slice_get es place ≡ Some refused
  pub fault_of : (fault ≡ OtherGrid) ↔ ¬ IsOnGrid g refused
