-- What plans mean.
use Rattle.std.specs.Prelude.{◌≡◌, ℕ, All, List, [], ◌∷◌, Option, Some, None, not, length, position, map as map_list, slice_get, unwrap_or, option_map}
use Rattle.std.specs.Option.{option_or}
use Rattle.std.specs.FinMap as map
use Rattle.grid.specs.Place.{Transform}
use Rattle.shapes.specs.Maps.{Layers}
use Rattle.shapes.specs.Union.{union}
use Rattle.merging.specs.Meaning.{same_grid}
use Rattle.merging.specs.Leaves.{first_outside}
use Rattle.merging.specs.declared.fault.PlanFault.{PlanFault}
use Rattle.merging.specs.declared.fault.PlanFault.TheVariants.{BadPlan, OtherGrid}

-- all items are on one grid
abbrev pub AreOnOneGrid : {S : Type 0} → (S → Transform) → List S → Type 0
AreOnOneGrid grid ss = (g : Transform) × All (λ s. grid s ≡ g) ss

-- the index of the first item that isn't on the grid
abbrev pub off_grid : {S : Type 0} → (S → Transform) → Transform → List S → Option ℕ
off_grid grid g ss = position (λ t. not (same_grid (grid t) g)) ss

abbrev pub other_than : {S : Type 0} → (S → Transform) → Option S → List S → Option ℕ
other_than grid None ss = None
other_than grid (Some s) ss = off_grid grid (grid s) ss

-- the index of the first item whose grid isn't the first item's
abbrev pub first_other : {S : Type 0} → (S → Transform) → List S → Option ℕ
first_other grid ss = other_than grid (slice_get ss 0) ss

-- the union of some maps
abbrev pub union_all : List Layers → Layers
union_all [] = map.empty
union_all (m ∷ ms) = union m (union_all ms)

-- the union of the maps at some indexes of a list
abbrev pub union_at : List Layers → List ℕ → Layers
union_at ms is = union_all (map_list (λ i. unwrap_or (slice_get ms i) map.empty) is)

-- why a plan over a list of shards is refused
abbrev pub plan_fault : {S : Type 0} → (S → Transform) → List S → List ℕ → Option PlanFault
plan_fault grid ss is = option_or (option_map BadPlan (first_outside (length ss) is)) (option_map OtherGrid (first_other grid ss))
