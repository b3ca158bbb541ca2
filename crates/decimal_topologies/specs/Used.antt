-- The arcs that the geometries of a topology use.
use Rattle.std.specs.Prelude.{ℕ, ◌+◌, Bool, false, ◌||◌, nat_eq, codes, replicate, List, [], ◌∷◌, Some, Result, Ok, Err, if◌then◌else◌}
use Rattle.std.specs.Str.{bytes_eq}
use Rattle.json.specs.Json.{Json, null, boolean, number, string, array, object, Items, no_items, item, Members, no_members, member}
use Rattle.faults.specs.declared.fault.FaultKind.{FaultKind}
use Rattle.decimal_topologies.specs.Layers.{Named}
use Rattle.decimal_topologies.specs.Stitching.{number_ref}
use Rattle.decimal_topologies.specs.declared.numbers.ArcRef.{ArcRef}

-- whether that is the arc
abbrev pub is_arc : ℕ → Result ArcRef FaultKind → Bool
is_arc i (Err k) = false
is_arc i (Ok u) = nat_eq u.arc i

abbrev mutual
  -- whether a value is the number of arc i, of n arcs, or has it in a list [TopoJSON, 2.1.4]
  pub names_arc : ℕ → ℕ → Json → Bool
  names_arc n i null = false
  names_arc n i (boolean b) = false
  names_arc n i (number s) = is_arc i (number_ref n (Some s))
  names_arc n i (string s) = false
  names_arc n i (array js) = some_names_arc n i js
  names_arc n i (object ms) = false

  pub some_names_arc : ℕ → ℕ → Items → Bool
  some_names_arc n i no_items = false
  some_names_arc n i (item j js) = names_arc n i j || some_names_arc n i js

abbrev mutual
  -- whether a geometry object has the number of arc i, of n arcs, in its member `arcs`, or one of its geometries has
  pub uses_arc : ℕ → ℕ → Json → Bool
  uses_arc n i null = false
  uses_arc n i (boolean b) = false
  uses_arc n i (number s) = false
  uses_arc n i (string s) = false
  uses_arc n i (array js) = false
  uses_arc n i (object ms) = members_use_arc n i ms

  pub members_use_arc : ℕ → ℕ → Members → Bool
  members_use_arc n i no_members = false
  members_use_arc n i (member k j ms) = (if bytes_eq k (codes "arcs") then names_arc n i j else (if bytes_eq k (codes "geometries") then list_uses_arc n i j else false)) || members_use_arc n i ms

  pub list_uses_arc : ℕ → ℕ → Json → Bool
  list_uses_arc n i null = false
  list_uses_arc n i (boolean b) = false
  list_uses_arc n i (number s) = false
  list_uses_arc n i (string s) = false
  list_uses_arc n i (array js) = some_use_arc n i js
  list_uses_arc n i (object ms) = false

  pub some_use_arc : ℕ → ℕ → Items → Bool
  some_use_arc n i no_items = false
  some_use_arc n i (item j js) = uses_arc n i j || some_use_arc n i js

-- whether a member uses arc i, of n arcs, by its name
abbrev pub member_uses_arc : ℕ → ℕ → List ℕ → Json → Bool
member_uses_arc n i k j = if bytes_eq k (codes "arcs") then names_arc n i j else (if bytes_eq k (codes "geometries") then list_uses_arc n i j else false)

-- whether a layer uses arc i, of n arcs
abbrev pub layers_use_arc : ℕ → ℕ → Named → Bool
layers_use_arc n i [] = false
layers_use_arc n i (l ∷ ls) = uses_arc n i l.1 || layers_use_arc n i ls

-- the marks of arcs, the first of them having that number, and those besides that the test says
abbrev pub marked : (ℕ → Bool) → ℕ → List Bool → List Bool
marked test i [] = []
marked test i (b ∷ bs) = (b || test i) ∷ marked test (i + 1) bs

-- which of n arcs the layers use
abbrev pub used_arcs : ℕ → Named → List Bool
used_arcs n ls = marked (λ i. layers_use_arc n i ls) 0 (replicate n false)
