-- Numbers that stand for choices.
use Rattle.std.specs.Prelude.{ℕ, Bool, true, false, List, [], ◌∷◌, ◌||◌, Option, Some, None, nat_eq, if◌then◌else◌}
use Rattle.query.specs.declared.edges.Edges.{Edges}
use Rattle.query.specs.declared.edges.Edges.TheVariants.{All, Interior, Exterior}
use Rattle.shapes.specs.declared.shape.Id.{Id}
use Rattle.shapes.specs.declared.shape.Id.TheVariants as id
use Rattle.topo.specs.declared.geom.Geom.{Geom}

-- the layer of the name, or for 0 all layers
abbrev pub scope_of : ℕ → List ℕ → Option (List ℕ)
scope_of n name = if nat_eq n 0 then None else Some name

-- the name, where it is asked for
abbrev pub name_if : Bool → List ℕ → Option (List ℕ)
name_if true name = Some name
name_if false name = None

-- the edges of a number
abbrev pub edges_of : ℕ → Edges
edges_of n = if nat_eq n 0 then All else (if nat_eq n 1 then Interior else Exterior)

-- whether the id is none
abbrev pub has_no_id : Id → Bool
has_no_id id.None = true
has_no_id (id.Number n) = false
has_no_id (id.Text s) = false

-- one of the geometries has no id
abbrev pub lacks_id : List Geom → Bool
lacks_id [] = false
lacks_id (g ∷ gs) = has_no_id g.id || lacks_id gs
