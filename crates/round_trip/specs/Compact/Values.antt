-- The values whose compact texts the writers' texts are.
use Rattle.std.specs.Prelude.{ℕ, ℤ, List, [], ◌∷◌, map, codes, Option, Some, None, if◌then◌else◌}
use Rattle.std.specs.Str.{bytes_eq}
use Rattle.serde_json.specs.Data.{Data, number, string, array, Members, member}
use Rattle.serde_json.specs.Find.{of_integer}
use Rattle.serde_json.specs.View.{items_of}
use Rattle.shapes.specs.Parts.{spelled_text}
use Rattle.shapes.specs.Properties.{properties_value}
use Rattle.shapes.specs.declared.shape.Id.{Id}
use Rattle.shapes.specs.declared.shape.Id.TheVariants as id

-- a whole number
abbrev pub integer : ℤ → Data
integer z = number (of_integer z)

-- a list of values
abbrev pub list_data : {T : Type 0} → (T → Data) → List T → Data
list_data f xs = array (items_of (map f xs))

-- two numbers
abbrev pub pair_data : ℤ → ℤ → Data
pair_data x y = array (items_of (integer x ∷ integer y ∷ []))

-- the members, and before them one more where there is one
abbrev pub given : List ℕ → Option Data → Members → Members
given k None ms = ms
given k (Some d) ms = member k d ms

-- the member `id`
abbrev pub id_data : Id → Option Data
id_data id.None = None
id_data (id.Number n) = Some (integer n)
id_data (id.Text s) = Some (string (spelled_text s))

-- the member `properties`, none where the text is `{}`
abbrev pub properties_data : List ℕ → Option Data
properties_data t = if bytes_eq t (codes "{}") then None else Some (properties_value t)
