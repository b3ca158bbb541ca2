-- Ids as names of the members of an object.
use Rattle.std.specs.Prelude.{◌||◌, ℕ, Bool, false, List, [], ◌∷◌, bytes_eq, codes, map}
use Rattle.std.specs.Fmt.{signed_decimal}
use Rattle.shapes.specs.Parts.{spelled_text}
use Rattle.shapes.specs.declared.shape.Id.{Id}
use Rattle.shapes.specs.declared.shape.Id.TheVariants as id
use Rattle.topo.specs.declared.geom.Geom.{Geom}

-- the name of an id: a number's is its decimal text
abbrev pub key_of : Id → List ℕ
key_of id.None = codes "null"
key_of (id.Number n) = signed_decimal n
key_of (id.Text s) = spelled_text s

-- the name is one of these
abbrev pub is_among : List ℕ → List (List ℕ) → Bool
is_among key [] = false
is_among key (k ∷ ks) = bytes_eq k key || is_among key ks

-- a name is one of those before it, or of some others
abbrev pub comes_again : List (List ℕ) → List (List ℕ) → Bool
comes_again others [] = false
comes_again others (k ∷ ks) = is_among k others || comes_again (k ∷ others) ks

-- the names of the ids of geometries
abbrev pub keys_of : List Geom → List (List ℕ)
keys_of gs = map (λ g. key_of g.id) gs

-- two geometries have one
abbrev pub has_key_twice : List Geom → Bool
has_key_twice gs = comes_again [] (keys_of gs)
