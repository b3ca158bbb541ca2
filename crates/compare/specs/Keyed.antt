-- The keys of features: their ids, or the values of a property.
use Rattle.std.specs.Prelude.{◌≡◌, ℕ, List, Option, Some, None, map}
use Rattle.shapes.specs.Parts.{properties_text, spelled_text}
use Rattle.shapes.specs.PropertyValues.{property_text}
use Rattle.shapes.specs.declared.feature.Feature.{Feature}
use Rattle.shapes.specs.declared.shape.Id.{Id}
use Rattle.shapes.specs.declared.shape.Id.TheVariants as id
use Rattle.shapes.specs.declared.spelled.Spelled.{Spelled}
use Rattle.theory.specs.Lists.{Pairwise}
use Rattle.topo.specs.declared.geom.Geom.{Geom}
use Rattle.compare.specs.declared.keys.Keys.{Keys}
use Rattle.compare.specs.declared.keys.Keys.TheVariants.{Ids, Values}

-- the id of a geometry
abbrev pub id_of : Geom → Id
id_of g = g.id

-- the keys, in the order of the geometries
abbrev pub keys_in : Keys → List Id
keys_in (Ids gs) = map id_of gs.now
keys_in (Values ks) = ks.now

-- the compact text of a feature's property; none where it is missing or null
abbrev pub feature_key : List ℕ → Feature → Option (List ℕ)
feature_key name f = property_text name (properties_text f.props)

-- the id is the text, or none where there is none
abbrev pub IsKey : Option (List ℕ) → Id → Type 0
IsKey None k = k ≡ id.None
IsKey (Some t) k = (s : Spelled) × (k ≡ id.Text s) × (spelled_text s ≡ t)

-- the keys are those of the geometries by a property
abbrev pub AreKeys : List ℕ → List Geom → List Id → Type 0
AreKeys name = Pairwise (λ g k. IsKey (property_text name (properties_text g.props)) k)
