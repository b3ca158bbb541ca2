-- Features [RFC 7946, 3.2].
use Rattle.std.specs.Prelude.{◌≡◌, [], Option, Some, None, codes}
use Rattle.json.specs.Json.{Json, null, string}
use Rattle.json.specs.Find.{get}
use Rattle.attributes.specs.Attributes.{AreAttributes}
use Rattle.attributes.specs.Refusals.{attributes_faults}
use Rattle.attributes.specs.declared.info.Attributes.{Attributes}
use Rattle.attributes.specs.declared.rules.AttributeRules.{AttributeRules}
use Rattle.decimal_maps.specs.Geometries.{IsGeometry, IsGeometryOrNull}
use Rattle.decimal_maps.specs.Tally.{nothing_counted}
use Rattle.decimal_maps.specs.declared.feature.RawFeature.{RawFeature}
use Rattle.decimal_maps.specs.declared.rules.MapRules.{MapRules}

-- a member that is missing counts as null
abbrev pub or_null : Option Json → Json
or_null None = null
or_null (Some j) = j

-- these are the id and the properties that the members `id` and `properties` mean, and these have no fault
pub record HaveAttributes (rules : AttributeRules) (id properties : Option Json) (a : Attributes) : Type 0 where
  pub are : AreAttributes rules id properties a
  pub sound : attributes_faults rules id properties ≡ []

-- an object of the type `Feature`, its geometry with what is counted of it, its id and its properties
pub record IsFeature (rules : MapRules) (j : Json) (f : RawFeature) : Type 0 where
  pub kind : get (codes "type") j ≡ Some (string (codes "Feature"))
  pub geometry : IsGeometryOrNull rules.grid (or_null (get (codes "geometry") j)) f.geometry nothing_counted f.tally
  pub attributes : HaveAttributes rules.attributes (get (codes "id") j) (get (codes "properties") j) f.attributes

-- the rules where there are no properties, so that none is the id
abbrev pub without_name : AttributeRules → AttributeRules
without_name rules = record rules { id = None }

-- a geometry that is no feature's: a feature with no id and no properties
pub record IsBareGeometry (rules : MapRules) (j : Json) (f : RawFeature) : Type 0 where
  pub geometry : IsGeometry rules.grid j f.geometry nothing_counted f.tally
  pub attributes : HaveAttributes (without_name rules.attributes) None None f.attributes
