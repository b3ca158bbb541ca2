-- Maps that have no faults are those of which the fixing rules leave something of each feature.
use Rattle.std.proofs.Common.{◌≡◌, ◌↔◌, ℕ, List, [], ◌∷◌, Option, Some, None, Ok, refl, sym, ap, subst, ◌∙◌, inl, inr, codes}
use Rattle.json.specs.Json.{Json, null, boolean, number, string, array, object}
use Rattle.json.specs.Find.{get}
use Rattle.faults.specs.Path.{name}
use Rattle.faults.specs.Fault.{Pair}
use Rattle.fixing.specs.Fixable.{IsFixableGeometry}
use Rattle.fixing.specs.Forms.{seen_geometry}
use Rattle.fixing.specs.declared.raw.RawGeometry.{RawGeometry}
use Rattle.fixing.specs.declared.raw.RawGeometry.TheVariants.{One, Collection}
use Rattle.fixing.specs.Forms as raw
use Rattle.fixing.specs.declared.rules.FixingRules.{FixingRules}
use Rattle.fixing.proofs.Fixable.{geometry_is_left}
use Rattle.numerals.specs.Numeral.{IsMeasure}
use Rattle.attributes.specs.Refusals.{attributes_faults}
use Rattle.reading.specs.Parts.{named, of_type, typed_faults}
use Rattle.decimal_maps.specs.Features.{IsBareGeometry, IsFeature, or_null}
use Rattle.decimal_maps.specs.Geometries.{IsGeometry, IsGeometryOrNull, kind_name, kind_of}
use Rattle.decimal_maps.specs.Roots.{IsFeatureCollection, IsMap, IsOneFeature}
use Rattle.decimal_maps.specs.Tally.{nothing_counted}
use Rattle.decimal_maps.specs.declared.feature.RawFeature.{RawFeature}
use Rattle.reading.specs.declared.geometry.GeometryType.{GeometryType}
use Rattle.reading.specs.declared.geometry.GeometryType.TheVariants as kind
use Rattle.decimal_maps.specs.declared.rules.MapRules.{MapRules}
use Rattle.decimal_maps.specs.declared.tally.Tally.{Tally}
use Rattle.decimal_faults.specs.Geometries.{geometry_faults}
use Rattle.decimal_faults.specs.Laws.{AreLeft, IsLeft, MapsAreFixable, MapsAreSound}
use Rattle.decimal_faults.specs.Maps.{feature_faults, feature_members_faults, map_faults, root_faults}
use Rattle.decimal_faults.specs.Parts.{if_there, list_faults, type_or_fault, type_text, unless_null}
use Rattle.decimal_faults.proofs.SoundGeometries.{geometry_iff, no_member}
use Rattle.decimal_faults.proofs.SoundParts.{both_iff, list_iff, member_iff, then_iff}

-- the text of a type
type_is : (j : Json) (s : List ℕ) → get (codes "type") j ≡ Some (string s) → type_text j ≡ Ok s
type_is j s e = ap type_or_fault e

with_unit : (P : Type 0) → P ↔ (P × Unit {0})
with_unit P = ((λ h. (h, tt)), (λ h. h.0))

none_iff : (ps : List Pair) → ps ≡ [] → Unit {0} ↔ (ps ≡ [])
none_iff ps e = ((λ k. e), (λ k. tt))

module _ (rules : MapRules) (fixing : FixingRules) (measured : IsMeasure rules.grid.step) where
  -- ---- features

  no_geometry : (g : RawGeometry) (a b : Tally) → IsGeometry rules.grid null g a b → ⊥
  no_geometry (One s) a b h = no_member _ h.kind
  no_geometry (Collection ss) a b h = no_member _ h.has.kind

  unless_iff : (j : Json) (g : RawGeometry) (a b : Tally) → IsGeometry rules.grid j g a b → IsFixableGeometry fixing (seen_geometry g) ↔ (unless_null (geometry_faults rules.grid fixing) j ≡ [])
  unless_iff null g a b h = absurd (no_geometry g a b h)
  unless_iff (boolean v) g a b h = geometry_iff rules.grid fixing measured (boolean v) g a b h
  unless_iff (number t) g a b h = geometry_iff rules.grid fixing measured (number t) g a b h
  unless_iff (string t) g a b h = geometry_iff rules.grid fixing measured (string t) g a b h
  unless_iff (array js) g a b h = geometry_iff rules.grid fixing measured (array js) g a b h
  unless_iff (object ms) g a b h = geometry_iff rules.grid fixing measured (object ms) g a b h

  null_iff : (g : RawGeometry) → g ≡ One raw.Null → IsFixableGeometry fixing (seen_geometry g) ↔ (unless_null (geometry_faults rules.grid fixing) null ≡ [])
  null_iff g e = subst (λ k. IsFixableGeometry fixing (seen_geometry k) ↔ (unless_null (geometry_faults rules.grid fixing) null ≡ [])) (sym e) ((λ h. refl), (λ h. tt))

  or_null_iff : (o : Option Json) (g : RawGeometry) (a b : Tally) → IsGeometryOrNull rules.grid (or_null o) g a b → IsFixableGeometry fixing (seen_geometry g) ↔ (if_there (unless_null (geometry_faults rules.grid fixing)) o ≡ [])
  or_null_iff None g a b (inl h) = null_iff g h.1
  or_null_iff None g a b (inr h) = absurd (no_geometry g a b h)
  or_null_iff (Some j) g a b (inl h) = subst (λ k. IsFixableGeometry fixing (seen_geometry g) ↔ (unless_null (geometry_faults rules.grid fixing) k ≡ [])) (sym h.0) (null_iff g h.1)
  or_null_iff (Some j) g a b (inr h) = unless_iff j g a b h

  is_left : (f : RawFeature) → IsLeft fixing f ↔ IsFixableGeometry fixing (seen_geometry f.geometry)
  is_left f = geometry_is_left fixing (seen_geometry f.geometry)

  members_iff : (j : Json) (f : RawFeature) → IsFeature rules j f → IsLeft fixing f ↔ (feature_members_faults rules fixing j ≡ [])
  members_iff j f h =
      let within = if_there (unless_null (geometry_faults rules.grid fixing)) (get (codes "geometry") j) in
      let others = attributes_faults rules.attributes (get (codes "id") j) (get (codes "properties") j) in
      let geometry = or_null_iff (get (codes "geometry") j) f.geometry nothing_counted f.tally h.geometry in
      then_iff (then_iff (is_left f) (with_unit (IsFixableGeometry fixing (seen_geometry f.geometry)))) (both_iff (name (codes "geometry")) within others geometry (none_iff others h.attributes.sound))

  feature_iff : (j : Json) (f : RawFeature) (a b : Unit {0}) → IsFeature rules j f → IsLeft fixing f ↔ (feature_faults rules fixing j ≡ [])
  feature_iff null f a b h = absurd (no_member _ h.kind)
  feature_iff (boolean v) f a b h = absurd (no_member _ h.kind)
  feature_iff (number t) f a b h = absurd (no_member _ h.kind)
  feature_iff (string t) f a b h = absurd (no_member _ h.kind)
  feature_iff (array js) f a b h = absurd (no_member _ h.kind)
  feature_iff (object ms) f a b h =
      subst (λ r. IsLeft fixing f ↔ (typed_faults (λ t. feature_members_faults rules fixing (object ms)) (named (of_type (codes "Feature")) r) ≡ [])) (sym (type_is (object ms) (codes "Feature") h.kind)) (members_iff (object ms) f h)

  -- ---- roots

  root_named : (j : Json) (k : GeometryType) → root_faults rules fixing j (Ok (kind_name k)) ≡ geometry_faults rules.grid fixing j
  root_named j kind.Point = refl
  root_named j kind.MultiPoint = refl
  root_named j kind.LineString = refl
  root_named j kind.MultiLineString = refl
  root_named j kind.Polygon = refl
  root_named j kind.MultiPolygon = refl

  root_geometry : (j : Json) (g : RawGeometry) (a b : Tally) → IsGeometry rules.grid j g a b → map_faults rules fixing j ≡ geometry_faults rules.grid fixing j
  root_geometry j (One s) a b h = ap (root_faults rules fixing j) (type_is j (kind_name (kind_of s)) h.kind) ∙ root_named j (kind_of s)
  root_geometry j (Collection ss) a b h = ap (root_faults rules fixing j) (type_is j (codes "GeometryCollection") h.has.kind)

  bare_iff : (j : Json) (f : RawFeature) → IsBareGeometry rules j f → IsLeft fixing f ↔ (map_faults rules fixing j ≡ [])
  bare_iff j f h =
      subst (λ ps. IsLeft fixing f ↔ (ps ≡ [])) (sym (root_geometry j f.geometry nothing_counted f.tally h.geometry))
      (then_iff (is_left f) (geometry_iff rules.grid fixing measured j f.geometry nothing_counted f.tally h.geometry))

  root_feature : (j : Json) (f : RawFeature) → IsFeature rules j f → IsLeft fixing f ↔ (map_faults rules fixing j ≡ [])
  root_feature j f h = subst (λ r. IsLeft fixing f ↔ (root_faults rules fixing j r ≡ [])) (sym (type_is j (codes "Feature") h.kind)) (members_iff j f h)

  collection_iff : (j : Json) (fs : List RawFeature) → IsFeatureCollection rules j fs → AreLeft fixing fs ↔ (map_faults rules fixing j ≡ [])
  collection_iff j fs h =
      subst (λ r. AreLeft fixing fs ↔ (root_faults rules fixing j r ≡ [])) (sym (type_is j (codes "FeatureCollection") h.kind))
      (member_iff (codes "features") (list_faults (feature_faults rules fixing)) j h.features h.member
      (list_iff (λ k f (a b : Unit {0}). IsFeature rules k f) (feature_faults rules fixing) (IsLeft fixing) feature_iff h.features fs tt tt h.each))

  one_iff : (j : Json) (fs : List RawFeature) → IsOneFeature rules j fs → AreLeft fixing fs ↔ (map_faults rules fixing j ≡ [])
  one_iff j [] h = absurd h
  one_iff j (f ∷ []) (inl h) = let is = root_feature j f h in ((λ k. is.0 k.0), (λ k. (is.1 k, tt)))
  one_iff j (f ∷ []) (inr h) = let is = bare_iff j f h in ((λ k. is.0 k.0), (λ k. (is.1 k, tt)))
  one_iff j (f ∷ g ∷ fs) h = absurd h

  map_iff : (j : Json) (fs : List RawFeature) → IsMap rules j fs → AreLeft fixing fs ↔ (map_faults rules fixing j ≡ [])
  map_iff j fs (inl h) = collection_iff j fs h
  map_iff j fs (inr h) = one_iff j fs h

pub map_is_sound : MapsAreSound
map_is_sound rules fixing j fs measured h = (map_iff rules fixing measured j fs h).0

pub map_is_fixable : MapsAreFixable
map_is_fixable rules fixing j fs measured h = (map_iff rules fixing measured j fs h).1
