-- Topologies of which the fixing rules leave something of each feature have no faults.
use Rattle.std.proofs.Common.{◌≡◌, ℕ, List, [], ◌∷◌, ◌++◌, Bool, true, false, Option, Some, None, Ok, is_some, refl, sym, ap, ap₂, subst, ◌∙◌, codes, if◌then◌else◌}
use Rattle.json.specs.Json.{Json, null, boolean, number, string, array, object}
use Rattle.json.specs.Find.{get, as_object}
use Rattle.faults.specs.Path.{name}
use Rattle.fixing.specs.Forms.{seen_geometry}
use Rattle.fixing.specs.declared.rules.FixingRules.{FixingRules}
use Rattle.fixing.proofs.Fixable.{geometry_is_left}
use Rattle.reading.specs.Fault.{under, unless_faulty}
use Rattle.reading.specs.Parts.{named, of_type, typed_faults}
use Rattle.decimal_maps.specs.Tally.{nothing_counted}
use Rattle.decimal_maps.specs.declared.feature.RawFeature.{RawFeature}
use Rattle.decimal_maps.specs.declared.rules.MapRules.{MapRules}
use Rattle.decimal_faults.specs.Laws.{AreLeft, IsLeft}
use Rattle.decimal_faults.specs.Parts.{list_faults, member_faults}
use Rattle.decimal_topologies.specs.Features.{IsFeature, IsLayer, IsLayerBy, feature_faults, feature_members_faults, has_features, layer_faults}
use Rattle.decimal_topologies.specs.Geometries.{TopologyParts}
use Rattle.decimal_topologies.specs.Laws.{AreLayersLeft, TopologiesAreSound}
use Rattle.decimal_topologies.specs.Layers.{AreChosenLayers, AreNamedLayers, Named, chosen_faults, layers_faults, layers_if_object, members_in_order}
use Rattle.decimal_topologies.specs.Roots.{AreLayersOn, HaveLayers, chosen, content_of, if_array, if_there, parts_in, topology_members_faults}
use Rattle.decimal_arcs.specs.Transforms.{quantization_of}
use Rattle.decimal_topologies.specs.declared.objects.TopologyLayer.{TopologyLayer}
use Rattle.decimal_topologies.specs.declared.rules.TopologyRules.{TopologyRules}
use Rattle.decimal_topologies.proofs.Faulty.{object_some}
use Rattle.decimal_topologies.proofs.Rooted.{root_type, typed_object}
use Rattle.decimal_topologies.proofs.SoundGeometries.{form_none, geometry_sound, list_none, member_none}

-- what has a member is an object
member_object : (n : List ℕ) (j k : Json) → get n j ≡ Some k → is_some (as_object j) ≡ true
member_object n null k e = cc
member_object n (boolean b) k e = cc
member_object n (number s) k e = cc
member_object n (string s) k e = cc
member_object n (array js) k e = cc
member_object n (object ms) k e = refl

module _ (t : TopologyParts) (rules : MapRules) (fixing : FixingRules) where
  feature_none : (j : Json) (f : RawFeature) → IsFeature t rules j f → IsLeft fixing f → feature_faults t rules fixing j ≡ []
  feature_none j f h left =
      let s = geometry_sound t fixing j f.geometry nothing_counted f.tally h.geometry ((geometry_is_left fixing (seen_geometry f.geometry)).0 left) in
      form_none t fixing (feature_members_faults t rules fixing j) j s.form s.is s.split (ap₂ (λ ps qs. ps ++ qs) s.none h.attributes.sound)

  layer_none : (j : Json) (fs : List RawFeature) → IsLayer t rules j fs → AreLeft fixing fs → layer_faults t rules fixing j ≡ []
  layer_none j fs h left = go (has_features j) h
    where
      go : (b : Bool) → IsLayerBy t rules j fs b → (if b then member_faults (codes "geometries") (list_faults (feature_faults t rules fixing)) j else feature_faults t rules fixing j) ≡ []
      go true h =
          member_none (codes "geometries") (list_faults (feature_faults t rules fixing)) j h.geometries h.there
          (list_none (λ k f (a b : Unit {0}). IsFeature t rules k f) (feature_faults t rules fixing) (IsLeft fixing) (λ k f a b. feature_none k f) h.geometries fs tt tt h.each left)
      go false h = feature_none j h.feature h.is (subst (AreLeft fixing) h.only left).0

  layers_none : (ls : Named) (xs : List TopologyLayer) → AreNamedLayers t rules ls xs → AreLayersLeft fixing xs → layers_faults t rules fixing ls ≡ []
  layers_none [] [] h left = refl
  layers_none [] (x ∷ xs) h left = absurd h
  layers_none (l ∷ ls) [] h left = absurd h
  layers_none (l ∷ ls) (x ∷ xs) h left = ap₂ (λ ps qs. under (name l.0) ps ++ qs) (layer_none l.1 x.features.items h.0.1 left.0) (layers_none ls xs h.1 left.1)

  chosen_none : (n : Option (List ℕ)) (j : Json) (xs : List TopologyLayer) → AreChosenLayers t rules n j xs → AreLayersLeft fixing xs → chosen_faults t rules fixing n j ≡ []
  chosen_none None j xs h left = ap (layers_if_object t rules fixing) (sym h.is) ∙ layers_none (members_in_order h.members) xs h.each left
  chosen_none (Some n) j xs h left =
      object_some _ (as_object j) (member_object n j h.value h.there)
      ∙ member_none n (layer_faults t rules fixing) j h.value h.there (layer_none h.value h.layer.features.items h.is.1 (subst (AreLayersLeft fixing) h.only left).0)

module _ (rules : TopologyRules) (fixing : FixingRules) (j : Json) (xs : List TopologyLayer) (left : AreLayersLeft fixing xs) where
  content_none : (h : HaveLayers rules j xs) → content_of (quantization_of rules.map.grid j) rules fixing j h.items ≡ []
  content_none h =
      let q = quantization_of rules.map.grid j in
      let t = parts_in rules q j h.items in
      let on : AreLayersOn q rules j h.items xs = h.layers in
      ap₂ (λ ps qs. under (name (codes "arcs")) ps ++ qs) on.faultless
      (member_none (codes "objects") (chosen_faults t rules.map fixing (chosen rules)) j on.objects on.there (chosen_none t rules.map fixing (chosen rules) on.objects xs on.layers left))

  members_none : HaveLayers rules j xs → topology_members_faults rules fixing j ≡ []
  members_none h =
      let q = quantization_of rules.map.grid j in
      ap (λ ps. unless_faulty ps (if_there q rules fixing j (get (codes "arcs") j))) h.transform ∙ ap (if_there q rules fixing j) (sym h.there) ∙ ap (if_array q rules fixing j) (sym h.are) ∙ content_none h

pub topology_is_sound : TopologiesAreSound
topology_is_sound rules fixing j xs h left =
    let typed : root_type j ≡ Ok tt = ap (named (of_type (codes "Topology"))) h.0 in
    object_some _ (as_object j) (typed_object j tt typed) ∙ ap (typed_faults (λ t. topology_members_faults rules fixing j)) typed ∙ members_none rules fixing j xs left h.1
