-- Features that equal an earlier one of their layer.
use Rattle.std.specs.Prelude.{◌≡◌, ◌⊎◌, ◌↔◌, ℕ, ◌+◌, List, [], ◌∷◌, ◌++◌, Bool, true, false, Option, Some, None, map as map_list}
use Rattle.std.specs.BTreeSet.{BTreeSet}
use Rattle.std.specs.declared.vec.Vec.{Vec}
use Rattle.std.specs.declared.alloc.Global.{Global}
use Rattle.shapes.specs.Parts.{properties_text}
use Rattle.shapes.specs.declared.shape.Id.{Id}
use Rattle.shapes.specs.Shapes.{Shape}
use Rattle.theory.specs.Lists.{Has}
use Rattle.rounded_maps.specs.declared.equal.EqualFeatures.{EqualFeatures}
use Rattle.rounded_maps.specs.declared.equal.LayerFeature.{LayerFeature}
use Rattle.rounded_maps.specs.declared.map.RoundedFeature.{RoundedFeature}
use Rattle.rounded_maps.specs.declared.map.RoundedMap.{RoundedMap}

-- a feature of a layer: the layer's name, the id, the bytes of the properties' compact text, and the shape
pub record Printed : Type 0 where
  pub layer : List ℕ
  pub id : Id
  pub properties : List ℕ
  pub shape : Shape

-- a fixed feature for one of its shapes
abbrev pub printed_shape : List ℕ → RoundedFeature → Shape → Printed
printed_shape layer f s = record { layer = layer; id = f.feature.id; properties = properties_text f.feature.props; shape = s }

-- the features that a fixed feature stands for, each with the number that this one has in its map
abbrev pub features_of : List ℕ → ℕ → RoundedFeature → List (ℕ × Printed)
features_of layer n f = map_list (λ s. (n, printed_shape layer f s)) f.feature.shapes.items

-- those of the features of a map, of which the first has the number n
abbrev pub features_from : List ℕ → ℕ → List RoundedFeature → List (ℕ × Printed)
features_from layer n [] = []
features_from layer n (f ∷ fs) = features_of layer n f ++ features_from layer (n + 1) fs

-- the features that were seen, and these behind them
abbrev pub seen_behind : List Printed → List (ℕ × Printed) → List Printed
seen_behind seen [] = seen
seen_behind seen (f ∷ fs) = seen_behind (f.1 ∷ seen) fs

-- these are the numbers of the features that equal an earlier one, or one that was seen before all
abbrev pub AreRepeats : List Printed → List (ℕ × Printed) → List ℕ → Type 0
AreRepeats seen [] numbers = numbers ≡ []
AreRepeats seen (f ∷ fs) numbers =
    (Has f.1 seen × ((rest : List ℕ) × ((numbers ≡ f.0 ∷ rest) × AreRepeats (f.1 ∷ seen) fs rest))) ⊎ ((¬ Has f.1 seen) × AreRepeats (f.1 ∷ seen) fs numbers)

-- for each map, of those with that name and the others, its features that equal an earlier one of their layer
abbrev pub AreEqual : List Printed → List (List ℕ) → List RoundedMap → List EqualFeatures → Type 0
AreEqual seen [] ms es = es ≡ []
AreEqual seen (n ∷ ns) [] es = es ≡ []
AreEqual seen (n ∷ ns) (m ∷ ms) [] = ⊥
AreEqual seen (n ∷ ns) (m ∷ ms) (e ∷ es) =
    AreRepeats seen (features_from n 0 m.features.items) e.features.items × AreEqual (seen_behind seen (features_from n 0 m.features.items)) ns ms es

-- a feature as it is compared
abbrev pub printed : LayerFeature → Printed
printed f = record { layer = f.layer.now; id = f.id.now; properties = properties_text f.props.now; shape = f.shape.now }

-- the set holds the features that were seen
abbrev pub Holds : BTreeSet LayerFeature → List Printed → Type 0
Holds set seen = (p : Printed) → Has p (map_list printed set.keys) ↔ Has p seen

-- a feature is seen too, and if it equals one that was, its number is behind others
pub record IsSeen (f : ℕ × Printed) (before after : BTreeSet LayerFeature) (old new : List ℕ) : Type 0 where
  pub holds : (seen : List Printed) → Holds before seen → Holds after (f.1 ∷ seen)
  pub found : ((¬ Has f.1 (map_list printed before.keys)) × (new ≡ old)) ⊎ (Has f.1 (map_list printed before.keys) × (new ≡ old ++ f.0 ∷ []))

-- these features are seen too, and the numbers of those that equal an earlier one are behind others
abbrev pub FindsRepeats : List (ℕ × Printed) → BTreeSet LayerFeature → BTreeSet LayerFeature → List ℕ → List ℕ → Type 0
FindsRepeats fs before after old new =
    (seen : List Printed) → Holds before seen → Holds after (seen_behind seen fs) × ((numbers : List ℕ) × ((new ≡ old ++ numbers) × AreRepeats seen fs numbers))

-- they are found where that is asked
abbrev pub AreEqualIf : Bool → List (List ℕ) → List RoundedMap → Option (Vec EqualFeatures Global) → Type 0
AreEqualIf asked ns ms None = asked ≡ false
AreEqualIf asked ns ms (Some es) = (asked ≡ true) × AreEqual [] ns ms es.items
