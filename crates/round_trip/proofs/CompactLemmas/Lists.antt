-- Lists and pairs that are written have no fault, and mean what was written.
use Rattle.std.proofs.Common.{◌≡◌, ℕ, suc, ◌+◌, ℤ, List, [], ◌∷◌, ◌++◌, map, refl, ap, ap₂, ◌∙◌, inl, inr}
use Rattle.serde_json.specs.Data.{Data}
use Rattle.serde_json.specs.View.{items_of}
use Rattle.faults.specs.Path.{index}
use Rattle.faults.specs.Fault.{Pair}
use Rattle.theory.specs.Lists.{Has}
use Rattle.reading.specs.Fault.{under, unless_faulty}
use Rattle.reading.specs.Numbers.{element_faults}
use Rattle.reading.specs.Parts.{list_of, each_faults, list_faults, pair_faults, elements}
use Rattle.shapes.specs.Ids.{IsI64}
use Rattle.round_trip.specs.Compact.Values.{integer, list_data, pair_data}
use Rattle.round_trip.specs.Compact.Good.{Good}
use Rattle.round_trip.proofs.CompactLemmas.GoodParts.{AllGood, Good-number, Good-array}
use Rattle.round_trip.proofs.CompactLemmas.Numbers.{Fits-IsI64, element_faultless}

pub list_of-items_of : (ds : List Data) → list_of (items_of ds) ≡ ds
list_of-items_of [] = refl
list_of-items_of (d ∷ ds) = ap (λ es. d ∷ es) (list_of-items_of ds)

module _ {T : Type 0} (data_of : T → Data) where
  each_faultless : (of : Data → List Pair) (i : ℕ) (xs : List T) → ((x : T) → Has x xs → of (data_of x) ≡ []) → each_faults of i (map data_of xs) ≡ []
  each_faultless of i [] h = refl
  each_faultless of i (x ∷ xs) h = ap₂ (λ (a b : List Pair). under (index i) a ++ b) (h x (inl refl)) (each_faultless of (i + 1) xs (λ y k. h y (inr k)))

  pub list_faultless : (of : Data → List Pair) (xs : List T) → ((x : T) → Has x xs → of (data_of x) ≡ []) → list_faults of (list_data data_of xs) ≡ []
  list_faultless of xs h = ap (each_faults of 0) (list_of-items_of (map data_of xs)) ∙ each_faultless of 0 xs h

  pub map_back : {U : Type 0} (of : Data → U) (to : T → U) (xs : List T) → ((x : T) → Has x xs → of (data_of x) ≡ to x) → map of (map data_of xs) ≡ map to xs
  map_back of to [] h = refl
  map_back of to (x ∷ xs) h = ap₂ (λ a b. a ∷ b) (h x (inl refl)) (map_back of to xs (λ y k. h y (inr k)))

  pub elements_are : (xs : List T) → elements (list_data data_of xs) ≡ map data_of xs
  elements_are xs = list_of-items_of (map data_of xs)

  pub elements_mean : {U : Type 0} (of : Data → U) (to : T → U) (xs : List T) → ((x : T) → Has x xs → of (data_of x) ≡ to x) → map of (elements (list_data data_of xs)) ≡ map to xs
  elements_mean of to xs h = ap (map of) (elements_are xs) ∙ map_back of to xs h

  all_good : (n : ℕ) (xs : List T) → ((x : T) → Has x xs → Good n (data_of x)) → AllGood n (map data_of xs)
  all_good n [] h = tt
  all_good n (x ∷ xs) h = (h x (inl refl), all_good n xs (λ y k. h y (inr k)))

  pub Good-list : (n : ℕ) (xs : List T) → ((x : T) → Has x xs → Good n (data_of x)) → Good (suc n) (list_data data_of xs)
  Good-list n xs h = Good-array n (map data_of xs) (all_good n xs h)

pub map-same : {T : Type 0} (xs : List T) → map (λ x. x) xs ≡ xs
map-same [] = refl
map-same (x ∷ xs) = ap (λ l. x ∷ l) (map-same xs)

pub unless_none : (ps qs : List Pair) → ps ≡ [] → qs ≡ [] → unless_faulty ps qs ≡ []
unless_none ps qs e f = ap (λ rs. unless_faulty rs qs) e ∙ f

-- ---- pairs of numbers

pub pair_faultless : (first second : ℤ → List Pair) (x y : ℤ) → IsI64 x → IsI64 y → first x ≡ [] → second y ≡ [] → pair_faults (element_faults first) (element_faults second) (pair_data x y) ≡ []
pair_faultless first second x y i j e f = ap₂ (λ (a b : List Pair). under (index 0) a ++ under (index 1) b) (element_faultless first x i e) (element_faultless second y j f)

pub Good-pair : (x y : ℤ) → IsI64 x → IsI64 y → Good 1 (pair_data x y)
Good-pair x y i j = Good-array 0 (integer x ∷ integer y ∷ []) (Good-number 0 x (Fits-IsI64 x i), (Good-number 0 y (Fits-IsI64 y j), tt))
