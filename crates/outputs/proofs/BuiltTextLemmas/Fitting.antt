-- The map of texts that are accepted fits their grid.
use Rattle.std.proofs.Common.{◌≡◌, ℕ, List, [], ◌∷◌, Bool, true, false, cond, map, refl, ap}
use Rattle.std.specs.List.{AllByRecursion}
use Rattle.std.specs.Str.{bytes_eq}
use Rattle.std.proofs.lemmas.List.Elements.{All-head, All-tail}
use Rattle.grid.specs.Place.{Transform}
use Rattle.shapes.specs.Fitting.{MapFits}
use Rattle.shapes.specs.Maps.{Layers}
use Rattle.reading.specs.Fitting.{PlainFits}
use Rattle.reading.specs.Plain.{Plain}
use Rattle.reading.proofs.Fits.{all_append}
use Rattle.reading.proofs.Plains.{layers_fit}
use Rattle.geojson_io.specs.Features.{faults_of_text, features_of_text}
use Rattle.geojson_io.proofs.Fitting.{text_fits}
use Rattle.outputs.specs.BuiltText.Maps.{features_under, layers_of_texts, IsMapOfTexts}
use Rattle.outputs.specs.BuiltText.Sources.{AreAccepted}

module _ (t : Transform) where
  one_fits : (b : Bool) (bytes : List ℕ) → faults_of_text t bytes ≡ [] → AllByRecursion (PlainFits t) (cond b (features_of_text t bytes) [])
  one_fits true bytes ok = text_fits t bytes ok
  one_fits false bytes ok = tt

  under_fits : (n : List ℕ) (texts : List (List ℕ × List ℕ)) → AreAccepted t (map (λ s. s.1) texts) → AllByRecursion (PlainFits t) (features_under t n texts)
  under_fits n [] ok = tt
  under_fits n (s ∷ texts) ok =
      all_append (PlainFits t) (cond (bytes_eq n s.0) (features_of_text t s.1) []) (features_under t n texts)
      (one_fits (bytes_eq n s.0) s.1 (All-head (λ bytes. faults_of_text t bytes ≡ []) s.1 (map (λ x. x.1) texts) ok))
      (under_fits n texts (All-tail (λ bytes. faults_of_text t bytes ≡ []) s.1 (map (λ x. x.1) texts) ok))

  abbrev LayerFits : List ℕ × List Plain → Type 0
  LayerFits l = AllByRecursion (PlainFits t) l.1

  abbrev layer_of_text : List (List ℕ × List ℕ) → List ℕ × List ℕ → List ℕ × List Plain
  layer_of_text all s = (s.0, features_under t s.0 all)

  layers_of_texts_fit : (all texts : List (List ℕ × List ℕ)) → AreAccepted t (map (λ s. s.1) all) → AllByRecursion LayerFits (map (layer_of_text all) texts)
  layers_of_texts_fit all [] ok = tt
  layers_of_texts_fit all (s ∷ texts) ok = (under_fits s.0 all ok, layers_of_texts_fit all texts ok)

  pub map_of_texts_fits : (texts : List (List ℕ × List ℕ)) (m : Layers) → AreAccepted t (map (λ s. s.1) texts) → IsMapOfTexts t texts m → MapFits t m
  map_of_texts_fits texts m ok is = layers_fit t m (layers_of_texts t texts) is.layers (layers_of_texts_fit texts texts ok)

pub same_texts : {N T : Type 0} (name : N → List ℕ) (bytes : T → List ℕ) (texts : List (N × T)) → map (λ (s : N × T). bytes s.1) texts ≡ map (λ (p : List ℕ × List ℕ). p.1) (map (λ (s : N × T). (name s.0, bytes s.1)) texts)
same_texts name bytes [] = refl
same_texts name bytes (s ∷ texts) = ap (λ ts. bytes s.1 ∷ ts) (same_texts name bytes texts)
