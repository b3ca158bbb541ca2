-- Names of sources.
use Rattle.std.proofs.Common.{◌≡◌, ℕ, ◌<◌, List, length, map, get_or, ◌∙◌, ap}
use Rattle.std.specs.Option.{option_map}
use Rattle.std.specs.Prelude.{slice_get, Some}
use Rattle.std.proofs.lemmas.Option.{slice_get-map, slice_get-get_or}
use Rattle.c_calls.specs.Borrowed.{borrowed_sources}
use Rattle.c_calls.specs.Why.{IsBadName, IsBadSource}
use Rattle.c_calls.specs.declared.borrowed.SourceText.{SourceText}
use Rattle.c_calls.specs.declared.refusal.CallRefusal.{CallRefusal}
use Rattle.c_calls.specs.declared.refusal.CallRefusal.TheVariants.{BadGrid, BadName, BadChoice, NoId, Text, OtherGrid, NoText, BadPlan, NoLayer, OutOfMemory}

name_at : (sources : List SourceText) (i : ℕ) (d : SourceText) → i < length sources → slice_get (map (λ s. s.0) (borrowed_sources sources)) i ≡ Some (get_or sources i d).layer.now
name_at sources i d below =
    slice_get-map (λ s. s.0) (borrowed_sources sources) i
    ∙ ap (option_map (λ s. s.0)) (slice_get-map (λ (s : SourceText). (s.layer.now, s.text.now)) sources i ∙ ap (option_map (λ (s : SourceText). (s.layer.now, s.text.now))) (slice_get-get_or sources i d below))

-- the name of the source at a place is not UTF-8
pub bad_source : (sources : List SourceText) (i : ℕ) (d : SourceText) → i < length sources → (place : ℕ) → place ≡ i → (r : CallRefusal) → IsBadName place (get_or sources i d).layer.now r → IsBadSource (borrowed_sources sources) r
bad_source sources i d below place at (BadName p) h = ((get_or sources i d).layer.now, ap (slice_get (map (λ s. s.0) (borrowed_sources sources))) (h.0 ∙ at) ∙ name_at sources i d below, h.1)
bad_source sources i d below place at OutOfMemory h = tt
bad_source sources i d below place at BadGrid h = absurd h
bad_source sources i d below place at BadChoice h = absurd h
bad_source sources i d below place at NoId h = absurd h
bad_source sources i d below place at (Text p f) h = absurd h
bad_source sources i d below place at (OtherGrid p) h = absurd h
bad_source sources i d below place at NoText h = absurd h
bad_source sources i d below place at (BadPlan k) h = absurd h
bad_source sources i d below place at NoLayer h = absurd h
