-- Faults of builds and of merges, as refusals.
use Rattle.std.proofs.Common.{◌≡◌, ℕ, List, [], ◌∷◌, length, map, refl, ◌∙◌, sym, ap, subst}
use Rattle.std.specs.List.{range_with_len}
use Rattle.std.specs.Borrow.{Bor}
use Rattle.outputs.specs.BuiltText.Maps.{borrowed_texts}
use Rattle.outputs.specs.BuiltText.Sources.{IsRefusal}
use Rattle.outputs.specs.declared.built_text.building.BuildFault.{BuildFault}
use Rattle.outputs.specs.declared.built_text.building.BuildFault.TheVariants as build
use Rattle.grid.specs.Place.{Transform}
use Rattle.merging.specs.Merge.{IsMergeFault}
use Rattle.merging.specs.declared.fault.MergeFault.{MergeFault}
use Rattle.merging.specs.declared.fault.MergeFault.TheVariants as merge
use Rattle.c_calls.specs.Why.{IsBadSource, IsBuildRefusal, IsMergeRefusal, of_build, of_merge}
use Rattle.c_calls.specs.declared.refusal.CallRefusal.{CallRefusal}
use Rattle.c_calls.specs.declared.refusal.CallRefusal.TheVariants.{BadGrid, BadName, BadChoice, NoId, Text, OtherGrid, NoText, BadPlan, NoLayer, OutOfMemory}

pub of_merge_refused : (texts : List (List ℕ)) (e : MergeFault) → IsMergeFault texts (range_with_len 0 (length texts)) e → IsMergeRefusal texts (of_merge e)
of_merge_refused texts (merge.BadPlan k) is = is
of_merge_refused texts (merge.Text place f) is = is
of_merge_refused texts (merge.OtherGrid place) is = is
of_merge_refused texts merge.OutOfMemory is = tt

texts_of : (texts : List (Bor (List ℕ) × Bor (List ℕ))) → map (λ s. s.1) (borrowed_texts texts) ≡ map (λ s. s.1.now) texts
texts_of [] = refl
texts_of (s ∷ texts) = ap (λ r. s.1.now ∷ r) (texts_of texts)

pub of_build_refused : (t : Transform) (sources : List (List ℕ × List ℕ)) (texts : List (Bor (List ℕ) × Bor (List ℕ))) → borrowed_texts texts ≡ sources → (e : BuildFault) → IsRefusal t (map (λ s. s.1.now) texts) e → IsBuildRefusal t sources (of_build e)
of_build_refused t sources texts same (build.Text place f) is =
    subst (λ (all : List (List ℕ)). IsRefusal t all (build.Text place f)) (sym (texts_of texts) ∙ ap (map (λ s. s.1)) same) is
of_build_refused t sources texts same build.OutOfMemory is = tt

pub bad_source_refused : (t : Transform) (sources : List (List ℕ × List ℕ)) (r : CallRefusal) → IsBadSource sources r → IsBuildRefusal t sources r
bad_source_refused t sources BadGrid h = absurd h
bad_source_refused t sources (BadName p) h = h
bad_source_refused t sources BadChoice h = absurd h
bad_source_refused t sources NoId h = absurd h
bad_source_refused t sources (Text p f) h = absurd h
bad_source_refused t sources (OtherGrid p) h = absurd h
bad_source_refused t sources NoText h = absurd h
bad_source_refused t sources (BadPlan k) h = absurd h
bad_source_refused t sources NoLayer h = absurd h
bad_source_refused t sources OutOfMemory h = tt
