-- What is made of texts that are rounded, and why nothing is.
use Rattle.std.proofs.Common.{◌≡◌, ◌∙◌, ◌<◌, ◌++◌, ◌⊎◌, ℕ, Bool, true, false, List, ap, get_or, inl, inr, length, nat_eq, ne_eqb, refl, subst, sym}
use Rattle.std.proofs.lemmas.Option.{slice_get-get_or}
use Rattle.rounded_maps.specs.Built.{AreMaps, IsBuilt, IsReport}
use Rattle.rounded_maps.specs.Files.{File}
use Rattle.rounded_maps.specs.Refusals.{IsMapsRefusal}
use Rattle.rounded_maps.specs.Unjoined.{AreUnjoinedTexts}
use Rattle.rounded_maps.specs.Written.{map_text}
use Rattle.rounded_maps.specs.declared.building.BuildRules.{BuildRules}
use Rattle.rounded_maps.specs.declared.building.MapsFault.{MapsFault}
use Rattle.rounded_maps.specs.declared.building.Rounded.{Rounded}
use Rattle.rounded_maps.specs.declared.map.RoundedFeature.{RoundedFeature}
use Rattle.rounded_maps.specs.declared.map.RoundedMap.{RoundedMap}
use Rattle.topo.specs.OfMap.{seen_parts}
use Rattle.topo.specs.Parts.{TopologyParts}
use Rattle.topo_io.specs.TopologyText.{topology_text}
use Rattle.report_texts.specs.ReportText.{report_if}
use Rattle.noshinka.specs.RoundOptions.{AreRules, HaveUnits, are_options}
use Rattle.noshinka.specs.Rounding.{IsFilesRefusal, IsMade, IsNamesRefusal, IsRoundAnswer, IsRoundRefusal, IsScaleRefusal, IsSourcesRefusal, features_in, files_as, names_in}
use Rattle.c_calls.specs.Why.{IsBadName, IsBadNameIf, IsBadSource, of_maps}
use Rattle.c_calls.specs.declared.refusal.CallRefusal.{CallRefusal}
use Rattle.c_calls.specs.declared.refusal.CallRefusal.TheVariants.{BadGrid, BadName, BadChoice, NoId, Text, OtherGrid, NoText, BadPlan, NoLayer, OutOfMemory}
use Rattle.noshinka.specs.declared.round_options.PropertyScale.{PropertyScale}
use Rattle.noshinka.specs.declared.round_options.RoundOptions.{RoundOptions}

pub scales_memory : (scales : List PropertyScale) → IsScaleRefusal scales OutOfMemory
scales_memory scales = inl refl

-- the property of the scale at a place is not UTF-8
pub scale_refused : (scales : List PropertyScale) (i : ℕ) (d : PropertyScale) → i < length scales → (r : CallRefusal) → IsBadName 0 (get_or scales i d).property.now r → IsScaleRefusal scales r
scale_refused scales i d below (BadName p) h = inr (ap BadName h.0, (i, (get_or scales i d, (slice_get-get_or scales i d below, h.1))))
scale_refused scales i d below OutOfMemory h = inl refl
scale_refused scales i d below BadGrid h = absurd h
scale_refused scales i d below BadChoice h = absurd h
scale_refused scales i d below NoId h = absurd h
scale_refused scales i d below (Text p f) h = absurd h
scale_refused scales i d below (OtherGrid p) h = absurd h
scale_refused scales i d below NoText h = absurd h
scale_refused scales i d below (BadPlan k) h = absurd h
scale_refused scales i d below NoLayer h = absurd h

pub names_id : (o : RoundOptions) (r : CallRefusal) → IsBadNameIf (nat_eq o.ids 1) o.id.now r → IsNamesRefusal o r
names_id o r h = inr (h.0, inl h.1)

pub names_layer : (o : RoundOptions) (r : CallRefusal) → IsBadNameIf (nat_eq o.scope 1) o.layer.now r → IsNamesRefusal o r
names_layer o r h = inr (h.0, inr (inl h.1))

pub names_scales : (o : RoundOptions) (r : CallRefusal) → IsScaleRefusal o.scales.now r → IsNamesRefusal o r
names_scales o r (inl e) = inl e
names_scales o r (inr (e, h)) = inr (e, inr (inr h))

pub files_refused : (rules : BuildRules) (files : List File) (e : MapsFault) → IsMapsRefusal rules.rounding 0 files e ⊎ AreUnjoinedTexts rules files e → IsFilesRefusal rules files (of_maps e)
files_refused rules files e h = inr (e, (refl, h))

pub files_memory : (rules : BuildRules) (files : List File) → IsFilesRefusal rules files OutOfMemory
files_memory rules files = inl refl

pub features_made : (reports : Bool) (rules : BuildRules) (names : List (List ℕ)) (files : List File) (rounded : Rounded) (maps : List RoundedMap) (features : List RoundedFeature) (text : List ℕ) →
    AreMaps rules files rounded maps → IsReport rules names maps rounded → features ≡ features_in maps → text ≡ report_if reports rounded ++ map_text rules.grid features → IsMade true reports rules names files text
features_made reports rules names files rounded maps features text are report e written = record {
  rounded = rounded;
  body = map_text rules.grid (features_in maps);
  made = record { maps = maps; of_files = are; report = report; is = refl };
  is = written ∙ ap (λ f. report_if reports rounded ++ map_text rules.grid f) e;
}

pub topology_made : (reports : Bool) (rules : BuildRules) (names : List (List ℕ)) (files : List File) (rounded : Rounded) (topology : TopologyParts) (text : List ℕ) →
    IsBuilt rules names files rounded topology → text ≡ report_if reports rounded ++ topology_text (seen_parts topology) → IsMade false reports rules names files text
topology_made reports rules names files rounded topology text built written = record {
  rounded = rounded;
  body = topology_text (seen_parts topology);
  made = record { topology = topology; built = built; is = refl };
  is = written;
}

-- the same of the names and files of sources
pub sources_made : (o : RoundOptions) (rules : BuildRules) (sources : List (List ℕ × List ℕ)) {names : List (List ℕ)} {files : List File} (b reports : Bool) (text : List ℕ) →
    names ≡ names_in sources → files ≡ files_as o sources → IsMade b reports rules names files text → IsMade b reports rules (names_in sources) (files_as o sources) text
sources_made o rules sources {names} {files} b reports text e f made =
    subst (λ l. IsMade b reports rules (names_in sources) l text) f (subst (λ l. IsMade b reports rules l files text) e made)

pub sources_name : (o : RoundOptions) (rules : BuildRules) (sources : List (List ℕ × List ℕ)) (r : CallRefusal) → IsBadSource sources r → IsSourcesRefusal o rules sources r
sources_name o rules sources (BadName p) h = inl (p, (refl, h))
sources_name o rules sources OutOfMemory h = inr (inl refl)
sources_name o rules sources BadGrid h = absurd h
sources_name o rules sources BadChoice h = absurd h
sources_name o rules sources NoId h = absurd h
sources_name o rules sources (Text p f) h = absurd h
sources_name o rules sources (OtherGrid p) h = absurd h
sources_name o rules sources NoText h = absurd h
sources_name o rules sources (BadPlan k) h = absurd h
sources_name o rules sources NoLayer h = absurd h

pub sources_memory : (o : RoundOptions) (rules : BuildRules) (sources : List (List ℕ × List ℕ)) → IsSourcesRefusal o rules sources OutOfMemory
sources_memory o rules sources = inr (inl refl)

pub sources_files : (o : RoundOptions) (rules : BuildRules) (sources : List (List ℕ × List ℕ)) (files : List File) → files ≡ files_as o sources → (r : CallRefusal) → IsFilesRefusal rules files r → IsSourcesRefusal o rules sources r
sources_files o rules sources files e r h = inr (subst (λ l. IsFilesRefusal rules l r) e h)

pub round_choice : (o : RoundOptions) (sources : List (List ℕ × List ℕ)) → are_options o ≡ false → IsRoundRefusal o sources BadChoice
round_choice o sources h = inl (refl, h)

pub round_units : (o : RoundOptions) (sources : List (List ℕ × List ℕ)) → ¬ HaveUnits o.step.now o.unit.now → IsRoundRefusal o sources BadGrid
round_units o sources h = inr (inl (refl, h))

pub round_names : (o : RoundOptions) (sources : List (List ℕ × List ℕ)) (r : CallRefusal) → IsNamesRefusal o r → IsRoundRefusal o sources r
round_names o sources r h = inr (inr (inl h))

pub round_refused : (o : RoundOptions) (sources : List (List ℕ × List ℕ)) (rules : BuildRules) → AreRules o rules → (r : CallRefusal) → IsSourcesRefusal o rules sources r → IsRoundRefusal o sources r
round_refused o sources rules are r h = inr (inr (inr (rules, (are, h))))

pub round_answer : (o : RoundOptions) (sources : List (List ℕ × List ℕ)) (rules : BuildRules) (t : List ℕ) → AreRules o rules → IsMade (nat_eq o.format 1) (nat_eq o.report 1) rules (names_in sources) (files_as o sources) t → IsRoundAnswer o sources t
round_answer o sources rules t are made = record { rules = rules; are = are; made = made }

-- a number is not 1
pub not_one : (n : ℕ) → (n ≡ 1 → ⊥) → nat_eq n 1 ≡ false
not_one n h = ne_eqb n 1 h

-- what is made where the format is no GeoJSON
pub topology_asked : (o : RoundOptions) (rules : BuildRules) (names : List (List ℕ)) (files : List File) (text : List ℕ) → (o.format ≡ 1 → ⊥) → IsMade false (nat_eq o.report 1) rules names files text → IsMade (nat_eq o.format 1) (nat_eq o.report 1) rules names files text
topology_asked o rules names files text h made = subst (λ b. IsMade b (nat_eq o.report 1) rules names files text) (sym (not_one o.format h)) made
