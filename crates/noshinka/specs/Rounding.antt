-- What noshinka_round answers, and why it answers nothing.
use Rattle.std.specs.Prelude.{◌≡◌, ◌⊎◌, ℕ, Bool, true, false, List, ◌++◌, map, nat_eq, option_map, pos, slice_get, IsUtf8, Some}
use Rattle.numerals.specs.Numeral.{measure_of}
use Rattle.rounded_maps.specs.Built.{AreMaps, IsBuilt, IsReport}
use Rattle.rounded_maps.specs.Files.{File, file_of}
use Rattle.rounded_maps.specs.Refusals.{IsMapsRefusal}
use Rattle.rounded_maps.specs.Unjoined.{AreUnjoinedTexts}
use Rattle.rounded_maps.specs.Written.{map_text, of_units}
use Rattle.rounded_maps.specs.declared.building.BuildRules.{BuildRules}
use Rattle.rounded_maps.specs.declared.building.MapsFault.{MapsFault}
use Rattle.rounded_maps.specs.declared.building.Rounded.{Rounded}
use Rattle.rounded_maps.specs.declared.map.RoundedFeature.{RoundedFeature}
use Rattle.rounded_maps.specs.declared.map.RoundedMap.{RoundedMap}
use Rattle.theory.specs.Lists.{gathered}
use Rattle.topo.specs.OfMap.{seen_parts}
use Rattle.topo.specs.Parts.{TopologyParts}
use Rattle.topo_io.specs.TopologyText.{topology_text}
use Rattle.c_calls.specs.Options.{name_if}
use Rattle.report_texts.specs.ReportText.{report_if}
use Rattle.noshinka.specs.RoundOptions.{AreRules, HaveUnits, IsSize, IsUnits, are_options, numeral_of, scale_of, scale_pair}
use Rattle.c_calls.specs.Why.{HasBadName, HasBadScope, of_maps}
use Rattle.c_calls.specs.declared.refusal.CallRefusal.{CallRefusal}
use Rattle.c_calls.specs.declared.refusal.CallRefusal.TheVariants.{BadGrid, BadName, BadChoice, OutOfMemory}
use Rattle.noshinka.specs.declared.round_options.PropertyScale.{PropertyScale}
use Rattle.noshinka.specs.declared.round_options.RoundOptions.{RoundOptions}
use Rattle.noshinka.specs.declared.rules.RuleNames.{RuleNames}
use Rattle.noshinka.specs.declared.rules.Units.{Units}

-- the step of the one numeral, so many units of the other, and the grid of that scale
pub record AreUnits (one other : List ℕ) (u : Units) : Type 0 where
  pub step_size : IsSize (numeral_of one)
  pub unit_size : IsSize (numeral_of other)
  pub step : u.step ≡ measure_of (numeral_of one)
  pub over : IsUnits one other u.units
  pub grid : u.grid ≡ of_units (pos u.units)

-- the names of the options
pub record AreNames (o : RoundOptions) (names : RuleNames) : Type 0 where
  pub id : option_map (λ n. n.now) names.id ≡ name_if (nat_eq o.ids 1) o.id.now
  pub layer : option_map (λ n. n.now) names.layer ≡ name_if (nat_eq o.scope 1) o.layer.now
  pub scales : map scale_pair names.scales.items ≡ map scale_of o.scales.now

-- a property is not UTF-8
abbrev pub HasBadProperty : List PropertyScale → Type 0
HasBadProperty scales = (i : ℕ) × ((s : PropertyScale) × ((slice_get scales i ≡ Some s) × (¬ IsUtf8 s.property.now)))

-- a property is not UTF-8, or memory was refused
abbrev pub IsScaleRefusal : List PropertyScale → CallRefusal → Type 0
IsScaleRefusal scales r = (r ≡ OutOfMemory) ⊎ ((r ≡ BadName 0) × HasBadProperty scales)

-- a name of the options is not UTF-8
abbrev pub HaveBadName : RoundOptions → Type 0
HaveBadName o = HasBadScope (name_if (nat_eq o.ids 1) o.id.now) ⊎ (HasBadScope (name_if (nat_eq o.scope 1) o.layer.now) ⊎ HasBadProperty o.scales.now)

-- a name of the options is not UTF-8, or memory was refused
abbrev pub IsNamesRefusal : RoundOptions → CallRefusal → Type 0
IsNamesRefusal o r = (r ≡ OutOfMemory) ⊎ ((r ≡ BadName 0) × HaveBadName o)

-- the files of texts, each a sequence of texts or one, whose names count for the only object of a topology or not
abbrev pub files_as : RoundOptions → List (List ℕ × List ℕ) → List File
files_as o sources = map (λ s. file_of (nat_eq o.sequences 1) (nat_eq o.renames 1) s.1) sources

-- the names of texts
abbrev pub names_in : List (List ℕ × List ℕ) → List (List ℕ)
names_in sources = map (λ s. s.0) sources

-- the features of maps, one behind another
abbrev pub features_in : List RoundedMap → List RoundedFeature
features_in ms = gathered (λ m. m.features.items) ms

-- t is the canonical text of the topology of files, and this became of them
pub record IsTopologyAnswer (rules : BuildRules) (names : List (List ℕ)) (files : List File) (rounded : Rounded) (t : List ℕ) : Type 0 where
  pub topology : TopologyParts
  pub built : IsBuilt rules names files rounded topology
  pub is : t ≡ topology_text (seen_parts topology)

-- t is the text of all features of files as a FeatureCollection, and this became of them
pub record IsFeaturesAnswer (rules : BuildRules) (names : List (List ℕ)) (files : List File) (rounded : Rounded) (t : List ℕ) : Type 0 where
  pub maps : List RoundedMap
  pub of_files : AreMaps rules files rounded maps
  pub report : IsReport rules names maps rounded
  pub is : t ≡ map_text rules.grid (features_in maps)

-- the one or the other
abbrev pub IsBody : Bool → BuildRules → List (List ℕ) → List File → Rounded → List ℕ → Type 0
IsBody true rules names files rounded t = IsFeaturesAnswer rules names files rounded t
IsBody false rules names files rounded t = IsTopologyAnswer rules names files rounded t

-- what is made of files: the report, if it is asked for, and then the topology or the features
pub record IsMade (is_geojson reports : Bool) (rules : BuildRules) (names : List (List ℕ)) (files : List File) (t : List ℕ) : Type 0 where
  pub rounded : Rounded
  pub body : List ℕ
  pub made : IsBody is_geojson rules names files rounded body
  pub is : t ≡ report_if reports rounded ++ body

-- what is made of texts, each with its name, by the rules that the options stand for
pub record IsRoundAnswer (o : RoundOptions) (sources : List (List ℕ × List ℕ)) (t : List ℕ) : Type 0 where
  pub rules : BuildRules
  pub are : AreRules o rules
  pub made : IsMade (nat_eq o.format 1) (nat_eq o.report 1) rules (names_in sources) (files_as o sources) t

-- the files are refused, or memory was
abbrev pub IsFilesRefusal : BuildRules → List File → CallRefusal → Type 0
IsFilesRefusal rules files r =
    (r ≡ OutOfMemory) ⊎ ((e : MapsFault) × ((r ≡ of_maps e) × (IsMapsRefusal rules.rounding 0 files e ⊎ AreUnjoinedTexts rules files e)))

-- the name of a source is not UTF-8, or the files are refused
abbrev pub IsSourcesRefusal : RoundOptions → BuildRules → List (List ℕ × List ℕ) → CallRefusal → Type 0
IsSourcesRefusal o rules sources r =
    ((place : ℕ) × ((r ≡ BadName place) × HasBadName (names_in sources) place)) ⊎ IsFilesRefusal rules (files_as o sources) r

-- first the options, then the names, then the texts
abbrev pub IsRoundRefusal : RoundOptions → List (List ℕ × List ℕ) → CallRefusal → Type 0
IsRoundRefusal o sources r =
    ((r ≡ BadChoice) × (are_options o ≡ false))
    ⊎ (((r ≡ BadGrid) × (¬ HaveUnits o.step.now o.unit.now)) ⊎ (IsNamesRefusal o r ⊎ ((rules : BuildRules) × (AreRules o rules × IsSourcesRefusal o rules sources r))))
