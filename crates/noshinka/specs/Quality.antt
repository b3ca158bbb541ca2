-- What noshinka_quality answers, and why it answers nothing.
use Rattle.std.specs.Prelude.{◌≡◌, ◌⊎◌, ◌&&◌, ℕ, Bool, true, false, List, None, Option, Some, nat_eq, nat_le, nat_lt, if◌then◌else◌}
use Rattle.report_texts.specs.QualityText.{IsQualityText}
use Rattle.report_texts.specs.declared.quality_text.QualityTests.{QualityTests}
use Rattle.topo.specs.Parts.{TopologyParts}
use Rattle.topo_io.specs.Means.{MeansTopology}
use Rattle.noshinka.specs.Answers.{IsCanonical, IsNotCanonical}
use Rattle.c_calls.specs.Ends.{Says}
use Rattle.c_calls.specs.Why.{IsTextRefusal}
use Rattle.noshinka.specs.declared.map_quality.QualityOptions.{QualityOptions}
use Rattle.c_calls.specs.declared.refusal.CallRefusal.{CallRefusal}
use Rattle.c_calls.specs.declared.refusal.CallRefusal.TheVariants.{BadChoice, OutOfMemory}

-- the options have the size of these, and each number is within its limits
abbrev pub are_quality_options : QualityOptions → Bool
are_quality_options o = (nat_eq o.size 24 && nat_lt o.ids 2) && nat_le o.near 100

-- how many steps vertices are apart at most, where that is asked
abbrev pub steps_of : ℕ → Option ℕ
steps_of n = if nat_eq n 0 then None else Some n

-- what the options ask for
abbrev pub tests_of : QualityOptions → QualityTests
tests_of o = record { ids = nat_eq o.ids 1; near = steps_of o.near; listed = o.listed }

-- the options are choices, the text is accepted, and t says whether it is canonical, and what the tests find in its topology
pub record IsQualityAnswer (o : QualityOptions) (text t : List ℕ) : Type 0 where
  pub chosen : are_quality_options o ≡ true
  pub topology : TopologyParts
  pub means : MeansTopology text topology
  pub canonical : Bool
  pub told : Says (IsCanonical text) (IsNotCanonical text) canonical
  pub is : IsQualityText (tests_of o) canonical topology t

-- first the options, then the text; or memory was refused
abbrev pub IsQualityRefusal : QualityOptions → List ℕ → CallRefusal → Type 0
IsQualityRefusal o text r = ((r ≡ BadChoice) × (are_quality_options o ≡ false)) ⊎ (IsTextRefusal 0 text r ⊎ (r ≡ OutOfMemory))
