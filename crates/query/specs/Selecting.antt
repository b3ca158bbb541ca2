-- Which arcs a filter selects. Says is what the filter may answer of two features.
use Rattle.std.specs.Prelude.{◌≡◌, ◌<◌, ◌⊎◌, ℕ, Bool, true, false, List, Option, Some, None, IfSome, slice_get, length}
use Rattle.std.specs.BTreeMap.{BTreeMap, get}
use Rattle.shapes.specs.declared.feature.Feature.{Feature}
use Rattle.theory.specs.Lists.{Has}
use Rattle.query.specs.Spans.{span_cmp}
use Rattle.query.specs.declared.members.Member.{Member}
use Rattle.query.specs.declared.spans.Span.{Span}

-- the question may be asked about any two of the features, and about one with itself
abbrev pub MayAskAmong : (Feature → Feature → Type 0) → List Member → Type 0
MayAskAmong May ms = (p q : Member) → Has p ms → Has q ms → May p.feature q.feature

-- b is the answer of the features at the indexes of the span
abbrev pub Answered : (Feature → Feature → Bool → Type 0) → List Member → Span → Bool → Type 0
Answered Says ms s b = (p q : Member) → slice_get ms s.least ≡ Some p → slice_get ms s.greatest ≡ Some q → Says p.feature q.feature b

-- and no is the answer where there is no span
abbrev pub Decided : (Feature → Feature → Bool → Type 0) → List Member → Option Span → Bool → Type 0
Decided Says ms None b = b ≡ false
Decided Says ms (Some s) b = Answered Says ms s b

-- each of the known answers is one
abbrev pub Known : (Feature → Feature → Bool → Type 0) → List Member → BTreeMap Span Bool → Type 0
Known Says ms known = (s : Span) → IfSome (get span_cmp known s) (λ b. Answered Says ms s b)

-- of the arcs below n those are chosen of whose span the answer was yes; of the span of each other it was no
pub record ChosenBelow (Says : Feature → Feature → Bool → Type 0) (ms : List Member) (spans : List (Option Span)) (n : ℕ) (chosen : List ℕ) : Type 0 where
  pub only : (k : ℕ) → Has k chosen → (s : Span) × (slice_get spans k ≡ Some (Some s)) × Answered Says ms s true
  pub all : (k : ℕ) (s : Span) → k < n → slice_get spans k ≡ Some (Some s) → Has k chosen ⊎ Answered Says ms s false

-- and so of all arcs
abbrev pub AreChosen : (Feature → Feature → Bool → Type 0) → List Member → List (Option Span) → List ℕ → Type 0
AreChosen Says ms spans chosen = ChosenBelow Says ms spans (length spans) chosen
