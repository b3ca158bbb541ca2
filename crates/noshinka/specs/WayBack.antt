-- What noshinka_back answers, and why it answers nothing.
use Rattle.std.specs.Prelude.{◌≡◌, ◌<◌, ◌≤◌, ◌⊎◌, ◌-◌, ℕ, false, List, [], ◌∷◌, IfSome, codes}
use Rattle.decimals.specs.Topology.BoxTransform.{IsBoxTransform, box_transform, corners_or_zero}
use Rattle.decimals.specs.Topology.DecimalTransform.{DecimalTransformParts}
use Rattle.decimals.specs.Topology.TopologyText.{quantized_text, unit_text}
use Rattle.decimals.specs.Topology.TransformFaults.{IsTransformFault, IsTransformOf, text_numerals}
use Rattle.decimals.specs.declared.topology.rules.BackRules.{BackRules}
use Rattle.decimals.specs.declared.topology.transform_fault.TransformFault.{TransformFault}
use Rattle.decimals.specs.declared.topology.transform_fault.TransformFault.TheVariants as faulty
use Rattle.faults.specs.Fault.{Pair, pair_of}
use Rattle.faults.specs.Path.{Turn, name}
use Rattle.faults.specs.declared.fault.Fault.{Fault}
use Rattle.faults.specs.declared.fault.FaultKind.{FaultKind}
use Rattle.faults.specs.declared.fault.FaultKind.TheVariants as kinds
use Rattle.numerals.specs.Numeral.{Measure, measure_of}
use Rattle.rounded_maps.specs.Sequences.{without_mark}
use Rattle.topo.specs.Parts.{TopologyParts}
use Rattle.topo_io.specs.Means.{MeansTopology}
use Rattle.noshinka.specs.BackOptions.{AreBackRules, IsBackNamesRefusal, are_back_options}
use Rattle.noshinka.specs.RoundOptions.{IsSize, numeral_of}
use Rattle.c_calls.specs.Why.{IsTextRefusal}
use Rattle.noshinka.specs.declared.back_options.WayBackOptions.{WayBackOptions}
use Rattle.c_calls.specs.declared.refusal.CallRefusal.{CallRefusal}
use Rattle.c_calls.specs.declared.refusal.CallRefusal.TheVariants.{BadChoice, BadGrid, OutOfMemory, Text}

-- a fault at a path
abbrev pub fault_at : List Turn → FaultKind → Pair
fault_at path k = record { path = path; kind = k }

-- why a text gives no transform, as a fault of it
abbrev pub like_fault : TransformFault → Pair
like_fault faulty.NotJson = fault_at [] kinds.NotJson
like_fault faulty.NotTopology = fault_at (name (codes "type") ∷ []) kinds.UnknownType
like_fault faulty.NoTransform = fault_at (name (codes "transform") ∷ []) kinds.NoTransform
like_fault faulty.NotTwoNumbers = fault_at (name (codes "transform") ∷ []) kinds.NotTwo
like_fault faulty.ZeroScale = fault_at (name (codes "transform") ∷ []) kinds.OutOfRange
like_fault faulty.TooManyDigits = fault_at (name (codes "transform") ∷ []) kinds.OutOfRange
like_fault faulty.OutOfMemory = fault_at [] kinds.OutOfMemory

-- the text is accepted, and t is the text of its topology in the unit
pub record IsOwnText (u : Measure) (rules : BackRules) (text t : List ℕ) : Type 0 where
  pub topology : TopologyParts
  pub means : MeansTopology text topology
  pub within : u.places ≤ 30
  pub is : t ≡ unit_text u rules topology

-- the text is accepted, and t is the text of its topology on another transform, which `Is` tells
pub record IsTextOn (Is : TopologyParts → DecimalTransformParts → Type 0) (rules : BackRules) (text t : List ℕ) : Type 0 where
  pub topology : TopologyParts
  pub means : MeansTopology text topology
  pub transform : DecimalTransformParts
  pub other : Is topology transform
  pub within : IfSome topology.bbox (λ _. transform.unit.places ≤ 30)
  pub is : t ≡ quantized_text transform rules topology

-- the transform is that of another text
abbrev pub IsLike : Measure → List ℕ → TopologyParts → DecimalTransformParts → Type 0
IsLike u like t d = IsTransformOf u (text_numerals like) d

-- the transform has so many steps along each side of the bounding box
abbrev pub IsOfBox : Measure → ℕ → TopologyParts → DecimalTransformParts → Type 0
IsOfBox u steps t d = IsBoxTransform u steps (corners_or_zero t.bbox) × (d ≡ box_transform u steps t.bbox)

-- the one that the options ask for
abbrev pub IsBackText : WayBackOptions → Measure → BackRules → List ℕ → List ℕ → Type 0
IsBackText o u rules text t =
    ((o.transform ≡ 0) × IsOwnText u rules text t)
    ⊎ (((o.transform ≡ 1) × IsTextOn (IsLike u (without_mark o.like.now)) rules text t) ⊎ ((2 ≤ o.transform) × IsTextOn (IsOfBox u (o.count - 1)) rules text t))

-- what an absolute 1 is worth
abbrev pub unit_of : WayBackOptions → Measure
unit_of o = measure_of (numeral_of o.unit.now)

-- the text of the topology of a text in the unit of the map, by the rules that the options stand for
pub record IsBackAnswer (o : WayBackOptions) (text t : List ℕ) : Type 0 where
  pub unit : IsSize (numeral_of o.unit.now)
  pub rules : BackRules
  pub are : AreBackRules o rules
  pub made : IsBackText o (unit_of o) rules (without_mark text) t

-- the other text gives no transform, or memory was refused
abbrev pub IsLikeRefusal : Measure → List ℕ → CallRefusal → Type 0
IsLikeRefusal u like r = (r ≡ OutOfMemory) ⊎ ((f : Fault) × ((r ≡ Text 1 f) × ((e : TransformFault) × (IsTransformFault u (text_numerals like) e × (pair_of f ≡ like_fault e)))))

-- the text is refused, the unit has too many digits, or memory was refused
abbrev pub IsOwnRefusal : Measure → List ℕ → CallRefusal → Type 0
IsOwnRefusal u text r = IsTextRefusal 0 text r ⊎ ((r ≡ OutOfMemory) ⊎ ((r ≡ BadGrid) × (30 < u.places)))

-- the one or the other
abbrev pub IsLikeTextRefusal : Measure → List ℕ → List ℕ → CallRefusal → Type 0
IsLikeTextRefusal u like text r = IsLikeRefusal u like r ⊎ IsOwnRefusal u text r

-- the text is refused, the unit has too many digits for it or for a transform of so many steps, or memory was refused
abbrev pub IsBoxRefusal : Measure → ℕ → List ℕ → CallRefusal → Type 0
IsBoxRefusal u steps text r = IsOwnRefusal u text r ⊎ ((t : TopologyParts) × (MeansTopology text t × ((r ≡ BadGrid) × (¬ IsBoxTransform u steps (corners_or_zero t.bbox)))))

-- why there is no text as the options ask for it
abbrev pub IsBackTextRefusal : WayBackOptions → Measure → List ℕ → CallRefusal → Type 0
IsBackTextRefusal o u text r =
    ((o.transform ≡ 0) × IsOwnRefusal u text r)
    ⊎ (((o.transform ≡ 1) × IsLikeTextRefusal u (without_mark o.like.now) text r) ⊎ ((2 ≤ o.transform) × IsBoxRefusal u (o.count - 1) text r))

-- first the options, then the texts
abbrev pub IsBackRefusal : WayBackOptions → List ℕ → CallRefusal → Type 0
IsBackRefusal o text r =
    ((r ≡ BadChoice) × (are_back_options o ≡ false))
    ⊎ (((r ≡ BadGrid) × (¬ IsSize (numeral_of o.unit.now))) ⊎ (IsBackNamesRefusal o r ⊎ IsBackTextRefusal o (unit_of o) (without_mark text) r))
