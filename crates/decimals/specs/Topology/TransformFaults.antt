-- The transform that a text has, or why it gives none [TopoJSON, 2.1 and 2.1.2].
use Rattle.std.specs.Prelude.{◌≡◌, ◌⊎◌, ℕ, pos, List, Option, Some, None, Result, Ok, Err, codes, option_and_then, if◌then◌else◌}
use Rattle.std.specs.Str.{bytes_eq, is_utf8}
use Rattle.json.specs.Json.{Json, document}
use Rattle.json.specs.Find.{as_number, as_str, at, get}
use Rattle.numerals.specs.Axis.{IsFit, axis_of}
use Rattle.numerals.specs.Numeral.{Measure}
use Rattle.decimals.specs.Topology.DecimalTransform.{DecimalTransformParts, written_axis, written_transform}
use Rattle.decimals.specs.Topology.QuantizedAxis.{IsQuantizedAxis}
use Rattle.decimals.specs.declared.topology.transform_fault.TransformFault.{TransformFault}
use Rattle.decimals.specs.declared.topology.transform_fault.TransformFault.TheVariants.{NotJson, NotTopology, NoTransform, NotTwoNumbers, ZeroScale, TooManyDigits, OutOfMemory}

-- two numerals
abbrev pub TwoNumerals : Type 0
TwoNumerals = List ℕ × List ℕ

abbrev pub both : Option (List ℕ) → Option (List ℕ) → Option TwoNumerals
both None b = None
both (Some a) None = None
both (Some a) (Some b) = Some (a, b)

abbrev pub unless_third : Option Json → Option TwoNumerals → Option TwoNumerals
unless_third (Some j) pair = None
unless_third None pair = pair

-- a list of two numbers, by their numerals
abbrev pub two_numerals : Json → Option TwoNumerals
two_numerals j = unless_third (at 2 j) (both (option_and_then as_number (at 0 j)) (option_and_then as_number (at 1 j)))

-- such a member
abbrev pub numerals_at : List ℕ → Json → Option TwoNumerals
numerals_at name j = option_and_then two_numerals (get name j)

-- the scales and the translations that a transform writes [TopoJSON, 2.1.2]
abbrev pub numerals_of : Option TwoNumerals → Option TwoNumerals → Result (TwoNumerals × TwoNumerals) TransformFault
numerals_of None translate = Err NotTwoNumbers
numerals_of (Some scale) None = Err NotTwoNumbers
numerals_of (Some scale) (Some translate) = Ok (scale, translate)

abbrev pub member_numerals : Option Json → Result (TwoNumerals × TwoNumerals) TransformFault
member_numerals None = Err NoTransform
member_numerals (Some j) = numerals_of (numerals_at (codes "scale") j) (numerals_at (codes "translate") j)

abbrev pub named_numerals : Json → Option (List ℕ) → Result (TwoNumerals × TwoNumerals) TransformFault
named_numerals j None = Err NotTopology
named_numerals j (Some name) = if bytes_eq name (codes "Topology") then member_numerals (get (codes "transform") j) else Err NotTopology

-- the scales and the translations of a topology's transform [TopoJSON, 2.1 and 2.1.2]
abbrev pub transform_numerals : Json → Result (TwoNumerals × TwoNumerals) TransformFault
transform_numerals j = named_numerals j (option_and_then as_str (get (codes "type") j))

abbrev pub document_numerals : Option Json → Result (TwoNumerals × TwoNumerals) TransformFault
document_numerals None = Err NotJson
document_numerals (Some j) = transform_numerals j

-- the same of a text [RFC 8259]
abbrev pub text_numerals : List ℕ → Result (TwoNumerals × TwoNumerals) TransformFault
text_numerals bytes = document_numerals (if is_utf8 bytes then document bytes else None)

-- the numerals of an axis have few digits, and its scale is not 0
pub record IsWrittenAxis (u : Measure) (scale translate : List ℕ) : Type 0 where
  pub scale_digits : IsFit scale translate
  pub translate_digits : IsFit translate scale
  pub limits : IsQuantizedAxis (written_axis u scale translate)

-- the transform of the numerals that were read, whose axes are within their limits
pub record IsTransformOf (u : Measure) (r : Result (TwoNumerals × TwoNumerals) TransformFault) (d : DecimalTransformParts) : Type 0 where
  pub numerals : TwoNumerals × TwoNumerals
  pub read : r ≡ Ok numerals
  pub x : IsWrittenAxis u numerals.0.0 numerals.1.0
  pub y : IsWrittenAxis u numerals.0.1 numerals.1.1
  pub is : d ≡ written_transform u numerals.0.0 numerals.0.1 numerals.1.0 numerals.1.1

-- why a scale and a translation make no axis
abbrev pub IsAxisFault : Measure → List ℕ → List ℕ → TransformFault → Type 0
IsAxisFault u scale translate ZeroScale = (axis_of scale translate).scale ≡ pos 0
IsAxisFault u scale translate TooManyDigits = ¬ (IsWrittenAxis u scale translate)
IsAxisFault u scale translate OutOfMemory = ⊥
IsAxisFault u scale translate NotJson = ⊥
IsAxisFault u scale translate NotTopology = ⊥
IsAxisFault u scale translate NoTransform = ⊥
IsAxisFault u scale translate NotTwoNumbers = ⊥

-- numerals that make no axis of x or no axis of y
pub record AreFaultyNumerals (u : Measure) (r : Result (TwoNumerals × TwoNumerals) TransformFault) (f : TransformFault) : Type 0 where
  pub numerals : TwoNumerals × TwoNumerals
  pub read : r ≡ Ok numerals
  pub fault : IsAxisFault u numerals.0.0 numerals.1.0 f ⊎ IsAxisFault u numerals.0.1 numerals.1.1 f

-- why there is no transform: no numerals were read, or they make no axes
abbrev pub IsTransformFault : Measure → Result (TwoNumerals × TwoNumerals) TransformFault → TransformFault → Type 0
IsTransformFault u r f = (r ≡ Err f) ⊎ AreFaultyNumerals u r f
