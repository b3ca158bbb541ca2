-- The transform of a topology [TopoJSON, 2.1.2; limits own].
use Rattle.std.specs.Prelude.{ℕ, List, [], ◌++◌, Bool, ◌&&◌, nat_lt, ◌^◌, Option, None, option_map, option_and_then, unwrap_or, codes, unsigned_abs, if◌then◌else◌}
use Rattle.json.specs.Json.{Json, Items, no_items, item}
use Rattle.json.specs.Find.{get, as_array, as_number, as_object}
use Rattle.faults.specs.Path.{name, index}
use Rattle.faults.specs.Fault.{Pair}
use Rattle.faults.specs.declared.fault.FaultKind.TheVariants.{NotTwo, OutOfRange}
use Rattle.numerals.specs.Axis.{axis_of, common_numerator, places_of}
use Rattle.numerals.specs.Whole.{is_numeral}
use Rattle.reading.specs.Fault.{here, under, unless_faulty}
use Rattle.decimal_faults.specs.Parts.{array_faults, member_faults, numeral_faults, object_faults, option_faults}
use Rattle.decimal_maps.specs.declared.rules.DecimalGrid.{DecimalGrid}
use Rattle.decimal_arcs.specs.declared.place.NumeralTransform.{NumeralTransform}
use Rattle.decimal_arcs.specs.declared.place.Quantization.{Quantization}

-- ---- two numbers

-- a number
abbrev pub number_faults : Json → List Pair
number_faults j = numeral_faults (λ text. []) (as_number j)

-- `NotTwo` where there are fewer or more than two
abbrev pub two_faults : Items → List Pair
two_faults no_items = here NotTwo
two_faults (item x no_items) = here NotTwo
two_faults (item x (item y no_items)) = under (index 0) (number_faults x) ++ under (index 1) (number_faults y)
two_faults (item x (item y (item z js))) = here NotTwo

-- an array of two numbers
abbrev pub pair_faults : Json → List Pair
pair_faults j = array_faults two_faults (as_array j)

-- the numerals of an array's first two numbers, one text for each axis
abbrev pub texts_in : Items → Option (List ℕ × List ℕ)
texts_in no_items = None
texts_in (item x no_items) = None
texts_in (item x (item y js)) = option_and_then (λ a. option_map (λ b. (a, b)) (as_number y)) (as_number x)

abbrev pub no_texts : List ℕ × List ℕ
no_texts = ([], [])

-- the numerals of a member that is an array of numbers
abbrev pub texts_of : List ℕ → Json → List ℕ × List ℕ
texts_of n j = unwrap_or (option_and_then texts_in (option_and_then as_array (get n j))) no_texts

-- ---- the limits

-- whether a numeral has at most 25 digits over the power of ten that it and another have in common [own]
abbrev pub is_fit : List ℕ → List ℕ → Bool
is_fit text other = is_numeral text && nat_lt (places_of text) (2 ^ 32) && nat_lt (unsigned_abs (common_numerator text other)) (10 ^ 25)

-- the fault of a number that, written over one power of ten with the other, has too many digits
abbrev pub fit_faults : List ℕ → List ℕ → List Pair
fit_faults text other = if is_fit text other then [] else here OutOfRange

-- the numbers of a member, each with the other of its axis
abbrev pub fits_faults : List ℕ × List ℕ → List ℕ × List ℕ → List Pair
fits_faults texts others = under (index 0) (fit_faults texts.0 others.0) ++ under (index 1) (fit_faults texts.1 others.1)

-- the numbers of a scale and a translation
abbrev pub limit_faults : List ℕ × List ℕ → List ℕ × List ℕ → List Pair
limit_faults scale translate = under (name (codes "scale")) (fits_faults scale translate) ++ under (name (codes "translate")) (fits_faults translate scale)

-- ---- the transform

-- a scale and a translation, two numbers each
abbrev pub members_faults : Json → List Pair
members_faults j = member_faults (codes "scale") pair_faults j ++ member_faults (codes "translate") pair_faults j

-- two numbers each, and then within their limits
abbrev pub numbers_faults : Json → List Pair
numbers_faults j = unless_faulty (members_faults j) (limit_faults (texts_of (codes "scale") j) (texts_of (codes "translate") j))

-- the faults of a transform
abbrev pub faults_of : Json → List Pair
faults_of j = object_faults (numbers_faults j) (as_object j)

-- the faults of a topology's transform, which may be missing [TopoJSON, 2.1.2]
abbrev pub transform_faults : Json → List Pair
transform_faults root = option_faults (codes "transform") faults_of root

-- the axes of a scale and a translation
abbrev pub transform_by : List ℕ × List ℕ → List ℕ × List ℕ → NumeralTransform
transform_by scale translate = record { x = axis_of scale.0 translate.0; y = axis_of scale.1 translate.1 }

-- the transform of a topology that has one
abbrev pub transform_of : Json → NumeralTransform
transform_of j = transform_by (texts_of (codes "scale") j) (texts_of (codes "translate") j)

-- a grid, with the topology's transform where it has one [TopoJSON, 2.1.2]
abbrev pub quantization_of : DecimalGrid → Json → Quantization
quantization_of grid root = record { grid = grid; transform = option_map transform_of (get (codes "transform") root) }
