-- What the options of a rounding stand for.
use Rattle.std.specs.Prelude.{◌≡◌, ◌&&◌, ◌<◌, ◌^◌, ◌-◌, ◌/◌, ℕ, Bool, true, List, [], ◌∷◌, codes, map, min, nat_eq, nat_le, nat_lt, option_map, pos, if◌then◌else◌}
use Rattle.fast_float.specs.Text.{scan, tens_down}
use Rattle.attributes.specs.declared.rules.Reals.{Reals}
use Rattle.attributes.specs.declared.rules.Reals.TheVariants as reals
use Rattle.attributes.specs.declared.rules.Scale.{Scale}
use Rattle.decimal_maps.specs.declared.rules.DecimalGrid.{DecimalGrid}
use Rattle.fixing.specs.declared.rules.Collapsed.{Collapsed}
use Rattle.fixing.specs.declared.rules.Collapsed.TheVariants as collapsed
use Rattle.fixing.specs.declared.rules.FixingRules.{FixingRules}
use Rattle.fixing.specs.declared.rules.Rewind.{Rewind}
use Rattle.fixing.specs.declared.rules.Rewind.TheVariants as rewind
use Rattle.grid.specs.Place.{IsScale}
use Rattle.numerals.specs.Numeral.{IsMeasure, IsOver, IsUnsigned, measure_of}
use Rattle.rounded_maps.specs.Written.{of_units}
use Rattle.rounded_maps.specs.declared.building.BuildRules.{BuildRules}
use Rattle.c_calls.specs.Options.{name_if}
use Rattle.noshinka.specs.declared.round_options.PropertyScale.{PropertyScale}
use Rattle.noshinka.specs.declared.round_options.RoundOptions.{RoundOptions}

-- each scale has 12 zeros at most
abbrev pub are_powers : List PropertyScale → Bool
are_powers [] = true
are_powers (s ∷ ss) = nat_le s.zeros 12 && are_powers ss

-- the numbers that say how texts are read stand for choices
abbrev pub are_sources_chosen : RoundOptions → Bool
are_sources_chosen o = ((((nat_lt o.scope 2 && nat_lt o.ids 2) && nat_lt o.reals 3) && nat_lt o.number 2) && nat_lt o.sequences 2) && nat_lt o.renames 2

-- the numbers that say what is fixed stand for choices
abbrev pub are_fixes_chosen : RoundOptions → Bool
are_fixes_chosen o = ((((nat_lt o.unclosed 2 && nat_lt o.heights 2) && nat_lt o.folded 2) && nat_lt o.collections 2) && nat_lt o.collapsed 3) && nat_lt o.rewind 3

-- the options have the size of these, and each number stands for a choice
abbrev pub are_options : RoundOptions → Bool
are_options o =
    (((((nat_eq o.size 152 && nat_le o.snap 10) && nat_lt o.format 2) && nat_lt o.report 2) && are_sources_chosen o) && are_fixes_chosen o) && are_powers o.scales.now

-- what becomes of a feature without a shape
abbrev pub collapsed_of : ℕ → Collapsed
collapsed_of n = if nat_eq n 0 then collapsed.Null else (if nat_eq n 1 then collapsed.Drop else collapsed.Refuse)

-- how rings are turned
abbrev pub rewind_of : ℕ → Rewind
rewind_of n = if nat_eq n 0 then rewind.Keep else (if nat_eq n 1 then rewind.Rfc7946 else rewind.D3)

-- what becomes of numbers
abbrev pub reals_of : ℕ → Reals
reals_of n = if nat_eq n 0 then reals.Whole else (if nat_eq n 1 then reals.Text else reals.Refuse)

-- what is fixed
abbrev pub fixing_of : RoundOptions → FixingRules
fixing_of o = record {
  collapsed = collapsed_of o.collapsed;
  closes_rings = nat_eq o.unclosed 0;
  splits_folded = nat_eq o.folded 0;
  splits_collections = nat_eq o.collections 0;
  rewind = rewind_of o.rewind;
}

-- a numeral without a sign, whose digits are within a step's limits
abbrev pub IsSize : List ℕ → Type 0
IsSize numeral = IsUnsigned numeral × IsMeasure (measure_of numeral) × (tens_down (scan numeral) < 2 ^ 32)

-- no text stands for a millionth
abbrev pub numeral_of : List ℕ → List ℕ
numeral_of [] = codes "0.000001"
numeral_of (b ∷ bs) = b ∷ bs

-- a step is so many units, from 1 to 1,000,000
abbrev pub IsUnits : List ℕ → List ℕ → ℕ → Type 0
IsUnits step unit units = IsOver (measure_of (numeral_of step)) (measure_of (numeral_of unit)) units

-- both are numerals, and a step is a whole number of units that is a grid's scale
abbrev pub HaveUnits : List ℕ → List ℕ → Type 0
HaveUnits step unit = IsSize (numeral_of step) × IsSize (numeral_of unit) × ((units : ℕ) × (IsUnits step unit units × IsScale (pos units)))

-- how far numbers may be from 0, where no step is given so many steps, and never more than 2^53 - 1 units
abbrev pub greatest_of : List ℕ → ℕ → ℕ → ℕ
greatest_of [] degrees units = min degrees ((2 ^ 53 - 1) / units)
greatest_of (b ∷ bs) degrees units = min (2 ^ 40) ((2 ^ 53 - 1) / units)

-- the grid on which numbers are read
abbrev pub decimal_grid : RoundOptions → ℕ → DecimalGrid
decimal_grid o units = record {
  step = measure_of (numeral_of o.step.now);
  greatest_x = greatest_of o.step.now 180000000 units;
  greatest_y = greatest_of o.step.now 90000000 units;
  refuses_heights = nat_eq o.heights 1;
  measures = nat_eq o.report 1;
}

-- a property by its bytes, and its zeros
abbrev pub scale_of : PropertyScale → List ℕ × ℕ
scale_of s = (s.property.now, s.zeros)

-- the same of a rule
abbrev pub scale_pair : Scale → List ℕ × ℕ
scale_pair s = (s.property.now, s.places)

-- the rules that the options stand for
pub record AreRules (o : RoundOptions) (rules : BuildRules) : Type 0 where
  pub chosen : are_options o ≡ true
  pub step : IsSize (numeral_of o.step.now)
  pub unit : IsSize (numeral_of o.unit.now)
  pub units : ℕ
  pub over : IsUnits o.step.now o.unit.now units
  pub grid : rules.rounding.map.grid ≡ decimal_grid o units
  pub id : option_map (λ n. n.now) rules.rounding.map.attributes.id ≡ name_if (nat_eq o.ids 1) o.id.now
  pub scales : map scale_pair rules.rounding.map.attributes.scales.now ≡ map scale_of o.scales.now
  pub reals : rules.rounding.map.attributes.reals ≡ reals_of o.reals
  pub fixing : rules.rounding.fixing ≡ fixing_of o
  pub numbers : rules.rounding.numbers ≡ nat_eq o.number 1
  pub layer : option_map (λ n. n.now) rules.rounding.layer ≡ name_if (nat_eq o.scope 1) o.layer.now
  pub of_units : rules.grid ≡ of_units (pos units)
  pub joined : rules.join_distance ≡ o.snap
  pub counts : rules.counts ≡ nat_eq o.report 1
