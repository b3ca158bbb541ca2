-- What the options of the way back stand for.
use Rattle.std.specs.Prelude.{◌≡◌, ◌≤◌, ◌⊎◌, ◌&&◌, ◌||◌, ◌^◌, ℕ, Bool, true, List, [], map, nat_eq, nat_le, nat_lt, if◌then◌else◌}
use Rattle.decimals.specs.declared.topology.rules.BackRules.{BackRules}
use Rattle.decimals.specs.declared.topology.rules.NumbersBack.{NumbersBack}
use Rattle.decimals.specs.declared.topology.rules.NumbersBack.TheVariants as numbers
use Rattle.noshinka.specs.RoundOptions.{are_powers, rewind_of, scale_of, scale_pair}
use Rattle.noshinka.specs.Rounding.{IsScaleRefusal}
use Rattle.c_calls.specs.Why.{HasBadName}
use Rattle.noshinka.specs.declared.back_options.BackNames.{BackNames}
use Rattle.noshinka.specs.declared.back_options.WayBackOptions.{WayBackOptions}
use Rattle.c_calls.specs.declared.refusal.CallRefusal.{CallRefusal}
use Rattle.c_calls.specs.declared.refusal.CallRefusal.TheVariants.{BadName, OutOfMemory}

-- a transform of numbers along each axis has 2 of them to 2^40
abbrev pub is_counted : WayBackOptions → Bool
is_counted o = nat_lt o.transform 2 || (nat_le 2 o.count && nat_le o.count (2 ^ 40))

-- the options have the size of these, and each number stands for a choice
abbrev pub are_back_options : WayBackOptions → Bool
are_back_options o = ((((nat_eq o.size 96 && nat_lt o.numbers 3) && nat_lt o.transform 3) && nat_lt o.rewind 3) && is_counted o) && are_powers o.scales.now

-- the properties of which decimal texts become numbers, where they are named
abbrev pub properties_of : WayBackOptions → List (List ℕ)
properties_of o = if nat_eq o.numbers 2 then map (λ p. p.now) o.properties.now else []

-- which decimal texts become numbers: none for 0, those of columns for 1, and else those of the names
abbrev pub IsNumbers : ℕ → List (List ℕ) → NumbersBack → Type 0
IsNumbers number names numbers.None = number ≡ 0
IsNumbers number names numbers.Columns = number ≡ 1
IsNumbers number names (numbers.Named ns) = (2 ≤ number) × (map (λ n. n.now) ns.now ≡ names)

-- the names of the options
pub record AreBackNames (o : WayBackOptions) (names : BackNames) : Type 0 where
  pub properties : map (λ n. n.now) names.properties.items ≡ properties_of o
  pub scales : map scale_pair names.scales.items ≡ map scale_of o.scales.now

-- the rules that the options stand for
pub record AreBackRules (o : WayBackOptions) (rules : BackRules) : Type 0 where
  pub chosen : are_back_options o ≡ true
  pub rewind : rules.rewind ≡ rewind_of o.rewind
  pub numbers : IsNumbers o.numbers (properties_of o) rules.numbers
  pub scales : map scale_pair rules.scales.now ≡ map scale_of o.scales.now

-- one of the properties is not UTF-8, or memory was refused
abbrev pub IsPropertyRefusal : List (List ℕ) → CallRefusal → Type 0
IsPropertyRefusal names r = (r ≡ OutOfMemory) ⊎ ((r ≡ BadName 0) × ((i : ℕ) × HasBadName names i))

-- a name of the options is not UTF-8, or memory was refused
abbrev pub IsBackNamesRefusal : WayBackOptions → CallRefusal → Type 0
IsBackNamesRefusal o r = IsPropertyRefusal (properties_of o) r ⊎ IsScaleRefusal o.scales.now r
