-- A numeral with its point moved, rounded down.
use Rattle.std.specs.Prelude.{◌≡◌, ◌≤◌, ◌⊎◌, ℕ, ◌+◌, ◌-◌, ◌*◌, ◌^◌, List, ◌++◌, length, take}
use Rattle.std.specs.Str.Parse.{digits_value}
use Rattle.fast_float.specs.Text.{Parts, tens_up, tens_down}

-- the first so many digits, with zeros where there are fewer
abbrev pub first_digits : List ℕ → ℕ → ℕ
first_digits ds kept = digits_value 10 (take kept ds) * 10 ^ (kept - length ds)

-- how many digits are before the point, once it is moved by the exponent and so many places
abbrev pub kept_of : ℕ → Parts → ℕ
kept_of places p = length (p.whole ++ p.fraction) + (tens_up p + places) - tens_down p

-- so many digits are kept, or both that many and these are all digits with thirty zeros or more
pub record IsKept (places : ℕ) (p : Parts) (kept : ℕ) : Type 0 where
  pub same : (kept ≡ kept_of places p) ⊎ ((length (p.whole ++ p.fraction) + 30 ≤ kept) × (length (p.whole ++ p.fraction) + 30 ≤ kept_of places p))

-- a numeral without its sign, its point moved by so many places, rounded down
abbrev pub floor_of : ℕ → Parts → ℕ
floor_of places p = first_digits (p.whole ++ p.fraction) (kept_of places p)
