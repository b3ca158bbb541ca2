-- Absolute numbers in the unit of the map.
use Rattle.std.specs.Prelude.{ℕ, ℤ, List}
use Rattle.numerals.specs.Amount.{amount_text, steps_amount}
use Rattle.numerals.specs.Numeral.{Measure}

-- an absolute number times what an absolute 1 is worth, as it is printed [TopoJSON, 2.1.2]
abbrev pub absolute_text : Measure → ℤ → List ℕ
absolute_text unit number = amount_text (steps_amount unit number)
