-- What snapping keeps.
use Rattle.std.specs.Prelude.{◌≡◌, ◌↔◌, ◌*◌, ◌≤◌, ℤ, pos, ◌-ℤ◌, ◌*ℤ◌, ◌≤ℤ◌, List, ℕ, Bool, unsigned_abs}
use Rattle.json.specs.Print.{IsNumber}
use Rattle.numerals.specs.Distance.{distance_of}
use Rattle.numerals.specs.Whole.{IsWhole}
use Rattle.numerals.specs.Numeral.{Measure, IsMeasure, IsNumeral, IsSnapped, IsAtMost, AreEqual, dividend, divisor}

-- numerals that are worth the same have one position, however they are written
abbrev pub EqualNumeralsSnapAlike : Type 0
EqualNumeralsSnapAlike = (s : Measure) (a b : List ℕ) (p : ℤ) → IsMeasure s → AreEqual a b → IsSnapped s a p → IsSnapped s b p

-- positions are in the order of the numerals, so the least position is that of the least numeral
abbrev pub OrderIsKept : Type 0
OrderIsKept = (s : Measure) (a b : List ℕ) (p q : ℤ) → IsMeasure s → IsAtMost a b → IsSnapped s a p → IsSnapped s b q → p ≤ℤ q

-- a numeral that is worth a whole number of steps has that position
abbrev pub GridStays : Type 0
GridStays = (s : Measure) (a : List ℕ) (p : ℤ) → dividend s a ≡ p *ℤ pos (divisor s a) → IsSnapped s a p

-- a numeral is at most so many ten-thousandths of a step away from p steps
abbrev pub IsWithin : Measure → List ℕ → ℤ → ℕ → Type 0
IsWithin s text p far = 10000 * unsigned_abs (dividend s text -ℤ (p *ℤ pos (divisor s text))) ≤ far * divisor s text

-- the distance is the least number of ten-thousandths within which a numeral is from any whole number of steps, and it is
-- within that from its position
abbrev pub DistanceIsLeast : Type 0
DistanceIsLeast = (s : Measure) (text : List ℕ) (p : ℤ) → IsMeasure s
    → (IsSnapped s text p → IsWithin s text p (distance_of s text)) × ((far : ℕ) → IsWithin s text p far → distance_of s text ≤ far)

-- a numeral is not away from the grid exactly where it is worth a whole number of steps
abbrev pub OnTheGridIsNotMoved : Type 0
OnTheGridIsNotMoved = (s : Measure) (text : List ℕ) → IsMeasure s → (distance_of s text ≡ 0) ↔ ((k : ℕ) × (unsigned_abs (dividend s text) ≡ k * divisor s text))

-- each number of JSON (RFC 8259, section 6) is a numeral
abbrev pub NumbersAreNumerals : Type 0
NumbersAreNumerals = (text : List ℕ) → IsNumber text → IsNumeral text

-- numerals that are worth the same are the same whole number, or none
abbrev pub EqualNumeralsAreWholeAlike : Type 0
EqualNumeralsAreWholeAlike = (a b : List ℕ) (negative : Bool) (size : ℕ) → IsNumeral b → AreEqual a b → IsWhole a negative size → IsWhole b negative size
