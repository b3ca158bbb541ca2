-- Where in a text its errors are.
use Rattle.std.specs.Prelude.{ℕ, ◌≤◌, All, List}

-- none of the offsets is above n
abbrev pub AreUpTo : ℕ → List ℕ → Type 0
AreUpTo n = All (λ o. o ≤ n)
