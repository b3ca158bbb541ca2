-- The bits that positions set in words.
use Rattle.std.specs.Prelude.{◌≡◌, ℕ, ◌+◌, ◌*◌, ◌/◌, ◌%◌, ◌^◌, Bool, true, List, bit_and, bit_or, nat_eq, Option, Some, None, slice_get}
use Rattle.std.specs.Int.{cast_unsigned}
use Rattle.grid.specs.declared.pos.Pos.{Pos}
use Rattle.lines.specs.declared.position_filter.PositionFilter.{PositionFilter}
use mir.Syntax.{w64}

-- a number for a position
abbrev pub hash : Pos → ℕ
hash p = (((cast_unsigned w64 p.x * 11400714819323198485) % 2 ^ 64) + ((cast_unsigned w64 p.y * 14029467366897019727) % 2 ^ 64)) % 2 ^ 64

-- the place of a position, of so many
abbrev pub index_among : ℕ → Pos → ℕ
index_among count p = (((hash p / 2 ^ 32) * count) % 2 ^ 64) / 2 ^ 32

-- one bit of a word
abbrev pub bit : ℕ → ℕ
bit n = 1 * 2 ^ (n % 64) % 2 ^ 64

-- the bits of a position
abbrev pub mask_of : Pos → ℕ
mask_of p = bit_or (bit_or (bit (hash p / 2 ^ 14)) (bit (hash p / 2 ^ 20))) (bit (hash p / 2 ^ 26))

-- whether the word, where there is one, has the bits
abbrev pub mask_in : Option ℕ → ℕ → Bool
mask_in None mask = true
mask_in (Some word) mask = nat_eq (bit_and word mask) mask

-- whether the word of a number has the bits
abbrev pub mask_at : List ℕ → ℕ → ℕ → Bool
mask_at words at mask = mask_in (slice_get words at) mask

-- the bits are set in a word, and what was set stays so
abbrev pub AreSet : ℕ → ℕ → List ℕ → List ℕ → Type 0
AreSet at mask old new = ((n m : ℕ) → mask_at old n m ≡ true → mask_at new n m ≡ true) × (mask_at new at mask ≡ true)

-- whether the bits of a position are set
abbrev pub may_hold : PositionFilter → Pos → Bool
may_hold s p = mask_at s.words.items (index_among s.count p) (mask_of p)
