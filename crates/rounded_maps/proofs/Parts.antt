-- Parts of a sequence, cut one after the other.
use Rattle.std.proofs.Common.{◌≡◌, ℕ, zero, suc, ◌+◌, ◌<◌, ◌==◌, List, [], ◌∷◌, Option, Some, None, true, false, length, take, drop, slice_index, refl, ap, arith}
use Rattle.std.specs.List.{onto_first}
use Rattle.rounded_maps.specs.Sequences.{parts_of}

-- the first part ends before the first separator
pub cut_at : (c : ℕ) (bs : List ℕ) (i j : ℕ) → j ≡ i + 1 → i < length bs → ((k : ℕ) → k < i → (slice_index bs k == c) ≡ false) → (slice_index bs i == c) ≡ true
    → parts_of c bs ≡ take i bs ∷ parts_of c (drop j bs)
cut_at c [] i j is less none found = absurd (omega (arith, less))
cut_at c (b ∷ bs) zero j is less none found = rw (is, found) refl
cut_at c (b ∷ bs) (suc i) zero is less none found = absurd (omega (arith, is))
cut_at c (b ∷ bs) (suc i) (suc j) is less none found =
    let first : (b == c) ≡ false = none 0 (omega arith) in
    rw first (ap (onto_first b) (cut_at c bs i j (omega (arith, is)) (omega (arith, less)) (λ k below. none (suc k) (omega (arith, below))) found))

pub cut_none : (c : ℕ) (bs : List ℕ) → ((k : ℕ) → k < length bs → (slice_index bs k == c) ≡ false) → parts_of c bs ≡ bs ∷ []
cut_none c [] none = refl
cut_none c (b ∷ bs) none =
    let first : (b == c) ≡ false = none 0 (omega arith) in
    rw first (ap (onto_first b) (cut_none c bs (λ k below. none (suc k) (omega (arith, below)))))

-- how much is left of a sequence
abbrev pub left_over : Option (List ℕ) → ℕ
left_over None = 0
left_over (Some bs) = length bs + 1
