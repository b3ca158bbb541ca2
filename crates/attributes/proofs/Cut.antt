-- Zeros and a point cut from the end of a text.
use Rattle.std.proofs.Common.{◌≡◌, ◌⊎◌, inl, inr, ℕ, zero, suc, ◌-◌, ◌<◌, List, length, get_or, refl, arith, ne_eqb}
use Rattle.std.proofs.Math.Dec.{eqb}
use Rattle.std.proofs.lemmas.Bool.{eqb-true, cases_Bool}
use Rattle.std.specs.Str.{IsCharBoundary}
use Rattle.attributes.specs.Numerals.{point_cut, zeros_cut}

pub cut_zero : (t : List ℕ) (k : ℕ) → 0 < k → get_or t (k - 1) 0 ≡ 48 → zeros_cut t k ≡ zeros_cut t (k - 1)
cut_zero t zero h e = absurd (omega (arith, h))
cut_zero t (suc n) h e =
    let same : suc n - 1 ≡ n = omega arith in
    let is : get_or t n 0 ≡ 48 = rw same at e in
    rw (same, is) refl

pub cut_other : (t : List ℕ) (k : ℕ) → (0 < k → get_or t (k - 1) 0 ≡ 48 → ⊥) → zeros_cut t k ≡ k
cut_other t zero h = refl
cut_other t (suc n) h =
    let same : suc n - 1 ≡ n = omega arith in
    let other : get_or t n 0 ≡ 48 → ⊥ = rw same at h (omega arith) in
    rw (ne_eqb (get_or t n 0) 48 other) refl

abbrev Ends : List ℕ → ℕ → ℕ → ℕ → Type 0
Ends t n k byte = (k ≡ n) ⊎ ((k < n) × (get_or t k 0 ≡ byte))

later : (t : List ℕ) (n k : ℕ) → get_or t n 0 ≡ 48 → Ends t n k 48 → Ends t (suc n) k 48
later t n k e (inl same) = inr (omega (arith, same), rw same e)
later t n k e (inr less) = inr (omega (arith, less.0), less.1)

zeros_ends : (t : List ℕ) (n : ℕ) → Ends t n (zeros_cut t n) 48
zeros_ends t zero = inl refl
zeros_ends t (suc n) =
    elim (cases_Bool (eqb (get_or t n 0) 48)) [
      | inl y ↦ rw y (later t n (zeros_cut t n) (eqb-true _ _ y) (zeros_ends t n))
      | inr f ↦ rw f (inl refl)
    ]

point_ends : (t : List ℕ) (n : ℕ) → Ends t n (point_cut t n) 46
point_ends t zero = inl refl
point_ends t (suc n) =
    elim (cases_Bool (eqb (get_or t n 0) 46)) [
      | inl y ↦ rw y (inr (omega arith, eqb-true _ _ y))
      | inr f ↦ rw f (inl refl)
    ]

ended : (t : List ℕ) (n z k : ℕ) → n ≡ length t → Ends t n z 48 → Ends t z k 46 → IsCharBoundary t k
ended t n z k whole (inl a) (inl b) = (omega (arith, whole, a, b), λ less big. absurd (omega (arith, whole, a, b, less)))
ended t n z k whole (inl a) (inr b) = (omega (arith, whole, a, b.0), λ less big. absurd (omega (arith, b.1, big)))
ended t n z k whole (inr a) (inl b) = (omega (arith, whole, a.0, b), λ less big. let is : get_or t k 0 ≡ 48 = rw b a.1 in absurd (omega (arith, is, big)))
ended t n z k whole (inr a) (inr b) = (omega (arith, whole, a.0, b.0), λ less big. absurd (omega (arith, b.1, big)))

-- what is left ends between two characters
pub boundary : (t : List ℕ) → IsCharBoundary t (point_cut t (zeros_cut t (length t)))
boundary t = ended t (length t) (zeros_cut t (length t)) _ refl (zeros_ends t (length t)) (point_ends t (zeros_cut t (length t)))
