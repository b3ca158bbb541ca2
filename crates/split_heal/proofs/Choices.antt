-- The numbers of the marks that are set: each once, and no others.
use Rattle.std.proofs.Common.{◌≡◌, ◌↔◌, ◌≤◌, ◌+◌, ℕ, zero, suc, Bool, true, false, List, [], ◌∷◌, inl, inr, refl, subst, arith, Some, slice_get}
use Rattle.theory.specs.Lists.{Distinct, Has}
use Rattle.split_heal.specs.Choosing.{kept_numbers}

-- none is less than the first
above : (i : ℕ) (bs : List Bool) (k : ℕ) → Has k (kept_numbers i bs) → i ≤ k
above i [] k h = absurd h
above i (true ∷ bs) k (inl e) = omega (arith, e)
above i (true ∷ bs) k (inr h) = let r = above (i + 1) bs k h in omega (arith, r)
above i (false ∷ bs) k h = let r = above (i + 1) bs k h in omega (arith, r)

pub numbers_once : (i : ℕ) (bs : List Bool) → Distinct (kept_numbers i bs)
numbers_once i [] = tt
numbers_once i (true ∷ bs) = ((λ h. let r = above (i + 1) bs i h in omega (arith, r)), numbers_once (i + 1) bs)
numbers_once i (false ∷ bs) = numbers_once (i + 1) bs

there : (i : ℕ) (bs : List Bool) (k : ℕ) → slice_get bs k ≡ Some true → Has (k + i) (kept_numbers i bs)
there i [] k e = absurd cc
there i (true ∷ bs) zero e = inl (omega arith)
there i (false ∷ bs) zero e = let f : Some false ≡ Some true = e in absurd cc
there i (true ∷ bs) (suc k) e = inr (subst (λ n. Has n (kept_numbers (i + 1) bs)) (omega arith) (there (i + 1) bs k e))
there i (false ∷ bs) (suc k) e = subst (λ n. Has n (kept_numbers (i + 1) bs)) (omega arith) (there (i + 1) bs k e)

from : (i : ℕ) (bs : List Bool) (n : ℕ) → Has n (kept_numbers i bs) → (k : ℕ) × (n ≡ k + i) × (slice_get bs k ≡ Some true)
from i [] n h = absurd h
from i (true ∷ bs) n (inl e) = (zero, omega (arith, e), refl)
from i (true ∷ bs) n (inr h) = let t = from (i + 1) bs n h in (suc t.0, (let e : n ≡ t.0 + (i + 1) = t.1 in omega (arith, e)), t.2)
from i (false ∷ bs) n h = let t = from (i + 1) bs n h in (suc t.0, (let e : n ≡ t.0 + (i + 1) = t.1 in omega (arith, e)), t.2)

pub numbers_are : (bs : List Bool) (k : ℕ) → Has k (kept_numbers 0 bs) ↔ (slice_get bs k ≡ Some true)
numbers_are bs k = (
  (λ h. let t = from 0 bs k h in let e : t.0 ≡ k = (let f : k ≡ t.0 + 0 = t.1 in omega (arith, f)) in subst (λ n. slice_get bs n ≡ Some true) e t.2),
  (λ e. subst (λ n. Has n (kept_numbers 0 bs)) (omega arith) (there 0 bs k e)),
)
