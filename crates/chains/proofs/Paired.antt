-- What stands at a place of the second of two lists that are alike pair by pair.
use Rattle.std.proofs.Common.{◌≡◌, ℕ, zero, suc, List, [], ◌∷◌, Some, slice_get, refl, subst}
use Rattle.theory.specs.ArcNumbers.{ArcRef}
use Rattle.theory.specs.Lists.{Pairwise}

pub paired : {A : Type 0} (R : A → List ArcRef → Type 0) (xs : List A) (ys : List (List ArcRef)) → Pairwise R xs ys →
    (i : ℕ) (x : A) → slice_get xs i ≡ Some x → (y : List ArcRef) × (slice_get ys i ≡ Some y) × R x y
paired R [] ys p i x e = absurd cc
paired R (z ∷ xs) [] p i x e = absurd p
paired R (z ∷ xs) (y ∷ ys) p zero x e = let k : Some z ≡ Some x = e in (y, refl, subst (λ w. R w y) (let m : z ≡ x = cc in m) p.0)
paired R (z ∷ xs) (y ∷ ys) p (suc i) x e = paired R xs ys p.1 i x e
