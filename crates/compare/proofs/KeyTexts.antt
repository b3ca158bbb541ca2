-- The keys that the values of a property are.
use Rattle.std.proofs.Common.{◌≡◌, ℕ, suc, List, [], ◌∷◌, ◌++◌, length, drop, refl, sym, ap, ◌∙◌, subst}
use Rattle.shapes.specs.declared.shape.Id.{Id}
use Rattle.topo.specs.declared.geom.Geom.{Geom}
use Rattle.compare.specs.Keyed.{AreKeys}

none_behind : (gs : List Geom) → drop (length gs) gs ≡ []
none_behind [] = refl
none_behind (g ∷ gs) = none_behind gs

with_none : (ks : List Id) → ks ++ [] ≡ ks
with_none [] = refl
with_none (k ∷ ks) = ap (λ w. k ∷ w) (with_none ks)

pub all_keys : (name : List ℕ) (gs : List Geom) (i : ℕ) (made : List Id) → i ≡ length gs → ((rest : List Id) → AreKeys name (drop i gs) rest → AreKeys name gs (made ++ rest)) → AreKeys name gs made
all_keys name gs i made e goes =
    subst (AreKeys name gs) (with_none made) (goes [] (subst (λ l. AreKeys name l []) (sym (ap (λ n. drop n gs) e ∙ none_behind gs)) tt))

pub as_many : (name : List ℕ) (gs : List Geom) (ks : List Id) → AreKeys name gs ks → length ks ≡ length gs
as_many name [] [] k = refl
as_many name [] (x ∷ ks) k = absurd k
as_many name (g ∷ gs) [] k = absurd k
as_many name (g ∷ gs) (x ∷ ks) k = ap (λ n. suc n) (as_many name gs ks k.1)
