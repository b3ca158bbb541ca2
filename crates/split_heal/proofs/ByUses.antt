-- The steps by which something is noted of a used arc.
use Rattle.std.proofs.Common.{◌≡◌, ℕ, Bool, true, false, cond, refl, ap, Option, Some}
use Rattle.std.specs.Cmp.{nat_cmp_total, tied_itself}
use Rattle.std.specs.FinMap.{nat_cmp-IsAntisymmetric}
use Rattle.std.specs.Ordering.{is_eq, nat_cmp}
use Rattle.std.specs.declared.cmp.Ordering.{Ordering}
use Rattle.std.specs.declared.cmp.Ordering.TheVariants.{Less, Equal, Greater}
use Rattle.theory.specs.ArcNumbers.{ArcRef}
use Rattle.split_heal.specs.ArcUseMap.{same_way, with_recorded}

tied : (a b : ℕ) → is_eq (nat_cmp a b) ≡ true → a ≡ b
tied a b = go (nat_cmp a b) refl
  where
    go : (r : Ordering) → nat_cmp a b ≡ r → is_eq r ≡ true → a ≡ b
    go Less e h = absurd cc
    go Equal e h = nat_cmp-IsAntisymmetric a b e
    go Greater e h = absurd cc

-- ways that are the same are one
pub one_way : (s t : Bool) → same_way s t ≡ true → s ≡ t
one_way true true e = refl
one_way true false e = absurd cc
one_way false true e = absurd cc
one_way false false e = refl

-- each way is the same as itself
pub own_way : (s : Bool) → same_way s s ≡ true
own_way true = refl
own_way false = refl

pub same_use : (a q : ArcRef) → same_way a.reversed q.reversed ≡ true → is_eq (nat_cmp a.arc q.arc) ≡ true → a ≡ q
same_use a q e f = λ i. record { arc = tied a.arc q.arc f i; reversed = one_way a.reversed q.reversed e i }

same_number : (k : ℕ) → is_eq (nat_cmp k k) ≡ true
same_number k = ap is_eq (tied_itself nat_cmp_total k)

module _ {T : Type 0} where
  -- what is noted of a, and of others
  pub recorded_here : (a : ArcRef) (v : T) (s : ArcRef → Option T) → with_recorded a v s a ≡ Some v
  recorded_here a v s = rw (own_way a.reversed, same_number a.arc) refl

  pub recorded_other : (a : ArcRef) (v : T) (s : ArcRef → Option T) (q : ArcRef) → ¬ (a ≡ q) → with_recorded a v s q ≡ s q
  recorded_other a v s q n = go (same_way a.reversed q.reversed) refl (is_eq (nat_cmp a.arc q.arc)) refl
    where
      go : (b : Bool) → same_way a.reversed q.reversed ≡ b → (c : Bool) → is_eq (nat_cmp a.arc q.arc) ≡ c → cond b (cond c (Some v) (s q)) (s q) ≡ s q
      go true f true g = absurd (n (same_use a q f g))
      go true f false g = refl
      go false f c g = refl
