-- The features under the name of an entry of a map.
use Rattle.std.proofs.Common.{◌≡◌, ℕ, Bool, true, false, cond, ◌&&◌, T, List, [], ◌∷◌, inl, inr, sym, ap, ◌∙◌, subst, Some}
use Rattle.std.specs.Prelude.{unwrap_or}
use Rattle.std.specs.Cmp.{IsTotalOrder, tied_itself}
use Rattle.std.specs.Cmp.Lexicographic.{slice_cmp, nat_list_cmp_total}
use Rattle.std.specs.Ordering.{is_eq, is_lt, nat_cmp, eq_by_cmp, ordering_reverse}
use Rattle.std.specs.declared.cmp.Ordering.{Ordering}
use Rattle.std.specs.declared.cmp.Ordering.TheVariants.{Less, Equal, Greater}
use Rattle.std.specs.FinMap as map
use Rattle.theory.specs.Lists.{Has}
use Rattle.shapes.specs.Maps.{Layers, Features, features_at}
use Rattle.shapes.specs.Sets as set

pub left : (a b : Bool) → T (a && b) → T a
left true b h = tt
left false b h = absurd h

pub right : (a b : Bool) → T (a && b) → T b
right true b h = h
right false b h = absurd h

pub apart : {K : Type 0} (R : K → K → Ordering) (o : IsTotalOrder R) (k q : K) → T (is_lt (R k q)) → eq_by_cmp R q k ≡ false
apart R o k q h = go (R k q) (R q k) h (o.antisymm q k)
  where
    go : (r s : Ordering) → T (is_lt r) → s ≡ ordering_reverse r → is_eq s ≡ false
    go Less s h e = ap is_eq e
    go Equal s h e = absurd h
    go Greater s h e = absurd h

-- the value that stands at each key of a sorted list of entries
module _ {K X : Type 0} (R : K → K → Ordering) (o : IsTotalOrder R) where
  pub above : (k : K) (es : List (K × X)) (e : K × X) → T (map.Entries.below_all R k es) → Has e es → T (is_lt (R k e.0))
  above k [] e b h = absurd h
  above k (d ∷ es) e b (inl p) = subst (λ w. T (is_lt (R k w.0))) (sym p) (left (is_lt (R k d.0)) (map.Entries.below_all R k es) b)
  above k (d ∷ es) e b (inr h) = above k es e (right (is_lt (R k d.0)) (map.Entries.below_all R k es) b) h

  pub found : (es : List (K × X)) → T (map.is_sorted R es) → (e : K × X) → Has e es → map.find R e.0 es ≡ Some e.1
  found [] s e h = absurd h
  found (d ∷ es) s e (inl p) =
      subst (λ w. map.find R w.0 (d ∷ es) ≡ Some w.1) (sym p)
      (ap (λ b. cond b (Some d.1) (map.find R d.0 es)) (ap is_eq (tied_itself o d.0)))
  found (d ∷ es) s e (inr h) =
      ap (λ b. cond b (Some d.1) (map.find R e.0 es)) (apart R o d.0 e.0 (above d.0 es e (left (map.Entries.below_all R d.0 es) (map.is_sorted R es) s) h))
      ∙ found es (right (map.Entries.below_all R d.0 es) (map.is_sorted R es) s) e h

-- the features under the name of an entry
pub at_entry : (m : Layers) (e : List ℕ × Features) → Has e (map.entries m) → features_at m e.0 ≡ e.1
at_entry m e h =
    ap (λ o. unwrap_or o set.empty)
    (map.get-entries m e.0 ∙ found (slice_cmp nat_cmp) nat_list_cmp_total (map.entries m) (map.entries_sorted m) e h)
