-- Which features the set of a list has.
use Rattle.std.proofs.Common.{◌≡◌, ◌⊎◌, ◌↔◌, inl, inr, IsTrue, List, [], ◌∷◌, Bool, true, false, ◌||◌, refl, ◌∙◌, sym}
use Rattle.std.specs.Ordering.{eq_by_cmp}
use Rattle.std.specs.List.{list_any}
use Rattle.theory.specs.Lists.{Has}
use Rattle.shapes.specs.Sets as set
use Rattle.shapes.specs.SetLaws.{contains-from_list}
use Rattle.shapes.specs.Order.{feature_cmp}
use Rattle.shapes.specs.OrderLaws.{feature_cmp_total, feature_tied}
use Rattle.shapes.specs.declared.feature.Feature.{Feature}

pub either : (a b : Bool) → (a || b) ≡ true → (a ≡ true) ⊎ (b ≡ true)
either true b e = inl refl
either false b e = inr e

pub left_true : (a b : Bool) → a ≡ true → (a || b) ≡ true
left_true a b e = rw e refl

pub right_true : (a b : Bool) → b ≡ true → (a || b) ≡ true
right_true true b e = refl
right_true false b e = e

has_member : (q : Feature) (ks : List Feature) → list_any (eq_by_cmp feature_cmp q) ks ≡ true → Has q ks
has_member q [] e = cc
has_member q (k ∷ ks) e =
    elim (either (eq_by_cmp feature_cmp q k) (list_any (eq_by_cmp feature_cmp q) ks) e) [
      | inl h ↦ inl ((feature_tied q k).0 h)
      | inr h ↦ inr (has_member q ks h)
    ]

member_has : (q : Feature) (ks : List Feature) → Has q ks → list_any (eq_by_cmp feature_cmp q) ks ≡ true
member_has q [] h = absurd h
member_has q (k ∷ ks) (inl e) = left_true (eq_by_cmp feature_cmp q k) (list_any (eq_by_cmp feature_cmp q) ks) ((feature_tied q k).1 e)
member_has q (k ∷ ks) (inr h) = right_true (eq_by_cmp feature_cmp q k) (list_any (eq_by_cmp feature_cmp q) ks) (member_has q ks h)

-- the set of a list has the list's features, and nothing else
pub has_listed : (ks : List Feature) (q : Feature) → IsTrue (set.contains (set.from_list {R = feature_cmp} ks) q) ↔ Has q ks
has_listed ks q =
    let same = contains-from_list feature_cmp_total ks q in (
      λ e. has_member q ks (sym same ∙ e),
      λ h. same ∙ member_has q ks h,
    )
