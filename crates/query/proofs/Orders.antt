-- The orders of uses, of users and of geometries.
use Rattle.std.proofs.Common.{◌≡◌, ◌<◌, ◌≤◌, ℕ, false, List, [], ap, ◌∙◌, rules, arith}
use Rattle.std.specs.Borrow.{Bor}
use Rattle.std.specs.Cmp.{IsTotalOrder, then_total, on_total, nat_cmp_total, ranks}
use Rattle.std.specs.FinMap.{IsAntisymmetric, nat_cmp-IsAntisymmetric}
use Rattle.std.specs.List.Retain.{IsFiltered, DiffersFromLast}
use Rattle.std.specs.List.Sorted.{IsPermutation, IsSorted}
use Rattle.std.specs.Ordering.{eq_by_cmp, is_eq, is_gt, nat_cmp, ordering_then, MatchOrdering}
use Rattle.std.specs.declared.cmp.Ordering.{Ordering}
use Rattle.std.specs.declared.cmp.Ordering.TheVariants.{Less, Equal, Greater}
use Rattle.lines.specs.Positions.{then_equal}
use Rattle.theory.proofs.Ascending.{get_once, less_self}
use Rattle.topo.specs.contracts.geom.GeomOrd.TheImpl as geometry_order
use Rattle.topo.specs.contracts.geom.GeomOrd.TheImpl.Laws.{total-law, matches_eq-law}
use Rattle.topo.specs.contracts.geom.GeomPartialEq.TheImpl as geometry_eq
use Rattle.topo.specs.declared.geom.Geom.{Geom}
use Rattle.topo.proofs.SameGeometries.{geometry_same}
use Rattle.query.specs.EachOnce.{AreEachOnce, borrowed}
use Rattle.query.specs.declared.uses.Use.{Use}
use Rattle.query.specs.declared.arc_users.ArcUser.{ArcUser}
use Rattle.query.specs.contracts.uses.UsePartialEq.TheImpl as use_eq
use Rattle.query.specs.Uses.{use_cmp}
use Rattle.query.specs.ArcUsers.{user_cmp}
use Rattle.query.specs.Spans.{span_cmp}
use Rattle.query.proofs.SortedOnce.{sorted_once_by}

pub use_total : IsTotalOrder use_cmp
use_total = then_total (on_total (λ (u : Use). u.index) nat_cmp_total) (on_total (λ (u : Use). u.arc) nat_cmp_total)

pub user_total : IsTotalOrder user_cmp
user_total =
    then_total (on_total (λ (v : ArcUser). v.arc) nat_cmp_total)
    (then_total (on_total (λ (v : ArcUser). v.class) nat_cmp_total) (on_total (λ (v : ArcUser). v.index) nat_cmp_total))

-- two pairs of numbers that tie are the same
both_same : (a b c d : ℕ) → ordering_then (nat_cmp a b) (nat_cmp c d) ≡ Equal → (a ≡ b) × (c ≡ d)
both_same a b c d e =
    let h = then_equal (nat_cmp a b) (nat_cmp c d) e in (nat_cmp-IsAntisymmetric a b h.0, nat_cmp-IsAntisymmetric c d h.1)

pub span_same : IsAntisymmetric span_cmp
span_same s t e =
    let h = both_same s.least t.least s.greatest t.greatest e in λ i. record { least = h.0 i; greatest = h.1 i }

pub use_same : IsAntisymmetric use_cmp
use_same u v e =
    let h = both_same u.index v.index u.arc v.arc e in λ i. record { index = h.0 i; arc = h.1 i }

-- the derived test is that of the order
pub use_ties : (u v : Use) → use_eq.eq-value.it u v ≡ eq_by_cmp use_cmp u v
use_ties u v = search rules

-- what does not come behind has no greater first number
pub first_most : (a b : ℕ) (r : Ordering) → is_gt (ordering_then (nat_cmp a b) r) ≡ false → a ≤ b
first_most a b r e = go (nat_cmp a b) (ranks a b) e
  where
    go : (c : Ordering) → MatchOrdering c (a < b) (a ≡ b) (b < a) → is_gt (ordering_then c r) ≡ false → a ≤ b
    go Less h k = omega (arith, h)
    go Equal h k = omega (arith, h)
    go Greater h k = cc

geometry_order_same : IsAntisymmetric geometry_order.cmp-value.it
geometry_order_same g h e = geometry_same g h (matches_eq-law g h ∙ ap is_eq e)

-- what sorting by the derived order leaves of geometries, once of equal neighbours one is kept
pub each_once : (xs ys zs : List (Bor Geom)) → IsPermutation xs ys → IsSorted (λ g h. geometry_order.cmp-value.it g.now h.now) ys →
    IsFiltered (DiffersFromLast (λ g h. geometry_eq.eq-value.it g.now h.now)) [] ys zs → AreEachOnce (borrowed xs) (borrowed zs)
each_once xs ys zs p s f =
    let d = sorted_once_by (λ (g : Bor Geom). g.now) geometry_order.cmp-value.it total-law geometry_order_same geometry_eq.eq-value.it matches_eq-law xs ys zs p s f in
    record {
      once = λ i j g a b. get_once geometry_order.cmp-value.it (less_self geometry_order.cmp-value.it total-law geometry_order_same) (borrowed zs) i j g d.ascends a b;
      there = d.there;
      only = d.only;
    }
