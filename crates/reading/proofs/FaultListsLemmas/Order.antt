-- The order of faults, and that a list in order begins with its least.
use Rattle.std.proofs.Common.{◌≡◌, zero, suc, List, [], ◌∷◌, IsTrue, Less, Equal, Greater, refl, ap, ◌∙◌, subst, arith}
use Rattle.std.specs.Cmp.{IsTotalOrder, nat_cmp_total, on_total, then_total}
use Rattle.std.specs.Cmp.Lexicographic.{lists_total, nat_list_cmp_total}
use Rattle.std.specs.List.{All, Contains}
use Rattle.std.specs.Ordering.{ordering_reverse, is_le}
use Rattle.std.proofs.lemmas.List.Elements.{All-cons, All-nil, All-contains, All-head}
use Rattle.faults.specs.Path.{Turn, name, index}
use Rattle.faults.specs.Fault.{Pair, number_of}
use Rattle.reading.specs.Fault.{turn_cmp, pair_cmp, IsUpto, IsLeast}
use Rattle.reading.specs.FaultLists.Ascending.{IsAscending}
use Rattle.reading.proofs.FaultListsLemmas.Ascending.{AreBehind, behind_first}

turn_antisymm : (t u : Turn) → turn_cmp t u ≡ ordering_reverse (turn_cmp u t)
turn_antisymm (name a) (name b) = nat_list_cmp_total.antisymm a b
turn_antisymm (name a) (index j) = refl
turn_antisymm (index i) (name b) = refl
turn_antisymm (index i) (index j) = nat_cmp_total.antisymm i j

turn_trans : (t u v : Turn) → turn_cmp t u ≡ Less → turn_cmp u v ≡ Less → turn_cmp t v ≡ Less
turn_trans (name a) (name b) (name c) p q = nat_list_cmp_total.trans a b c p q
turn_trans (name a) (name b) (index k) p q = refl
turn_trans (name a) (index j) (name c) p q = cc
turn_trans (name a) (index j) (index k) p q = refl
turn_trans (index i) (name b) v p q = cc
turn_trans (index i) (index j) (name c) p q = cc
turn_trans (index i) (index j) (index k) p q = nat_cmp_total.trans i j k p q

turn_congr : (t u v : Turn) → turn_cmp t u ≡ Equal → turn_cmp t v ≡ turn_cmp u v
turn_congr (name a) (name b) (name c) e = nat_list_cmp_total.congr a b c e
turn_congr (name a) (name b) (index k) e = refl
turn_congr (name a) (index j) v e = cc
turn_congr (index i) (name b) v e = cc
turn_congr (index i) (index j) (name c) e = refl
turn_congr (index i) (index j) (index k) e = nat_cmp_total.congr i j k e

turn_total : IsTotalOrder turn_cmp
turn_total = record { antisymm = turn_antisymm; trans = turn_trans; congr = turn_congr }

pub pair_total : IsTotalOrder pair_cmp
pair_total = then_total (on_total (λ p. p.path) (lists_total turn_total)) (on_total (λ p. number_of p.kind) nat_cmp_total)

all_behind : (p : Pair) (qs : List Pair) → AreBehind p qs → All (λ q. pair_cmp p q ≡ Less) qs
all_behind p [] h = All-nil _
all_behind p (q ∷ qs) h = All-cons (λ x. pair_cmp p x ≡ Less) q qs h.0 (all_behind p qs h.1)

none_before : (q p : Pair) → pair_cmp q p ≡ Less → IsUpto p q → ⊥
none_before q p less upto =
    let after : pair_cmp p q ≡ Greater = pair_total.antisymm p q ∙ ap ordering_reverse less in
    let wrong = subst (λ o. IsTrue (is_le o)) after upto in
    absurd cc

-- a list in order begins with its least, which is the only one
pub least_first : (ps : List Pair) (p : Pair) → IsAscending ps → IsLeast ps p → (qs : List Pair) × (ps ≡ p ∷ qs)
least_first [] p a h = let there = h.present in absurd (omega (arith, there.1))
least_first (q ∷ qs) p a h = go h.present
  where
    go : Contains (q ∷ qs) p → (rs : List Pair) × ((q ∷ qs) ≡ p ∷ rs)
    go (zero, less, is) = (qs, ap (λ r. r ∷ qs) is)
    go (suc k, less, is) =
        absurd (none_before q p (All-contains (λ x. pair_cmp q x ≡ Less) qs p (all_behind q qs (behind_first q qs a.sorted)) (k, omega (arith, less), is)) (All-head (IsUpto p) q qs h.first))
