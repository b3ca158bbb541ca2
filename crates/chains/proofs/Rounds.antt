-- The visits of a ring are those at its inner places, and those at its last and its first.
use Rattle.std.proofs.Common.{◌≡◌, ℕ, ◌-◌, ◌≤◌, List, [], ◌∷◌, ◌++◌, length, slice_get, Some, suc, sym, ap, ◌∙◌, arith, append_assoc}
use Rattle.grid.specs.declared.pos.Pos.{Pos}
use Rattle.chains.specs.Visits.{HaveSame, around_of, inner_from, inner_of, visit_of}
use Rattle.chains.specs.declared.visits.Visit.{Visit}
use Rattle.chains.proofs.Same.{same_before, same_equal, same_trans}

inner_behind : (a h : Pos) (r more : List Pos) (b l : Pos) → slice_get (a ∷ (h ∷ r)) (length r) ≡ Some b → slice_get (h ∷ r) (length r) ≡ Some l →
    inner_from a h (r ++ more) ≡ inner_from a h r ++ inner_from b l more
inner_behind a h [] more b l e f =
    let p : a ≡ b = cc in
    let q : h ≡ l = cc in
    λ i. inner_from (p i) (q i) more
inner_behind a h (z ∷ r) more b l e f = ap (λ w. visit_of a h z ∷ w) (inner_behind h z r more b l e f)

-- x and y stand first in it, b and l last
pub around_seen : (r : List Pos) (n : ℕ) (b l x y : Pos) → n ≡ length r → 2 ≤ n → slice_get r (n - 2) ≡ Some b → slice_get r (n - 1) ≡ Some l →
    slice_get r 0 ≡ Some x → slice_get r 1 ≡ Some y → around_of r ≡ inner_of r ++ (visit_of b l x ∷ (visit_of l x y ∷ []))
around_seen [] n b l x y m k e f g i = absurd (omega (arith, m))
around_seen (a ∷ []) n b l x y m k e f g i = absurd (omega (arith, m))
around_seen (a ∷ (h ∷ r)) n b l x y m k e f g i =
    let two : n - 2 ≡ length r = omega (arith, m) in
    let one : n - 1 ≡ suc (length r) = omega (arith, m) in
    let p : a ≡ x = cc in
    let q : h ≡ y = cc in
    inner_behind a h r (a ∷ (h ∷ [])) b l (ap (slice_get (a ∷ (h ∷ r))) (sym two) ∙ e) (ap (slice_get (a ∷ (h ∷ r))) (sym one) ∙ f)
    ∙ (λ j. inner_from a h r ++ (visit_of b l (p j) ∷ (visit_of l (p j) (q j) ∷ [])))

-- two more visits that are noted
pub two_recorded : (old inner around first second third : List Visit) (v w : Visit) → HaveSame first (old ++ inner) → HaveSame second (first ++ (v ∷ [])) →
    HaveSame third (second ++ (w ∷ [])) → around ≡ inner ++ (v ∷ (w ∷ [])) → HaveSame third (old ++ around)
two_recorded old inner around first second third v w s t u e =
    same_trans u (same_trans (same_before (w ∷ []) (same_trans t (same_before (v ∷ []) s)))
    (same_equal (append_assoc (old ++ inner) (v ∷ []) (w ∷ []) ∙ append_assoc old inner (v ∷ (w ∷ [])) ∙ ap (λ l. old ++ l) (sym e))))
