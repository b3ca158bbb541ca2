use Rattle.std.proofs.Common.{◌≡◌, true, false, List, [], ◌∷◌, ◌++◌, inl, inr, refl, sym, ap, ◌∙◌, subst, append_assoc, Some, None}
use Rattle.std.specs.BTreeMap.{BTreeMap, Updates, is_at}
use Rattle.std.specs.Map.{lookup}
use Rattle.theory.specs.Walking.{Walked, Removed, Onward}
use Rattle.lines.specs.Turned.{position_cmp}
use Rattle.lines.specs.Pairs.{position_eq}
use Rattle.lines.proofs.Positions.{position_true, true_position, true_false, position_apart}
use Rattle.chains.specs.Walk.{links_in, HasCome, IsWalk}
use Rattle.grid.specs.declared.pos.Pos.{Pos}

pub removed : (n k : BTreeMap Pos (Pos × Pos)) (here : Pos) → Updates position_cmp n k here None → Removed (links_in n) here (links_in k)
removed n k here u = record { gone = u.1; rest = λ q a. u.2 q (position_apart here q a) }

pub onward_yes : (p a b n : Pos) → position_eq a p ≡ true → n ≡ b → Onward p a b n
onward_yes p a b n e f = inl (position_true a p e, f)

pub onward_no : (p a b n : Pos) → position_eq a p ≡ false → n ≡ a → Onward p a b n
onward_no p a b n e f = inr ((λ g. true_false (position_eq a p) (true_position a p g) e), f)

pub one_further : (m n k : BTreeMap Pos (Pos × Pos)) (from to before here next a b : Pos) (l g : List Pos) →
    HasCome m from to l n before here → links_in n here ≡ Some (a, b) → Removed (links_in n) here (links_in k) → Onward before a b next →
    g ≡ l ++ (next ∷ []) → HasCome m from to g k here next
one_further m n k from to before here next a b l g h e r o f = (
  h.0 ++ (next ∷ []),
  f ∙ ap (λ w. w ++ (next ∷ [])) h.1,
  (λ s j w. subst (λ u. Walked (links_in m) from to u j) (sym (append_assoc h.0 (next ∷ []) s))
      (h.2 (next ∷ s) j (a, b, e, o, links_in k, r, w))),
)

append_nil : {V : Type 0} (l : List V) → l ++ [] ≡ l
append_nil [] = refl
append_nil (x ∷ l) = ap (λ w. x ∷ w) (append_nil l)

pub walk_over : (m n k : BTreeMap Pos (Pos × Pos)) (from to before here : Pos) (l : List Pos) →
    HasCome m from to l n before here → links_in n here ≡ None → k.entries ≡ n.entries → IsWalk m from to l k
walk_over m n k from to before here l h e f = (
  h.0,
  h.1,
  subst (λ u. Walked (links_in m) from to u (links_in k)) (append_nil h.0)
      (h.2 [] (links_in k) (e, λ q. ap (λ es. lookup (is_at (position_cmp q)) es) f)),
)
