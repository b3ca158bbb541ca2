-- A look-up in a sorted list.
use Rattle.std.proofs.Common.{◌≡◌, ℕ, Bool, List, length, get_or, inl, inr, sym, ap, ◌∙◌, subst, arith, Result, Ok, Err}
use Rattle.std.specs.Result.{is_ok}
use Rattle.std.specs.List.Sorted.{IsSorted, IsBinarySearchResult, IsSearchInRange}
use Rattle.std.specs.Cmp.{tied_itself}
use Rattle.std.specs.declared.cmp.Ordering.TheVariants.{Less, Equal, Greater}
use Rattle.std.proofs.lemmas.List.Sorted.{searchable_from_sorted}
use Rattle.grid.specs.declared.pos.Pos.{Pos}
use Rattle.lines.specs.Turned.{position_cmp}
use Rattle.theory.specs.Lists.{Has}
use Rattle.arcs.specs.Among.{Tells, among}
use Rattle.chains.proofs.Among.{if_among}
use Rattle.lines.proofs.SortedLists.{Contains-from_has, has_from_contains}
use Rattle.lines.specs.Positions.{position_total, position_same}
use Rattle.arcs.proofs.Looking.{split_at}

pub found : (xs : List Pos) (x : Pos) (r : Result ℕ ℕ) (b : Bool) → b ≡ is_ok r → IsSearchInRange r (length xs) →
    IsBinarySearchResult (λ y. position_cmp y x) xs r → IsSorted position_cmp xs → Tells b (Has x xs)
found xs x (Ok i) b e w p s = record {
  yes = λ h. has_from_contains x xs i w (position_same (get_or xs i x) x (p x));
  no = λ h. absurd cc;
}
found xs x (Err i) b e w p s = record {
  yes = λ h. absurd cc;
  no = λ h k.
      let t = Contains-from_has x xs k in
      let q = p (searchable_from_sorted position_total (λ (y : Pos). y) xs x s) in
      let z : position_cmp (get_or xs t.0 x) x ≡ Equal = ap (λ w. position_cmp w x) t.2 ∙ tied_itself position_total x in
      elim (split_at t.0 i) [
        | inl a ↦ (let m : position_cmp (get_or xs t.0 x) x ≡ Less = q.0 t.0 x (omega arith) a in absurd cc)
        | inr a ↦ (let m : position_cmp (get_or xs t.0 x) x ≡ Greater = q.1 t.0 x a t.1 in absurd cc)
      ];
}

-- the same in the form of the code
pub found_by_code : (xs ys : List Pos) (x : Pos) (r : Result ℕ ℕ) (b : Bool) → ys ≡ xs → b ≡ is_ok r → IsSearchInRange r (length ys) →
    IsBinarySearchResult (λ y. position_cmp y x) ys r → IsSorted position_cmp xs → Tells b (Has x xs)
found_by_code xs ys x r b q e w p s =
    subst (λ zs. Tells b (Has x zs)) q (found ys x r b e w p (subst (IsSorted position_cmp) (sym q) s))

-- the same for a list that contracts see as another
pub looked_up : (js xs ys : List Pos) (x : Pos) (r : Result ℕ ℕ) (b : Bool) → xs ≡ js → ys ≡ xs → b ≡ is_ok r → IsSearchInRange r (length ys) →
    IsBinarySearchResult (λ y. position_cmp y x) ys r → IsSorted position_cmp xs → b ≡ among js x
looked_up js xs ys x r b v q e w p s = if_among js x b (subst (λ zs. Tells b (Has x zs)) v (found_by_code xs ys x r b q e w p s))
