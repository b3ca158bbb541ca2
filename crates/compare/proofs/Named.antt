-- The layer of a name, found by halving.
use Rattle.std.proofs.Common.{◌≡◌, ℕ, zero, suc, ◌+◌, List, [], ◌∷◌, length, get_or, inl, inr, sym, ap, ◌∙◌, subst, arith, Result, Ok, Err, Option, false}
use Rattle.std.specs.List.Sorted.{IsBinarySearchResult, IsSearchInRange, IsSortedByKey, IsStrictlySortedBy}
use Rattle.std.specs.Cmp.{tied_itself}
use Rattle.std.specs.Cmp.Lexicographic.{nat_list_cmp_total, slice_cmp}
use Rattle.std.specs.Ordering.{is_lt, nat_cmp}
use Rattle.std.specs.Result.{result_ok}
use Rattle.std.specs.declared.cmp.Ordering.{Ordering}
use Rattle.std.specs.declared.cmp.Ordering.TheVariants.{Less, Equal, Greater}
use Rattle.std.proofs.lemmas.List.Sorted.{searchable_from_sorted}
use Rattle.lines.proofs.SortedLists.{Contains-from_has}
use Rattle.shapes.specs.OrderLaws.{same_text}
use Rattle.theory.proofs.Ascending.{less_back}
use Rattle.topo.specs.Parts.{LayerParts}
use Rattle.arcs.proofs.Looking.{get_or_some, split_at}
use Rattle.compare.specs.Compared.{AreInOrder, IsNumberOf, name_of}

abbrev R : List ℕ → List ℕ → Ordering
R = slice_cmp nat_cmp

sorted_by_name : (ls : List LayerParts) → AreInOrder ls → IsSortedByKey name_of R ls
unfolding IsStrictlySortedBy
sorted_by_name [] s k d a b = absurd (omega (arith, b))
sorted_by_name (x ∷ []) s zero d a b = absurd (omega (arith, b))
sorted_by_name (x ∷ (y ∷ l)) s zero d a b = ap is_lt (less_back R nat_list_cmp_total same_text (name_of x) (name_of y) s.0.0)
sorted_by_name (x ∷ l) s (suc k) d a b =
    let e : suc k + 1 ≡ suc (k + 1) = omega arith in
    subst (λ n. is_lt (R (name_of (get_or (x ∷ l) n d)) (name_of (get_or l k d))) ≡ false) (sym e) (sorted_by_name l s.1 k d (omega arith) (omega (arith, b)))

-- the answer of a search
number_looked : (ls : List LayerParts) (q : List ℕ) (r : Result ℕ ℕ) → IsSearchInRange r (length ls) → IsBinarySearchResult (λ l. R (name_of l) q) ls r → AreInOrder ls → IsNumberOf ls q (result_ok r)
number_looked [] q (Ok i) w p s = absurd (omega (arith, w))
number_looked (x ∷ l) q (Ok i) w p s = (get_or (x ∷ l) i x, get_or_some (x ∷ l) i x w, same_text (name_of (get_or (x ∷ l) i x)) q (p x))
number_looked ls q (Err i) w p s = λ x there same.
    let t = Contains-from_has x ls there in
    let b = p (searchable_from_sorted nat_list_cmp_total name_of ls q (sorted_by_name ls s)) in
    let z : R (name_of (get_or ls t.0 x)) q ≡ Equal = ap (λ w. R (name_of w) q) t.2 ∙ ap (λ w. R w q) same ∙ tied_itself nat_list_cmp_total q in
    elim (split_at t.0 i) [
      | inl a ↦ (let k : R (name_of (get_or ls t.0 x)) q ≡ Less = b.0 t.0 x (omega arith) a in absurd cc)
      | inr a ↦ (let k : R (name_of (get_or ls t.0 x)) q ≡ Greater = b.1 t.0 x a t.1 in absurd cc)
    ]

-- the same in the form of the code
pub number_by_code : (ls : List LayerParts) (q : List ℕ) (r : Result ℕ ℕ) (o : Option ℕ) → o ≡ result_ok r → IsSearchInRange r (length ls) →
    IsBinarySearchResult (λ l. R (name_of l) q) ls r → AreInOrder ls → IsNumberOf ls q o
number_by_code ls q r o e w p s = subst (IsNumberOf ls q) (sym e) (number_looked ls q r w p s)
