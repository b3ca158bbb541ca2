-- A look-up among arcs of which each comes before the next.
use Rattle.std.proofs.Common.{◌≡◌, ℕ, zero, suc, ◌+◌, ◌<◌, Bool, true, false, cond, List, [], ◌∷◌, length, map, get_or, inl, inr, refl, sym, ap, ◌∙◌, subst, arith, Result, Ok, Err, Option, Some, None, slice_get, nat_lt, ◌≤◌, ◌⊎◌}
use borrow.Author.Tests.{ltb-true, ltb-false}
use Rattle.std.specs.List.{position, position_or_len}
use Rattle.std.specs.List.Sorted.{IsSortedByKey, IsBinarySearchResult, IsSearchInRange}
use Rattle.std.specs.Cmp.{tied_itself}
use Rattle.std.specs.Cmp.Lexicographic.{lists_total}
use Rattle.std.specs.FinMap.{slice_cmp-IsAntisymmetric}
use Rattle.std.specs.Ordering.{is_lt}
use Rattle.std.specs.declared.cmp.Ordering.TheVariants.{Less, Equal, Greater}
use Rattle.std.proofs.lemmas.List.Sorted.{searchable_from_sorted}
use Rattle.grid.specs.declared.pos.Pos.{Pos}
use Rattle.lines.specs.Turned.{list_cmp}
use Rattle.theory.specs.Arcs.{Ascends}
use Rattle.theory.specs.Lists.{Has}
use Rattle.theory.proofs.Ascending.{less_self, less_back, get_once}
use Rattle.theory.proofs.ListsOfLists.{get_has, map_has}
use Rattle.std.specs.Option.{option_map}
use Rattle.std.specs.Result.{result_ok}
use Rattle.arcs.specs.Stored.{positions_of, rises}
use Rattle.arcs.specs.Table.{same_list}
use Rattle.arcs.specs.declared.stored.StoredArc.{StoredArc}
use Rattle.lines.specs.Positions.{position_total, position_same}
use Rattle.arcs.proofs.Marks.{get_mapped}
use Rattle.arcs.proofs.Places.{place_is, found_index, index_of_member}
use Rattle.arcs.proofs.Rising.{ascends_rising}
use Rattle.lines.proofs.SortedLists.{Contains-from_has}

pub split_at : (k i : ℕ) → (k < i) ⊎ (i ≤ k)
split_at k i = go (nat_lt k i) refl
  where
    go : (b : Bool) → nat_lt k i ≡ b → (k < i) ⊎ (i ≤ k)
    go true e = inl (ltb-true k i e)
    go false e = inr (ltb-false k i e)

sorted_ascending : (l : List StoredArc) → Ascends list_cmp (map positions_of l) → IsSortedByKey positions_of list_cmp l
sorted_ascending [] s k d a b = absurd (omega (arith, b))
sorted_ascending (x ∷ []) s zero d a b = absurd (omega (arith, b))
sorted_ascending (x ∷ (y ∷ l)) s zero d a b =
    ap is_lt (less_back list_cmp (lists_total position_total) (slice_cmp-IsAntisymmetric position_same) x.positions y.positions (s.0 y.positions (inl refl)))
sorted_ascending (x ∷ l) s (suc k) d a b =
    let e : suc k + 1 ≡ suc (k + 1) = omega arith in
    subst (λ n. is_lt (list_cmp (positions_of (get_or (x ∷ l) n d)) (positions_of (get_or l k d))) ≡ false) (sym e) (sorted_ascending l s.1 k d (omega arith) (omega (arith, b)))

pub get_or_some : {A : Type 0} (l : List A) (i : ℕ) (d : A) → i < length l → slice_get l i ≡ Some (get_or l i d)
get_or_some [] i d h = absurd (omega (arith, h))
get_or_some (x ∷ l) zero d h = refl
get_or_some (x ∷ l) (suc i) d h = get_or_some l i d (omega (arith, h))

-- no place of what does not stand in the list
no_place : (q : List Pos) (l : List (List Pos)) → ¬ Has q l → None ≡ position (same_list q) l
no_place q l h = go (nat_lt (position_or_len (same_list q) l) (length l)) refl
  where
    go : (b : Bool) → nat_lt (position_or_len (same_list q) l) (length l) ≡ b → None ≡ cond b (Some (position_or_len (same_list q) l)) None
    go true e = absurd (h (get_has l (position_or_len (same_list q) l) q (place_is q l (ltb-true (position_or_len (same_list q) l) (length l) e))))
    go false e = refl

-- the place of what stands in the list
pub index_standing : (l : List (List Pos)) (q : List Pos) (i : ℕ) → rises l ≡ true → slice_get l i ≡ Some q → Some i ≡ position (same_list q) l
index_standing l q i s at =
    let h : Has q l = get_has l i q at in
    ap Some (get_once list_cmp (less_self list_cmp (lists_total position_total) (slice_cmp-IsAntisymmetric position_same)) l
    i (position_or_len (same_list q) l) q (ascends_rising l s) at (index_of_member q l h))
    ∙ found_index q l h

-- the answer of a search
pub index_looked : (l : List StoredArc) (q : List Pos) (r : Result ℕ ℕ) → IsSearchInRange r (length l) → IsBinarySearchResult (λ a. list_cmp a.positions q) l r →
    rises (map positions_of l) ≡ true → result_ok r ≡ position (same_list q) (map positions_of l)
index_looked l q (Ok i) w p s =
    let d : StoredArc = record { positions = q; free = false } in
    let e : positions_of (get_or l i d) ≡ q = slice_cmp-IsAntisymmetric position_same (positions_of (get_or l i d)) q (p d) in
    let at : slice_get (map positions_of l) i ≡ Some q = get_mapped positions_of l i ∙ ap (option_map positions_of) (get_or_some l i d w) ∙ ap Some e in
    index_standing (map positions_of l) q i s at
index_looked l q (Err i) w p s = no_place q (map positions_of l) (λ h.
    let m = map_has positions_of l q h in
    let t = Contains-from_has m.0 l m.1 in
    let b = p (searchable_from_sorted (lists_total position_total) positions_of l q (sorted_ascending l (ascends_rising (map positions_of l) s))) in
    let z : list_cmp (positions_of (get_or l t.0 m.0)) q ≡ Equal = ap (λ w. list_cmp (positions_of w) q) t.2 ∙ ap (λ w. list_cmp w q) (sym m.2) ∙ tied_itself (lists_total position_total) q in
    elim (split_at t.0 i) [
      | inl a ↦ (let k : list_cmp (positions_of (get_or l t.0 m.0)) q ≡ Less = b.0 t.0 m.0 (omega arith) a in absurd cc)
      | inr a ↦ (let k : list_cmp (positions_of (get_or l t.0 m.0)) q ≡ Greater = b.1 t.0 m.0 a t.1 in absurd cc)
    ])

-- the same in the form of the code
pub looked_by_code : (l items : List StoredArc) (q : List Pos) (r : Result ℕ ℕ) (o : Option ℕ) → items ≡ l → o ≡ result_ok r → IsSearchInRange r (length items) →
    IsBinarySearchResult (λ a. list_cmp a.positions q) items r → rises (map positions_of l) ≡ true → o ≡ position (same_list q) (map positions_of l)
looked_by_code l items q r o e k w p s =
    k ∙ index_looked items q r w p (subst (λ u. rises (map positions_of u) ≡ true) (sym e) s) ∙ ap (λ u. position (same_list q) (map positions_of u)) e
