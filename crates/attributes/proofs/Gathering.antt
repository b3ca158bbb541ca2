-- Columns of numbers, feature by feature and member by member.
use Rattle.std.proofs.Common.{◌≡◌, ℕ, zero, suc, ◌+◌, ◌-◌, ◌^◌, ◌<◌, min, Bool, true, false, cond, not, ◌&&◌, nat_lt, List, [], ◌∷◌, ◌++◌, map, BTreeMap, BTreeSet, String, string_bytes, Option, Some, None, unwrap_or, Ordering, Less, Equal, Greater, nat_cmp, bytes_eq, inl, inr, refl, sym, ap, ◌∙◌, subst, arith, lt-ltb, true≢false}
use Rattle.std.proofs.lemmas.Bool.{and_parts, cases_Bool, false_from_ne_true}
use Rattle.std.proofs.lemmas.Slice.Eq.{bytes_eq-Decides}
use Rattle.std.proofs.lemmas.Map.Text.{btree_map_updates_text, btree_set_updates_text, is_eq-slice_cmp}
use Rattle.std.specs.Cmp.Lexicographic.{slice_cmp}
use Rattle.std.specs.List.Sorted.{IsStrictlySortedBy}
use Rattle.std.specs.Ordering.{is_eq, match_ordering}
use Rattle.std.specs.BTreeMap as tree
use Rattle.std.specs.BTreeSet as set
use Rattle.std.specs.List.{AllByRecursion}
use Rattle.std.specs.Prelude.{if◌then◌else◌}
use Rattle.std.specs.String.{string_cmp}
use Rattle.std.specs.declared.alloc.Global.{Global}
use Rattle.serde_json.specs.Data.{Data, null, boolean, number, string, array, object}
use Rattle.serde_json.specs.Find.{get_member}
use Rattle.serde_json.specs.View.{members_view, view}
use Rattle.serde_json.specs.declared.value.Value.{Value}
use Rattle.shapes.specs.declared.props.Props.{Props}
use Rattle.attributes.specs.Attributes.{counted}
use Rattle.attributes.specs.Columns.{Column, all_numeric, column_of, excluded, fraction_texts, is_decimal, is_fraction_text, is_numeric, value_at, with_text, with_value}
use Rattle.attributes.specs.Values.{one_if}

-- ---- one feature more

all_behind : (name : List ℕ) (ps : List Props) (p : Props) → all_numeric name (ps ++ p ∷ []) ≡ all_numeric name ps && is_numeric (value_at name p)
all_behind name [] p = and_true (is_numeric (value_at name p))
  where
    and_true : (b : Bool) → (b && true) ≡ (true && b)
    and_true true = refl
    and_true false = refl
all_behind name (q ∷ ps) p = at (is_numeric (value_at name q)) (all_behind name ps p)
  where
    at : (b : Bool) → all_numeric name (ps ++ p ∷ []) ≡ all_numeric name ps && is_numeric (value_at name p) → (b && all_numeric name (ps ++ p ∷ [])) ≡ ((b && all_numeric name ps) && is_numeric (value_at name p))
    at true e = e
    at false e = refl

texts_behind : (name : List ℕ) (ps : List Props) (p : Props) → fraction_texts name (ps ++ p ∷ []) ≡ fraction_texts name ps + one_if (is_fraction_text (value_at name p))
texts_behind name [] p = omega arith
texts_behind name (q ∷ ps) p = omega (arith, texts_behind name ps p)

fraction_numeric : (v : Option Data) → is_fraction_text v ≡ true → is_numeric v ≡ true
fraction_numeric None e = refl
fraction_numeric (Some null) e = refl
fraction_numeric (Some (boolean b)) e = absurd (true≢false (sym e))
fraction_numeric (Some (number n)) e = refl
fraction_numeric (Some (string s)) e = (and_parts (is_decimal s) _ e).0
fraction_numeric (Some (array ds)) e = absurd (true≢false (sym e))
fraction_numeric (Some (object ms)) e = absurd (true≢false (sym e))

abbrev texts_if : Bool → ℕ → Option ℕ
texts_if all n = if all && nat_lt 0 n then Some (counted n) else None

abbrev known : Bool → ℕ → Column
known all n = record { texts = texts_if all n; mixed = not all }

one_capped : (most n : ℕ) → min (1 + min n most) most ≡ min (n + 1) most
one_capped most n = omega arith

some_texts : (n : ℕ) → 0 < n → texts_if true n ≡ Some (counted n)
some_texts n some = rw (lt-ltb 0 n some) refl

text_more : (n : ℕ) → known true (n + 1) ≡ with_text (known true n)
text_more zero = refl
text_more (suc n) =
    ap (λ t. record { texts = t; mixed = false })
    (some_texts (suc n + 1) (omega arith) ∙ (ap Some (sym (one_capped (2 ^ 64 - 1) (suc n))) ∙ sym (ap (λ o. Some (counted (1 + unwrap_or o 0))) (some_texts (suc n) (omega arith)))))

value_more : (all numeric fraction : Bool) (n : ℕ) → (fraction ≡ true → numeric ≡ true)
    → known (all && numeric) (n + one_if fraction) ≡ (if fraction then with_text (known all n) else (if numeric then known all n else excluded))
value_more true true true n h = text_more n
value_more true true false n h = ap (known true) (omega arith)
value_more true false true n h = absurd (true≢false (sym (h refl)))
value_more true false false n h = refl
value_more false numeric true n h = refl
value_more false true false n h = refl
value_more false false false n h = refl

-- what is known of a layer's members by one name, with one feature more
pub feature_more : (name : List ℕ) (ps : List Props) (p : Props) → column_of name (ps ++ p ∷ []) ≡ with_value (value_at name p) (column_of name ps)
feature_more name ps p =
    ap (λ b. known b (fraction_texts name (ps ++ p ∷ []))) (all_behind name ps p)
    ∙ ap (known (all_numeric name ps && is_numeric (value_at name p))) (texts_behind name ps p)
    ∙ value_more (all_numeric name ps) (is_numeric (value_at name p)) (is_fraction_text (value_at name p)) (fraction_texts name ps) (fraction_numeric (value_at name p))

-- ---- one member more

abbrev Entry : Type 0
Entry = String Global × Value

-- each name is below those after it
abbrev AreSorted : List Entry → Type 0
AreSorted es = IsStrictlySortedBy string_cmp (map (λ (e : Entry). e.0) es)

-- the members up to the rest are in the columns
pub record ArePassed (old new : List ℕ → Column) (all rest : List Entry) : Type 0 where
  pub sorted : AreSorted rest
  pub passed : (q : List ℕ) → with_value (get_member q (members_view rest)) (new q) ≡ with_value (get_member q (members_view all)) (old q)

pub none_passed : (old : List ℕ → Column) (all rest : List Entry) → rest ≡ all → AreSorted all → ArePassed old old all rest
none_passed old all rest is sorted = record { sorted = subst AreSorted (sym is) sorted; passed = λ q. ap (λ es. with_value (get_member q (members_view es)) (old q)) is }

none_behind : (q : List ℕ) (k : String Global) (es : List Entry) → q ≡ string_bytes k → AllByRecursion (λ l. string_cmp k l ≡ Less) (map (λ (e : Entry). e.0) es) → get_member q (members_view es) ≡ None
none_behind q k [] same h = refl
none_behind q k (e ∷ es) same h = let less : slice_cmp nat_cmp q (string_bytes e.0) ≡ Less = rw same h.0 in rw less (none_behind q k es same h.1)

none_after : (q : List ℕ) (e : Entry) (es : List Entry) → q ≡ string_bytes e.0 → AreSorted (e ∷ es) → get_member q (members_view es) ≡ None
unfolding IsStrictlySortedBy
none_after q e es same h = none_behind q e.0 es same h.0

sorted_after : (e : Entry) (es : List Entry) → AreSorted (e ∷ es) → AreSorted es
unfolding IsStrictlySortedBy
sorted_after e es h = h.1

other_name : (q k : List ℕ) (o : Ordering) (d : Data) (m : Option Data) → is_eq o ≡ false → match_ordering o m (Some d) m ≡ m
other_name q k Less d m e = refl
other_name q k Equal d m e = absurd (true≢false e)
other_name q k Greater d m e = refl

same_name : (o : Ordering) (d : Data) (m : Option Data) → is_eq o ≡ true → match_ordering o m (Some d) m ≡ Some d
same_name Less d m e = absurd (true≢false (sym e))
same_name Equal d m e = refl
same_name Greater d m e = absurd (true≢false (sym e))

-- one member more is in the columns
pub member_more : (old new later : List ℕ → Column) (all es : List Entry) (e : Entry) → ArePassed old new all (e ∷ es)
    → ((q : List ℕ) → later q ≡ (if bytes_eq (string_bytes e.0) q then with_value (Some (view e.1)) (new q) else new q)) → ArePassed old later all es
member_more old new later all es e h step = record {
  sorted = sorted_after e es h.sorted;
  passed = λ q.
      let k = string_bytes e.0 in
      let d = view e.1 in
      elim (cases_Bool (bytes_eq k q)) [
        | inl same ↦
            let is : k ≡ q = (bytes_eq-Decides k q).0 same in
            let none = none_after q e es (sym is) h.sorted in
            let found : get_member q (members_view (e ∷ es)) ≡ Some d = same_name (slice_cmp nat_cmp q k) d (get_member q (members_view es)) (is_eq-slice_cmp q k ∙ (bytes_eq-Decides q k).1 (sym is)) in
            ap (λ v. with_value v (later q)) none ∙ (step q ∙ ap (λ b. if b then with_value (Some d) (new q) else new q) same) ∙ sym (ap (λ v. with_value v (new q)) found) ∙ h.passed q
        | inr other ↦
            let apart = false_from_ne_true (bytes_eq q k) (λ s. true≢false (sym ((bytes_eq-Decides k q).1 (sym ((bytes_eq-Decides q k).0 s))) ∙ other)) in
            let found : get_member q (members_view (e ∷ es)) ≡ get_member q (members_view es) = other_name q k (slice_cmp nat_cmp q k) d (get_member q (members_view es)) (is_eq-slice_cmp q k ∙ apart) in
            ap (with_value (get_member q (members_view es))) (step q ∙ ap (λ b. if b then with_value (Some d) (new q) else new q) other) ∙ sym (ap (λ v. with_value v (new q)) found) ∙ h.passed q
      ];
}

-- ---- one value more

abbrev Numbers : Type 0
Numbers = BTreeMap (String Global) ℕ

abbrev Names : Type 0
Names = BTreeSet (String Global)

abbrev kept : Numbers → Names → List ℕ → Column
kept numbers names q = record { texts = tree.get_by_text numbers q; mixed = set.contains_text names q }

abbrev compare : List ℕ → String Global → Ordering
compare name k = slice_cmp nat_cmp name (string_bytes k)

-- one text more of a column
pub text_added : (old new : Numbers) (names : Names) (name key : List ℕ) (count v : ℕ) → key ≡ name → set.contains_text names name ≡ false → count ≡ unwrap_or (tree.get_by_text old name) 0 → v ≡ min (count + 1) (2 ^ 64 - 1)
    → tree.UpdatesBy string_cmp (compare key) old new (Some v) → (q : List ℕ) → kept new names q ≡ (if bytes_eq name q then with_text (kept old names q) else kept old names q)
text_added old new names name key count v same single counts more updates q =
    let texts : tree.get_by_text new q ≡ cond (bytes_eq name q) (Some v) (tree.get_by_text old q) =
    btree_map_updates_text key old new (Some v) updates q ∙ ap (λ k. cond (bytes_eq k q) (Some v) (tree.get_by_text old q)) same in
    ap (λ t. record { texts = t; mixed = set.contains_text names q }) texts
    ∙ elim (cases_Bool (bytes_eq name q)) [
      | inl t ↦
          let is : name ≡ q = (bytes_eq-Decides name q).0 t in
          let alone : set.contains_text names q ≡ false = ap (set.contains_text names) (sym is) ∙ single in
          let now : v ≡ counted (1 + unwrap_or (tree.get_by_text old q) 0) = more ∙ (ap (λ n. min n (2 ^ 64 - 1)) (omega arith) ∙ ap (λ n. counted (1 + n)) (counts ∙ ap (λ n. unwrap_or (tree.get_by_text old n) 0) is)) in
          rw (t, alone) (ap (λ n. record { texts = Some n; mixed = false }) now)
      | inr f ↦ rw f refl
    ]

-- a member that is in no column of numbers
pub name_excluded : (old new : Numbers) (names later : Names) (name key : List ℕ) → key ≡ name → tree.UpdatesBy string_cmp (compare name) old new None → set.UpdatesBy string_cmp (compare key) names later true
    → (q : List ℕ) → kept new later q ≡ (if bytes_eq name q then excluded else kept old names q)
name_excluded old new names later name key same removed added q =
    let texts = btree_map_updates_text name old new None removed q in
    let mixed : set.contains_text later q ≡ cond (bytes_eq name q) true (set.contains_text names q) =
    btree_set_updates_text key names later true added q ∙ ap (λ k. cond (bytes_eq k q) true (set.contains_text names q)) same in
    ap (λ t. record { texts = t; mixed = set.contains_text later q }) texts ∙ ap (λ m. record { texts = cond (bytes_eq name q) None (tree.get_by_text old q); mixed = m }) mixed
    ∙ elim (cases_Bool (bytes_eq name q)) [ inl t ↦ rw t refl | inr f ↦ rw f refl ]
