-- A value that `serde_json` reads with no float is what it becomes.
use Rattle.std.proofs.Common.{◌≡◌, ℕ, Bool, true, false, cond, List, [], Option, Some, None, option_map, Ordering, Less, Equal, Greater, nat_cmp, bytes_eq, inl, inr, refl, sym, ap, ◌∙◌, true≢false}
use Rattle.std.proofs.lemmas.Bool.{cases_Bool, or_parts}
use Rattle.std.proofs.lemmas.Cmp.{nat_list_cmp_total, tied_itself}
use Rattle.std.proofs.lemmas.Map.Text.{is_eq-slice_cmp}
use Rattle.std.proofs.lemmas.Slice.Eq.{bytes_eq-Decides}
use Rattle.std.specs.Cmp.Lexicographic.{slice_cmp}
use Rattle.std.specs.Ordering.{is_eq, match_ordering, ordering_reverse}
use Rattle.std.specs.Prelude.{if◌then◌else◌, is_some, option_and_then, ⊤}
use Rattle.json.specs.Json as json
use Rattle.json.specs.Find.{get_member, later_or}
use Rattle.json.specs.Print.{IsNumber}
use Rattle.json.specs.Tree.{HasNumbers, ItemsHaveNumbers, MembersHaveNumbers}
use Rattle.numerals.proofs.Numbers.{numbers_are_numerals}
use Rattle.serde_json.specs.Data.{Data, Items, Members, Num, array, float, item, member, negative, no_members, number, object, put, unsigned}
use Rattle.serde_json.specs.Read.{number_of, of_items as read_items, of_json, of_members as read_members}
use Rattle.serde_json.specs.Written.{has_float, items_have_float, members_have_float}
use Rattle.attributes.specs.Laws.{ReadWholeValuesStay, WholeValuesStay}
use Rattle.attributes.specs.Numerals.{number_or_text, spelled, whole, whole_of}
use Rattle.attributes.specs.Values.{comes_later, data_of, items_of, members_of}
use Rattle.attributes.specs.declared.rules.Reals.{Reals}
use Rattle.attributes.specs.declared.rules.Reals.TheVariants.{Whole, Text, Refuse}
use Rattle.attributes.proofs.Keeping.{later_none, later_some}
use Rattle.attributes.proofs.Worth.{written_is_worth}

abbrev cmp : List ℕ → List ℕ → Ordering
cmp = slice_cmp nat_cmp

back : (k l : List ℕ) (o : Ordering) → cmp k l ≡ o → cmp l k ≡ ordering_reverse o
back k l o e = nat_list_cmp_total.antisymm l k ∙ ap ordering_reverse e

tied : (k l : List ℕ) → cmp k l ≡ Equal → k ≡ l
tied k l e = (bytes_eq-Decides k l).0 (sym (is_eq-slice_cmp k l) ∙ ap is_eq e)

-- ---- two members that are put

twice_at : (o : Ordering) (k l : List ℕ) (d e b : Data) (ms : Members) → cmp k l ≡ o → put k e (put k d ms) ≡ put k e ms
    → put k e (match_ordering o (member k d (member l b ms)) (member l d ms) (member l b (put k d ms))) ≡ match_ordering o (member k e (member l b ms)) (member l e ms) (member l b (put k e ms))
twice_at Less k l d e b ms is rest = rw (tied_itself nat_list_cmp_total k) refl
twice_at Equal k l d e b ms is rest = rw is refl
twice_at Greater k l d e b ms is rest = rw is (ap (member l b) rest)

-- of two values that are put at one name the later stays
put_twice : (k : List ℕ) (d e : Data) (ms : Members) → put k e (put k d ms) ≡ put k e ms
put_twice k d e no_members = rw (tied_itself nat_list_cmp_total k) refl
put_twice k d e (member l b ms) = twice_at (cmp k l) k l d e b ms refl (put_twice k d e ms)

first_two : (o : Ordering) (k l : List ℕ) (d e : Data) (ms : Members) → cmp k l ≡ o → (k ≡ l → ⊥) → put k d ms ≡ member k d ms → put l e ms ≡ member l e ms → put k d (member l e ms) ≡ put l e (member k d ms)
first_two Less k l d e ms is apart first second = rw (is, back k l Less is) (ap (member k d) (sym second))
first_two Equal k l d e ms is apart first second = absurd (apart (tied k l is))
first_two Greater k l d e ms is apart first second = rw (is, back k l Greater is) (ap (member l e) first)

abbrev Swap : List ℕ → List ℕ → Data → Data → Members → Type 0
Swap k l d e ms = put k d (put l e ms) ≡ put l e (put k d ms)

below_equal : (k l m : List ℕ) (d e b : Data) (ms : Members) → cmp k m ≡ Less → cmp l m ≡ Equal → Swap k l d e (member m b ms)
below_equal k l m d e b ms x y = let z : cmp l k ≡ Greater = ap (λ n. cmp n k) (tied l m y) ∙ back k m Less x in rw (x, y, x, z) refl

below_above : (k l m : List ℕ) (d e b : Data) (ms : Members) → cmp k m ≡ Less → cmp l m ≡ Greater → Swap k l d e (member m b ms)
below_above k l m d e b ms x y = let z : cmp l k ≡ Greater = back k l Less (nat_list_cmp_total.trans k m l x (back l m Greater y)) in rw (x, y, x, z) refl

equal_above : (k l m : List ℕ) (d e b : Data) (ms : Members) → cmp k m ≡ Equal → cmp l m ≡ Greater → Swap k l d e (member m b ms)
equal_above k l m d e b ms x y = rw (x, y, x) refl

swap_at : (o q : Ordering) (k l m : List ℕ) (d e b : Data) (ms : Members) → cmp k m ≡ o → cmp l m ≡ q → (k ≡ l → ⊥) → Swap k l d e ms → Swap k l d e (member m b ms)
swap_at Less Less k l m d e b ms x y apart rest =
    let first : put k d (member m b ms) ≡ member k d (member m b ms) = rw x refl in
    let second : put l e (member m b ms) ≡ member l e (member m b ms) = rw y refl in
    ap (put k d) second ∙ first_two (cmp k l) k l d e (member m b ms) refl apart first second ∙ sym (ap (put l e) first)
swap_at Less Equal k l m d e b ms x y apart rest = below_equal k l m d e b ms x y
swap_at Less Greater k l m d e b ms x y apart rest = below_above k l m d e b ms x y
swap_at Equal Less k l m d e b ms x y apart rest = sym (below_equal l k m e d b ms y x)
swap_at Equal Equal k l m d e b ms x y apart rest = absurd (apart (tied k m x ∙ sym (tied l m y)))
swap_at Equal Greater k l m d e b ms x y apart rest = equal_above k l m d e b ms x y
swap_at Greater Less k l m d e b ms x y apart rest = sym (below_above l k m e d b ms y x)
swap_at Greater Equal k l m d e b ms x y apart rest = sym (equal_above l k m e d b ms y x)
swap_at Greater Greater k l m d e b ms x y apart rest = rw (x, y, x) (ap (member m b) rest)

-- at two names either is put first
put_apart : (k l : List ℕ) (d e : Data) (ms : Members) → (k ≡ l → ⊥) → Swap k l d e ms
put_apart k l d e no_members apart = first_two (cmp k l) k l d e no_members refl apart refl refl
put_apart k l d e (member m b ms) apart = swap_at (cmp k m) (cmp l m) k l m d e b ms refl refl apart (put_apart k l d e ms apart)

-- ---- members over those that were found before

abbrev over : Reals → json.Members → Members → Members
over rule json.no_members found = found
over rule (json.member k j ms) found = if comes_later k ms then over rule ms found else put k (data_of rule j) (over rule ms found)

over_none : (rule : Reals) (ms : json.Members) → over rule ms no_members ≡ members_of rule [] ms
over_none rule json.no_members = refl
over_none rule (json.member k j ms) = ap (λ made. if comes_later k ms then made else put k (data_of rule j) made) (over_none rule ms)

same_name : (b : Bool) (k : List ℕ) (d e : Data) (made : Members) → (if b then (if b then made else put k d made) else put k e (if b then made else put k d made)) ≡ (if b then made else put k e made)
same_name true k d e made = refl
same_name false k d e made = put_twice k d e made

other_name : (b c : Bool) (k l : List ℕ) (d e : Data) (made : Members) → (k ≡ l → ⊥)
    → (if c then (if b then made else put k d made) else put l e (if b then made else put k d made)) ≡ (if b then (if c then made else put l e made) else put k d (if c then made else put l e made))
other_name true true k l d e made apart = refl
other_name true false k l d e made apart = refl
other_name false true k l d e made apart = refl
other_name false false k l d e made apart = sym (put_apart k l d e made apart)

-- a member that was found before stays where no later one has its name
over_put : (rule : Reals) (ms : json.Members) (k : List ℕ) (d : Data) (found : Members) → over rule ms (put k d found) ≡ (if comes_later k ms then over rule ms found else put k d (over rule ms found))
over_put rule json.no_members k d found = refl
over_put rule (json.member l j ms) k d found =
    let rest = over_put rule ms k d found in
    let made = over rule ms found in
    let pick = λ (b : Bool). if is_some (later_or (get_member k ms) (cond b (Some j) None)) then over rule (json.member l j ms) found else put k d (over rule (json.member l j ms) found) in
    let choose = λ (b : Bool). if b then over rule (json.member l j ms) found else put k d (over rule (json.member l j ms) found) in
    ap (λ m. if comes_later l ms then m else put l (data_of rule j) m) rest
    ∙ elim (cases_Bool (bytes_eq l k)) [
      | inl same ↦
          let is : l ≡ k = (bytes_eq-Decides l k).0 same in
          ap (λ n. if comes_later n ms then (if comes_later k ms then made else put k d made) else put n (data_of rule j) (if comes_later k ms then made else put k d made)) is
          ∙ same_name (comes_later k ms) k d (data_of rule j) made
          ∙ sym (ap (λ n. if comes_later n ms then made else put n (data_of rule j) made) is)
          ∙ sym (ap pick same ∙ ap choose (later_some (get_member k ms) j))
      | inr differs ↦
          let apart : k ≡ l → ⊥ = λ e. true≢false (sym ((bytes_eq-Decides l k).1 (sym e)) ∙ differs) in
          other_name (comes_later k ms) (comes_later l ms) k l d (data_of rule j) made apart ∙ sym (ap pick differs ∙ ap choose (later_none (get_member k ms)))
    ]

-- ---- values that are read

-- each whole number of a value is the one that it is read as
abbrev mutual
  AreKept : Reals → json.Json → Type 0
  AreKept rule json.null = ⊤
  AreKept rule (json.boolean b) = ⊤
  AreKept rule (json.number s) = (n : Num) → whole (number_of s) ≡ Some n → whole_of rule s ≡ Some n
  AreKept rule (json.string s) = ⊤
  AreKept rule (json.array js) = ItemsAreKept rule js
  AreKept rule (json.object ms) = MembersAreKept rule ms

  ItemsAreKept : Reals → json.Items → Type 0
  ItemsAreKept rule json.no_items = ⊤
  ItemsAreKept rule (json.item j js) = AreKept rule j × ItemsAreKept rule js

  MembersAreKept : Reals → json.Members → Type 0
  MembersAreKept rule json.no_members = ⊤
  MembersAreKept rule (json.member k j ms) = AreKept rule j × MembersAreKept rule ms

put_float : (k : List ℕ) (d : Data) (ms : Members) → members_have_float (put k d ms) ≡ false → has_float d ≡ false
put_float k d no_members e = (or_parts (has_float d) false e).0
put_float k d (member l b ms) e = at (cmp k l) (put_float k d ms) e
  where
    at : (o : Ordering) → (members_have_float (put k d ms) ≡ false → has_float d ≡ false)
        → members_have_float (match_ordering o (member k d (member l b ms)) (member l d ms) (member l b (put k d ms))) ≡ false → has_float d ≡ false
    at Less rest f = (or_parts (has_float d) _ f).0
    at Equal rest f = (or_parts (has_float d) _ f).0
    at Greater rest f = rest ((or_parts (has_float b) _ f).1)

number_stays : (rule : Reals) (s : List ℕ) (n : Option Num) (text : List ℕ) (d : Data) → ((m : Num) → whole n ≡ Some m → whole_of rule s ≡ Some m) → option_map number n ≡ Some d → has_float d ≡ false
    → number_or_text (whole_of rule s) text ≡ d
number_stays rule s None text d kept e f = absurd (cc)
number_stays rule s (Some (unsigned n)) text d kept e f = let is : number (unsigned n) ≡ d = cc in ap (λ o. number_or_text o text) (kept (unsigned n) refl) ∙ is
number_stays rule s (Some (negative z)) text d kept e f = let is : number (negative z) ≡ d = cc in ap (λ o. number_or_text o text) (kept (negative z) refl) ∙ is
number_stays rule s (Some (float x)) text d kept e f = let is : number (float x) ≡ d = cc in absurd (true≢false (ap has_float is ∙ f))

-- the last of its name
last_stays : (later : Bool) (k : List ℕ) (d e : Data) (made out : Members) → (if later then made else put k d made) ≡ out → members_have_float out ≡ false → (has_float d ≡ false → e ≡ d)
    → (if later then made else put k e made) ≡ out
last_stays true k d e made out is whole same = is
last_stays false k d e made out is whole same = ap (λ v. put k v made) (same (put_float k d made (ap members_have_float is ∙ whole))) ∙ is

mutual
  stays : (rule : Reals) (j : json.Json) (d : Data) → AreKept rule j → of_json j ≡ Some d → has_float d ≡ false → data_of rule j ≡ d
  stays rule json.null d kept e f = cc
  stays rule (json.boolean b) d kept e f = cc
  stays rule (json.number s) d kept e f = number_stays rule s (number_of s) (spelled s) d kept e f
  stays rule (json.string s) d kept e f = cc
  stays rule (json.array js) d kept e f = at (read_items js) (λ ds. items_stay rule js ds kept) e
    where
      at : (o : Option Items) → ((ds : Items) → o ≡ Some ds → items_have_float ds ≡ false → items_of rule js ≡ ds) → option_map array o ≡ Some d → array (items_of rule js) ≡ d
      at None rest is = absurd (cc)
      at (Some ds) rest is = let same : array ds ≡ d = cc in ap array (rest ds refl (ap has_float same ∙ f)) ∙ same
  stays rule (json.object ms) d kept e f = at (read_members ms no_members) (λ out. members_stay rule ms no_members out kept) e
    where
      at : (o : Option Members) → ((out : Members) → o ≡ Some out → members_have_float out ≡ false → over rule ms no_members ≡ out) → option_map object o ≡ Some d → object (members_of rule [] ms) ≡ d
      at None rest is = absurd (cc)
      at (Some out) rest is = let same : object out ≡ d = cc in ap object (sym (over_none rule ms) ∙ rest out refl (ap has_float same ∙ f)) ∙ same

  items_stay : (rule : Reals) (js : json.Items) (ds : Items) → ItemsAreKept rule js → read_items js ≡ Some ds → items_have_float ds ≡ false → items_of rule js ≡ ds
  items_stay rule json.no_items ds kept e f = cc
  items_stay rule (json.item j js) ds kept e f = at (of_json j) (read_items js) (λ d. stays rule j d kept.0) (λ rest. items_stay rule js rest kept.1) e
    where
      at : (o : Option Data) (q : Option Items) → ((d : Data) → o ≡ Some d → has_float d ≡ false → data_of rule j ≡ d) → ((rest : Items) → q ≡ Some rest → items_have_float rest ≡ false → items_of rule js ≡ rest)
          → option_and_then (λ d. option_map (item d) q) o ≡ Some ds → item (data_of rule j) (items_of rule js) ≡ ds
      at None q first rest is = absurd (cc)
      at (Some d) None first rest is = absurd (cc)
      at (Some d) (Some r) first rest is =
          let same : item d r ≡ ds = cc in
          let parts = or_parts (has_float d) (items_have_float r) (ap items_have_float same ∙ f) in
          ap (λ v. item v (items_of rule js)) (first d refl parts.0) ∙ ap (item d) (rest r refl parts.1) ∙ same

  members_stay : (rule : Reals) (ms : json.Members) (found out : Members) → MembersAreKept rule ms → read_members ms found ≡ Some out → members_have_float out ≡ false → over rule ms found ≡ out
  members_stay rule json.no_members found out kept e f = cc
  members_stay rule (json.member k j ms) found out kept e f = at (of_json j) (λ d. stays rule j d kept.0) (λ v g. members_stay rule ms (put k v found) out kept.1 g f) e
    where
      at : (o : Option Data) → ((d : Data) → o ≡ Some d → has_float d ≡ false → data_of rule j ≡ d) → ((v : Data) → read_members ms (put k v found) ≡ Some out → over rule ms (put k v found) ≡ out)
          → option_and_then (λ d. read_members ms (put k d found)) o ≡ Some out → over rule (json.member k j ms) found ≡ out
      at None first rest is = absurd (cc)
      at (Some d) first rest is = last_stays (comes_later k ms) k d (data_of rule j) (over rule ms found) out (sym (over_put rule ms k d found) ∙ rest d is) f (first d refl)

-- numbers as they are written
mutual
  written : (j : json.Json) → AreKept Text j
  written json.null = tt
  written (json.boolean b) = tt
  written (json.number s) = λ n e. e
  written (json.string s) = tt
  written (json.array js) = items_written js
  written (json.object ms) = members_written ms

  items_written : (js : json.Items) → ItemsAreKept Text js
  items_written json.no_items = tt
  items_written (json.item j js) = (written j, items_written js)

  members_written : (ms : json.Members) → MembersAreKept Text ms
  members_written json.no_members = tt
  members_written (json.member k j ms) = (written j, members_written ms)

-- numbers by what they are worth
number_worth : (rule : Reals) (s : List ℕ) (n : Num) → IsNumber s → whole (number_of s) ≡ Some n → whole_of rule s ≡ Some n
number_worth Whole s n h e = written_is_worth s n (numbers_are_numerals s h) e
number_worth Text s n h e = e
number_worth Refuse s n h e = written_is_worth s n (numbers_are_numerals s h) e

mutual
  worth : (rule : Reals) (j : json.Json) → HasNumbers j → AreKept rule j
  worth rule json.null h = tt
  worth rule (json.boolean b) h = tt
  worth rule (json.number s) h = λ n. number_worth rule s n h
  worth rule (json.string s) h = tt
  worth rule (json.array js) h = items_worth rule js h
  worth rule (json.object ms) h = members_worth rule ms h

  items_worth : (rule : Reals) (js : json.Items) → ItemsHaveNumbers js → ItemsAreKept rule js
  items_worth rule json.no_items h = tt
  items_worth rule (json.item j js) h = (worth rule j h.0, items_worth rule js h.1)

  members_worth : (rule : Reals) (ms : json.Members) → MembersHaveNumbers ms → MembersAreKept rule ms
  members_worth rule json.no_members h = tt
  members_worth rule (json.member k j ms) h = (worth rule j h.0, members_worth rule ms h.1)

pub value_stays : WholeValuesStay
value_stays j d e f = stays Text j d (written j) e f

pub read_value_stays : ReadWholeValuesStay
read_value_stays rule j d h e f = stays rule j d (worth rule j h) e f
