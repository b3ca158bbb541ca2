-- Faults that were found of lists, pairs and members.
use Rattle.std.proofs.Common.{◌≡◌, ℕ, zero, suc, string_bytes, ◌+◌, ◌<◌, ◌≤◌, length, get_or, drop, List, [], ◌∷◌, ◌++◌, Option, Some, None, map, true, false, refl, sym, ap, subst, arith}
use Rattle.std.proofs.lemmas.List.{drop_all}
use Rattle.serde_json.specs.Data.{Data}
use Rattle.serde_json.specs.Find.{get, as_array}
use Rattle.serde_json.specs.View.{view, items_of, members_view}
use Rattle.serde_json.specs.declared.value.Value.{Value}
use Rattle.serde_json.proofs.Views.{Entry}
use Rattle.faults.specs.Path.{name, index}
use Rattle.faults.specs.Fault.{Pair, pair_of}
use Rattle.faults.specs.declared.fault.FaultKind.TheVariants.{NotJson, Missing, WrongKind, NotTwo, OutOfMemory}
use Rattle.std.specs.List.{Contains}
use Rattle.faults.specs.declared.fault.Fault.{Fault}
use Rattle.lines.specs.declared.shape_fault.ShapeFault.{ShapeFault}
use Rattle.reading.specs.Outlines.{outline_kind, outline_faults}
use Rattle.reading.specs.Fault.{here, under, unless_faulty, IsLeast, LeastOrWant}
use Rattle.reading.specs.Parts.{array_faults, each_faults, two_faults, option_faults, member_faults, each_member_faults}
use Rattle.reading.specs.Text.{text_faults}
use Rattle.reading.proofs.Lists.{array_is, each_more, two_is, not_two}
use Rattle.reading.specs.FaultLists.Found.{kept, is_full, AreFound, AtMostOne}
use Rattle.reading.specs.declared.fault_lists.found.Wanted.{Wanted}
use Rattle.reading.specs.declared.fault_lists.found.Wanted.TheVariants.{First, All}
use Rattle.reading.proofs.FaultListsLemmas.Kept.{FoundSoFar, so_far_none, so_far_next, so_far_enough, so_far_all, found_none, found_same, found_under, found_more, found_enough, one_under}

-- ---- lists

pub each_next : (w : Wanted) (of : Data → List Pair) (all : List Pair) (vs : List Value) (i : ℕ) (v : Value) (found new now : List Pair) → i < length vs → v ≡ get_or vs i v
    → FoundSoFar w all (each_faults of i (map view (drop i vs))) found → AreFound w (of (view v)) new → now ≡ found ++ under (index i) new → is_full w now ≡ false
    → FoundSoFar w all (each_faults of (i + 1) (map view (drop (i + 1) vs))) now
each_next w of all vs i v found new now less at h one is more =
    so_far_next w (index i) all (of (view v)) _ found new now (subst (λ ps. FoundSoFar w all ps found) (each_more of vs i v less at) h) one is more

pub each_enough : (w : Wanted) (of : Data → List Pair) (all : List Pair) (vs : List Value) (i : ℕ) (v : Value) (found new now : List Pair) → i < length vs → v ≡ get_or vs i v
    → FoundSoFar w all (each_faults of i (map view (drop i vs))) found → AreFound w (of (view v)) new → now ≡ found ++ under (index i) new → is_full w now ≡ true
    → AreFound w all now
each_enough w of all vs i v found new now less at h one is full =
    so_far_enough w (index i) all (of (view v)) _ found new now (subst (λ ps. FoundSoFar w all ps found) (each_more of vs i v less at) h) one is full

pub each_end : (w : Wanted) (of : Data → List Pair) (all : List Pair) (vs : List Value) (i : ℕ) (found : List Pair) → length vs ≤ i
    → FoundSoFar w all (each_faults of i (map view (drop i vs))) found → AreFound w all found
each_end w of all vs i found past h = so_far_all w all found (subst (λ us. FoundSoFar w all (each_faults of i (map view us)) found) (drop_all i vs past) h)

pub array_found : (w : Wanted) (within : List Data → List Pair) (d : Data) (vs : List Value) (qs : List Pair) → Some (items_of (map view vs)) ≡ as_array d
    → AreFound w (within (map view vs)) qs → AreFound w (array_faults within (as_array d)) qs
array_found w within d vs qs is h = subst (λ ps. AreFound w ps qs) (sym (array_is within d vs is)) h

pub array_none : (w : Wanted) (within : List Data → List Pair) (d : Data) (qs : List Pair) → None ≡ as_array d → AtMostOne (here WrongKind) qs → AreFound w (array_faults within (as_array d)) qs
array_none w within d qs is h = rw (← is) (found_same w (here WrongKind) qs h)

-- ---- pairs

pub other_than_two : (w : Wanted) (first second : Data → List Pair) (vs : List Value) (qs : List Pair) → (length vs ≡ 2 → ⊥) → AtMostOne (here NotTwo) qs → AreFound w (two_faults first second (map view vs)) qs
other_than_two w first second vs qs other h = rw (not_two first second vs other) (found_same w (here NotTwo) qs h)

two_are : (first second : Data → List Pair) (vs : List Value) (a b : Value) → length vs ≡ 2 → a ≡ get_or vs 0 a → b ≡ get_or vs 1 b
    → two_faults first second (map view vs) ≡ under (index 0) (first (view a)) ++ under (index 1) (second (view b))
two_are first second vs a b two ea eb = ap (λ us. two_faults first second (map view us)) (two_is vs a b two ea eb)

first_of : (vs : List Value) (a : Value) → length vs ≡ 2 → a ≡ get_or vs 0 a → (b : Value) × (b ≡ get_or vs 1 b)
first_of [] a two ea = absurd (omega arith)
first_of (x ∷ []) a two ea = absurd (omega arith)
first_of (x ∷ y ∷ vs) a two ea = (y, refl)

pub first_enough : (w : Wanted) (first second : Data → List Pair) (vs : List Value) (a : Value) (new now : List Pair) → length vs ≡ 2 → a ≡ get_or vs 0 a
    → AreFound w (first (view a)) new → now ≡ under (index 0) new → is_full w now ≡ true → AreFound w (two_faults first second (map view vs)) now
first_enough w first second vs a new now two ea one is full =
    let b = first_of vs a two ea in
    subst (λ ps. AreFound w ps now) (sym (two_are first second vs a b.0 two ea b.1))
    (found_enough w _ _ now (subst (AreFound w (under (index 0) (first (view a)))) (sym is) (found_under w (index 0) (first (view a)) new one)) full)

pub both_found : (w : Wanted) (first second : Data → List Pair) (vs : List Value) (a b : Value) (new mid more now : List Pair) → length vs ≡ 2 → a ≡ get_or vs 0 a → b ≡ get_or vs 1 b
    → AreFound w (first (view a)) new → mid ≡ under (index 0) new → is_full w mid ≡ false → AreFound w (second (view b)) more → now ≡ mid ++ under (index 1) more
    → AreFound w (two_faults first second (map view vs)) now
both_found w first second vs a b new mid more now two ea eb one is room other at =
    subst (λ ps. AreFound w ps now) (sym (two_are first second vs a b two ea eb))
    (subst (AreFound w _) (sym at)
    (found_more w _ _ mid (under (index 1) more) (subst (AreFound w (under (index 0) (first (view a)))) (sym is) (found_under w (index 0) (first (view a)) new one)) (found_under w (index 1) (second (view b)) more other) room))

-- ---- members

pub option_none : (w : Wanted) (n : List ℕ) (of : Data → List Pair) (d : Data) → None ≡ get n d → AreFound w (option_faults n of d) []
option_none w n of d is = rw (← is) (found_none w)

pub option_some : (w : Wanted) (n : List ℕ) (of : Data → List Pair) (d e : Data) (new now : List Pair) → Some e ≡ get n d → AreFound w (of e) new → now ≡ under (name n) new → AreFound w (option_faults n of d) now
option_some w n of d e new now is h at = rw (← is) (subst (AreFound w (under (name n) (of e))) (sym at) (found_under w (name n) (of e) new h))

pub member_none : (w : Wanted) (n : List ℕ) (of : Data → List Pair) (d : Data) (new now : List Pair) → None ≡ get n d → AtMostOne (here Missing) new → now ≡ under (name n) new → AreFound w (member_faults n of d) now
member_none w n of d new now is h at = rw (← is) (found_same w _ now (one_under (name n) (here Missing) new now h at))

pub member_some : (w : Wanted) (n : List ℕ) (of : Data → List Pair) (d e : Data) (new now : List Pair) → Some e ≡ get n d → AreFound w (of e) new → now ≡ under (name n) new → AreFound w (member_faults n of d) now
member_some w n of d e new now is h at = rw (← is) (subst (AreFound w (under (name n) (of e))) (sym at) (found_under w (name n) (of e) new h))

-- ---- a list, and what is asked of it where it has no faults

pub unless_found : (w : Wanted) (ps qs fs : List Pair) → AreFound w ps fs → (fs ≡ [] → ⊥) → AreFound w (unless_faulty ps qs) fs
unless_found w [] qs fs h some = absurd (some (none w fs h.are))
  where
    none : (w : Wanted) (fs : List Pair) → fs ≡ kept w [] → fs ≡ []
    none First fs e = e
    none All fs e = e
unless_found w (p ∷ ps) qs fs h some = h

-- ---- each member

pub members_next : (w : Wanted) (of : Data → List Pair) (all : List Pair) (e : Entry) (es left : List Entry) (found new now : List Pair) → es ≡ e ∷ left
    → FoundSoFar w all (each_member_faults of (members_view es)) found → AreFound w (of (view e.1)) new → now ≡ found ++ under (name (string_bytes e.0)) new → is_full w now ≡ false
    → FoundSoFar w all (each_member_faults of (members_view left)) now
members_next w of all e es left found new now steps h one is more =
    so_far_next w (name (string_bytes e.0)) all (of (view e.1)) _ found new now (subst (λ ds. FoundSoFar w all (each_member_faults of (members_view ds)) found) steps h) one is more

pub members_enough : (w : Wanted) (of : Data → List Pair) (all : List Pair) (e : Entry) (es left : List Entry) (found new now : List Pair) → es ≡ e ∷ left
    → FoundSoFar w all (each_member_faults of (members_view es)) found → AreFound w (of (view e.1)) new → now ≡ found ++ under (name (string_bytes e.0)) new → is_full w now ≡ true
    → AreFound w all now
members_enough w of all e es left found new now steps h one is full =
    so_far_enough w (name (string_bytes e.0)) all (of (view e.1)) _ found new now (subst (λ ds. FoundSoFar w all (each_member_faults of (members_view ds)) found) steps h) one is full

pub members_end : (w : Wanted) (of : Data → List Pair) (all : List Pair) (es : List Entry) (found : List Pair) → es ≡ [] → FoundSoFar w all (each_member_faults of (members_view es)) found → AreFound w all found
members_end w of all es found none h = so_far_all w all found (subst (λ ds. FoundSoFar w all (each_member_faults of (members_view ds)) found) none h)

-- ---- lines and rings

no_least : (p : Pair) → IsLeast [] p → ⊥
no_least p h = let there = h.present in omega (arith, there.1)

the_one : (q p : Pair) → IsLeast (q ∷ []) p → q ≡ p
the_one q p h = go h.present
  where
    go : Contains (q ∷ []) p → q ≡ p
    go (zero, less, is) = is
    go (suc k, less, is) = absurd (omega (arith, less))

-- the fault that was told of a line or a ring is all that it has
pub outline_means : (o : Option ShapeFault) (f : Fault) (qs : List Pair) → LeastOrWant (outline_faults o) f → (f.kind ≡ OutOfMemory → ⊥) → AtMostOne (here f.kind) qs → AtMostOne (outline_faults o) qs
outline_means None f qs least real h = absurd (no_least (pair_of f) (least.least real))
outline_means (Some g) f qs least real h =
    let same = ap (λ p. p.kind) (the_one (record { path = []; kind = outline_kind g }) (pair_of f) (least.least real)) in
    subst (λ k. AtMostOne (here k) qs) (sym same) h

-- ---- texts

-- the fault that was told of bytes that are no JSON text is all that they have
pub no_document : (o : Option Data) (f : Fault) → ((of : Data → List Pair) → LeastOrWant (text_faults of o) f) → (f.kind ≡ OutOfMemory → ⊥) → (of : Data → List Pair) → text_faults of o ≡ here f.kind
no_document None f h real of = ap here (ap (λ p. p.kind) (the_one (record { path = []; kind = NotJson }) (pair_of f) ((h of).least real)))
no_document (Some d) f h real of = absurd (no_least (pair_of f) ((h (λ e. [])).least real))

pub ruleset found_leaf = (found_same, found_none)

pub ruleset found_parts = (found_more, found_enough)
