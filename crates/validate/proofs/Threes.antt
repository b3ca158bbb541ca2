-- Where three ends of arcs meet, by counting.
use Rattle.std.proofs.Common.{◌≡◌, ℕ, zero, suc, ◌+◌, ◌≤◌, Bool, true, false, cond, ◌↔◌, List, [], ◌∷◌, ◌++◌, ◌⊎◌, length, map, reverse, inl, inr, refl, sym, ap, ◌∙◌, subst, arith, Some}
use Rattle.std.specs.List.{sum_by}
use Rattle.std.specs.Ordering.{is_gt}
use Rattle.std.specs.List.Sorted.{IsPermutation}
use Rattle.std.proofs.lemmas.List.{length-append, length-map}
use Rattle.std.proofs.lemmas.List.Sums.{sum_by-cons}
use Rattle.std.proofs.lemmas.List.Sorted.{sum_by-IsPermutation}
use Rattle.grid.specs.declared.pos.Pos.{Pos}
use Rattle.lines.specs.Pairs.{position_eq}
use Rattle.lines.specs.Turned.{position_cmp}
use Rattle.lines.proofs.Positions.{position_most, position_true, true_position}
use Rattle.lines.proofs.SortedLists.{Up}
use Rattle.theory.proofs.Lists.{Has-append, Has-append_left, Has-append_right}
use Rattle.theory.proofs.ListsOfLists.{Has-map, map_has}
use Rattle.theory.proofs.Reversing.{reverse-last}
use Rattle.theory.specs.ArcNumbers.{ArcRef}
use Rattle.theory.specs.Lists.{Distinct, Has, front_of, gathered, last_of}
use Rattle.theory.specs.Validity.{BeginsAt, ThreeBegin}
use Rattle.validate.specs.ArcEnds.{again, again_from, both_ends}

-- how often a vertex stands in a list
abbrev pub count : Pos → List Pos → ℕ
count v [] = 0
count v (x ∷ l) = cond (position_eq v x) (suc (count v l)) (count v l)

abbrev one : Pos → Pos → ℕ
one v x = cond (position_eq v x) 1 0

count_sum : (v : Pos) (l : List Pos) → count v l ≡ sum_by (one v) l
count_sum v [] = refl
count_sum v (x ∷ l) = go (position_eq v x) (count_sum v l) ∙ sym (sum_by-cons (one v) x l)
  where
    go : (b : Bool) → count v l ≡ sum_by (one v) l → cond b (suc (count v l)) (count v l) ≡ cond b 1 0 + sum_by (one v) l
    go true e = omega (arith, e)
    go false e = omega (arith, e)

pub count_moved : (v : Pos) (xs ys : List Pos) → IsPermutation xs ys → count v ys ≡ count v xs
count_moved v xs ys p = count_sum v ys ∙ sum_by-IsPermutation (one v) xs ys p ∙ sym (count_sum v xs)

pub count-append : (v : Pos) (xs ys : List Pos) → count v (xs ++ ys) ≡ count v xs + count v ys
count-append v [] ys = omega arith
count-append v (x ∷ xs) ys = go (position_eq v x) (count-append v xs ys)
  where
    go : (b : Bool) → count v (xs ++ ys) ≡ count v xs + count v ys →
        cond b (suc (count v (xs ++ ys))) (count v (xs ++ ys)) ≡ cond b (suc (count v xs)) (count v xs) + count v ys
    go true e = omega (arith, e)
    go false e = e

pub has_count : (v : Pos) (l : List Pos) → Has v l → 1 ≤ count v l
has_count v [] h = absurd h
has_count v (x ∷ l) (inl e) = let p : count v (x ∷ l) ≡ suc (count v l) = ap (λ b. cond b (suc (count v l)) (count v l)) (true_position v x e) in omega (arith, p)
has_count v (x ∷ l) (inr h) = go (position_eq v x) (has_count v l h)
  where
    go : (b : Bool) → 1 ≤ count v l → 1 ≤ cond b (suc (count v l)) (count v l)
    go true e = omega (arith, e)
    go false e = e

pub count_has : (v : Pos) (l : List Pos) → 1 ≤ count v l → Has v l
count_has v [] h = absurd (omega (arith, h))
count_has v (x ∷ l) h = go (position_eq v x) refl h (count_has v l)
  where
    go : (b : Bool) → position_eq v x ≡ b → 1 ≤ cond b (suc (count v l)) (count v l) → (1 ≤ count v l → Has v l) → Has v (x ∷ l)
    go true p h k = inl (position_true v x p)
    go false p h k = inr (k h)

pub count_none : (v : Pos) (l : List Pos) → ¬ Has v l → count v l ≡ 0
count_none v l n = go (count v l) refl
  where
    go : (m : ℕ) → count v l ≡ m → m ≡ 0
    go zero e = refl
    go (suc m) e = absurd (n (count_has v l (omega (arith, e))))

again_within : (x : Pos) (l : List Pos) (v : Pos) → Has v (again_from x l) → Has v l
again_within x [] v h = absurd h
again_within x (y ∷ l) v h = go (position_eq y x) h (again_within y l v)
  where
    go : (b : Bool) → Has v (cond b (y ∷ again_from y l) (again_from y l)) → (Has v (again_from y l) → Has v l) → Has v (y ∷ l)
    go true (inl e) ih = inl e
    go true (inr i) ih = inr (ih i)
    go false i ih = inr (ih i)

again_up : (x : Pos) (l : List Pos) → Up position_cmp (x ∷ l) → Up position_cmp (again_from x l)
again_up x [] u = tt
again_up x (y ∷ l) u = go (position_eq y x) (again_up y l u.1)
  where
    go : (b : Bool) → Up position_cmp (again_from y l) → Up position_cmp (cond b (y ∷ again_from y l) (again_from y l))
    go true k = ((λ z h. u.1.0 z (again_within y l z h)), k)
    go false k = k

pub up_again : (l : List Pos) → Up position_cmp l → Up position_cmp (again l)
up_again [] u = tt
up_again (x ∷ l) u = again_up x l u

-- each vertex of a sorted list stands once less often
count_from : (v x : Pos) (l : List Pos) → Up position_cmp (x ∷ l) → suc (count v (again_from x l)) ≡ count v (x ∷ l) ⊎ ((count v (again_from x l) ≡ 0) × (count v (x ∷ l) ≡ 0))
count_from v x [] u = go (position_eq v x)
  where
    go : (b : Bool) → (◌≡◌ {A = ℕ} 1 (cond b 1 0)) ⊎ ((◌≡◌ {A = ℕ} 0 0) × (◌≡◌ {A = ℕ} (cond b 1 0) 0))
    go true = inl refl
    go false = inr (refl, refl)
count_from v x (y ∷ l) u = go (position_eq y x) refl (position_eq v x) refl (count_from v y l u.1)
  where
    next : ℕ
    next = count v (y ∷ l)

    go : (b : Bool) → position_eq y x ≡ b → (d : Bool) → position_eq v x ≡ d →
        (suc (count v (again_from y l)) ≡ next) ⊎ ((count v (again_from y l) ≡ 0) × (next ≡ 0)) →
        (suc (count v (cond b (y ∷ again_from y l) (again_from y l))) ≡ cond d (suc next) next)
        ⊎ ((count v (cond b (y ∷ again_from y l) (again_from y l)) ≡ 0) × (cond d (suc next) next ≡ 0))
    go true p true q ih =
        let e : v ≡ y = position_true v x q ∙ sym (position_true y x p) in
        let m : count v (y ∷ again_from y l) ≡ suc (count v (again_from y l)) = ap (λ b. cond b (suc (count v (again_from y l))) (count v (again_from y l))) (true_position v y e) in
        let n : next ≡ suc (count v l) = ap (λ b. cond b (suc (count v l)) (count v l)) (true_position v y e) in
        elim ih [ inl f ↦ inl (omega (arith, f, m)) | inr f ↦ absurd (omega (arith, f.1, n)) ]
    go true p false q ih = other (position_eq v y) refl
      where
        other : (t : Bool) → position_eq v y ≡ t → (suc (cond t (suc (count v (again_from y l))) (count v (again_from y l))) ≡ next) ⊎ ((cond t (suc (count v (again_from y l))) (count v (again_from y l)) ≡ 0) × (next ≡ 0))
        other true t = absurd (let f : position_eq v x ≡ true = true_position v x (position_true v y t ∙ position_true y x p) in let g : true ≡ false = sym f ∙ q in cc)
        other false t = ih
    go false p true q ih =
        let e : v ≡ x = position_true v x q in
        let none : ¬ Has v (y ∷ l) = λ h. absent e h in
        let m : next ≡ 0 = count_none v (y ∷ l) none in
        elim ih [ inl f ↦ absurd (omega (arith, f, m)) | inr f ↦ inl (omega (arith, f.0, m)) ]
      where
        absent : v ≡ x → ¬ Has v (y ∷ l)
        absent e (inl f) = let g : position_eq y x ≡ true = true_position y x (sym f ∙ e) in let k : true ≡ false = sym g ∙ p in cc
        absent e (inr h) =
            let f : y ≡ x = position_most y x (subst (λ w. is_gt (position_cmp y w) ≡ false) e (u.1.0 v h)) (u.0 y (inl refl)) in
            let g : position_eq y x ≡ true = true_position y x f in
            let k : true ≡ false = sym g ∙ p in cc
    go false p false q ih = ih

pub count_again : (v : Pos) (l : List Pos) → Up position_cmp l → (n : ℕ) → (suc n ≤ count v (again l) → suc (suc n) ≤ count v l) × (suc (suc n) ≤ count v l → suc n ≤ count v (again l))
count_again v [] u n = ((λ h. absurd (omega (arith, h))), (λ h. absurd (omega (arith, h))))
count_again v (x ∷ l) u n =
    elim (count_from v x l u) [
      | inl e ↦ ((λ h. omega (arith, h, e)), (λ h. omega (arith, h, e)))
      | inr e ↦ ((λ h. absurd (omega (arith, h, e.0))), (λ h. absurd (omega (arith, h, e.1))))
    ]

abbrev ref_to : ℕ → Bool → ArcRef
ref_to k b = record { arc = k; reversed = b }

abbrev forth : ArcRef
forth = ref_to 0 false

abbrev back : ArcRef
back = ref_to 0 true

-- the used arcs of the first arc that begin at v, and those of all
abbrev at_first : Pos → List Pos → List ArcRef
at_first v [] = []
at_first v (x ∷ r) =
    cond (position_eq v x) (forth ∷ []) []
    ++ cond (position_eq v (last_of x r)) (back ∷ []) []

abbrev later : ArcRef → ArcRef
later a = record { arc = suc a.arc; reversed = a.reversed }

abbrev at_all : Pos → List (List Pos) → List ArcRef
at_all v [] = []
at_all v (c ∷ arcs) = at_first v c ++ map later (at_all v arcs)

first_counted : (v : Pos) (c : List Pos) → length (at_first v c) ≡ count v (both_ends c)
first_counted v [] = refl
first_counted v (x ∷ r) = go (position_eq v x) (position_eq v (last_of x r))
  where
    go : (b d : Bool) → length {A = ArcRef} (cond b (forth ∷ []) [] ++ cond d (back ∷ []) []) ≡ cond b (suc (cond d 1 0)) (cond d 1 0)
    go true true = refl
    go true false = refl
    go false true = refl
    go false false = refl

all_counted : (v : Pos) (arcs : List (List Pos)) → length (at_all v arcs) ≡ count v (gathered both_ends arcs)
all_counted v [] = refl
all_counted v (c ∷ arcs) =
    length-append (at_first v c) (map later (at_all v arcs))
    ∙ (λ i. first_counted v c i + (length-map (at_all v arcs) later ∙ all_counted v arcs) i)
    ∙ sym (count-append v (both_ends c) (gathered both_ends arcs))

-- what begins a list, or its reverse
begins_forward : (v x : Pos) (r : List Pos) (arcs : List (List Pos)) → v ≡ x → BeginsAt ((x ∷ r) ∷ arcs) v forth
begins_forward v x r arcs e = (r, ap (λ w. Some (w ∷ r)) (sym e))

begins_back : (v x : Pos) (r : List Pos) (arcs : List (List Pos)) → v ≡ last_of x r → BeginsAt ((x ∷ r) ∷ arcs) v back
begins_back v x r arcs e = (reverse (front_of x r), ap Some (reverse-last x r) ∙ ap (λ w. Some (w ∷ reverse (front_of x r))) (sym e))

all_begin : (v : Pos) (arcs : List (List Pos)) (b : ArcRef) → Has b (at_all v arcs) → BeginsAt arcs v b
all_begin v [] b h = absurd h
all_begin v (c ∷ arcs) b h =
    elim (Has-append b (at_first v c) (map later (at_all v arcs)) h) [
      | inl k ↦ here c k
      | inr k ↦ (let t = map_has later (at_all v arcs) b k in subst (BeginsAt (c ∷ arcs) v) (sym t.2) (all_begin v arcs t.0 t.1))
    ]
  where
    here : (c : List Pos) → Has b (at_first v c) → BeginsAt (c ∷ arcs) v b
    here [] h = absurd h
    here (x ∷ r) h = go (position_eq v x) refl (position_eq v (last_of x r)) refl h
      where
        go : (s : Bool) → position_eq v x ≡ s → (t : Bool) → position_eq v (last_of x r) ≡ t →
            Has {V = ArcRef} b (cond s (forth ∷ []) [] ++ cond t (back ∷ []) []) → BeginsAt ((x ∷ r) ∷ arcs) v b
        go true p t q (inl e) = subst (BeginsAt ((x ∷ r) ∷ arcs) v) (sym e) (begins_forward v x r arcs (position_true v x p))
        go true p true q (inr (inl e)) = subst (BeginsAt ((x ∷ r) ∷ arcs) v) (sym e) (begins_back v x r arcs (position_true v (last_of x r) q))
        go true p true q (inr (inr h)) = absurd h
        go true p false q (inr h) = absurd h
        go false p true q (inl e) = subst (BeginsAt ((x ∷ r) ∷ arcs) v) (sym e) (begins_back v x r arcs (position_true v (last_of x r) q))
        go false p true q (inr h) = absurd h
        go false p false q h = absurd h

begin_all : (v : Pos) (arcs : List (List Pos)) (k : ℕ) (s : Bool) → BeginsAt arcs v (ref_to k s) → Has {V = ArcRef} (ref_to k s) (at_all v arcs)
begin_all v [] k s (q, e) = absurd cc
begin_all v (c ∷ arcs) (suc k) s h =
    Has-append_right (ref_to (suc k) s) (at_first v c) (map later (at_all v arcs))
    (Has-map later (at_all v arcs) (ref_to k s) (begin_all v arcs k s h))
begin_all v ([] ∷ arcs) zero true (q, e) = absurd cc
begin_all v ([] ∷ arcs) zero false (q, e) = absurd cc
begin_all v ((x ∷ r) ∷ arcs) zero false (q, e) =
    let p : v ≡ x = cc in
    Has-append_left forth (at_first v (x ∷ r)) (map later (at_all v arcs))
    (Has-append_left forth (cond (position_eq v x) (forth ∷ []) [])
    (cond (position_eq v (last_of x r)) (back ∷ []) [])
    (subst (λ b. Has {V = ArcRef} forth (cond b (forth ∷ []) [])) (sym (true_position v x p)) (inl refl)))
begin_all v ((x ∷ r) ∷ arcs) zero true (q, e) =
    let f : Some (last_of x r ∷ reverse (front_of x r)) ≡ Some (v ∷ q) = sym (ap Some (reverse-last x r)) ∙ e in
    let p : v ≡ last_of x r = cc in
    Has-append_left back (at_first v (x ∷ r)) (map later (at_all v arcs))
    (Has-append_right back (cond (position_eq v x) (forth ∷ []) [])
    (cond (position_eq v (last_of x r)) (back ∷ []) [])
    (subst (λ b. Has {V = ArcRef} back (cond b (back ∷ []) [])) (sym (true_position v (last_of x r) p)) (inl refl)))

-- each stands there once
Distinct-append : {A : Type 0} (l m : List A) → Distinct l → Distinct m → ((x : A) → Has x l → ¬ Has x m) → Distinct (l ++ m)
Distinct-append [] m d e n = e
Distinct-append (x ∷ l) m d e n =
    ((λ h. elim (Has-append x l m h) [ inl k ↦ d.0 k | inr k ↦ n x (inl refl) k ]), Distinct-append l m d.1 e (λ y h. n y (inr h)))

later_distinct : (l : List ArcRef) → Distinct l → Distinct (map later l)
later_distinct [] d = tt
later_distinct (x ∷ l) d = ((λ h. let t = map_has later l (later x) h in d.0 (subst (λ w. Has w l) (sym (same x t.0 t.2)) t.1)), later_distinct l d.1)
  where
    same : (x y : ArcRef) → later x ≡ later y → x ≡ y
    same x y e =
        let p : suc x.arc ≡ suc y.arc = ap (λ a. a.arc) e in
        let q : x.reversed ≡ y.reversed = ap (λ a. a.reversed) e in
        let k : x.arc ≡ y.arc = omega (arith, p) in
        λ i. record { arc = k i; reversed = q i }

first_arc : (v : Pos) (c : List Pos) (b : ArcRef) → Has b (at_first v c) → b.arc ≡ 0
first_arc v [] b h = absurd h
first_arc v (x ∷ r) b h = go (position_eq v x) (position_eq v (last_of x r)) h
  where
    go : (s t : Bool) → Has {V = ArcRef} b (cond s (forth ∷ []) [] ++ cond t (back ∷ []) []) → b.arc ≡ 0
    go true t (inl e) = ap (λ a. a.arc) e
    go true true (inr (inl e)) = ap (λ a. a.arc) e
    go true true (inr (inr h)) = absurd h
    go true false (inr h) = absurd h
    go false true (inl e) = ap (λ a. a.arc) e
    go false true (inr h) = absurd h
    go false false h = absurd h

first_distinct : (v : Pos) (c : List Pos) → Distinct (at_first v c)
first_distinct v [] = tt
first_distinct v (x ∷ r) = go (position_eq v x) (position_eq v (last_of x r))
  where
    go : (s t : Bool) → Distinct {V = ArcRef} (cond s (forth ∷ []) [] ++ cond t (back ∷ []) [])
    go true true = ((λ h. elim h [ inl e ↦ (let p : false ≡ true = ap (λ (a : ArcRef). a.reversed) e in cc) | inr k ↦ k ]), ((λ h. h), tt))
    go true false = ((λ h. h), tt)
    go false true = ((λ h. h), tt)
    go false false = tt

all_distinct : (v : Pos) (arcs : List (List Pos)) → Distinct (at_all v arcs)
all_distinct v [] = tt
all_distinct v (c ∷ arcs) =
    Distinct-append (at_first v c) (map later (at_all v arcs)) (first_distinct v c) (later_distinct (at_all v arcs) (all_distinct v arcs))
    (λ b h k.
    let t = map_has later (at_all v arcs) b k in
    let p : b.arc ≡ suc t.0.arc = ap (λ a. a.arc) t.2 in
    absurd (omega (arith, first_arc v c b h, p)))

-- a list with three different members has three or more, and one with three or more that differ has three
three_long : {A : Type 0} (l : List A) (a b c : A) → Has a l → Has b l → Has c l → ¬ (a ≡ b) → ¬ (a ≡ c) → ¬ (b ≡ c) → 3 ≤ length l
three_long [] a b c ha hb hc ab ac bc = absurd ha
three_long (x ∷ []) a b c (inl e) (inl f) hc ab ac bc = absurd (ab (e ∙ sym f))
three_long (x ∷ []) a b c (inr h) hb hc ab ac bc = absurd h
three_long (x ∷ []) a b c ha (inr h) hc ab ac bc = absurd h
three_long (x ∷ (y ∷ [])) a b c ha hb hc ab ac bc = absurd (go ha hb hc)
  where
    two : {A : Type 0} (x y a b : A) → Has a (x ∷ (y ∷ [])) → (a ≡ x) ⊎ (a ≡ y)
    two x y a b (inl e) = inl e
    two x y a b (inr (inl e)) = inr e
    two x y a b (inr (inr h)) = absurd h

    go : Has a (x ∷ (y ∷ [])) → Has b (x ∷ (y ∷ [])) → Has c (x ∷ (y ∷ [])) → ⊥
    go ha hb hc = elim (two x y a b ha) [
      | inl e ↦ elim (two x y b b hb) [
        | inl f ↦ ab (e ∙ sym f)
        | inr f ↦ elim (two x y c c hc) [ inl g ↦ ac (e ∙ sym g) | inr g ↦ bc (f ∙ sym g) ]
      ]
      | inr e ↦ elim (two x y b b hb) [
        | inr f ↦ ab (e ∙ sym f)
        | inl f ↦ elim (two x y c c hc) [ inr g ↦ ac (e ∙ sym g) | inl g ↦ bc (f ∙ sym g) ]
      ]
    ]
three_long (x ∷ (y ∷ (z ∷ l))) a b c ha hb hc ab ac bc = omega arith

pub three_means : (v : Pos) (arcs : List (List Pos)) → (3 ≤ count v (gathered both_ends arcs)) ↔ ThreeBegin arcs v
three_means v arcs = ((λ h. to (at_all v arcs) (omega (arith, h, all_counted v arcs)) (all_distinct v arcs) (all_begin v arcs)), from)
  where
    to : (l : List ArcRef) → 3 ≤ length l → Distinct l → ((b : ArcRef) → Has b l → BeginsAt arcs v b) → ThreeBegin arcs v
    to [] n d h = absurd (omega (arith, n))
    to (a ∷ []) n d h = absurd (omega (arith, n))
    to (a ∷ (b ∷ [])) n d h = absurd (omega (arith, n))
    to (a ∷ (b ∷ (c ∷ l))) n d h =
        (a, b, c, h a (inl refl), h b (inr (inl refl)), h c (inr (inr (inl refl))), (λ e. d.0 (inl e)), (λ e. d.0 (inr (inl e))), (λ e. d.1.0 (inl e)))

    from : ThreeBegin arcs v → 3 ≤ count v (gathered both_ends arcs)
    from (a, b, c, ha, hb, hc, ab, ac, bc) =
        let n : 3 ≤ length (at_all v arcs) =
        three_long (at_all v arcs) a b c (begin_all v arcs a.arc a.reversed ha) (begin_all v arcs b.arc b.reversed hb) (begin_all v arcs c.arc c.reversed hc) ab ac bc in
        omega (arith, n, all_counted v arcs)
