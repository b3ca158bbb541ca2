-- Tables of the positions beside positions, and lists of positions.
use Rattle.std.proofs.Common.{◌≡◌, ◌+◌, ◌<◌, ◌⊎◌, ◌↔◌, ℕ, Bool, true, false, cond, List, [], ◌∷◌, ◌++◌, length, inl, inr, refl, sym, ap, ◌∙◌, subst, arith, Option, Some, None}
use Rattle.std.specs.Prelude.{IsSome, Vec, unwrap_or}
use Rattle.std.specs.BTreeMap.{BTreeMap, get, is_at, Updates}
use Rattle.std.specs.Map.{lookup, remove_entry}
use Rattle.std.specs.Ordering.{is_eq}
use Rattle.std.specs.declared.alloc.Global.{Global}
use Rattle.grid.specs.declared.pos.Pos.{Pos}
use Rattle.lines.specs.Turned.{position_cmp}
use Rattle.lines.proofs.Positions.{position_apart, position_decide, position_tied, tied_position, true_false}
use Rattle.theory.specs.Lists.{Has}
use Rattle.theory.proofs.Lists.{Has-append, Has-append_left, Has-append_right}
use Rattle.compare.specs.declared.quality.pairs.NearPlace.{NearPlace}
use Rattle.snapping.specs.NearlyShared.Joined.{positions_in}
use Rattle.snapping.specs.NearlyShared.Rest.{AreBeside, ArePaired, Table, beside, listed, recorded}

pub Has-decide : (p : Pos) (ps : List Pos) → Has p ps ⊎ (¬ Has p ps)
Has-decide p [] = inr (λ h. h)
Has-decide p (q ∷ ps) =
    elim (position_decide p q) [
      | inl e ↦ inl (inl e)
      | inr n ↦ elim (Has-decide p ps) [ inl h ↦ inl (inr h) | inr m ↦ inr (λ h. elim h [ inl e ↦ n e | inr k ↦ m k ]) ]
    ]

-- either nothing is there, or something
pub some_or_none : {A : Type 0} (o : Option A) → ((v : A) × (o ≡ Some v)) ⊎ (o ≡ None)
some_or_none None = inr refl
some_or_none (Some v) = inl (v, refl)

pub some_is : {A : Type 0} (o : Option A) (v : A) → o ≡ Some v → IsSome o
some_is o v e = subst IsSome (sym e) refl

pub none_is : {A : Type 0} (o : Option A) → o ≡ None → ¬ IsSome o
none_is None e h = cc
none_is (Some v) e h = cc

pub is_some_of : {A : Type 0} (o : Option A) → IsSome o → (v : A) × (o ≡ Some v)
is_some_of None h = absurd cc
is_some_of (Some v) h = (v, refl)

-- what a table has elsewhere, when it gets or loses what it has at a position
pub elsewhere : {X : Type 0} (m n : BTreeMap Pos X) (p : Pos) (o : Option X) → Updates position_cmp m n p o → (q : Pos) → ¬ (q ≡ p) → get position_cmp n q ≡ get position_cmp m q
elsewhere m n p o u q a = u.2 q (position_apart p q a)

-- how many positions the lists of entries have
abbrev pub listed_in : List (Pos × Vec Pos Global) → ℕ
listed_in [] = 0
listed_in (e ∷ es) = length e.1.items + listed_in es

-- with those of the list that is taken out
pub listed_without : (test : Pos → Bool) (es : List (Pos × Vec Pos Global)) (v : Vec Pos Global) → lookup test es ≡ Some v →
    listed_in (remove_entry test es) + length v.items ≡ listed_in es
listed_without test [] v e = absurd cc
listed_without test (x ∷ es) v e = go (test x.0) (listed_without test es v) e
  where
    go : (b : Bool) → (lookup test es ≡ Some v → listed_in (remove_entry test es) + length v.items ≡ listed_in es) → cond b (Some x.1) (lookup test es) ≡ Some v → listed_in (cond b es (x ∷ remove_entry test es)) + length v.items ≡ listed_in (x ∷ es)
    go true r f = let h : x.1 ≡ v = cc in let k = ap (λ (w : Vec Pos Global). length w.items) h in omega (arith, k)
    go false r f = let h = r f in omega (arith, h)

-- and where nothing is
pub nothing_out : (test : Pos → Bool) (es : List (Pos × Vec Pos Global)) → lookup test es ≡ None → remove_entry test es ≡ es
nothing_out test [] e = refl
nothing_out test (x ∷ es) e = go (test x.0) (nothing_out test es) e
  where
    go : (b : Bool) → (lookup test es ≡ None → remove_entry test es ≡ es) → cond b (Some x.1) (lookup test es) ≡ None → cond b es (x ∷ remove_entry test es) ≡ x ∷ es
    go true r f = absurd cc
    go false r f = ap (λ l. x ∷ l) (r f)

pub nil_of : {A : Type 0} (l : List A) → length l ≡ 0 → l ≡ []
nil_of [] e = refl
nil_of (x ∷ l) e = absurd (omega (arith, e))

-- no entries have nothing
pub empty_none : {X : Type 0} (test : Pos → Bool) (es : List (Pos × X)) → ¬ (0 < length es) → lookup test es ≡ None
empty_none test [] n = refl
empty_none test (e ∷ es) n = absurd (n (omega arith))

-- ---- notes

pub listed_or : (o : Option (Vec Pos Global)) (d : Vec Pos Global) → d.items ≡ [] → (unwrap_or o d).items ≡ listed o
listed_or None d e = e
listed_or (Some v) d e = refl

pub recorded_there : (old mid new : Table) (one other q : Pos) (before after : Vec Pos Global) → before.items ≡ beside old one → after.items ≡ before.items ++ (other ∷ []) →
    Updates position_cmp old mid one None → Updates position_cmp mid new one (Some after) → beside new q ≡ recorded one other q (beside old q)
recorded_there old mid new one other q before after b a u w = go (is_eq (position_cmp one q)) refl
  where
    go : (t : Bool) → is_eq (position_cmp one q) ≡ t → beside new q ≡ cond t (beside old q ++ (other ∷ [])) (beside old q)
    go true e =
        let same : one ≡ q = position_tied one q e in
        ap (beside new) (sym same) ∙ ap listed w.1 ∙ a ∙ ap (λ l. l ++ (other ∷ [])) (b ∙ ap (beside old) same)
    go false e = ap listed (w.2 q e) ∙ ap listed (u.2 q e)

-- the noted position, and those before
pub recorded_has : (one other p q : Pos) (l : List Pos) → Has q (recorded one other p l) ↔ (Has q l ⊎ ((p ≡ one) × (q ≡ other)))
recorded_has one other p q l = go (is_eq (position_cmp one p)) refl
  where
    go : (t : Bool) → is_eq (position_cmp one p) ≡ t → Has q (cond t (l ++ (other ∷ [])) l) ↔ (Has q l ⊎ ((p ≡ one) × (q ≡ other)))
    go true e = (
      (λ h. elim (Has-append q l (other ∷ []) h) [ inl k ↦ inl k | inr k ↦ elim k [ inl f ↦ inr (sym (position_tied one p e), f) | inr a ↦ absurd a ] ]),
      (λ h. elim h [ inl k ↦ Has-append_left q l (other ∷ []) k | inr k ↦ Has-append_right q l (other ∷ []) (inl k.1) ]),
    )
    go false e = ((λ h. inl h), (λ h. elim h [ inl k ↦ k | inr k ↦ absurd (true_false (is_eq (position_cmp one p)) (tied_position one p (sym k.0)) e) ]))

-- the neighbours that are noted, and those of the pairs that are left, are those of all pairs
pub record AreRecorded (pairs left : List (NearPlace × NearPlace)) (m : Table) : Type 0 where
  pub each : (p q : Pos) → (Has q (beside m p) ⊎ ArePaired (positions_in left) p q) ↔ ArePaired (positions_in pairs) p q

pub none_recorded : (pairs : List (NearPlace × NearPlace)) (m : Table) → m.entries ≡ [] → AreRecorded pairs pairs m
none_recorded pairs m e = record {
  each = λ p q. ((λ h. elim h [ inl k ↦ absurd (subst (Has q) (ap (λ es. listed (lookup (is_at (position_cmp p)) es)) e) k) | inr k ↦ k ]), (λ h. inr h));
}

both_same : (a b c d : Pos) → a ≡ c → b ≡ d → ◌≡◌ {A = Pos × Pos} (a, b) (c, d)
both_same a b c d e f = cc

pub one_more_recorded : (pairs left rest : List (NearPlace × NearPlace)) (one other : NearPlace) (m n k : Table) → left ≡ (one, other) ∷ rest →
    ((q : Pos) → beside n q ≡ recorded one.at other.at q (beside m q)) → ((q : Pos) → beside k q ≡ recorded other.at one.at q (beside n q)) → AreRecorded pairs left m →
    AreRecorded pairs rest k
one_more_recorded pairs left rest one other m n k e f g a = record {
  each = λ p q. ((λ h. (a.each p q).0 (back p q h)), (λ h. on p q ((a.each p q).1 h)));
}
  where
    is_left : (p q : Pos) → ArePaired (positions_in ((one, other) ∷ rest)) p q → ArePaired (positions_in left) p q
    is_left p q h = subst (λ l. ArePaired (positions_in l) p q) (sym e) h

    recorded_once : (p q : Pos) → Has q (beside n p) → Has q (beside m p) ⊎ ArePaired (positions_in left) p q
    recorded_once p q h =
        elim ((recorded_has one.at other.at p q (beside m p)).0 (subst (Has q) (f p) h)) [
          | inl w ↦ inl w
          | inr w ↦ inr (is_left p q (inl (inl (both_same p q one.at other.at w.0 w.1))))
        ]

    back : (p q : Pos) → Has q (beside k p) ⊎ ArePaired (positions_in rest) p q → Has q (beside m p) ⊎ ArePaired (positions_in left) p q
    back p q (inl h) =
        elim ((recorded_has other.at one.at p q (beside n p)).0 (subst (Has q) (g p) h)) [
          | inl w ↦ recorded_once p q w
          | inr w ↦ inr (is_left p q (inr (inl (both_same q p one.at other.at w.1 w.0))))
        ]
    back p q (inr (inl h)) = inr (is_left p q (inl (inr h)))
    back p q (inr (inr h)) = inr (is_left p q (inr (inr h)))

    in_n : (p q : Pos) → Has q (beside m p) ⊎ ((p ≡ one.at) × (q ≡ other.at)) → Has q (beside k p)
    in_n p q h =
        subst (Has q) (sym (g p)) ((recorded_has other.at one.at p q (beside n p)).1 (inl (subst (Has q) (sym (f p)) ((recorded_has one.at other.at p q (beside m p)).1 h))))

    paired_on : (p q : Pos) → ArePaired (positions_in ((one, other) ∷ rest)) p q → Has q (beside k p) ⊎ ArePaired (positions_in rest) p q
    paired_on p q (inl (inl h)) = inl (in_n p q (inr (ap (λ w. w.0) h, ap (λ w. w.1) h)))
    paired_on p q (inl (inr h)) = inr (inl h)
    paired_on p q (inr (inl h)) =
        inl (subst (Has q) (sym (g p)) ((recorded_has other.at one.at p q (beside n p)).1 (inr (ap (λ w. w.1) h, ap (λ w. w.0) h))))
    paired_on p q (inr (inr h)) = inr (inr h)

    on : (p q : Pos) → Has q (beside m p) ⊎ ArePaired (positions_in left) p q → Has q (beside k p) ⊎ ArePaired (positions_in rest) p q
    on p q (inl h) = inl (in_n p q (inl h))
    on p q (inr h) = paired_on p q (subst (λ l. ArePaired (positions_in l) p q) e h)

pub all_recorded : (pairs left : List (NearPlace × NearPlace)) (m : Table) → left ≡ [] → AreRecorded pairs left m → AreBeside (positions_in pairs) m
all_recorded pairs left m e a = λ p q. (
  (λ h. (a.each p q).0 (inl h)),
  (λ h. elim ((a.each p q).1 h) [
    | inl k ↦ k
    | inr k ↦ elim (subst (λ l. ArePaired (positions_in l) p q) e k) [ inl w ↦ absurd w | inr w ↦ absurd w ]
  ]),
)
