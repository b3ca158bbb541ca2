-- How a component is taken out of what is left.
use Rattle.std.proofs.Common.{◌≡◌, ◌⊎◌, List, [], ◌∷◌, ◌++◌, inl, inr, refl, sym, ◌∙◌, subst, Some, None}
use Rattle.std.specs.Prelude.{IsSome, Vec}
use Rattle.std.specs.BTreeMap.{get, Updates}
use Rattle.std.specs.declared.alloc.Global.{Global}
use Rattle.grid.specs.declared.pos.Pos.{Pos}
use Rattle.lines.specs.Turned.{position_cmp}
use Rattle.lines.proofs.Positions.{position_decide}
use Rattle.theory.specs.Lists.{Has}
use Rattle.theory.proofs.Lists.{Has-append, Has-append_left, Has-append_right}
use Rattle.snapping.specs.NearlyShared.Connected.{Connected}
use Rattle.snapping.specs.NearlyShared.Connected.Connected.{itself, paired, turned, through}
use Rattle.snapping.specs.NearlyShared.Rest.{AreOut, ArePaired, IsRest, IsTaken, Table}
use Rattle.snapping.proofs.NearlySharedLemmas.Tables.{Has-decide, elsewhere, none_is, some_is}

pub pair_flip : (pairs : List (Pos × Pos)) (p q : Pos) → ArePaired pairs p q → ArePaired pairs q p
pair_flip pairs p q (inl h) = inr h
pair_flip pairs p q (inr h) = inl h

pub pair_connects : (pairs : List (Pos × Pos)) (p q : Pos) → ArePaired pairs p q → Connected pairs p q
pair_connects pairs p q (inl h) = paired p q h
pair_connects pairs p q (inr h) = turned q p (paired q p h)

-- what each pair keeps, in both orders, all that is connected keeps
pub stays : (pairs : List (Pos × Pos)) (S : Pos → Type 0) → ((p q : Pos) → ArePaired pairs p q → S p → S q) → (p q : Pos) → Connected pairs p q → (S p → S q) × (S q → S p)
stays pairs S step p q (itself r) = ((λ h. h), (λ h. h))
stays pairs S step p q (paired a b h) = (step a b (inl h), step b a (inr h))
stays pairs S step p q (turned a b c) = let t = stays pairs S step a b c in (t.1, t.0)
stays pairs S step p q (through a r b c d) =
    let t = stays pairs S step a r c in
    let u = stays pairs S step r b d in
    ((λ h. u.0 (t.0 h)), (λ h. t.1 (u.1 h)))

-- all that is connected with what is left is left
pub rest_connected : (pairs : List (Pos × Pos)) (m : Table) → IsRest pairs m → (p q : Pos) → Connected pairs p q → IsSome (get position_cmp m p) → IsSome (get position_cmp m q)
rest_connected pairs m r p q c = (stays pairs (λ w. IsSome (get position_cmp m w)) (λ a b h k. r.closed a b k h) p q c).0

-- while a component is taken: the members, those that wait, and what is left
pub record Taking (pairs : List (Pos × Pos)) (whole left : Table) (first : Pos) (members waiting : List Pos) : Type 0 where
  pub from : (q : Pos) → Has q members → Connected pairs first q
  pub next : (q : Pos) → Has q waiting → Connected pairs first q
  pub out : AreOut whole left members
  pub near : (p q : Pos) → Has p members → ArePaired pairs p q → Has q members ⊎ Has q waiting
  pub begins : Has first members

pub taking_first : (pairs : List (Pos × Pos)) (whole left : Table) (first : Pos) (others : Vec Pos Global) (members : List Pos) →
    IsRest pairs whole → get position_cmp whole first ≡ Some others → Updates position_cmp whole left first None → members ≡ first ∷ [] →
    Taking pairs whole left first members others.items
taking_first pairs whole left first others members r e u m = subst (λ l. Taking pairs whole left first l others.items) (sym m) (record {
  from = λ q h. elim h [ inl f ↦ subst (λ w. Connected pairs first w) (sym f) (itself first) | inr k ↦ absurd k ];
  next = λ q h. pair_connects pairs first q ((r.lists first others e q).0 h);
  out = record {
    there = λ q h. elim h [ inl f ↦ subst (λ w. IsSome (get position_cmp whole w)) (sym f) (some_is _ others e) | inr k ↦ absurd k ];
    gone = λ q h. elim h [ inl f ↦ subst (λ w. get position_cmp left w ≡ None) (sym f) u.1 | inr k ↦ absurd k ];
    kept = λ q n. elsewhere whole left first None u q (λ f. n (inl f));
  };
  near = λ p q h k. elim h [ inl f ↦ inr ((r.lists first others e q).1 (subst (λ w. ArePaired pairs w q) f k)) | inr g ↦ absurd g ];
  begins = inl refl;
})

-- one that waited is not left
pub taken_before : (pairs : List (Pos × Pos)) (whole left now : Table) (first : Pos) (members waiting before : List Pos) (at : Pos) →
    IsRest pairs whole → Taking pairs whole left first members before → before ≡ waiting ++ (at ∷ []) → get position_cmp left at ≡ None →
    ((q : Pos) → get position_cmp now q ≡ get position_cmp left q) → Taking pairs whole now first members waiting
taken_before pairs whole left now first members waiting before at r t e n same = record {
  from = t.from;
  next = λ q h. t.next q (subst (Has q) (sym e) (Has-append_left q waiting (at ∷ []) h));
  out = record { there = t.out.there; gone = λ q h. same q ∙ t.out.gone q h; kept = λ q h. same q ∙ t.out.kept q h };
  near = λ p q h k. elim (t.near p q h k) [ inl m ↦ inl m | inr w ↦ waits q w ];
  begins = t.begins;
}
  where
    start : IsSome (get position_cmp whole first)
    start = t.out.there first t.begins

    member : Has at members
    member =
        elim (Has-decide at members) [
          | inl h ↦ h
          | inr a ↦ absurd (none_is (get position_cmp whole at) (sym (t.out.kept at a) ∙ n)
              (rest_connected pairs whole r first at (t.next at (subst (Has at) (sym e) (Has-append_right at waiting (at ∷ []) (inl refl)))) start))
        ]

    waits : (q : Pos) → Has q before → Has q members ⊎ Has q waiting
    waits q h =
        elim (Has-append q waiting (at ∷ []) (subst (Has q) e h)) [
          | inl w ↦ inr w
          | inr f ↦ elim f [ inl g ↦ inl (subst (λ w. Has w members) (sym g) member) | inr k ↦ absurd k ]
        ]

-- one that waited becomes a member, and those beside it wait
pub taken_now : (pairs : List (Pos × Pos)) (whole left now : Table) (first : Pos) (members waiting before more queue : List Pos) (at : Pos) (behind : Vec Pos Global) →
    IsRest pairs whole → Taking pairs whole left first members before → before ≡ waiting ++ (at ∷ []) → get position_cmp left at ≡ Some behind →
    Updates position_cmp left now at None → more ≡ members ++ (at ∷ []) → queue ≡ waiting ++ behind.items → Taking pairs whole now first more queue
taken_now pairs whole left now first members waiting before more queue at behind r t e f u m w = record {
  from = λ q h. elim (in_more q h) [ inl k ↦ t.from q k | inr g ↦ subst (λ v. Connected pairs first v) (sym g) reached ];
  next = λ q h. elim (Has-append q waiting behind.items (subst (Has q) w h)) [
    | inl k ↦ t.next q (subst (Has q) (sym e) (Has-append_left q waiting (at ∷ []) k))
    | inr k ↦ through first at q reached (pair_connects pairs at q ((r.lists at behind here q).0 k))
  ];
  out = record {
    there = λ q h. elim (in_more q h) [ inl k ↦ t.out.there q k | inr g ↦ subst (λ v. IsSome (get position_cmp whole v)) (sym g) (some_is _ behind here) ];
    gone = λ q h. elim (position_decide q at) [
      | inl g ↦ subst (λ v. get position_cmp now v ≡ None) (sym g) u.1
      | inr a ↦ elsewhere left now at None u q a ∙ elim (in_more q h) [ inl k ↦ t.out.gone q k | inr g ↦ absurd (a g) ]
    ];
    kept = λ q n. elsewhere left now at None u q (λ g. n (is_more q (inr g))) ∙ t.out.kept q (λ k. n (is_more q (inl k)));
  };
  near = λ p q h k. elim (in_more p h) [
    | inl g ↦ elim (t.near p q g k) [ inl a ↦ inl (is_more q (inl a)) | inr b ↦ waits q b ]
    | inr g ↦ inr (subst (Has q) (sym w) (Has-append_right q waiting behind.items ((r.lists at behind here q).1 (subst (λ v. ArePaired pairs v q) g k))))
  ];
  begins = is_more first (inl t.begins);
}
  where
    in_more : (q : Pos) → Has q more → Has q members ⊎ (q ≡ at)
    in_more q h =
        elim (Has-append q members (at ∷ []) (subst (Has q) m h)) [ inl k ↦ inl k | inr k ↦ elim k [ inl g ↦ inr g | inr a ↦ absurd a ] ]

    is_more : (q : Pos) → Has q members ⊎ (q ≡ at) → Has q more
    is_more q (inl k) = subst (Has q) (sym m) (Has-append_left q members (at ∷ []) k)
    is_more q (inr g) = subst (Has q) (sym m) (Has-append_right q members (at ∷ []) (inl g))

    reached : Connected pairs first at
    reached = t.next at (subst (Has at) (sym e) (Has-append_right at waiting (at ∷ []) (inl refl)))

    here : get position_cmp whole at ≡ Some behind
    here =
        elim (Has-decide at members) [
          | inl h ↦ absurd (none_is (get position_cmp left at) (t.out.gone at h) (some_is _ behind f))
          | inr a ↦ sym (t.out.kept at a) ∙ f
        ]

    waits : (q : Pos) → Has q before → Has q more ⊎ Has q queue
    waits q h =
        elim (Has-append q waiting (at ∷ []) (subst (Has q) e h)) [
          | inl k ↦ inr (subst (Has q) (sym w) (Has-append_left q waiting behind.items k))
          | inr k ↦ elim k [ inl g ↦ inl (is_more q (inr g)) | inr a ↦ absurd a ]
        ]

pub taken_all : (pairs : List (Pos × Pos)) (whole left : Table) (first : Pos) (members waiting : List Pos) →
    Taking pairs whole left first members waiting → waiting ≡ [] → IsTaken pairs whole left first members
taken_all pairs whole left first members waiting t e = record {
  connected = λ q. (t.from q, (λ c. (stays pairs (λ w. Has w members) step first q c).0 t.begins));
  out = t.out;
}
  where
    step : (p q : Pos) → ArePaired pairs p q → Has p members → Has q members
    step p q k h = elim (t.near p q h k) [ inl m ↦ m | inr w ↦ absurd (subst (Has q) e w) ]
