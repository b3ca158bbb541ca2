-- Where positions go, component by component.
use Rattle.std.proofs.Common.{◌≡◌, ◌≢◌, ◌⊎◌, ◌↔◌, ℕ, Bool, true, false, cond, List, [], ◌∷◌, ◌++◌, inl, inr, refl, sym, ap, ◌∙◌, subst, arith, Option, Some, None, is_some}
use Rattle.std.proofs.lemmas.Bool.Decides.{nat_tests}
use Rattle.std.specs.Prelude.{IsSome, Vec, not, unwrap_or}
use Rattle.std.specs.BTreeMap.{BTreeMap, IsLowerBound, get, is_at, Updates}
use Rattle.std.specs.List.{AllByRecursion}
use Rattle.std.specs.List.Sorted.{IsStrictlySortedBy}
use Rattle.std.specs.Map.{keys_of, lookup}
use Rattle.std.specs.Cmp.{tied_itself}
use Rattle.std.specs.Ordering.{is_eq, is_gt}
use Rattle.std.specs.declared.alloc.Global.{Global}
use Rattle.std.specs.declared.cmp.Ordering.TheVariants.{Less}
use Rattle.grid.specs.Fits.{x_of, y_of}
use Rattle.grid.specs.declared.pos.Pos.{Pos}
use Rattle.lines.specs.Pairs.{position_eq}
use Rattle.lines.specs.Positions.{position_total, position_same}
use Rattle.lines.specs.Turned.{position_cmp}
use Rattle.lines.proofs.Positions.{bool_split, both_intro, position_decide, position_most, position_tied, position_true, tied_position, true_false, true_position}
use Rattle.theory.specs.Geometry.{AtMost}
use Rattle.theory.specs.Lists.{Has}
use Rattle.theory.proofs.Ascending.{at_most_less}
use Rattle.theory.proofs.Lists.{Has-append, Has-append_left, Has-append_right}
use Rattle.compare.specs.Quality.Near.{within}
use Rattle.snapping.specs.NearlyShared.Connected.{Connected, Goes, IsLeastOf, IsNarrow, are_within}
use Rattle.snapping.specs.NearlyShared.Connected.Connected.{itself, turned, through}
use Rattle.snapping.specs.NearlyShared.Joined.{AreJoined, moved_in, target_in}
use Rattle.snapping.specs.NearlyShared.Rest.{AreBeside, ArePaired, IsRest, IsTaken, Table, all_within, listed, moved_to}
use Rattle.snapping.specs.declared.nearly_shared.clusters.Clusters.{Clusters}
use Rattle.snapping.proofs.NearlySharedLemmas.Components.{pair_connects, pair_flip, rest_connected, stays}
use Rattle.snapping.proofs.NearlySharedLemmas.Tables.{Has-decide, is_some_of, none_is, some_is, some_or_none}

-- where positions are moved
abbrev pub Moves : Type 0
Moves = BTreeMap Pos Pos

-- ---- one list of members

pub apart_is : (p q : Pos) → true ≡ not (position_eq p q) → ¬ (p ≡ q)
apart_is p q e f = let t = true_position p q f in let n : true ≡ not true = e ∙ ap not t in cc

pub same_is : (p q : Pos) → false ≡ not (position_eq p q) → p ≡ q
same_is p q e = go (position_eq p q) refl e
  where
    go : (b : Bool) → position_eq p q ≡ b → false ≡ not b → p ≡ q
    go true f n = position_true p q f
    go false f n = cc

pub not_same : (p q : Pos) → ¬ (p ≡ q) → position_eq p q ≡ false
not_same p q n = elim (bool_split (position_eq p q)) [ inl e ↦ absurd (n (position_true p q e)) | inr e ↦ e ]

pub one_moved : (old new : Moves) (first x q : Pos) (left rest : List Pos) → left ≡ x ∷ rest → ¬ (x ≡ first) → Updates position_cmp old new x (Some first) →
    moved_to first rest q (get position_cmp new q) ≡ moved_to first left q (get position_cmp old q)
one_moved old new first x q left rest e n u =
    ap (moved_to first rest q)
    (u.0 q ∙ ap (λ b. cond b (get position_cmp old q) (cond (is_eq (position_cmp x q)) (Some first) (get position_cmp old q))) (sym (not_same x first n)))
    ∙ ap (λ l. moved_to first l q (get position_cmp old q)) (sym e)

pub none_moved : (old new : Moves) (first x q : Pos) (left rest : List Pos) → left ≡ x ∷ rest → x ≡ first → new ≡ old →
    moved_to first rest q (get position_cmp new q) ≡ moved_to first left q (get position_cmp old q)
none_moved old new first x q left rest e f s =
    ap (λ m. moved_to first rest q (get position_cmp m q)) s
    ∙ ap (λ b. moved_to first rest q (cond b (get position_cmp old q) (cond (is_eq (position_cmp x q)) (Some first) (get position_cmp old q)))) (sym (true_position x first f))
    ∙ ap (λ l. moved_to first l q (get position_cmp old q)) (sym e)

-- what is moved there already stays so
moved_before : (first : Pos) (ps : List Pos) (q : Pos) → moved_to first ps q (Some first) ≡ Some first
moved_before first [] q = refl
moved_before first (p ∷ ps) q = ap (moved_to first ps q) (go (position_eq p first) (is_eq (position_cmp p q))) ∙ moved_before first ps q
  where
    go : (b t : Bool) → cond b (Some first) (cond t (Some first) (Some first)) ≡ Some first
    go true t = refl
    go false true = refl
    go false false = refl

moved_out : (first : Pos) (ps : List Pos) (q : Pos) (o : Option Pos) → ¬ Has q ps → moved_to first ps q o ≡ o
moved_out first [] q o n = refl
moved_out first (p ∷ ps) q o n = ap (moved_to first ps q) (go (position_eq p first) (is_eq (position_cmp p q)) refl) ∙ moved_out first ps q o (λ h. n (inr h))
  where
    go : (b t : Bool) → is_eq (position_cmp p q) ≡ t → cond b o (cond t (Some first) o) ≡ o
    go true t e = refl
    go false true e = absurd (n (inl (sym (position_tied p q e))))
    go false false e = refl

moved_first : (first : Pos) (ps : List Pos) (o : Option Pos) → moved_to first ps first o ≡ o
moved_first first [] o = refl
moved_first first (p ∷ ps) o = ap (moved_to first ps first) (go (position_eq p first) refl (is_eq (position_cmp p first)) refl) ∙ moved_first first ps o
  where
    go : (b : Bool) → position_eq p first ≡ b → (t : Bool) → is_eq (position_cmp p first) ≡ t → cond b o (cond t (Some first) o) ≡ o
    go true e t f = refl
    go false e true f = absurd (true_false (position_eq p first) (true_position p first (position_tied p first f)) e)
    go false e false f = refl

moved_member : (first : Pos) (ps : List Pos) (q : Pos) (o : Option Pos) → Has q ps → ¬ (q ≡ first) → moved_to first ps q o ≡ Some first
moved_member first [] q o h n = absurd h
moved_member first (p ∷ ps) q o (inl e) n =
    ap (λ b. moved_to first ps q (cond b o (cond (is_eq (position_cmp p q)) (Some first) o))) (not_same p first (λ f. n (e ∙ f)))
    ∙ ap (λ b. moved_to first ps q (cond b (Some first) o)) (tied_position p q (sym e)) ∙ moved_before first ps q
moved_member first (p ∷ ps) q o (inr h) n = moved_member first ps q _ h n

pub within_each : (n : ℕ) (r : Pos) (ps : List Pos) → all_within n r ps ≡ true → (q : Pos) → Has q ps → are_within n r q ≡ true
within_each n r [] e q h = absurd h
within_each n r (p ∷ ps) e q h = go (are_within n r p) refl e h (within_each n r ps)
  where
    go : (b : Bool) → are_within n r p ≡ b → cond b (all_within n r ps) false ≡ true → Has q (p ∷ ps) → (all_within n r ps ≡ true → (w : Pos) → Has w ps → are_within n r w ≡ true) →
        are_within n r q ≡ true
    go true f a (inl g) k = subst (λ w. are_within n r w ≡ true) (sym g) f
    go true f a (inr m) k = k a q m
    go false f a m k = absurd cc

each_within : (n : ℕ) (r : Pos) (ps : List Pos) → ((q : Pos) → Has q ps → are_within n r q ≡ true) → all_within n r ps ≡ true
each_within n r [] h = refl
each_within n r (p ∷ ps) h = ap (λ b. cond b (all_within n r ps) false) (h p (inl refl)) ∙ each_within n r ps (λ q k. h q (inr k))

within_itself : (n : ℕ) (r : Pos) → are_within n r r ≡ true
within_itself n r = both_intro (within n (x_of r) (x_of r)) (within n (y_of r) (y_of r)) (grind (arith, nat_tests)) (grind (arith, nat_tests))

-- ---- ascending lists

ascends_on : (ps : List Pos) (p : Pos) → IsStrictlySortedBy position_cmp ps → ((q : Pos) → Has q ps → position_cmp q p ≡ Less) → IsStrictlySortedBy position_cmp (ps ++ (p ∷ []))
unfolding IsStrictlySortedBy
ascends_on [] p s h = (tt, tt)
ascends_on (q ∷ ps) p s h = (all_on ps s.0, ascends_on ps p s.1 (λ w k. h w (inr k)))
  where
    all_on : (l : List Pos) → AllByRecursion (λ y. position_cmp q y ≡ Less) l → AllByRecursion (λ y. position_cmp q y ≡ Less) (l ++ (p ∷ []))
    all_on [] a = (h q (inl refl), tt)
    all_on (x ∷ l) a = (a.0, all_on l a.1)

has_key : (es : List (Pos × Pos)) (p : Pos) → Has p (keys_of es) → IsSome (lookup (is_at (position_cmp p)) es)
has_key [] p h = absurd h
has_key (e ∷ es) p (inl f) = ap (λ b. is_some (cond b (Some e.1) (lookup (is_at (position_cmp p)) es))) (tied_position p e.0 f)
has_key (e ∷ es) p (inr h) = go (is_eq (position_cmp p e.0)) (has_key es p h)
  where
    go : (b : Bool) → IsSome (lookup (is_at (position_cmp p)) es) → IsSome (cond b (Some e.1) (lookup (is_at (position_cmp p)) es))
    go true k = refl
    go false k = k

key_has : (es : List (Pos × Pos)) (p : Pos) → IsSome (lookup (is_at (position_cmp p)) es) → Has p (keys_of es)
key_has [] p h = cc
key_has (e ∷ es) p h = go (is_eq (position_cmp p e.0)) refl h (key_has es p)
  where
    go : (b : Bool) → is_eq (position_cmp p e.0) ≡ b → IsSome (cond b (Some e.1) (lookup (is_at (position_cmp p)) es)) →
        (IsSome (lookup (is_at (position_cmp p)) es) → Has p (keys_of es)) → Has p (keys_of (e ∷ es))
    go true f k r = inl (position_tied p e.0 f)
    go false f k r = inr (r k)

-- ---- components

-- those that are not left go where they should
pub record ClusteredSoFar (n : ℕ) (pairs : List (Pos × Pos)) (left : Table) (moves : Moves) (ws : List Pos) : Type 0 where
  pub rest : IsRest pairs left
  pub goes : (p : Pos) → get position_cmp left p ≡ None → Goes n pairs p (unwrap_or (get position_cmp moves p) p)
  pub waits : (p : Pos) → IsSome (get position_cmp left p) → get position_cmp moves p ≡ None
  pub real : (p t : Pos) → get position_cmp moves p ≡ Some t → ¬ (t ≡ p)
  pub wide : (r : Pos) → Has r ws ↔ ((get position_cmp left r ≡ None) × IsLeastOf pairs r r × (¬ IsNarrow n pairs r))
  pub ascend : IsStrictlySortedBy position_cmp ws
  pub before : (r q : Pos) → Has r ws → IsSome (get position_cmp left q) → position_cmp r q ≡ Less

most_itself : (p : Pos) → AtMost position_cmp p p
most_itself p = ap is_gt (tied_itself position_total p)

-- one that is in no pair is connected with itself alone
alone : (pairs : List (Pos × Pos)) (m : Table) → AreBeside pairs m → (p q : Pos) → get position_cmp m p ≡ None → Connected pairs p q → q ≡ p
alone pairs m b p q e c = (stays pairs (λ w. w ≡ p) step p q c).0 refl
  where
    step : (x y : Pos) → ArePaired pairs x y → x ≡ p → y ≡ p
    step x y h f = absurd (subst (Has y) (ap listed e) ((b p y).1 (subst (λ w. ArePaired pairs w y) f h)))

pub clustered_first : (n : ℕ) (pairs : List (Pos × Pos)) (m : Table) (moves : Moves) (wide : List Pos) → AreBeside pairs m → moves.entries ≡ [] → wide ≡ [] →
    ClusteredSoFar n pairs m moves wide
unfolding IsStrictlySortedBy
clustered_first n pairs m moves wide b e f = record {
  rest = record {
    lists = λ p v g q. subst (λ l. Has q l ↔ ArePaired pairs p q) (ap listed g) (b p q);
    closed = λ p q s h. elim (some_or_none (get position_cmp m q)) [
      | inl v ↦ some_is _ v.0 v.1
      | inr g ↦ absurd (subst (Has p) (ap listed g) ((b q p).1 (pair_flip pairs p q h)))
    ];
  };
  goes = λ p g. subst (Goes n pairs p) (sym (ap (λ o. unwrap_or o p) (nothing p))) (inl (
    record {
      connected = itself p;
      least = λ q c. subst (AtMost position_cmp p) (sym (alone pairs m b p q g c)) (most_itself p);
    },
    λ q c. narrow p g q c,
  ));
  waits = λ p s. nothing p;
  real = λ p t g. absurd (let k : None ≡ Some t = sym (nothing p) ∙ g in cc);
  wide = λ r. ((λ h. absurd (subst (Has r) f h)), (λ h. absurd (h.2 (λ q c. narrow r h.0 q c))));
  ascend = subst (IsStrictlySortedBy position_cmp) (sym f) tt;
  before = λ r q h s. absurd (subst (Has r) f h);
}
  where
    nothing : (p : Pos) → get position_cmp moves p ≡ None
    nothing p = ap (λ es. lookup (is_at (position_cmp p)) es) e

    narrow : (p : Pos) → get position_cmp m p ≡ None → (q : Pos) → Connected pairs p q → are_within n p q ≡ true
    narrow p g q c = subst (λ w. are_within n p w ≡ true) (sym (alone pairs m b p q g c)) (within_itself n p)

-- the component of the first position that is left is taken
record Next (pairs : List (Pos × Pos)) (whole left : Table) (first : Pos) (members : List Pos) : Type 0 where
  rest : IsRest pairs whole
  here : IsSome (get position_cmp whole first)
  low : IsLowerBound position_cmp whole first
  taken : IsTaken pairs whole left first members

first_member : (pairs : List (Pos × Pos)) (whole left : Table) (first : Pos) (members : List Pos) → Next pairs whole left first members → Has first members
first_member pairs whole left first members t = (t.taken.connected first).1 (itself first)

-- each member is connected with the first, and the first is the least
member_least : (pairs : List (Pos × Pos)) (whole left : Table) (first : Pos) (members : List Pos) → Next pairs whole left first members → (q : Pos) → Has q members →
    IsLeastOf pairs q first
member_least pairs whole left first members t q h = record {
  connected = turned first q ((t.taken.connected q).0 h);
  least = λ w c. t.low w (rest_connected pairs whole t.rest first w (through first q w ((t.taken.connected q).0 h) c) t.here);
}

-- the least position of a component is one
one_least : (pairs : List (Pos × Pos)) (p r s : Pos) → IsLeastOf pairs p r → IsLeastOf pairs p s → r ≡ s
one_least pairs p r s a b = position_most r s (a.least s b.connected) (b.least r a.connected)

-- none of what is left is a member, and the others are what they were
left_out : (pairs : List (Pos × Pos)) (whole left : Table) (first : Pos) (members : List Pos) → Next pairs whole left first members → (q : Pos) → IsSome (get position_cmp left q) → ¬ Has q members
left_out pairs whole left first members t q s h = none_is (get position_cmp left q) (t.taken.out.gone q h) s

left_whole : (pairs : List (Pos × Pos)) (whole left : Table) (first : Pos) (members : List Pos) → Next pairs whole left first members → (q : Pos) → IsSome (get position_cmp left q) → IsSome (get position_cmp whole q)
left_whole pairs whole left first members t q s = subst IsSome (t.taken.out.kept q (left_out pairs whole left first members t q s)) s

rest_left : (pairs : List (Pos × Pos)) (whole left : Table) (first : Pos) (members : List Pos) → Next pairs whole left first members → IsRest pairs left
rest_left pairs whole left first members t = record {
  lists = λ p v e. t.rest.lists p v (sym (t.taken.out.kept p (left_out pairs whole left first members t p (some_is _ v e))) ∙ e);
  closed = λ p q s h. subst IsSome
      (sym (t.taken.out.kept q (λ m. left_out pairs whole left first members t p s
      ((t.taken.connected p).1 (through first q p ((t.taken.connected q).0 m) (pair_connects pairs q p (pair_flip pairs p q h)))))))
      (t.rest.closed p q (left_whole pairs whole left first members t p s) h);
}

next_of : (n : ℕ) (pairs : List (Pos × Pos)) (whole left : Table) (moves : Moves) (ws : List Pos) (first : Pos) (others : Vec Pos Global) (members : List Pos) →
    ClusteredSoFar n pairs whole moves ws → get position_cmp whole first ≡ Some others → IsLowerBound position_cmp whole first → IsTaken pairs whole left first members →
    Next pairs whole left first members
next_of n pairs whole left moves ws first others members s e l t = record { rest = s.rest; here = some_is _ others e; low = l; taken = t }

pub clustered_narrow : (n : ℕ) (pairs : List (Pos × Pos)) (whole left : Table) (moves now : Moves) (ws : List Pos) (first : Pos) (others : Vec Pos Global) (members : List Pos) →
    ClusteredSoFar n pairs whole moves ws → get position_cmp whole first ≡ Some others → IsLowerBound position_cmp whole first → IsTaken pairs whole left first members →
    all_within n first members ≡ true → ((q : Pos) → get position_cmp now q ≡ moved_to first members q (get position_cmp moves q)) → ClusteredSoFar n pairs left now ws
clustered_narrow n pairs whole left moves now ws first others members s e l t a m = record {
  rest = rest_left pairs whole left first members next;
  goes = λ p g. elim (Has-decide p members) [
    | inl h ↦ inl (goes_first p h)
    | inr o ↦ subst (λ w. Goes n pairs p (unwrap_or w p)) (sym (m p ∙ moved_out first members p _ o)) (s.goes p (sym (t.out.kept p o) ∙ g))
  ];
  waits = λ p h. m p ∙ moved_out first members p _ (left_out pairs whole left first members next p h) ∙ s.waits p (left_whole pairs whole left first members next p h);
  real = λ p w g f. elim (Has-decide p members) [
    | inl h ↦ elim (position_decide p first) [
      | inl k ↦ absurd (let z : None ≡ Some w = sym (stays_first p k) ∙ g in cc)
      | inr k ↦ k (sym f ∙ (let z : Some first ≡ Some w = sym (m p ∙ moved_member first members p _ h k) ∙ g in let y : first ≡ w = cc in sym y))
    ]
    | inr o ↦ s.real p w (sym (m p ∙ moved_out first members p _ o) ∙ g) f
  ];
  wide = λ r. (
    (λ h. let w = (s.wide r).0 h in (t.out.kept r (λ k. none_is _ w.0 (t.out.there r k)) ∙ w.0, w.1, w.2)),
    (λ h. elim (Has-decide r members) [
      | inl k ↦ absurd (h.2 (subst (IsNarrow n pairs) (one_least pairs r first r (member_least pairs whole left first members next r k) h.1) narrow))
      | inr k ↦ (s.wide r).1 (sym (t.out.kept r k) ∙ h.0, h.1, h.2)
    ]),
  );
  ascend = s.ascend;
  before = λ r q h k. s.before r q h (left_whole pairs whole left first members next q k);
}
  where
    next : Next pairs whole left first members
    next = next_of n pairs whole left moves ws first others members s e l t

    narrow : IsNarrow n pairs first
    narrow q c = within_each n first members a q ((t.connected q).1 c)

    stays_first : (p : Pos) → p ≡ first → get position_cmp now p ≡ None
    stays_first p k =
        subst (λ w. get position_cmp now w ≡ None) (sym k) (m first ∙ moved_first first members _ ∙ s.waits first (some_is _ others e))

    target : (p : Pos) → Has p members → unwrap_or (get position_cmp now p) p ≡ first
    target p h =
        elim (position_decide p first) [
          | inl k ↦ ap (λ o. unwrap_or o p) (stays_first p k) ∙ k
          | inr k ↦ ap (λ o. unwrap_or o p) (m p ∙ moved_member first members p _ h k)
        ]

    goes_first : (p : Pos) → Has p members → IsLeastOf pairs p (unwrap_or (get position_cmp now p) p) × IsNarrow n pairs (unwrap_or (get position_cmp now p) p)
    goes_first p h =
        subst (λ w. IsLeastOf pairs p w × IsNarrow n pairs w) (sym (target p h)) (member_least pairs whole left first members next p h, narrow)

pub clustered_wide : (n : ℕ) (pairs : List (Pos × Pos)) (whole left : Table) (moves : Moves) (ws more : List Pos) (first : Pos) (others : Vec Pos Global) (members : List Pos) →
    ClusteredSoFar n pairs whole moves ws → get position_cmp whole first ≡ Some others → IsLowerBound position_cmp whole first → IsTaken pairs whole left first members →
    all_within n first members ≡ false → more ≡ ws ++ (first ∷ []) → ClusteredSoFar n pairs left moves more
clustered_wide n pairs whole left moves ws more first others members s e l t a m = record {
  rest = rest_left pairs whole left first members next;
  goes = λ p g. elim (Has-decide p members) [
    | inl h ↦ inr (ap (λ o. unwrap_or o p) (s.waits p (t.out.there p h)), λ r k w. wide_not (subst (IsNarrow n pairs) (one_least pairs p r first k (member_least pairs whole left first members next p h)) w))
    | inr o ↦ s.goes p (sym (t.out.kept p o) ∙ g)
  ];
  waits = λ p h. s.waits p (left_whole pairs whole left first members next p h);
  real = s.real;
  wide = λ r. ((λ h. is_wide r (Has-append r ws (first ∷ []) (subst (Has r) m h))), (λ h. subst (Has r) (sym m) (was_wide r h)));
  ascend = subst (IsStrictlySortedBy position_cmp) (sym m) (ascends_on ws first s.ascend (λ q h. s.before q first h (some_is _ others e)));
  before = λ r q h k. lies_before r q k (Has-append r ws (first ∷ []) (subst (Has r) m h));
}
  where
    next : Next pairs whole left first members
    next = next_of n pairs whole left moves ws first others members s e l t

    wide_not : ¬ IsNarrow n pairs first
    wide_not w = true_false (all_within n first members) (each_within n first members (λ q h. w q ((t.connected q).0 h))) a

    is_wide : (r : Pos) → Has r ws ⊎ Has r (first ∷ []) → (get position_cmp left r ≡ None) × IsLeastOf pairs r r × (¬ IsNarrow n pairs r)
    is_wide r (inl h) = let w = (s.wide r).0 h in (t.out.kept r (λ k. none_is _ w.0 (t.out.there r k)) ∙ w.0, w.1, w.2)
    is_wide r (inr (inl f)) =
        subst (λ w. (get position_cmp left w ≡ None) × IsLeastOf pairs w w × (¬ IsNarrow n pairs w)) (sym f) (
          t.out.gone first (first_member pairs whole left first members next),
          member_least pairs whole left first members next first (first_member pairs whole left first members next),
          wide_not,
        )
    is_wide r (inr (inr f)) = absurd f

    was_wide : (r : Pos) → (get position_cmp left r ≡ None) × IsLeastOf pairs r r × (¬ IsNarrow n pairs r) → Has r (ws ++ (first ∷ []))
    was_wide r h =
        elim (Has-decide r members) [
          | inl k ↦ Has-append_right r ws (first ∷ []) (inl (one_least pairs r r first h.1 (member_least pairs whole left first members next r k)))
          | inr k ↦ Has-append_left r ws (first ∷ []) ((s.wide r).1 (sym (t.out.kept r k) ∙ h.0, h.1, h.2))
        ]

    lies_before : (r q : Pos) → IsSome (get position_cmp left q) → Has r ws ⊎ Has r (first ∷ []) → position_cmp r q ≡ Less
    lies_before r q k (inl h) = s.before r q h (left_whole pairs whole left first members next q k)
    lies_before r q k (inr (inl f)) =
        subst (λ w. position_cmp w q ≡ Less) (sym f) (elim (at_most_less position_cmp position_total position_same first q (l q (left_whole pairs whole left first members next q k))) [
          | inl h ↦ h
          | inr g ↦ absurd (left_out pairs whole left first members next q k (subst (λ w. Has w members) g (first_member pairs whole left first members next)))
        ])
    lies_before r q k (inr (inr f)) = absurd f

pub clustered_all : (n : ℕ) (pairs : List (Pos × Pos)) (left : Table) (c : Clusters) → ClusteredSoFar n pairs left c.moves c.wide.items → ((q : Pos) → get position_cmp left q ≡ None) →
    AreJoined n pairs c
clustered_all n pairs left c s e = record {
  goes = λ p. s.goes p (e p);
  moved = λ p. ((λ h. moves_on p (is_some_of _ (has_key c.moves.entries p h))), (λ h. is_moved p h (some_or_none (get position_cmp c.moves p))));
  wide = λ r. ((λ h. let w = (s.wide r).0 h in (w.1, w.2)), (λ h. (s.wide r).1 (e r, h.0, h.1)));
  ascend = s.ascend;
}
  where
    moves_on : (p : Pos) → ((v : Pos) × (get position_cmp c.moves p ≡ Some v)) → target_in c p ≢ p
    moves_on p v f = s.real p v.0 v.1 (sym (ap (λ o. unwrap_or o p) v.1) ∙ f)

    is_moved : (p : Pos) → (target_in c p ≢ p) → ((v : Pos) × (get position_cmp c.moves p ≡ Some v)) ⊎ (get position_cmp c.moves p ≡ None) → Has p (moved_in c)
    is_moved p h (inl v) = key_has c.moves.entries p (some_is _ v.0 v.1)
    is_moved p h (inr n) = absurd (h (ap (λ o. unwrap_or o p) n))
