-- What lists hold once indexes are added to them.
use Rattle.std.proofs.Common.{◌≡◌, ◌<◌, ◌≤◌, ◌+◌, ◌-◌, ◌==◌, ℕ, zero, suc, Bool, true, false, cond, List, [], ◌∷◌, ◌++◌, length, get_or, set, map, replicate, ◌⊎◌, inl, inr, refl, sym, ap, ◌∙◌, subst, Option, Some, None, slice_get, arith}
use Rattle.std.specs.Cmp.{unsigned_Decides}
use Rattle.std.specs.List.Sorted.{IsStrictlyIncreasing}
use Rattle.std.specs.Prelude.{slice_index, not}
use Rattle.std.specs.Ordering.{is_gt}
use Rattle.std.proofs.lemmas.List.{map-set, get_or-set_same, get_or-set_other, length-set, get_or-replicate, length-replicate}
use Rattle.theory.specs.Arcs.{Ascends, AreSortedOnce}
use Rattle.theory.specs.Lists.{Has}
use Rattle.theory.proofs.Lists.{Has-append, Has-append_left, Has-append_right}
use Rattle.topo.specs.declared.geom.Geom.{Geom}
use Rattle.query.specs.ArcUsers.{AreListsBy, AreUsersOf, ShareUnlike, class_at, is_number, with_index, with_indexes, with_index_at, with_index_in, others, user_of, users_of}
use Rattle.query.specs.Uses.{geometries_uses, use_at, use_cmp}
use Rattle.query.specs.declared.arc_users.ArcUser.{ArcUser}
use Rattle.query.specs.declared.uses.Use.{Use}
use Rattle.query.proofs.ArcUsers.{has_kept, kept_from, unlike}
use Rattle.query.proofs.Orders.{first_most}
use Rattle.query.proofs.Spanning.{other_number, same_number}

get_map : {A : Type 0} (f : A → List ℕ) (ls : List A) (i : ℕ) (d : A) (e : List ℕ) → i < length ls → get_or (map f ls) i e ≡ f (get_or ls i d)
get_map f [] i d e h = absurd (omega arith)
get_map f (l ∷ ls) zero d e h = refl
get_map f (l ∷ ls) (suc i) d e h = get_map f ls i d e (omega (arith, h))

-- an index added to the list of another one
pub put_index : {A : Type 0} (f : A → List ℕ) (ls : List A) (i x : ℕ) (old new : A) → i < length ls → old ≡ get_or ls i old → f new ≡ with_index (f old) x →
    map f (set ls i new) ≡ with_index_at x (map f ls) i
put_index f ls i x old new h e n =
    map-set f ls i new
    ∙ ap (set (map f ls) i) (n ∙ ap (λ l. with_index l x) (ap f e ∙ sym (get_map f ls i old [] h)))

pub index_in_both : (i : ℕ) (ls : List (List ℕ)) (vs ws : List ArcUser) → with_index_in i (with_index_in i ls vs) ws ≡ with_index_in i ls (vs ++ ws)
index_in_both i ls [] ws = refl
index_in_both i ls (v ∷ vs) ws = index_in_both i (with_index_at i ls v.index) vs ws

-- each number is below all that follow
abbrev Climbs : List ℕ → Type 0
Climbs [] = Unit {0}
Climbs (x ∷ xs) = ((y : ℕ) → Has y xs → x < y) × Climbs xs

increasing : (xs : List ℕ) → Climbs xs → IsStrictlyIncreasing xs
increasing [] c = λ k h. absurd (omega (arith, h))
increasing (x ∷ []) c = λ k h. absurd (omega (arith, h))
increasing (x ∷ (y ∷ xs)) c = λ k h. go (increasing (y ∷ xs) c.1) k h
  where
    go : IsStrictlyIncreasing (y ∷ xs) → (k : ℕ) → k + 1 < length (x ∷ (y ∷ xs)) → slice_index (x ∷ (y ∷ xs)) k < slice_index (x ∷ (y ∷ xs)) (k + 1)
    go f zero h = c.0 y (inl refl)
    go f (suc k) h =
        let e : suc (k + 1) ≡ suc k + 1 = omega arith in
        subst (λ n. slice_index (y ∷ xs) k < slice_index (x ∷ (y ∷ xs)) n) e (f k (omega (arith, h)))

climbs_more : (l : List ℕ) (i : ℕ) → Climbs l → ((y : ℕ) → Has y l → y < i) → Climbs (l ++ (i ∷ []))
climbs_more [] i c b = ((λ y h. absurd h), tt)
climbs_more (x ∷ l) i c b = (
  (λ y h. elim (Has-append y l (i ∷ []) h) [ inl k ↦ c.0 y k | inr k ↦ elim k [ inl e ↦ subst (λ w. x < w) (sym e) (b x (inl refl)) | inr z ↦ absurd z ] ]),
  climbs_more l i c.1 (λ y h. b y (inr h)),
)

last_of_rest : (x y : ℕ) (l : List ℕ) → slice_get (x ∷ (y ∷ l)) (length (x ∷ (y ∷ l)) - 1) ≡ slice_get (y ∷ l) (length (y ∷ l) - 1)
last_of_rest x y l = let e : length (x ∷ (y ∷ l)) - 1 ≡ suc (length (y ∷ l) - 1) = omega arith in ap (slice_get (x ∷ (y ∷ l))) e

-- the greatest is the last
last_most : (l : List ℕ) (i : ℕ) → Climbs l → ((y : ℕ) → Has y l → y ≤ i) → Has i l → slice_get l (length l - 1) ≡ Some i
last_most [] i c b h = absurd h
last_most (x ∷ []) i c b (inl e) = ap Some (sym e)
last_most (x ∷ []) i c b (inr h) = absurd h
last_most (x ∷ (y ∷ l)) i c b (inl e) = absurd (let p = c.0 y (inl refl) in let q = b y (inr (inl refl)) in omega (arith, p, q, e))
last_most (x ∷ (y ∷ l)) i c b (inr h) = last_of_rest x y l ∙ last_most (y ∷ l) i c.1 (λ z k. b z (inr k)) h

last_had : (l : List ℕ) (i : ℕ) → slice_get l (length l - 1) ≡ Some i → Has i l
last_had [] i e = absurd cc
last_had (x ∷ []) i e = let same : x ≡ i = cc in inl (sym same)
last_had (x ∷ (y ∷ l)) i e = inr (last_had (y ∷ l) i (sym (last_of_rest x y l) ∙ e))

-- the list holds the numbers of which P is true, ascending, and none above top
record IsHeld (P : ℕ → Type 0) (top : ℕ) (l : List ℕ) : Type 0 where
  climb : Climbs l
  most : (y : ℕ) → Has y l → y ≤ top
  only : (y : ℕ) → Has y l → P y
  there : (y : ℕ) → P y → Has y l

held_more : (P : ℕ → Type 0) (top i : ℕ) (l : List ℕ) → IsHeld P top l → top ≤ i → IsHeld (λ y. P y ⊎ (y ≡ i)) i (with_index l i)
held_more P top i l h up =
    test (is_number (slice_get l (length l - 1)) i) refl (λ e. last_had l i (meant (slice_get l (length l - 1)) e))
    (λ e k.
    let last : slice_get l (length l - 1) ≡ Some i = last_most l i h.climb most k in
    let f : true ≡ false = sym ((unsigned_Decides i i).1 refl) ∙ ap (λ o. is_number o i) (sym last) ∙ e in cc)
  where
    most : (y : ℕ) → Has y l → y ≤ i
    most y k = let m = h.most y k in omega (arith, m, up)

    meant : (o : Option ℕ) → is_number o i ≡ true → o ≡ Some i
    meant None e = cc
    meant (Some y) e = ap Some (same_number y i true e refl)

    had : Has i l → IsHeld (λ y. P y ⊎ (y ≡ i)) i l
    had k = record {
      climb = h.climb;
      most = most;
      only = λ y j. inl (h.only y j);
      there = λ y j. elim j [ inl p ↦ h.there y p | inr e ↦ subst (λ w. Has w l) (sym e) k ];
    }

    put : ¬ Has i l → IsHeld (λ y. P y ⊎ (y ≡ i)) i (l ++ (i ∷ []))
    put n = record {
      climb = climbs_more l i h.climb (λ y k. let m = most y k in let d : ¬ (y ≡ i) = λ e. n (subst (λ w. Has w l) e k) in omega (arith, m, d));
      most = λ y k. elim (Has-append y l (i ∷ []) k) [ inl j ↦ most y j | inr j ↦ elim j [ inl e ↦ omega (arith, e) | inr z ↦ absurd z ] ];
      only = λ y k. elim (Has-append y l (i ∷ []) k) [ inl j ↦ inl (h.only y j) | inr j ↦ elim j [ inl e ↦ inr e | inr z ↦ absurd z ] ];
      there = λ y k. elim k [ inl p ↦ Has-append_left y l (i ∷ []) (h.there y p) | inr e ↦ Has-append_right y l (i ∷ []) (inl e) ];
    }

    test : (b : Bool) → is_number (slice_get l (length l - 1)) i ≡ b → (b ≡ true → Has i l) → (b ≡ false → ¬ Has i l) → IsHeld (λ y. P y ⊎ (y ≡ i)) i (cond b l (l ++ (i ∷ [])))
    test true e f g = had (f refl)
    test false e f g = put (g refl)

held_same : (P Q : ℕ → Type 0) (top i : ℕ) (l : List ℕ) → IsHeld P top l → top ≤ i → ((y : ℕ) → P y → Q y) → ((y : ℕ) → Q y → P y) → IsHeld Q i l
held_same P Q top i l h up to back = record {
  climb = h.climb;
  most = λ y k. let m = h.most y k in omega (arith, m, up);
  only = λ y k. to y (h.only y k);
  there = λ y q. h.there y (back y q);
}

-- and so each of n lists, by its index
module _ (n : ℕ) where
  record AreHeld (S : ℕ → ℕ → Type 0) (top : ℕ) (ls : List (List ℕ)) : Type 0 where
    count : length ls ≡ n
    at : (a : ℕ) → a < n → IsHeld (S a) top (get_or ls a [])

  none_held : AreHeld (λ a y. ⊥) 0 (replicate n [])
  none_held = record {
    count = length-replicate n [];
    at = λ a m. subst (IsHeld (λ y. ⊥) 0) (sym (get_or-replicate n a [] [] m)) (record { climb = tt; most = λ y h. absurd h; only = λ y h. h; there = λ y h. h });
  }

  all_same : (S R : ℕ → ℕ → Type 0) (top i : ℕ) (ls : List (List ℕ)) → AreHeld S top ls → top ≤ i → ((a y : ℕ) → S a y → R a y) → ((a y : ℕ) → R a y → S a y) → AreHeld R i ls
  all_same S R top i ls h up to back = record { count = h.count; at = λ a m. held_same (S a) (R a) top i (get_or ls a []) (h.at a m) up (to a) (back a) }

  held_at : (S : ℕ → ℕ → Type 0) (top i j : ℕ) (ls : List (List ℕ)) → AreHeld S top ls → top ≤ i → AreHeld (λ a y. S a y ⊎ ((j ≡ a) × (y ≡ i))) i (with_index_at i ls j)
  held_at S top i j ls h up = record { count = length-set ls j (with_index (get_or ls j []) i) ∙ h.count; at = λ a m. go a m (j == a) refl }
    where
      go : (a : ℕ) → a < n → (t : Bool) → (j == a) ≡ t → IsHeld (λ y. S a y ⊎ ((j ≡ a) × (y ≡ i))) i (get_or (with_index_at i ls j) a [])
      go a m true e =
          let q : j ≡ a = same_number j a true e refl in
          subst (λ k. IsHeld (λ y. S a y ⊎ ((j ≡ a) × (y ≡ i))) i (get_or (set ls k (with_index (get_or ls k []) i)) a [])) (sym q)
          (subst (IsHeld (λ y. S a y ⊎ ((j ≡ a) × (y ≡ i))) i) (sym (get_or-set_same ls a (with_index (get_or ls a []) i) [] (subst (λ k. a < k) (sym h.count) m)))
          (held_same (λ y. S a y ⊎ (y ≡ i)) (λ y. S a y ⊎ ((j ≡ a) × (y ≡ i))) i i (with_index (get_or ls a []) i) (held_more (S a) top i (get_or ls a []) (h.at a m) up) (omega arith)
          (λ y k. elim k [ inl s ↦ inl s | inr f ↦ inr (q, f) ]) (λ y k. elim k [ inl s ↦ inl s | inr f ↦ inr f.1 ])))
      go a m false e =
          let d = other_number j a false e refl in
          subst (IsHeld (λ y. S a y ⊎ ((j ≡ a) × (y ≡ i))) i) (sym (get_or-set_other ls j a (with_index (get_or ls j []) i) [] (λ k. d (sym k))))
          (held_same (S a) (λ y. S a y ⊎ ((j ≡ a) × (y ≡ i))) top i (get_or ls a []) (h.at a m) up (λ y s. inl s) (λ y k. elim k [ inl s ↦ s | inr f ↦ absurd (d f.0) ]))

  -- one of the users is at the index
  abbrev At : List ArcUser → ℕ → Type 0
  At vs a = (v : ArcUser) × Has v vs × (v.index ≡ a)

  held_in : (S : ℕ → ℕ → Type 0) (top i : ℕ) (ls : List (List ℕ)) (vs : List ArcUser) → AreHeld S top ls → top ≤ i → AreHeld (λ a y. S a y ⊎ ((y ≡ i) × At vs a)) i (with_index_in i ls vs)
  held_in S top i ls [] h up = all_same S (λ a y. S a y ⊎ ((y ≡ i) × At [] a)) top i ls h up (λ a y s. inl s) (λ a y k. elim k [ inl s ↦ s | inr f ↦ absurd f.1.1 ])
  held_in S top i ls (v ∷ vs) h up =
      let T = λ (a y : ℕ). S a y ⊎ ((v.index ≡ a) × (y ≡ i)) in
      all_same (λ a y. T a y ⊎ ((y ≡ i) × At vs a)) (λ a y. S a y ⊎ ((y ≡ i) × At (v ∷ vs) a)) i i (with_index_in i (with_index_at i ls v.index) vs)
      (held_in T i i (with_index_at i ls v.index) vs (held_at S top i v.index ls h up) (omega arith)) (omega arith)
      (λ a y k. elim k [ inl t ↦ elim t [ inl s ↦ inl s | inr f ↦ inr (f.1, (v, inl refl, f.0)) ] | inr f ↦ inr (f.0, (f.1.0, inr f.1.1, f.1.2)) ])
      (λ a y k. elim k [ inl s ↦ inl (inl s) | inr f ↦ back a y f.0 f.1.0 f.1.1 f.1.2 ])
    where
      back : (a y : ℕ) → y ≡ i → (w : ArcUser) → Has w (v ∷ vs) → w.index ≡ a → (S a y ⊎ ((v.index ≡ a) × (y ≡ i))) ⊎ ((y ≡ i) × At vs a)
      back a y e w (inl q) f = inl (inr (ap (λ x. x.index) (sym q) ∙ f, e))
      back a y e w (inr q) f = inr (e, (w, q, f))

  module _ (cs : List ℕ) (vs : List ArcUser) where
    -- a use is of the index y, and the index a of a user of its arc that is of another class
    abbrev Meets : List Use → ℕ → ℕ → Type 0
    Meets us a y = (u : Use) × Has u us × (y ≡ u.index) × At (others (user_of cs u) vs) a

    held_all : (S : ℕ → ℕ → Type 0) (top : ℕ) (ls : List (List ℕ)) (us : List Use) → AreHeld S top ls → Ascends use_cmp us → ((u : Use) → Has u us → top ≤ u.index) →
        (end : ℕ) × AreHeld (λ a y. S a y ⊎ Meets us a y) end (with_indexes cs vs ls us)
    held_all S top ls [] h r up = (top, all_same S (λ a y. S a y ⊎ Meets [] a y) top top ls h (omega arith) (λ a y s. inl s) (λ a y k. elim k [ inl s ↦ s | inr f ↦ absurd f.1 ]))
    held_all S top ls (u ∷ us) h r up =
        let ws = others (user_of cs u) vs in
        let T = λ (a y : ℕ). S a y ⊎ ((y ≡ u.index) × At ws a) in
        let (end, held) = held_all T u.index (with_index_in u.index ls ws) us (held_in S top u.index ls ws h (up u (inl refl))) r.1 (λ w k. first_most u.index w.index _ (ap is_gt (r.0 w k))) in (
          end,
          all_same (λ a y. T a y ⊎ Meets us a y) (λ a y. S a y ⊎ Meets (u ∷ us) a y) end end (with_indexes cs vs (with_index_in u.index ls ws) us) held (omega arith)
              (λ a y k. elim k [ inl t ↦ elim t [ inl s ↦ inl s | inr f ↦ inr (u, inl refl, f.0, f.1) ] | inr f ↦ inr (f.0, inr f.1, f.2, f.3) ])
              (λ a y k. elim k [ inl s ↦ inl (inl s) | inr f ↦ back a y f.0 f.1 f.2 f.3 ]),
        )
      where
        back : (a y : ℕ) (w : Use) → Has w (u ∷ us) → y ≡ w.index → At (others (user_of cs w) vs) a → (S a y ⊎ ((y ≡ u.index) × At (others (user_of cs u) vs) a)) ⊎ Meets us a y
        back a y w (inl q) e f = inl (inr (e ∙ ap (λ x. x.index) q, subst (λ x. At (others (user_of cs x) vs) a) q f))
        back a y w (inr q) e f = inr (w, q, e, f)

get_there : (ls : List (List ℕ)) (i : ℕ) (l : List ℕ) → slice_get ls i ≡ Some l → (i < length ls) × (get_or ls i [] ≡ l)
get_there [] i l e = absurd cc
get_there (k ∷ ls) zero l e = let same : k ≡ l = cc in (omega arith, same)
get_there (k ∷ ls) (suc i) l e = let t = get_there ls i l e in (omega (arith, t.0), t.1)

module _ (gs : List Geom) (cs : List ℕ) (us : List Use) (vs : List ArcUser) (used : AreSortedOnce use_cmp (geometries_uses gs) us) (users : AreUsersOf cs us vs) where
  shared : (i j : ℕ) → Meets (length gs) cs vs us i j → ShareUnlike gs cs i j
  shared i j (u, hu, e, (v, hv, f)) =
      let (there, apart) = kept_from (λ w. not (w.class == class_at cs u.index)) (users_of u.arc vs) v hv in
      let (among, beside) = kept_from (λ w. w.arc == u.arc) vs v there in
      let (w, hw, is) = users.only v among in
      let arc : w.arc ≡ u.arc = ap (λ x. x.arc) (sym is) ∙ same_number v.arc u.arc true beside refl in
      let index : w.index ≡ i = ap (λ x. x.index) (sym is) ∙ f in
      record {
        arc = u.arc;
        one = used.only (use_at u.arc i) (subst (λ x. Has x us) (λ k. use_at (arc k) (index k)) hw);
        other = used.only (use_at u.arc j) (subst (λ x. Has (use_at u.arc x) us) (sym e) hu);
        unlike = λ q. other_class v.class (class_at cs u.index) apart (ap (λ x. x.class) is ∙ ap (class_at cs) index ∙ q ∙ ap (class_at cs) e);
      }
    where
      other_class : (a b : ℕ) → not (a == b) ≡ true → ¬ (a ≡ b)
      other_class a b h q = let p : false ≡ true = ap not (sym ((unsigned_Decides a b).1 q)) ∙ h in cc

  meets : (i j : ℕ) → ShareUnlike gs cs i j → Meets (length gs) cs vs us i j
  meets i j s = (
    use_at s.arc j,
    used.there (use_at s.arc j) s.other,
    refl,
    (
      user_of cs (use_at s.arc i),
      has_kept (λ w. not (w.class == class_at cs j)) (users_of s.arc vs) (user_of cs (use_at s.arc i))
          (has_kept (λ w. w.arc == s.arc) vs (user_of cs (use_at s.arc i)) (users.there (use_at s.arc i) (used.there (use_at s.arc i) s.one)) ((unsigned_Decides s.arc s.arc).1 refl))
          (ap not (unlike (class_at cs i) (class_at cs j) s.unlike)),
      refl,
    ),
  )

  pub lists_means : (lists : List (List ℕ)) → lists ≡ with_indexes cs vs (replicate (length gs) []) us → AreListsBy gs cs lists
  lists_means lists is = record {
    each = ap length is ∙ held.count;
    ascend = λ i js e. increasing js (list i js e).climb;
    exact = λ i js e j. (
      (λ h. elim ((list i js e).only j h) [ inl z ↦ absurd z | inr m ↦ shared i j m ]),
      (λ s. (list i js e).there j (inr (meets i j s))),
    );
  }
    where
      all : (end : ℕ) × AreHeld (length gs) (λ a y. ⊥ ⊎ Meets (length gs) cs vs us a y) end (with_indexes cs vs (replicate (length gs) []) us)
      all = held_all (length gs) cs vs (λ a y. ⊥) 0 (replicate (length gs) []) us (none_held (length gs)) used.ascends (λ u h. omega arith)

      held : AreHeld (length gs) (λ a y. ⊥ ⊎ Meets (length gs) cs vs us a y) all.0 (with_indexes cs vs (replicate (length gs) []) us)
      held = all.1

      list : (i : ℕ) (js : List ℕ) → slice_get lists i ≡ Some js → IsHeld (λ y. ⊥ ⊎ Meets (length gs) cs vs us i y) all.0 js
      list i js e =
          let s = get_there lists i js e in
          let count : length lists ≡ length gs = ap length is ∙ held.count in
          subst (IsHeld (λ y. ⊥ ⊎ Meets (length gs) cs vs us i y) all.0) (sym (ap (λ w. get_or w i []) is) ∙ s.1) (held.at i (subst (λ k. i < k) count s.0))
