-- What walks along used arcs find: runs, none of which uses an arc twice, and which together use each arc.
use Rattle.std.proofs.Common.{◌≡◌, ◌≤◌, ℕ, zero, suc, ◌+◌, Bool, true, false, not, List, [], ◌∷◌, ◌++◌, length, ◌⊎◌, inl, inr, refl, sym, ap, ◌∙◌, subst, arith, Option, Some, None, is_some}
use Rattle.std.proofs.lemmas.List.{append-nil}
use Rattle.theory.specs.ArcNumbers.{ArcRef, Uses, UsesOnce, flipped}
use Rattle.theory.specs.Lists.{last_of}
use Rattle.theory.proofs.Lists.{Has-append, Has-append_left, Has-append_right}
use Rattle.lines.proofs.Positions.{bool_split, true_false}
use Rattle.split_heal.specs.Walks.{Adds, AddsStarted, AddsSingle, ArePaired, AreRuns, AreWalked, EndsGone, Goes, GoesOn, IsRun, Linked, Walk, count_left, is_left, without}

-- taking an arc
left_gone : (left : List Bool) (k : ℕ) → is_left (without left k) k ≡ false
left_gone [] k = refl
left_gone (b ∷ left) zero = refl
left_gone (b ∷ left) (suc k) = left_gone left k

left_stays : (left : List Bool) (k j : ℕ) → ¬ (k ≡ j) → is_left (without left k) j ≡ is_left left j
left_stays [] k j n = refl
left_stays (b ∷ left) zero zero n = absurd (n refl)
left_stays (b ∷ left) zero (suc j) n = refl
left_stays (b ∷ left) (suc k) zero n = refl
left_stays (b ∷ left) (suc k) (suc j) n = left_stays left k j (λ e. n (ap suc e))

pub number_dec : (k j : ℕ) → (k ≡ j) ⊎ (¬ (k ≡ j))
number_dec zero zero = inl refl
number_dec zero (suc j) = inr (λ e. cc)
number_dec (suc k) zero = inr (λ e. cc)
number_dec (suc k) (suc j) = elim (number_dec k j) [ inl e ↦ inl (ap suc e) | inr n ↦ inr (λ e. n (omega (arith, e))) ]

-- what is left yet was left
left_was : (left : List Bool) (k j : ℕ) → is_left (without left k) j ≡ true → is_left left j ≡ true
left_was left k j e = elim (number_dec k j) [
  | inl f ↦ absurd (true_false (is_left (without left k) j) e (subst (λ w. is_left (without left k) w ≡ false) f (left_gone left k)))
  | inr n ↦ sym (left_stays left k j n) ∙ e
]

-- what is gone was gone, or was taken now
gone_was : (left : List Bool) (k j : ℕ) → is_left (without left k) j ≡ false → (k ≡ j) ⊎ (is_left left j ≡ false)
gone_was left k j e = elim (number_dec k j) [ inl f ↦ inl f | inr n ↦ inr (sym (left_stays left k j n) ∙ e) ]

gone_stays : (left : List Bool) (k j : ℕ) → is_left left j ≡ false → is_left (without left k) j ≡ false
gone_stays left k j e = elim (number_dec k j) [
  | inl f ↦ subst (λ w. is_left (without left k) w ≡ false) f (left_gone left k)
  | inr n ↦ left_stays left k j n ∙ e
]

-- taking one that is gone changes nothing
same_left : (left : List Bool) (k : ℕ) → is_left left k ≡ false → without left k ≡ left
same_left [] k e = refl
same_left (true ∷ left) zero e = absurd (let f : true ≡ false = e in cc)
same_left (false ∷ left) zero e = refl
same_left (b ∷ left) (suc k) e = ap (λ w. b ∷ w) (same_left left k e)

pub fewer_left : (left : List Bool) (k : ℕ) → is_left left k ≡ true → suc (count_left (without left k)) ≡ count_left left
fewer_left [] k e = absurd (let f : false ≡ true = e in cc)
fewer_left (true ∷ left) zero e = refl
fewer_left (false ∷ left) zero e = absurd (let f : false ≡ true = e in cc)
fewer_left (true ∷ left) (suc k) e = ap suc (fewer_left left k e)
fewer_left (false ∷ left) (suc k) e = fewer_left left k e

pub flip_flip : (a : ArcRef) → flipped (flipped a) ≡ a
flip_flip a = λ i. record { arc = a.arc; reversed = go a.reversed i }
  where
    go : (b : Bool) → not (not b) ≡ b
    go true = refl
    go false = refl

-- two used arcs of one number
one_or_flipped : (a b : ArcRef) → a.arc ≡ b.arc → (a ≡ b) ⊎ (a ≡ flipped b)
one_or_flipped a b e = elim (go a.reversed b.reversed) [
  | inl f ↦ inl (λ i. record { arc = e i; reversed = f i })
  | inr f ↦ inr (λ i. record { arc = e i; reversed = f i })
]
  where
    go : (r s : Bool) → (r ≡ s) ⊎ (r ≡ not s)
    go true true = inl refl
    go true false = inr refl
    go false true = inr refl
    go false false = inl refl

ref_dec : (a b : ArcRef) → (a ≡ b) ⊎ (¬ (a ≡ b))
ref_dec a b = elim (number_dec a.arc b.arc) [
  | inr n ↦ inr (λ e. n (ap (λ w. w.arc) e))
  | inl e ↦ elim (one_or_flipped a b e) [
    | inl f ↦ inl f
    | inr f ↦ inr (λ i. differ b.reversed (ap (λ w. w.reversed) (sym i ∙ f)))
  ]
]
  where
    differ : (b : Bool) → ¬ (b ≡ not b)
    differ true e = cc
    differ false e = cc

some_same : (a b : ArcRef) → Some a ≡ Some b → a ≡ b
some_same a b e = cc

pub some_there : (o : Option ArcRef) → is_some o ≡ true → (b : ArcRef) × (o ≡ Some b)
some_there None e = absurd (let f : false ≡ true = e in cc)
some_there (Some b) e = (b, refl)

pub uses_last : (a : ArcRef) (more : List ArcRef) → Uses (last_of a more).arc (a ∷ more)
uses_last a [] = inl refl
uses_last a (b ∷ more) = inr (uses_last b more)

module _ (marks : List Bool) (partner : ArcRef → Option ArcRef) (paired : ArePaired marks partner) where
  -- what the list of a walk tells
  goes_linked : (left : List Bool) (a : ArcRef) (more : List ArcRef) (after : List Bool) → Goes partner left a more after → Linked partner a more
  goes_linked left a [] after g = tt
  goes_linked left a (b ∷ more) after g = (g.0, goes_linked (without left b.arc) b more after g.2)

  goes_left : (left : List Bool) (a : ArcRef) (more : List ArcRef) (after : List Bool) → Goes partner left a more after → (k : ℕ) → Uses k more → is_left left k ≡ true
  goes_left left a [] after g k h = absurd h
  goes_left left a (b ∷ more) after g k (inl e) = subst (λ w. is_left left w ≡ true) (sym e) g.1
  goes_left left a (b ∷ more) after g k (inr h) = left_was left b.arc k (goes_left (without left b.arc) b more after g.2 k h)

  goes_once : (left : List Bool) (a : ArcRef) (more : List ArcRef) (after : List Bool) → Goes partner left a more after → UsesOnce more
  goes_once left a [] after g = tt
  goes_once left a (b ∷ more) after g = (
    (λ h. true_false (is_left (without left b.arc) b.arc) (goes_left (without left b.arc) b more after g.2 b.arc h) (left_gone left b.arc)),
    goes_once (without left b.arc) b more after g.2,
  )

  -- what is left in the end, and what is not
  goes_gone : (left : List Bool) (a : ArcRef) (more : List ArcRef) (after : List Bool) → Goes partner left a more after → (k : ℕ) →
      is_left after k ≡ false → Uses k more ⊎ (is_left left k ≡ false)
  goes_gone left a [] after g k e = inr (ap (λ w. is_left w k) (sym g.0) ∙ e)
  goes_gone left a (b ∷ more) after g k e = elim (goes_gone (without left b.arc) b more after g.2 k e) [
    | inl h ↦ inl (inr h)
    | inr f ↦ elim (gone_was left b.arc k f) [ inl q ↦ inl (inl (sym q)) | inr f ↦ inr f ]
  ]

  gone_after : (left : List Bool) (a : ArcRef) (more : List ArcRef) (after : List Bool) → Goes partner left a more after → (k : ℕ) →
      Uses k more ⊎ (is_left left k ≡ false) → is_left after k ≡ false
  gone_after left a [] after g k (inl h) = absurd h
  gone_after left a [] after g k (inr e) = ap (λ w. is_left w k) g.0 ∙ e
  gone_after left a (b ∷ more) after g k (inl (inl e)) =
      gone_after (without left b.arc) b more after g.2 k (inr (subst (λ w. is_left (without left b.arc) w ≡ false) (sym e) (left_gone left b.arc)))
  gone_after left a (b ∷ more) after g k (inl (inr h)) = gone_after (without left b.arc) b more after g.2 k (inl h)
  gone_after left a (b ∷ more) after g k (inr e) = gone_after (without left b.arc) b more after g.2 k (inr (gone_stays left b.arc k e))

  -- the walk is over where what would follow is not left
  goes_over : (left : List Bool) (a : ArcRef) (more : List ArcRef) (after : List Bool) → Goes partner left a more after → (b : ArcRef) →
      partner (flipped (last_of a more)) ≡ Some b → is_left after b.arc ≡ false
  goes_over left a [] after g b e = ap (λ w. is_left w b.arc) g.0 ∙ g.1 b e
  goes_over left a (c ∷ more) after g b e = goes_over (without left c.arc) c more after g.2 b e

  -- what follows the last, if it is on the run, is the first
  comes_round : (a : ArcRef) (more : List ArcRef) → Linked partner a more → UsesOnce (a ∷ more) → ((k : ℕ) → Uses k (a ∷ more) → is_left marks k ≡ true) →
      (b : ArcRef) → partner (flipped (last_of a more)) ≡ Some b → Uses b.arc (a ∷ more) → b ≡ a
  comes_round a [] l once stays b e (inr h) = absurd h
  comes_round a [] l once stays b e (inl h) = elim (one_or_flipped b a h) [
    | inl f ↦ f
    | inr f ↦ absurd ((paired (flipped a) b (stays a.arc (inl refl)) e).2 (sym f))
  ]
  comes_round a (c ∷ more) l once stays b e (inr h) =
      let f : b ≡ c = comes_round c more l.1 once.1 (λ k u. stays k (inr u)) b e h in
      let z : ArcRef = last_of c more in
      let p = (paired (flipped z) b (stays z.arc (inr (uses_last c more))) e).1 in
      let q = (paired (flipped a) c (stays a.arc (inl refl)) l.0).1 in
      let same : flipped z ≡ flipped a = some_same (flipped z) (flipped a) (sym p ∙ ap partner f ∙ q) in
      absurd (once.0 (subst (λ k. Uses k (c ∷ more)) (ap (λ w. w.arc) same) (uses_last c more)))
  comes_round a (c ∷ more) l once stays b e (inl h) = elim (one_or_flipped b a h) [
    | inl f ↦ f
    | inr f ↦ absurd (
        let z : ArcRef = last_of c more in
        let p = (paired (flipped z) b (stays z.arc (inr (uses_last c more))) e).1 in
        let same : c ≡ flipped z = some_same c (flipped z) (sym l.0 ∙ ap partner (sym f) ∙ p) in
        turn c more once.1 same)
  ]
    where
      turn : (c : ArcRef) (more : List ArcRef) → UsesOnce (c ∷ more) → ¬ (c ≡ flipped (last_of c more))
      turn c [] once e = differ c.reversed (ap (λ w. w.reversed) e)
        where
          differ : (b : Bool) → ¬ (b ≡ not b)
          differ true e = cc
          differ false e = cc
      turn c (d ∷ more) once e = once.0 (subst (λ k. Uses k (d ∷ more)) (sym (ap (λ w. w.arc) e)) (uses_last d more))

  module _ (left : List Bool) (runs : List (List ArcRef)) (walked : AreWalked marks partner left runs) (a : ArcRef) (there : is_left left a.arc ≡ true)
      (more : List ArcRef) (after : List Bool) (g : Goes partner (without left a.arc) a more after) where
    abbrev taken : List Bool
    taken = without left a.arc

    used_left : (k : ℕ) → Uses k (a ∷ more) → is_left left k ≡ true
    used_left k (inl e) = subst (λ w. is_left left w ≡ true) (sym e) there
    used_left k (inr h) = left_was left a.arc k (goes_left taken a more after g k h)

    stays : (k : ℕ) → Uses k (a ∷ more) → is_left marks k ≡ true
    stays k h = walked.within k (used_left k h)

    once : UsesOnce (a ∷ more)
    once = (
      (λ h. true_false (is_left taken a.arc) (goes_left taken a more after g a.arc h) (left_gone left a.arc)),
      goes_once taken a more after g,
    )

    linked : Linked partner a more
    linked = goes_linked taken a more after g

    abbrev last : ArcRef
    last = last_of a more

    -- what is gone in the end
    gone : (k : ℕ) → is_left after k ≡ false → Uses k (a ∷ more) ⊎ (is_left left k ≡ false)
    gone k e = elim (goes_gone taken a more after g k e) [
      | inl h ↦ inl (inr h)
      | inr f ↦ elim (gone_was left a.arc k f) [ inl q ↦ inl (inl (sym q)) | inr f ↦ inr f ]
    ]

    used_gone : (k : ℕ) → Uses k (a ∷ more) → is_left after k ≡ false
    used_gone k (inl e) = subst (λ w. is_left after w ≡ false) (sym e) (gone_after taken a more after g a.arc (inr (left_gone left a.arc)))
    used_gone k (inr h) = gone_after taken a more after g k (inl h)

    still_gone : (k : ℕ) → is_left left k ≡ false → is_left after k ≡ false
    still_gone k e = gone_after taken a more after g k (inr (gone_stays left a.arc k e))

    -- the walk ends, or comes round
    over : (b : ArcRef) → partner (flipped last) ≡ Some b → b ≡ a
    over b e = elim (gone b.arc (goes_over taken a more after g b e)) [
      | inl h ↦ comes_round a more linked once stays b e h
      | inr f ↦
          let p = paired (flipped last) b (stays last.arc (uses_last a more)) e in
          absurd (true_false (is_left left last.arc) (used_left last.arc (uses_last a more)) (walked.closed b (flipped last) p.0 p.1 f))
    ]

    -- who is gone has its partner gone, where that of the first is
    link_gone : (x : ArcRef) (rest : List ArcRef) → Linked partner x rest → ((k : ℕ) → Uses k (x ∷ rest) → Uses k (a ∷ more)) → last_of x rest ≡ last →
        (p q : ArcRef) → Uses p.arc (x ∷ rest) → partner p ≡ Some q → ((¬ (p ≡ x)) ⊎ Uses q.arc (a ∷ more)) → (is_left after q.arc ≡ false)
    link_gone x [] l sub z p q (inr h) e f = absurd h
    link_gone x [] l sub z p q (inl h) e f = elim (one_or_flipped p x h) [
      | inl i ↦ elim f [ inl n ↦ absurd (n i) | inr u ↦ used_gone q.arc u ]
      | inr i ↦ used_gone q.arc (inl (ap (λ w. w.arc) (over q (ap (λ w. partner (flipped w)) (sym z) ∙ ap partner (sym i) ∙ e))))
    ]
    link_gone x (y ∷ rest) l sub z p q (inl h) e f = elim (one_or_flipped p x h) [
      | inl i ↦ elim f [ inl n ↦ absurd (n i) | inr u ↦ used_gone q.arc u ]
      | inr i ↦
          let same : q ≡ y = some_same q y (sym e ∙ ap partner i ∙ l.0) in
          used_gone q.arc (sub q.arc (inr (inl (ap (λ w. w.arc) same))))
    ]
    link_gone x (y ∷ rest) l sub z p q (inr h) e f = link_gone y rest l.1 (λ k u. sub k (inr u)) z p q h e (elim (ref_dec p y) [
      | inr n ↦ inl n
      | inl i ↦
          let back = (paired (flipped x) y (stays x.arc (sub x.arc (inl refl))) l.0).1 in
          let same : q ≡ flipped x = some_same q (flipped x) (sym e ∙ ap partner i ∙ back) in
          inr (subst (λ w. Uses w (a ∷ more)) (sym (ap (λ w. w.arc) same)) (sub x.arc (inl refl)))
    ])

    -- from an end, or round
    abbrev Ends : Type 0
    Ends = ((partner a ≡ None) × (partner (flipped last) ≡ None)) ⊎ (partner (flipped last) ≡ Some a)

    option_is : (o : Option ArcRef) → (o ≡ None) ⊎ ((b : ArcRef) × (o ≡ Some b))
    option_is None = inl refl
    option_is (Some b) = inr (b, refl)

    pub from_end : partner a ≡ None → Ends
    from_end n = elim (option_is (partner (flipped last))) [
      | inl e ↦ inl (n, e)
      | inr (b, e) ↦ inr (e ∙ ap Some (over b e))
    ]

    pub round : ((b : ArcRef) → is_left marks b.arc ≡ true → partner b ≡ None → is_left left b.arc ≡ false) → Ends
    round none = elim (option_is (partner (flipped last))) [
      | inr (b, e) ↦ inr (e ∙ ap Some (over b e))
      | inl e ↦ absurd (true_false (is_left left last.arc) (used_left last.arc (uses_last a more)) (none (flipped last) (stays last.arc (uses_last a more)) e))
    ]

    pub walked_more : Ends → AreWalked marks partner after (runs ++ ((a ∷ more) ∷ []))
    walked_more ends = record {
      within = λ k e. elim (bool_split (is_left left k)) [
        | inl f ↦ walked.within k f
        | inr f ↦ absurd (true_false (is_left after k) e (still_gone k f))
      ];
      closed = λ p q m e f. elim (gone p.arc f) [
        | inr i ↦ still_gone q.arc (walked.closed p q m e i)
        | inl h ↦ link_gone a more linked (λ k u. u) refl p q h e (before p q e)
      ];
      each = λ r h. elim (Has-append r runs ((a ∷ more) ∷ []) h) [
        | inl i ↦ walked.each r i
        | inr (inl i) ↦ subst (IsRun marks partner) (sym i) (record { linked = linked; once = once; stays = stays; ends = ends })
        | inr (inr z) ↦ absurd z
      ];
      all = λ k m e. elim (gone k e) [
        | inl h ↦ (a ∷ more, Has-append_right (a ∷ more) runs ((a ∷ more) ∷ []) (inl refl), h)
        | inr f ↦ (let t = walked.all k m f in (t.0, Has-append_left t.0 runs ((a ∷ more) ∷ []) t.1, t.2))
      ];
      taken = λ k r h w. elim (Has-append r runs ((a ∷ more) ∷ []) h) [
        | inl i ↦ still_gone k (walked.taken k r i w)
        | inr (inl i) ↦ used_gone k (subst (Uses k) i w)
        | inr (inr z) ↦ absurd z
      ];
      apart = λ k r q h i v w. elim (Has-append r runs ((a ∷ more) ∷ []) h) [
        | inl j ↦ elim (Has-append q runs ((a ∷ more) ∷ []) i) [
          | inl l ↦ walked.apart k r q j l v w
          | inr (inl e) ↦ absurd (true_false (is_left left k) (used_left k (subst (Uses k) e w)) (walked.taken k r j v))
          | inr (inr z) ↦ absurd z
        ]
        | inr (inl e) ↦ elim (Has-append q runs ((a ∷ more) ∷ []) i) [
          | inl l ↦ absurd (true_false (is_left left k) (used_left k (subst (Uses k) e v)) (walked.taken k q l w))
          | inr (inl f) ↦ e ∙ sym f
          | inr (inr z) ↦ absurd z
        ]
        | inr (inr z) ↦ absurd z
      ];
    }
      where
        before : (p q : ArcRef) → partner p ≡ Some q → (¬ (p ≡ a)) ⊎ Uses q.arc (a ∷ more)
        before p q e = elim ends [
          | inl n ↦ inl (λ i. let z : None ≡ Some q = sym n.0 ∙ ap partner (sym i) ∙ e in absurd cc)
          | inr r ↦ elim (ref_dec p a) [
            | inr n ↦ inl n
            | inl i ↦
                let back = (paired (flipped last) a (stays last.arc (uses_last a more)) r).1 in
                let same : q ≡ flipped last = some_same q (flipped last) (sym e ∙ ap partner i ∙ back) in
                inr (subst (λ w. Uses w (a ∷ more)) (sym (ap (λ w. w.arc) same)) (uses_last a more))
          ]
        ]

  -- what is left when nothing is walked yet
  walked_none : AreWalked marks partner marks []
  walked_none = record {
    within = λ k e. e;
    closed = λ a b m e f. absurd (true_false (is_left marks a.arc) m f);
    each = λ r h. absurd h;
    all = λ k m e. absurd (true_false (is_left marks k) m e);
    taken = λ k r h w. absurd h;
    apart = λ k r q h i v w. absurd h;
  }

  -- nothing is walked where the arc is gone
  walked_same : (left after : List Bool) (runs more : List (List ArcRef)) (k : ℕ) → is_left left k ≡ false → after ≡ without left k → more ≡ runs →
      AreWalked marks partner left runs → AreWalked marks partner after more
  walked_same left after runs more k e f m w =
      subst (λ v. AreWalked marks partner v more) (sym (f ∙ same_left left k e)) (subst (AreWalked marks partner left) (sym m) w)

  -- what one walk keeps
  record Kept (left : List Bool) (from : ArcRef) (after : List Bool) (more : List (List ArcRef)) : Type 0 where
    walked : AreWalked marks partner after more
    gone : (k : ℕ) → is_left left k ≡ false → is_left after k ≡ false
    taken : is_left after from.arc ≡ false

  adds_with : (left after : List Bool) (runs more : List (List ArcRef)) (from : ArcRef) → (partner from ≡ None) ⊎ EndsGone marks partner left → AreWalked marks partner left runs →
      Adds partner left runs from after more → Kept left from after more
  adds_with left after runs more from how w (inl a) = record {
    walked = walked_same left after runs more from.arc a.0 a.1 a.2 w;
    gone = λ k e. ap (λ v. is_left v k) (a.1 ∙ same_left left from.arc a.0) ∙ e;
    taken = ap (λ v. is_left v from.arc) (a.1 ∙ same_left left from.arc a.0) ∙ a.0;
  }
  adds_with left after runs more from how w (inr (there, run, (rest, is, g), e)) =
      let ends : Ends left runs w from there rest after g = elim how [
        | inl n ↦ from_end left runs w from there rest after g n
        | inr n ↦ round left runs w from there rest after g n
      ] in record {
        walked = subst (AreWalked marks partner after) (sym (e ∙ ap (λ r. runs ++ (r ∷ [])) is)) (walked_more left runs w from there rest after g ends);
        gone = still_gone left runs w from there rest after g;
        taken = used_gone left runs w from there rest after g from.arc (inl refl);
      }

  started_with : (left after : List Bool) (runs more : List (List ArcRef)) (from : ArcRef) → AreWalked marks partner left runs →
      AddsStarted partner left runs from after more → AreWalked marks partner after more × ((k : ℕ) → is_left left k ≡ false → is_left after k ≡ false) × (partner from ≡ None → is_left after from.arc ≡ false)
  started_with left after runs more from w (inl (why, f, m)) = (
    subst (λ v. AreWalked marks partner v more) (sym f) (subst (AreWalked marks partner left) (sym m) w),
    (λ k g. ap (λ v. is_left v k) f ∙ g),
    (λ n. elim why [
      | inl g ↦ ap (λ v. is_left v from.arc) f ∙ g
      | inr (b, e) ↦ (let z : None ≡ Some b = sym n ∙ e in absurd cc)
    ]),
  )
  started_with left after runs more from w (inr (n, a)) =
      let t = adds_with left after runs more from (inl n) w a in (t.walked, t.gone, λ e. t.taken)

  -- what holds once the arcs before number i are begun
  pub record Begun (i : ℕ) (left : List Bool) (runs : List (List ArcRef)) : Type 0 where
    pub walked : AreWalked marks partner left runs
    pub gone : (b : ArcRef) → suc b.arc ≤ i → partner b ≡ None → is_left left b.arc ≡ false

  pub started_step : (i : ℕ) (left mid after : List Bool) (runs some more : List (List ArcRef)) → Begun i left runs →
      AddsStarted partner left runs (record { arc = i; reversed = false }) mid some → AddsStarted partner mid some (record { arc = i; reversed = true }) after more →
      Begun (i + 1) after more
  started_step i left mid after runs some more b f s =
      let one = started_with left mid runs some (record { arc = i; reversed = false }) b.walked f in
      let two = started_with mid after some more (record { arc = i; reversed = true }) one.0 s in
      record {
        walked = two.0;
        gone = λ r h n. elim (number_dec r.arc i) [
          | inr d ↦ two.1 r.arc (one.1 r.arc (b.gone r (omega (arith, h, d)) n))
          | inl e ↦ by_way r e n r.reversed refl one two
        ];
      }
    where
      by_way : (r : ArcRef) → r.arc ≡ i → partner r ≡ None → (w : Bool) → r.reversed ≡ w →
          AreWalked marks partner mid some × ((k : ℕ) → is_left left k ≡ false → is_left mid k ≡ false) × (partner (record { arc = i; reversed = false }) ≡ None → is_left mid i ≡ false) →
          AreWalked marks partner after more × ((k : ℕ) → is_left mid k ≡ false → is_left after k ≡ false) × (partner (record { arc = i; reversed = true }) ≡ None → is_left after i ≡ false) →
          is_left after r.arc ≡ false
      by_way r e n false w one two =
          let same : r ≡ record { arc = i; reversed = false } = λ j. record { arc = e j; reversed = w j } in
          two.1 r.arc (subst (λ k. is_left mid k ≡ false) (sym e) (one.2 (ap partner (sym same) ∙ n)))
      by_way r e n true w one two =
          let same : r ≡ record { arc = i; reversed = true } = λ j. record { arc = e j; reversed = w j } in
          subst (λ k. is_left after k ≡ false) (sym e) (two.2 (ap partner (sym same) ∙ n))

  pub started_start : (left : List Bool) (runs : List (List ArcRef)) → AreWalked marks partner left runs → Begun 0 left runs
  started_start left runs w = record { walked = w; gone = λ b h n. absurd (omega (arith, h)) }

  -- one arc more may be begun
  pub single_step : (left after : List Bool) (runs more : List (List ArcRef)) (from : ArcRef) → AreWalked marks partner left runs →
      AddsSingle partner left runs from after more → AreWalked marks partner after more
  single_step left after runs more from w (inl (why, e, f)) =
      subst (λ v. AreWalked marks partner v more) (sym e) (subst (AreWalked marks partner left) (sym f) w)
  single_step left after runs more from w (inr f) = (started_with left after runs more from w f).0

  -- what holds once the arcs before number i are walked
  pub record Rounded (i : ℕ) (left : List Bool) (runs : List (List ArcRef)) : Type 0 where
    pub walked : AreWalked marks partner left runs
    pub ends : (b : ArcRef) → is_left marks b.arc ≡ true → partner b ≡ None → is_left left b.arc ≡ false
    pub gone : (k : ℕ) → suc k ≤ i → is_left left k ≡ false

  within_marks : (marks : List Bool) (k : ℕ) → is_left marks k ≡ true → suc k ≤ length marks
  within_marks [] k e = absurd (let f : false ≡ true = e in cc)
  within_marks (b ∷ marks) zero e = omega arith
  within_marks (b ∷ marks) (suc k) e = let h = within_marks marks k e in omega (arith, h)

  pub all_started : (i : ℕ) (left : List Bool) (runs : List (List ArcRef)) → length marks ≤ i → Begun i left runs → AreWalked marks partner left runs × EndsGone marks partner left
  all_started i left runs n b = (b.walked, λ r m e. let h = within_marks marks r.arc m in b.gone r (omega (arith, h, n)) e)

  pub rounded_start : (left : List Bool) (runs : List (List ArcRef)) → AreWalked marks partner left runs → EndsGone marks partner left → Rounded 0 left runs
  rounded_start left runs w e = record { walked = w; ends = e; gone = λ k h. absurd (omega (arith, h)) }

  pub rounded_step : (i : ℕ) (left after : List Bool) (runs more : List (List ArcRef)) → Rounded i left runs →
      Adds partner left runs (record { arc = i; reversed = false }) after more → Rounded (i + 1) after more
  rounded_step i left after runs more r a =
      let t = adds_with left after runs more (record { arc = i; reversed = false }) (inr r.ends) r.walked a in
      record {
        walked = t.walked;
        ends = λ b m e. t.gone b.arc (r.ends b m e);
        gone = λ k h. elim (number_dec k i) [
          | inl e ↦ subst (λ w. is_left after w ≡ false) (sym e) t.taken
          | inr n ↦ t.gone k (r.gone k (omega (arith, h, n)))
        ];
      }

  pub all_walked : (i : ℕ) (left : List Bool) (runs : List (List ArcRef)) → length marks ≤ i → Rounded i left runs → AreRuns marks partner runs
  all_walked i left runs n r = record {
    each = r.walked.each;
    all = λ k m. let h = within_marks marks k m in r.walked.all k m (r.gone k (omega (arith, h, n)));
    apart = r.walked.apart;
  }

-- all marked arcs, walked in three rounds
pub runs_means : (marks : List Bool) (partner : ArcRef → Option ArcRef) (first second third : List Bool) (none single ends all : List (List ArcRef)) →
    first ≡ marks → none ≡ [] →
    (ArePaired marks partner → AreWalked marks partner first none → AreWalked marks partner second single) →
    (ArePaired marks partner → AreWalked marks partner second single → AreWalked marks partner third ends × EndsGone marks partner third) →
    (ArePaired marks partner → AreWalked marks partner third ends → EndsGone marks partner third → AreRuns marks partner all) →
    ArePaired marks partner → AreRuns marks partner all
runs_means marks partner first second third none single ends all e n f g h p =
    let start : AreWalked marks partner first none =
    subst (λ w. AreWalked marks partner w none) (sym e) (subst (AreWalked marks partner marks) (sym n) (walked_none marks partner p)) in
    let t = g p (f p start) in
    h p t.0 t.1

-- a walk that goes on to no other
pub walk_alone : (partner : ArcRef → Option ArcRef) (left now : List Bool) (from : ArcRef) (run : List ArcRef) (next : Option ArcRef) → is_some next ≡ false → run ≡ from ∷ [] →
    ((more : List ArcRef) (after : List Bool) → GoesOn partner now next more after → Goes partner left from more after) → Walk partner left from run now
walk_alone partner left now from run None e is on = ([], is, on [] now (refl, refl))
walk_alone partner left now from run (Some b) e is on = absurd cc

-- a walk that is over
pub walk_over : (partner : ArcRef → Option ArcRef) (left now : List Bool) (from : ArcRef) (run : List ArcRef) (next : Option ArcRef) → next ≡ None →
    ((done : List ArcRef) × (run ≡ from ∷ done) × ((more : List ArcRef) (after : List Bool) → GoesOn partner now next more after → Goes partner left from (done ++ more) after)) →
    Walk partner left from run now
walk_over partner left now from run next e (done, is, on) =
    (done, is, subst (λ w. Goes partner left from w now) (append-nil done) (on [] now (subst (λ o. GoesOn partner now o [] now) (sym e) (refl, refl))))
