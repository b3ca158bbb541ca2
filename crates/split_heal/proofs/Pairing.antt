-- Sorted ends, vertex by vertex: which used arcs are noted as partners.
use Rattle.std.proofs.Common.{◌≡◌, ◌↔◌, ℕ, Bool, true, false, cond, List, [], ◌∷◌, ◌++◌, take, drop, ◌⊎◌, inl, inr, refl, sym, ap, ◌∙◌, subst, Option, Some, None}
use Rattle.std.proofs.lemmas.List.{append_assoc, append-nil, take-append-drop}
use Rattle.std.proofs.lemmas.List.Sorted.{IsPermutation-sym}
use Rattle.std.specs.List.Sorted.{IsPermutation, IsSorted}
use Rattle.theory.specs.ArcNumbers.{ArcRef}
use Rattle.theory.specs.Lists.{Distinct, Has}
use Rattle.theory.proofs.Lists.{Has-append, Has-append_left, Has-append_right}
use Rattle.grid.specs.declared.pos.Pos.{Pos}
use Rattle.lines.specs.ByVertex.{AreByVertex, count_at}
use Rattle.lines.proofs.ByVertex.{behind_at, here_at}
use Rattle.lines.proofs.Positions.{true_false}
use Rattle.lines.proofs.SortedLists.{Has-permutation}
use Rattle.arcs.specs.Among.{among}
use Rattle.chains.proofs.Among.{among_has, has_among}
use Rattle.split_heal.specs.ArcUseMap.{with_recorded}
use Rattle.split_heal.specs.declared.pseudo_nodes.ArcEnd.{ArcEnd}
use Rattle.split_heal.specs.PseudoNodes.{AreGrouped, Begins, IsVerdict, all_ends, end_at, paired, used_at, vertex_of, with_pair}
use Rattle.split_heal.proofs.ByUses.{recorded_here, recorded_other}
use Rattle.split_heal.proofs.PartnersMeet.{begins_end, end_cmp, ends_begin, sorted_grouped}

-- what is told of those that meet holds of those that meet as well by another word
pub if_alike : (S T : Type 0) (H G : ArcRef → Type 0) (f : ArcRef → Option ArcRef) (a : ArcRef) → (S → T) → (T → S) → ((p : ArcRef) → H p → G p) → ((p : ArcRef) → G p → H p) →
    IsVerdict S H f a → IsVerdict T G f a
if_alike S T H G f a st ts hg gh (inl s) = inl (record {
  none = s.none;
  why = elim s.why [
    | inl k ↦ inl (st k)
    | inr (inl k) ↦ inr (inl (λ p h. k p (gh p h)))
    | inr (inr k) ↦ inr (inr (record {
      one = k.one;
      two = k.two;
      three = k.three;
      has_one = hg k.one k.has_one;
      has_two = hg k.two k.has_two;
      has_three = hg k.three k.has_three;
      one_two = k.one_two;
      one_three = k.one_three;
      two_three = k.two_three;
    }))
  ];
})
if_alike S T H G f a st ts hg gh (inr (b, k)) = inr (
  b,
  record {
    there = k.there;
    back = k.back;
    apart = k.apart;
    no_end = λ t. k.no_end (ts t);
    meets = hg b k.meets;
    only = λ p h. k.only p (gh p h);
  },
)

-- they stand vertex by vertex
grouped_hold : (l : List ArcEnd) → AreGrouped l → AreByVertex vertex_of l
grouped_hold [] g = tt
grouped_hold (e ∷ l) g = ((λ d h. (g.0 d h).0), grouped_hold l g.1)

Grouped-behind : (xs ys : List ArcEnd) → AreGrouped (xs ++ ys) → AreGrouped ys
Grouped-behind [] ys g = g
Grouped-behind (x ∷ xs) ys g = Grouped-behind xs ys g.1

Grouped-front : (xs ys : List ArcEnd) → AreGrouped (xs ++ ys) → AreGrouped xs
Grouped-front [] ys g = tt
Grouped-front (x ∷ xs) ys g = ((λ d h. g.0 d (Has-append_left d xs ys h)), Grouped-front xs ys g.1)

Grouped-apart : (xs ys : List ArcEnd) → AreGrouped (xs ++ ys) → (x y : ArcEnd) → Has x xs → Has y ys → ¬ (used_at x ≡ used_at y)
Grouped-apart [] ys g x y h i = absurd h
Grouped-apart (z ∷ xs) ys g x y (inl e) i = λ k. (g.0 y (Has-append_right y xs ys i)).1 (sym (ap used_at e) ∙ k)
Grouped-apart (z ∷ xs) ys g x y (inr h) i = Grouped-apart xs ys g.1 x y h i

-- of the others the same is noted
pair_keeps : (stops : List Pos) (first : ArcEnd) (here : List ArcEnd) (f : ArcRef → Option ArcRef) (q : ArcRef) → ¬ (used_at first ≡ q) → ((d : ArcEnd) → Has d here → ¬ (used_at d ≡ q)) →
    with_pair stops first here f q ≡ f q
pair_keeps stops first [] f q n m = refl
pair_keeps stops first (d ∷ []) f q n m = go (among stops first.vertex)
  where
    go : (b : Bool) → cond b f (paired (used_at first) (used_at d) f) q ≡ f q
    go true = refl
    go false =
        recorded_other (used_at d) (used_at first) (with_recorded (used_at first) (used_at d) f) q (m d (inl refl)) ∙ recorded_other (used_at first) (used_at d) f q n
pair_keeps stops first (d ∷ (c ∷ l)) f q n m = refl

module _ (stops : List Pos) (ends : List ArcEnd) where
  -- those that meet at v
  abbrev pub Meet : Pos → ArcRef → Type 0
  Meet v b = Has (end_at v b) ends

  abbrev pub Told : (ArcRef → Option ArcRef) → Pos → ArcRef → Type 0
  Told f v a = IsVerdict (Has v stops) (Meet v) f a

  -- what is noted of the ends at one vertex
  group_means : (first : ArcEnd) (here : List ArcEnd) (f g : ArcRef → Option ArcRef) → ((q : ArcRef) → g q ≡ with_pair stops first here f q) →
      ((x : ArcEnd) → Has x (first ∷ here) → f (used_at x) ≡ None) → AreGrouped (first ∷ here) →
      ((b : ArcRef) → Meet first.vertex b → Has (end_at first.vertex b) (first ∷ here)) → ((x : ArcEnd) → Has x (first ∷ here) → Meet first.vertex (used_at x)) →
      (x : ArcEnd) → Has x (first ∷ here) → Told g first.vertex (used_at x)
  group_means first [] f g e none gr only meet x (inr z) = absurd z
  group_means first [] f g e none gr only meet x (inl i) = inl (record {
    none = e (used_at x) ∙ none x (inl i);
    why = inr (inl (λ b h. elim (only b h) [ inl j ↦ ap used_at j ∙ sym (ap used_at i) | inr z ↦ absurd z ]));
  })
  group_means first (d ∷ (c ∷ l)) f g e none gr only meet x h = inl (record {
    none = e (used_at x) ∙ none x h;
    why = inr (inr (record {
      one = used_at first;
      two = used_at d;
      three = used_at c;
      has_one = meet first (inl refl);
      has_two = meet d (inr (inl refl));
      has_three = meet c (inr (inr (inl refl)));
      one_two = (gr.0 d (inl refl)).1;
      one_three = (gr.0 c (inr (inl refl))).1;
      two_three = (gr.1.0 c (inl refl)).1;
    }));
  })
  group_means first (d ∷ []) f g e none gr only meet x h = go (among stops first.vertex) refl e
    where
      a : ArcRef
      a = used_at first

      b : ArcRef
      b = used_at d

      differ : ¬ (a ≡ b)
      differ = (gr.0 d (inl refl)).1

      two : (p : ArcRef) → Meet first.vertex p → (p ≡ a) ⊎ (p ≡ b)
      two p m = elim (only p m) [ inl j ↦ inl (ap used_at j) | inr (inl j) ↦ inr (ap used_at j) | inr (inr z) ↦ absurd z ]

      go : (s : Bool) → among stops first.vertex ≡ s → ((q : ArcRef) → g q ≡ cond s f (paired a b f) q) → Told g first.vertex (used_at x)
      go true t k = inl (record { none = k (used_at x) ∙ none x h; why = inl (among_has stops first.vertex t) })
      go false t k =
          let ahead : g a ≡ Some b = k a ∙ recorded_other b a (with_recorded a b f) a (λ z. differ (sym z)) ∙ recorded_here a b f in
          let back : g b ≡ Some a = k b ∙ recorded_here b a (with_recorded a b f) in
          let no_end : ¬ Has first.vertex stops = (λ i. true_false (among stops first.vertex) (has_among stops first.vertex i) t) in
          elim h [
            | inl i ↦ subst (Told g first.vertex) (sym (ap used_at i)) (inr (
              b,
              record {
                there = ahead;
                back = back;
                apart = differ;
                no_end = no_end;
                meets = meet d (inr (inl refl));
                only = two;
              },
            ))
            | inr (inl i) ↦ subst (Told g first.vertex) (sym (ap used_at i)) (inr (
              a,
              record {
                there = back;
                back = ahead;
                apart = λ z. differ (sym z);
                no_end = no_end;
                meets = meet first (inl refl);
                only = λ p m. elim (two p m) [ inl j ↦ inr j | inr j ↦ inl j ];
              },
            ))
            | inr (inr z) ↦ absurd z
          ]

  -- the ends before these are told, and nothing is noted of these
  pub record Paired (left : List ArcEnd) (f : ArcRef → Option ArcRef) : Type 0 where
    pub done : List ArcEnd
    pub is : ends ≡ done ++ left
    pub grouped : AreGrouped left
    pub other : (x y : ArcEnd) → Has x done → Has y left → ¬ (x.vertex ≡ y.vertex)
    pub apart : (x y : ArcEnd) → Has x done → Has y left → ¬ (used_at x ≡ used_at y)
    pub meant : (v : Pos) (a : ArcRef) → Has (end_at v a) done → Told f v a
    pub none : (x : ArcEnd) → Has x left → f (used_at x) ≡ None

  pub pairing_starts : (f : ArcRef → Option ArcRef) → AreGrouped ends → ((q : ArcRef) → f q ≡ None) → Paired ends f
  pairing_starts f g n = record {
    done = [];
    is = refl;
    grouped = g;
    other = λ x y h. absurd h;
    apart = λ x y h. absurd h;
    meant = λ v a h. absurd h;
    none = λ x h. n (used_at x);
  }

  pub pairing_over : (left : List ArcEnd) (f : ArcRef → Option ArcRef) → left ≡ [] → Paired left f → (v : Pos) (a : ArcRef) → Meet v a → Told f v a
  pairing_over left f e p v a h = p.meant v a (subst (Has (end_at v a)) (p.is ∙ ap (λ w. p.done ++ w) e ∙ append-nil p.done) h)

  -- the ends at one vertex: the first of those that are left, and those that follow it there
  module _ (first : ArcEnd) (here behind : List ArcEnd) (f g : ArcRef → Option ArcRef) (p : Paired (first ∷ (here ++ behind)) f)
      (at : (x : ArcEnd) → Has x here → x.vertex ≡ first.vertex) (past : (x : ArcEnd) → Has x behind → ¬ (x.vertex ≡ first.vertex)) where
    v : Pos
    v = first.vertex

    in_behind : (x : ArcEnd) → Has x behind → Has x (first ∷ (here ++ behind))
    in_behind x h = inr (Has-append_right x here behind h)

    in_here : (x : ArcEnd) → Has x (first ∷ here) → Has x (first ∷ (here ++ behind))
    in_here x (inl e) = inl e
    in_here x (inr h) = inr (Has-append_left x here behind h)

    at_first : (x : ArcEnd) → Has x (first ∷ here) → x.vertex ≡ first.vertex
    at_first x (inl e) = ap (λ w. w.vertex) e
    at_first x (inr h) = at x h

    in_ends : (x : ArcEnd) → Has x (first ∷ here) → Has x ends
    in_ends x h = subst (Has x) (sym p.is) (Has-append_right x p.done (first ∷ (here ++ behind)) (in_here x h))

    meet : (x : ArcEnd) → Has x (first ∷ here) → Meet first.vertex (used_at x)
    meet x h = subst (λ w. Has (end_at w (used_at x)) ends) (at_first x h) (in_ends x h)

    -- no others meet there
    only_here : (b : ArcRef) → Meet first.vertex b → Has (end_at first.vertex b) (first ∷ here)
    only_here b h = elim (Has-append (end_at first.vertex b) p.done (first ∷ (here ++ behind)) (subst (Has (end_at first.vertex b)) p.is h)) [
      | inl i ↦ absurd (p.other (end_at first.vertex b) first i (inl refl) refl)
      | inr (inl i) ↦ inl i
      | inr (inr i) ↦ elim (Has-append (end_at first.vertex b) here behind i) [ inl j ↦ inr j | inr j ↦ absurd (past (end_at first.vertex b) j refl) ]
    ]

    -- of the others the same is noted
    same : ((q : ArcRef) → g q ≡ with_pair stops first here f q) → (q : ArcRef) → ((x : ArcEnd) → Has x (first ∷ here) → ¬ (used_at x ≡ q)) → g q ≡ f q
    same e q n = e q ∙ pair_keeps stops first here f q (n first (inl refl)) (λ d h. n d (inr h))

    if_still : ((q : ArcRef) → g q ≡ with_pair stops first here f q) → (w : Pos) (a : ArcRef) → Has (end_at w a) p.done → Told f w a → Told g w a
    if_still e w a h (inl s) = inl (record {
      none = same e a (λ x i k. p.apart (end_at w a) x h (in_here x i) (sym k)) ∙ s.none;
      why = s.why;
    })
    if_still e w a h (inr (b, k)) = inr (
      b,
      record {
        there = same e a (λ x i z. p.apart (end_at w a) x h (in_here x i) (sym z)) ∙ k.there;
        back = same e b (λ x i z. p.apart (end_at w b) x done_too (in_here x i) (sym z)) ∙ k.back;
        apart = k.apart;
        no_end = k.no_end;
        meets = k.meets;
        only = k.only;
      },
    )
      where
        done_too : Has (end_at w b) p.done
        done_too = elim (Has-append (end_at w b) p.done (first ∷ (here ++ behind)) (subst (Has (end_at w b)) p.is k.meets)) [
          | inl i ↦ i
          | inr i ↦ absurd (p.other (end_at w a) (end_at w b) h i refl)
        ]

    advance : ((q : ArcRef) → g q ≡ with_pair stops first here f q) → Paired behind g
    advance e = record {
      done = p.done ++ (first ∷ here);
      is = p.is ∙ sym (append_assoc p.done (first ∷ here) behind);
      grouped = Grouped-behind (first ∷ here) behind p.grouped;
      other = λ x y h i. elim (Has-append x p.done (first ∷ here) h) [
        | inl j ↦ p.other x y j (in_behind y i)
        | inr j ↦ (λ k. past y i (sym k ∙ at_first x j))
      ];
      apart = λ x y h i. elim (Has-append x p.done (first ∷ here) h) [
        | inl j ↦ p.apart x y j (in_behind y i)
        | inr j ↦ Grouped-apart (first ∷ here) behind p.grouped x y j i
      ];
      meant = λ w a h. elim (Has-append (end_at w a) p.done (first ∷ here) h) [
        | inl j ↦ if_still e w a j (p.meant w a j)
        | inr j ↦
            subst (λ z. Told g z a) (sym (at_first (end_at w a) j))
            (group_means first here f g e (λ x k. p.none x (in_here x k)) (Grouped-front (first ∷ here) behind p.grouped) only_here meet (end_at w a) j)
      ];
      none = λ x h. same e (used_at x) (λ y i. Grouped-apart (first ∷ here) behind p.grouped y x i h) ∙ p.none x (in_behind x h);
    }

  -- in the form of the code
  pub pairing_step : (left others : List ArcEnd) (first : ArcEnd) (n : ℕ) (here behind : List ArcEnd) (f g : ArcRef → Option ArcRef) → left ≡ first ∷ others → n ≡ count_at vertex_of first.vertex others →
      here ≡ take n others → behind ≡ drop n others → ((q : ArcRef) → g q ≡ with_pair stops first here f q) → Paired left f → Paired behind g
  pairing_step left others first n here behind f g l c h b e p =
      let split : others ≡ here ++ behind = sym (take-append-drop n others) ∙ (λ i. sym h i ++ sym b i) in
      let grouped : AreGrouped (first ∷ others) = subst AreGrouped l p.grouped in
      advance first here behind f g (subst (λ w. Paired w f) (l ∙ ap (λ w. first ∷ w) split) p)
      (λ x k. here_at vertex_of first.vertex others x (subst (Has x) (h ∙ ap (λ m. take m others) c) k))
      (λ x k. behind_at vertex_of first.vertex others (λ y i. (grouped.0 y i).0) (grouped_hold others grouped.1) x (subst (Has x) (b ∙ ap (λ m. drop m others) c) k)) e

-- what is told of the sorted ends is told of the used arcs that begin at a vertex
pub meeting_means : (arcs : List (List Pos)) (ks : List ℕ) (ending stops : List Pos) (l slice : List ArcEnd) (f : ArcRef → Option ArcRef) → ((p : Pos) → Has p stops ↔ Has p ending) →
    IsPermutation (all_ends arcs ks) l → IsSorted end_cmp l → slice ≡ l →
    (AreGrouped slice → (v : Pos) (a : ArcRef) → Has (end_at v a) slice → IsVerdict (Has v stops) (λ b. Has (end_at v b) slice) f a) →
    Distinct ks → (v : Pos) (a : ArcRef) → Begins arcs v ks a → IsVerdict (Has v ending) (Begins arcs v ks) f a
meeting_means arcs ks ending stops l slice f alike p s e meant once v a b =
    if_alike (Has v stops) (Has v ending) (λ q. Has (end_at v q) slice) (Begins arcs v ks) f a (alike v).0 (alike v).1 back to
    (meant (subst AreGrouped (sym e) (sorted_grouped arcs ks l once p s)) v a (to a b))
  where
    to : (q : ArcRef) → Begins arcs v ks q → Has (end_at v q) slice
    to q h = subst (Has (end_at v q)) (sym e) (Has-permutation (all_ends arcs ks) l (end_at v q) p (begins_end arcs ks v q h))

    back : (q : ArcRef) → Has (end_at v q) slice → Begins arcs v ks q
    back q h =
        ends_begin arcs ks (end_at v q)
        (Has-permutation l (all_ends arcs ks) (end_at v q) (IsPermutation-sym (all_ends arcs ks) l p) (subst (Has (end_at v q)) e h))
