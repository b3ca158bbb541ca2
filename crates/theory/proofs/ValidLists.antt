-- A list that passes each of its inner vertices one way, whose ends are no inner vertices and that is not its own reverse, comes to no vertex twice, but perhaps to its end.
use Rattle.std.proofs.Common.{◌≡◌, ◌≤◌, List, [], ◌∷◌, ◌++◌, length, reverse, ◌⊎◌, inl, inr, refl, sym, ap, ◌∙◌, subst, arith}
use Rattle.std.proofs.lemmas.List.{length-append}
use Rattle.theory.proofs.Chains.{Distinct-Trail}
use Rattle.theory.proofs.Lists.{Distinct-turn, Has-append_left, Passes-after, Passes-before, Steps-front, Steps-left, Steps-right, first_turn, inner_has, front_last, front-snoc, last-snoc, last_or_inner}
use Rattle.theory.proofs.Reversing.{Passes-reverse, reverse-last, reverse-snoc}
use Rattle.std.proofs.lemmas.List.{reverse-reverse}
use Rattle.theory.specs.Junction.{SameVisit, pair}
use Rattle.theory.specs.LinesAndRings.{Trail}
use Rattle.theory.specs.Lists.{Beside, Between, Distinct, Has, NoTurnBack, Passes, Steps, front_of, last_of}

-- what is shown of such a list
pub record Simple {V : Type 0} (x : V) (r : List V) : Type 0 where
  pub long : 1 ≤ length r
  pub front : Distinct (front_of x r)
  pub rest : Distinct r
  pub closed_long : x ≡ last_of x r → 3 ≤ length r

pub Distinct-front : {V : Type 0} (x : V) (r : List V) → Distinct (x ∷ r) → Distinct (front_of x r)
Distinct-front x [] d = tt
Distinct-front x (y ∷ r) d = ((λ h. d.0 (front-Has y x r h)), Distinct-front y r d.1)
  where
    front-Has : {V : Type 0} (y v : V) (r : List V) → Has v (front_of y r) → Has v (y ∷ r)
    front-Has y v [] h = absurd h
    front-Has y v (z ∷ r) (inl e) = inl e
    front-Has y v (z ∷ r) (inr h) = inr (front-Has z v r h)

-- what stands in the front has a vertex behind it
Passes-front : {V : Type 0} (a v b x : V) (r : List V) → Passes a v b (x ∷ r) → Has a (front_of x r)
Passes-front a v b x r h = Steps-front a v x r (Passes-before a v b (x ∷ r) h)

module _ {V : Type 0} (E : V → Type 0) (P : V → V → V → Type 0) (free : (a v b : V) → P a v b → ¬ E v)
    (one : (a v b c d : V) → P a v b → P c v d → SameVisit (pair a b) (pair c d)) where
  -- two such lists that begin with the same two vertices are one
  det : (p c : V) (s t : List V) → ((a v b : V) → Passes a v b (p ∷ (c ∷ s)) → P a v b) → ((a v b : V) → Passes a v b (p ∷ (c ∷ t)) → P a v b) →
      E (last_of c s) → E (last_of c t) → s ≡ t
  det p c [] [] hs ht es et = refl
  det p c [] (b ∷ t) hs ht es et = absurd (free p c b (ht p c b (inl (refl, (refl, refl)))) es)
  det p c (a ∷ s) [] hs ht es et = absurd (free p c a (hs p c a (inl (refl, (refl, refl)))) et)
  det p c (a ∷ s) (b ∷ t) hs ht es et =
      let e : a ≡ b = (elim (one p c a p b (hs p c a (inl (refl, (refl, refl)))) (ht p c b (inl (refl, (refl, refl))))) [ inl k ↦ k.1 | inr k ↦ k.1 ∙ k.0 ]) in
      let ih : s ≡ t = det c a s t (λ u v w k. hs u v w (inr k)) (λ u v w k. ht u v w (inr (subst (λ z. Passes u v w (c ∷ (z ∷ t))) e k)))
      es (subst (λ z. E (last_of z t)) (sym e) et) in cc

  -- a list that does not come back to p comes to no vertex twice
  walk_once : (p c : V) (s : List V) → ((a v b : V) → Passes a v b (p ∷ (c ∷ s)) → P a v b) → ¬ Has p (c ∷ s) → E (last_of c s) → Distinct (c ∷ s)
  walk_once p c [] hs n e = ((λ h. h), tt)
  walk_once p c (d ∷ s) hs n e = (
    again,
    walk_once c d s (λ u v w k. hs u v w (inr k)) again e,
  )
    where
      here : P p c d
      here = hs p c d (inl (refl, (refl, refl)))

      again : ¬ Has c (d ∷ s)
      again h =
          elim (last_or_inner c c (d ∷ s) h) [
            | inl k ↦ free p c d here (subst E (sym k) e)
            | inr t ↦ elim (one p c d t.0 t.1 here (hs t.0 c t.1 (inr t.2))) [
              | inl k ↦ n (subst (λ w. Has w (c ∷ (d ∷ s))) (sym k.0) (Steps-left t.0 c (c ∷ (d ∷ s)) (Passes-before t.0 c t.1 (c ∷ (d ∷ s)) t.2)))
              | inr k ↦ n (subst (λ w. Has w (c ∷ (d ∷ s))) (sym k.0) (Steps-right c t.1 (c ∷ (d ∷ s)) (Passes-after t.0 c t.1 (c ∷ (d ∷ s)) t.2)))
            ]
          ]

pub Distinct-append_left : {V : Type 0} (s t : List V) → Distinct (s ++ t) → Distinct s
Distinct-append_left [] t d = tt
Distinct-append_left (x ∷ s) t d = ((λ h. d.0 (Has-append_left x s t h)), Distinct-append_left s t d.1)

pub Has-snoc : {V : Type 0} (v z : V) (l : List V) → Has v (l ++ (z ∷ [])) → Has v l ⊎ (v ≡ z)
Has-snoc v z [] (inl e) = inr e
Has-snoc v z [] (inr h) = absurd h
Has-snoc v z (x ∷ l) (inl e) = inl (inl e)
Has-snoc v z (x ∷ l) (inr h) = elim (Has-snoc v z l h) [ inl k ↦ inl (inr k) | inr e ↦ inr e ]

-- what stands before a vertex that is at the end alone stands before the end
before_last : {V : Type 0} (u v y : V) (q : List V) → ¬ Has v (y ∷ q) → Steps u v (y ∷ (q ++ (v ∷ []))) → u ≡ last_of y q
before_last u v y [] n (inl h) = h.0
before_last u v y [] n (inr (inl h)) = absurd h.1
before_last u v y [] n (inr (inr h)) = absurd h
before_last u v y (z ∷ q) n (inl h) = absurd (n (inr (inl h.1)))
before_last u v y (z ∷ q) n (inr h) = before_last u v z q (λ k. n (inr k)) h

-- what is passed stands between the first and the last
pub middle_has : {V : Type 0} (p u v w z : V) (l : List V) → Passes u v w (p ∷ (l ++ (z ∷ []))) → Has v l
middle_has p u v w z [] (inl h) = absurd h.1.1
middle_has p u v w z [] (inr (inl h)) = absurd h.1
middle_has p u v w z [] (inr (inr h)) = absurd h
middle_has p u v w z (y ∷ l) (inl h) = inl h.1.0
middle_has p u v w z (y ∷ l) (inr h) = inr (middle_has y u v w z l h)

module _ {V : Type 0} (dec : (a b : V) → Dec (a ≡ b)) (E : V → Type 0) (x : V) (r : List V)
    (ends : E x) (far : E (last_of x r)) (inner : (a v b : V) → Passes a v b (x ∷ r) → ¬ E v)
    (one : (a v b c d : V) → Passes a v b (x ∷ r) → Passes c v d (x ∷ r) → SameVisit (pair a b) (pair c d))
    (forward : ¬ (x ∷ r ≡ reverse (x ∷ r))) where
  abbrev P : V → V → V → Type 0
  P a v b = Between a v b (x ∷ r)

  P-free : (a v b : V) → P a v b → ¬ E v
  P-free a v b (inl h) = inner a v b h
  P-free a v b (inr h) = inner b v a h

  P-one : (a v b c d : V) → P a v b → P c v d → SameVisit (pair a b) (pair c d)
  P-one a v b c d (inl h) (inl k) = one a v b c d h k
  P-one a v b c d (inl h) (inr k) = elim (one a v b d c h k) [ inl e ↦ inr (e.0, e.1) | inr e ↦ inl (e.0, e.1) ]
  P-one a v b c d (inr h) (inl k) = elim (one b v a c d h k) [ inl e ↦ inr (e.1, e.0) | inr e ↦ inl (e.1, e.0) ]
  P-one a v b c d (inr h) (inr k) = elim (one b v a d c h k) [ inl e ↦ inl (e.1, e.0) | inr e ↦ inr (e.1, e.0) ]

  -- the first vertex comes again at the end alone
  at_end : Has x r → x ≡ last_of x r
  at_end h = elim (last_or_inner x x r h) [ inl e ↦ e | inr t ↦ absurd (inner t.0 x t.1 t.2 ends) ]

  open_simple : ¬ (x ≡ last_of x r) → Simple x r
  open_simple n = go r refl
    where
      go : (s : List V) → r ≡ s → Simple x r
      go [] e = absurd (n (ap (λ w. last_of x w) (sym e)))
      go (y ∷ q) e =
          let p : (a v b : V) → Passes a v b (x ∷ (y ∷ q)) → P a v b = λ a v b h. inl (subst (λ w. Passes a v b (x ∷ w)) (sym e) h) in
          let m : ¬ Has x (y ∷ q) = λ h. n (at_end (subst (λ w. Has x w) (sym e) h)) in
          let d : Distinct (y ∷ q) = walk_once E P P-free P-one x y q p m (subst (λ w. E (last_of x w)) e far) in
          subst (λ w. Simple x w) (sym e) (record {
            long = omega arith;
            front = Distinct-front x (y ∷ q) (m, d);
            rest = d;
            closed_long = λ k. absurd (n (k ∙ ap (λ w. last_of x w) (sym e)));
          })

  module _ (shut : x ≡ last_of x r) where
    whole : (s : List V) → r ≡ s ++ (x ∷ []) → (a v b : V) → Passes a v b (x ∷ (s ++ (x ∷ []))) → P a v b
    whole s e a v b h = inl (subst (λ w. Passes a v b (x ∷ w)) (sym e) h)

    not_inside : (s : List V) → r ≡ s ++ (x ∷ []) → ¬ Has x s
    not_inside s e h = let t = inner_has x x x s h in P-free t.0 x t.1 (whole s e t.0 x t.1 t.2) ends

    -- the second vertex is not the last but one, or the list were its own reverse
    sides : (y : V) (q : List V) → r ≡ (y ∷ q) ++ (x ∷ []) → ¬ (y ≡ last_of y q)
    sides y q e k =
        let f : reverse (x ∷ r) ≡ x ∷ (y ∷ (reverse (front_of y q) ++ (x ∷ []))) =
        ap (λ w. reverse (x ∷ w)) e ∙ reverse-last x ((y ∷ q) ++ (x ∷ []))
        ∙ ap (λ w. w ∷ reverse (front_of x ((y ∷ q) ++ (x ∷ [])))) (last-snoc x x (y ∷ q))
        ∙ ap (λ w. x ∷ reverse w) (front-snoc x x (y ∷ q))
        ∙ ap (λ w. x ∷ w) (reverse-snoc x (y ∷ q) ∙ ap (λ w. w ++ (x ∷ [])) (reverse-last y q))
        ∙ ap (λ w. x ∷ (w ∷ (reverse (front_of y q) ++ (x ∷ [])))) (sym k) in
        let back : (a v b : V) → Passes a v b (x ∷ (y ∷ (reverse (front_of y q) ++ (x ∷ [])))) → P a v b =
        λ a v b h. inr (subst (λ w. Passes b v a w) (reverse-reverse (x ∷ r)) (Passes-reverse a v b (reverse (x ∷ r)) (subst (λ w. Passes a v b w) (sym f) h))) in
        let m : q ++ (x ∷ []) ≡ reverse (front_of y q) ++ (x ∷ []) =
        det E P P-free P-one x y (q ++ (x ∷ [])) (reverse (front_of y q) ++ (x ∷ [])) (whole (y ∷ q) e) back
        (subst E (sym (last-snoc y x q)) ends) (subst E (sym (last-snoc y x (reverse (front_of y q)))) ends) in
        forward (ap (λ w. x ∷ w) e ∙ ap (λ w. x ∷ (y ∷ w)) m ∙ sym f)

    second_once : (y : V) (q : List V) → r ≡ (y ∷ q) ++ (x ∷ []) → ¬ Has y (q ++ (x ∷ []))
    second_once y q e h =
        let n : ¬ Has x (y ∷ q) = not_inside (y ∷ q) e in
        elim (Has-snoc y x q h) [
          | inr k ↦ n (inl (sym k))
          | inl k ↦ inside q e k
        ]
      where
        n : ¬ Has x (y ∷ q)
        n = not_inside (y ∷ q) e

        inside : (q' : List V) → r ≡ (y ∷ q') ++ (x ∷ []) → Has y q' → ⊥
        inside [] f k = k
        inside (z ∷ s) f k =
            let n' : ¬ Has x (y ∷ (z ∷ s)) = not_inside (y ∷ (z ∷ s)) f in
            let t = inner_has y y x (z ∷ s) k in
            elim (P-one x y z t.0 t.1 (whole (y ∷ (z ∷ s)) f x y z (inl (refl, (refl, refl)))) (whole (y ∷ (z ∷ s)) f t.0 y t.1 (inr t.2))) [
              | inl m ↦ n' (subst (λ w. Has w (y ∷ (z ∷ s))) (sym m.0)
                  (subst (λ w. Has t.0 w) (front-snoc y x (z ∷ s)) (Passes-front t.0 y t.1 y ((z ∷ s) ++ (x ∷ [])) t.2)))
              | inr m ↦ sides y (z ∷ s) f
                  (before_last y x y (z ∷ s) n' (subst (λ w. Steps y w (y ∷ ((z ∷ s) ++ (x ∷ [])))) (sym m.0) (Passes-after t.0 y t.1 (y ∷ ((z ∷ s) ++ (x ∷ []))) t.2)))
            ]

    closed_simple : (s : List V) → r ≡ s ++ (x ∷ []) → Simple x r
    closed_simple [] e = absurd (forward (ap (λ w. x ∷ w) e ∙ sym (ap (λ w. reverse (x ∷ w)) e)))
    closed_simple (y ∷ []) e = absurd (sides y [] e refl)
    closed_simple (y ∷ (z ∷ q)) e =
        let once : ¬ Has y ((z ∷ q) ++ (x ∷ [])) = second_once y (z ∷ q) e in
        let rest : Distinct ((z ∷ q) ++ (x ∷ [])) = walk_once E P P-free P-one y z (q ++ (x ∷ []))
        (λ a v b h. whole (y ∷ (z ∷ q)) e a v b (inr h)) once (subst E (sym (last-snoc z x q)) ends) in
        let all : Distinct ((y ∷ (z ∷ q)) ++ (x ∷ [])) = (once, rest) in
        subst (λ w. Simple x w) (sym e) (record {
          long = simp length-append (omega arith);
          front = subst Distinct (sym (front-snoc x x (y ∷ (z ∷ q)))) (not_inside (y ∷ (z ∷ q)) e, Distinct-append_left (y ∷ (z ∷ q)) (x ∷ []) all);
          rest = all;
          closed_long = λ k. simp length-append (omega arith);
        })

  pub simple : Simple x r
  simple = elim (dec x (last_of x r)) [
    | no n ↦ open_simple n
    | yes e ↦ by_front r refl e
  ]
    where
      by_front : (s : List V) → r ≡ s → x ≡ last_of x r → Simple x r
      by_front [] f e = absurd (forward (ap (λ w. x ∷ w) f ∙ sym (ap (λ w. reverse (x ∷ w)) f)))
      by_front (y ∷ q) f e =
          closed_simple e (front_of y q) (f ∙ front_last y q ∙ ap (λ w. front_of y q ++ (w ∷ [])) (sym (e ∙ ap (λ w. last_of x w) f)))

-- such a list does not turn back, and uses no segment twice
pub Simple-turn : {V : Type 0} (x : V) (r : List V) → Simple x r → NoTurnBack (x ∷ r)
Simple-turn x r s a v b (inl h) e = first_turn x a v b r s.front s.closed_long h.0 h.1 e
Simple-turn x r s a v b (inr h) e = Distinct-turn a v b r s.rest h e

pub Simple-Trail : {V : Type 0} (x : V) (r : List V) → Simple x r → Trail (x ∷ r)
Simple-Trail x [] s = ((λ y b. absurd b), tt)
Simple-Trail {V} x (z ∷ q) s = (
  (λ y b. subst (λ w. (¬ (x ≡ w)) × (¬ Beside x w (z ∷ q))) (sym b) (apart q s, once)),
  Distinct-Trail (z ∷ q) s.rest,
)
  where
    apart : (q : List V) → Simple x (z ∷ q) → ¬ (x ≡ z)
    apart [] c e = let k : 3 ≤ 1 = c.closed_long e in absurd (omega arith)
    apart (w ∷ q) c e = c.front.0 (inl e)

    once : ¬ Beside x z (z ∷ q)
    once (inl k) = s.front.0 (Steps-front x z z q k)
    once (inr (inl k)) = Simple-turn x (z ∷ q) s x z x (inl (refl, (refl, k.1))) refl
    once (inr (inr k)) = s.rest.0 (Steps-left z x q k)
