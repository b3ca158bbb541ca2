-- A line or ring that uses no segment twice does not turn back, and a vertex that it comes to again is an end or has two different visits.
use Rattle.std.proofs.Common.{◌≡◌, List, [], ◌∷◌, ◌⊎◌, inl, inr, refl, sym, ◌∙◌, subst, ◌++◌, ap, append_assoc}
use Rattle.theory.proofs.ClosedLists.{closed_around, rotated_passes}
use Rattle.theory.proofs.Junctions.{wrap_last}
use Rattle.theory.proofs.Lists.{Has-append_left, Passes-after, Passes-append_left, Passes-before, Passes-last, inner_has, last-snoc, last_or_inner}
use Rattle.theory.proofs.Rotations.{IsRing-rotate}
use Rattle.theory.specs.Junction.{TwoVisits}
use Rattle.theory.specs.LinesAndRings.{IsRing, Trail, around, closed}
use Rattle.theory.specs.Lists.{Begins, EndOf, Has, NoTurnBack, Passes, Steps, Twice, last_of}

lift : {V : Type 0} (v x : V) (l : List V) → TwoVisits v l → TwoVisits v (x ∷ l)
lift v x l t = (t.0, t.1, t.2, t.3, inr t.4, inr t.5, t.6)

pub Trail-turn : {V : Type 0} (l : List V) → Trail l → NoTurnBack l
Trail-turn [] t a v b h e = h
Trail-turn (x ∷ []) t a v b (inl h) e = h.1
Trail-turn (x ∷ (y ∷ l)) t a v b (inl h) e =
    (t.0 y refl).1 (inr (inl (refl, subst (λ w. Begins w l) (sym e ∙ h.0) h.1.1)))
Trail-turn (x ∷ l) t a v b (inr h) e = Trail-turn l t.1 a v b h e

-- v behind x, and again behind that
again_inner : {V : Type 0} (x y v : V) (q : List V) → Trail (x ∷ (y ∷ q)) → v ≡ y → Has v q →
    (v ≡ last_of y q) ⊎ TwoVisits v (x ∷ (y ∷ q))
again_inner x y v [] t e h = absurd h
again_inner x y v (z ∷ q) t e h =
    elim (last_or_inner y v (z ∷ q) h) [
      | inl k ↦ inl k
      | inr p ↦ inr (
        x,
        z,
        p.0,
        p.1,
        inl (refl, (e, refl)),
        inr p.2,
        (λ s. elim s [
          | inl f ↦ (t.0 y refl).1 (inl (subst (λ w. Steps w y (y ∷ (z ∷ q))) (sym f.0) (subst (λ w. Steps p.0 w (y ∷ (z ∷ q))) e (Passes-before p.0 v p.1 (y ∷ (z ∷ q)) p.2))))
          | inr f ↦ (t.0 y refl).1 (inr (subst (λ w. Steps y w (y ∷ (z ∷ q))) (sym f.0) (subst (λ w. Steps w p.1 (y ∷ (z ∷ q))) e (Passes-after p.0 v p.1 (y ∷ (z ∷ q)) p.2))))
        ]),
      )
    ]

twice_behind : {V : Type 0} (x v : V) (r : List V) → Trail (x ∷ r) → Twice v r → (v ≡ last_of x r) ⊎ TwoVisits v (x ∷ r)
twice_behind x v [] t h = absurd h
twice_behind x v (y ∷ q) t (inl h) = again_inner x y v q t h.0 h.1
twice_behind x v (y ∷ q) t (inr h) =
    elim (twice_behind y v q t.1 h) [ inl k ↦ inl k | inr k ↦ inr (lift v x (y ∷ q) k) ]

-- the vertex that a line visits again is an end or has two different visits
pub Trail-again : {V : Type 0} (v : V) (l : List V) → Trail l → Twice v l → EndOf v l ⊎ TwoVisits v l
Trail-again v [] t h = absurd h
Trail-again v (x ∷ r) t (inl h) = inl (inl h.0)
Trail-again v (x ∷ r) t (inr h) =
    elim (twice_behind x v r t h) [ inl k ↦ inl (inr k) | inr k ↦ inr k ]

pub Trail-apart : {V : Type 0} (u v : V) (l : List V) → Trail l → Steps u v l → ¬ (u ≡ v)
Trail-apart u v [] t h e = h
Trail-apart u v (x ∷ l) t (inl h) e = (t.0 v h.1).0 (sym h.0 ∙ e)
Trail-apart u v (x ∷ l) t (inr h) e = Trail-apart u v l t.1 h e

-- a ring does not turn back
pub ring_turn : {V : Type 0} (r : List V) → IsRing r → NoTurnBack (around r)
ring_turn [] g a v b h e = h
ring_turn (x ∷ []) g a v b h e = h
ring_turn {V} (x ∷ (y ∷ q)) g a v b h e =
    elim (Passes-last a v b x y ((y ∷ q) ++ (x ∷ [])) (subst (λ w. Passes a v b w) (closed_around x y q) h)) [
      | inl k ↦ Trail-turn (closed (x ∷ (y ∷ q))) g.once a v b k e
      | inr k ↦ last k.0 k.1 k.2
    ]
  where
    last : Steps a v (closed (x ∷ (y ∷ q))) → v ≡ last_of x ((y ∷ q) ++ (x ∷ [])) → b ≡ y → ⊥
    last s vl by =
        let vx : v ≡ x = vl ∙ last-snoc x x (y ∷ q) in
        let t = g.once.0 y refl in
        let st : Steps y x (closed (x ∷ (y ∷ q))) =
        subst (λ w. Steps y w (closed (x ∷ (y ∷ q)))) vx (subst (λ w. Steps w v (closed (x ∷ (y ∷ q)))) (e ∙ by) s) in
        elim st [ inl k ↦ t.0 (sym k.0) | inr k ↦ t.1 (inr k) ]

-- the vertex that a ring begins with and comes to again has two different visits
pub first_again : {V : Type 0} (v : V) (l : List V) → IsRing (v ∷ l) → Has v l → TwoVisits v (around (v ∷ l))
first_again v [] g h = absurd h
first_again v (y ∷ q) g (inl e) = absurd ((g.once.0 y refl).0 e)
first_again v (y ∷ q) g (inr h) =
    let w = wrap_last v v y (y ∷ q) in
    let k = inner_has y v v q h in
    let t = g.once.0 y refl in (
      w.0,
      y,
      k.0,
      k.1,
      w.1,
      inr (subst (λ w. Passes k.0 v k.1 (y ∷ w)) (append_assoc q (v ∷ []) (y ∷ []))
          (Passes-append_left k.0 v k.1 (y ∷ (q ++ (v ∷ []))) (y ∷ []) k.2)),
      (λ s. elim s [
        | inl j ↦ t.1 (inl (subst (λ w. Steps v w ((y ∷ q) ++ (v ∷ []))) (sym j.1) (Passes-after k.0 v k.1 (y ∷ (q ++ (v ∷ []))) k.2)))
        | inr j ↦ t.1 (inr (subst (λ w. Steps w v ((y ∷ q) ++ (v ∷ []))) (sym j.1) (Passes-before k.0 v k.1 (y ∷ (q ++ (v ∷ []))) k.2)))
      ]),
    )

-- the list parted at the first of two places of v
twice_split : {V : Type 0} (v : V) (l : List V) → Twice v l → (s : List V) × (t : List V) × (l ≡ s ++ (v ∷ t)) × Has v t
twice_split v [] h = absurd h
twice_split v (x ∷ l) (inl h) = ([], l, ap (λ w. w ∷ l) (sym h.0), h.1)
twice_split v (x ∷ l) (inr h) = let k = twice_split v l h in (x ∷ k.0, k.1, ap (λ w. x ∷ w) k.2, k.3)

TwoVisits-rotate : {V : Type 0} (v : V) (s t : List V) → TwoVisits v (around (t ++ s)) → TwoVisits v (around (s ++ t))
TwoVisits-rotate v s t k = (k.0, k.1, k.2, k.3, rotated_passes k.0 v k.1 s t k.4, rotated_passes k.2 v k.3 s t k.5, k.6)

-- a vertex that a ring comes to again has two different visits by it
pub ring_again : {V : Type 0} (v : V) (r : List V) → IsRing r → Twice v r → TwoVisits v (around r)
ring_again v r g h =
    let k = twice_split v r h in
    let g' : IsRing (k.0 ++ (v ∷ k.1)) = subst IsRing k.2 g in
    subst (λ w. TwoVisits v (around w)) (sym k.2)
    (TwoVisits-rotate v k.0 (v ∷ k.1)
    (first_again v (k.1 ++ k.0) (IsRing-rotate k.0 (v ∷ k.1) g') (Has-append_left v k.1 k.0 k.3)))
