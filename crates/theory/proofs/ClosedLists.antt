-- Closed lists, and what stands round a ring: they do not depend on where the ring begins.
use Rattle.std.proofs.Common.{◌≡◌, List, [], ◌∷◌, ◌++◌, ◌⊎◌, inl, inr, refl, sym, ap, subst, append_assoc, ◌≤◌, length, ◌∙◌, arith}
use Rattle.theory.proofs.Lists.{Distinct-snoc, Passes-append_left, Steps-append_left, Steps-last, append_nil, front-snoc, last-snoc}
use Rattle.theory.specs.LinesAndRings.{around, closed}
use Rattle.theory.specs.Lists.{Distinct, Passes, Steps, front_of}

-- a turn in a list with one more vertex at its end
Passes-snoc : {V : Type 0} (a v b p q z : V) (s : List V) → Passes a v b (s ++ (p ∷ (q ∷ (z ∷ [])))) →
    Passes a v b (s ++ (p ∷ (q ∷ []))) ⊎ ((a ≡ p) × (v ≡ q) × (b ≡ z))
Passes-snoc a v b p q z [] (inl h) = inr (h.0, h.1.0, h.1.1)
Passes-snoc a v b p q z [] (inr (inl h)) = absurd h.1.1
Passes-snoc a v b p q z [] (inr (inr (inl h))) = absurd h.1
Passes-snoc a v b p q z [] (inr (inr (inr h))) = absurd h
Passes-snoc a v b p q z (y ∷ []) (inl h) = inl (inl (h.0, h.1))
Passes-snoc a v b p q z (y ∷ (w ∷ [])) (inl h) = inl (inl (h.0, h.1))
Passes-snoc a v b p q z (y ∷ (w ∷ (w' ∷ s))) (inl h) = inl (inl (h.0, h.1))
Passes-snoc a v b p q z (y ∷ s) (inr h) =
    elim (Passes-snoc a v b p q z s h) [ inl k ↦ inl (inr k) | inr k ↦ inr k ]

-- what stands round a ring of three or more, begun one vertex later
pub around_later : {V : Type 0} (x y z : V) (l : List V) →
    around (y ∷ (z ∷ (l ++ (x ∷ [])))) ≡ (y ∷ (z ∷ l)) ++ (x ∷ (y ∷ (z ∷ [])))
around_later x y z l = ap (λ w. y ∷ (z ∷ w)) (append_assoc l (x ∷ []) (y ∷ (z ∷ [])))

-- a ring begun one vertex later has the same turns
pub pass_back : {V : Type 0} (a v b x : V) (l : List V) → Passes a v b (around (l ++ (x ∷ []))) → Passes a v b (around (x ∷ l))
pass_back a v b x [] h = absurd h
pass_back a v b x (y ∷ []) (inl h) = inr (inl h)
pass_back a v b x (y ∷ []) (inr (inl h)) = inl h
pass_back a v b x (y ∷ []) (inr (inr (inl h))) = absurd h.1.1
pass_back a v b x (y ∷ []) (inr (inr (inr (inl h)))) = absurd h.1
pass_back a v b x (y ∷ []) (inr (inr (inr (inr h)))) = absurd h
pass_back a v b x (y ∷ (z ∷ l)) h =
    elim (Passes-snoc a v b x y z (y ∷ (z ∷ l)) (subst (λ w. Passes a v b w) (around_later x y z l) h)) [
      | inl k ↦ inr k
      | inr e ↦ inl (e.0, (e.1, e.2))
    ]

-- a rotated ring has the same turns
pub rotated_passes : {V : Type 0} (a v b : V) (s t : List V) → Passes a v b (around (t ++ s)) → Passes a v b (around (s ++ t))
rotated_passes a v b [] t h = subst (λ w. Passes a v b (around w)) (append_nil t) h
rotated_passes a v b (x ∷ s) t h =
    pass_back a v b x (s ++ t)
    (subst (λ w. Passes a v b (around w)) (sym (append_assoc s t (x ∷ [])))
    (rotated_passes a v b s (t ++ (x ∷ [])) (subst (λ w. Passes a v b (around w)) (sym (append_assoc t (x ∷ []) s)) h)))

Steps-snoc : {V : Type 0} (u v p q z : V) (s : List V) → Steps u v (s ++ (p ∷ (q ∷ (z ∷ [])))) →
    Steps u v (s ++ (p ∷ (q ∷ []))) ⊎ ((u ≡ q) × (v ≡ z))
Steps-snoc u v p q z [] (inl h) = inl (inl h)
Steps-snoc u v p q z [] (inr (inl h)) = inr h
Steps-snoc u v p q z [] (inr (inr (inl h))) = absurd h.1
Steps-snoc u v p q z [] (inr (inr (inr h))) = absurd h
Steps-snoc u v p q z (y ∷ []) (inl h) = inl (inl h)
Steps-snoc u v p q z (y ∷ (w ∷ s)) (inl h) = inl (inl h)
Steps-snoc u v p q z (y ∷ s) (inr h) = elim (Steps-snoc u v p q z s h) [ inl k ↦ inl (inr k) | inr k ↦ inr k ]

step_back : {V : Type 0} (u v x : V) (l : List V) → Steps u v (around (l ++ (x ∷ []))) → Steps u v (around (x ∷ l))
step_back u v x [] h = absurd h
step_back u v x (y ∷ []) (inl h) = inr (inl h)
step_back u v x (y ∷ []) (inr (inl h)) = inl h
step_back u v x (y ∷ []) (inr (inr (inl h))) = inr (inl h)
step_back u v x (y ∷ []) (inr (inr (inr (inl h)))) = absurd h.1
step_back u v x (y ∷ []) (inr (inr (inr (inr h)))) = absurd h
step_back u v x (y ∷ (z ∷ l)) h =
    elim (Steps-snoc u v x y z (y ∷ (z ∷ l)) (subst (λ w. Steps u v w) (around_later x y z l) h)) [
      | inl k ↦ inr k
      | inr e ↦ inr (inl e)
    ]

pub rotated_steps : {V : Type 0} (u v : V) (s t : List V) → Steps u v (around (t ++ s)) → Steps u v (around (s ++ t))
rotated_steps u v [] t h = subst (λ w. Steps u v (around w)) (append_nil t) h
rotated_steps u v (x ∷ s) t h =
    step_back u v x (s ++ t)
    (subst (λ w. Steps u v (around w)) (sym (append_assoc s t (x ∷ [])))
    (rotated_steps u v s (t ++ (x ∷ [])) (subst (λ w. Steps u v (around w)) (sym (append_assoc t (x ∷ []) s)) h)))

pub closed_around : {V : Type 0} (x y : V) (l : List V) → around (x ∷ (y ∷ l)) ≡ closed (x ∷ (y ∷ l)) ++ (y ∷ [])
closed_around x y l = ap (λ w. x ∷ (y ∷ w)) (sym (append_assoc l (x ∷ []) (y ∷ [])))

pub closed_steps : {V : Type 0} (u v x : V) (l : List V) → 1 ≤ length l → Steps u v (closed (x ∷ l)) → Steps u v (around (x ∷ l))
closed_steps u v x [] k h = absurd (omega arith)
closed_steps u v x (y ∷ l) k h = subst (λ w. Steps u v w) (sym (closed_around x y l)) (Steps-append_left u v (closed (x ∷ (y ∷ l))) (y ∷ []) h)

pub closed_passes : {V : Type 0} (a v b x : V) (l : List V) → 1 ≤ length l → Passes a v b (closed (x ∷ l)) → Passes a v b (around (x ∷ l))
closed_passes a v b x [] k h = absurd (omega arith)
closed_passes a v b x (y ∷ l) k h = subst (λ w. Passes a v b w) (sym (closed_around x y l)) (Passes-append_left a v b (closed (x ∷ (y ∷ l))) (y ∷ []) h)

-- the steps round a ring are those of the closed list
pub around_steps : {V : Type 0} (u v : V) (r : List V) → Steps u v (around r) → Steps u v (closed r)
around_steps u v [] h = h
around_steps u v (x ∷ []) h = absurd h
around_steps u v (x ∷ (y ∷ q)) h =
    elim (Steps-last u v x y ((y ∷ q) ++ (x ∷ [])) (subst (λ w. Steps u v w) (closed_around x y q) h)) [
      | inl k ↦ k
      | inr k ↦ inl (k.0 ∙ last-snoc x x (y ∷ q), k.1)
    ]

pub Distinct-rotate : {V : Type 0} (s t : List V) → Distinct (s ++ t) → Distinct (t ++ s)
Distinct-rotate [] t d = subst Distinct (sym (append_nil t)) d
Distinct-rotate (x ∷ s) t d =
    subst Distinct (append_assoc t (x ∷ []) s)
    (Distinct-rotate s (t ++ (x ∷ [])) (subst Distinct (append_assoc s t (x ∷ [])) (Distinct-snoc x (s ++ t) d.1 d.0)))

pub closed_same : {V : Type 0} (a b : List V) → closed a ≡ closed b → a ≡ b
closed_same [] [] e = refl
closed_same [] (y ∷ b) e = absurd cc
closed_same (x ∷ a) [] e = absurd cc
closed_same {V} (x ∷ a) (y ∷ b) e =
    sym (front-snoc x x a) ∙ ap front e ∙ front-snoc y y b
  where
    front : List V → List V
    front [] = []
    front (z ∷ l) = front_of z l
