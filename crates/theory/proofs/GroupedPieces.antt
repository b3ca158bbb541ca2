use Rattle.std.proofs.Common.{◌≡◌, ℕ, Bool, true, false, cond, not, List, [], ◌∷◌, ◌++◌, map, ◌⊎◌, inl, inr, refl, sym, ap, ◌∙◌, subst}
use Rattle.theory.proofs.Lists.{append_cancel}
use Rattle.theory.proofs.Reversing.{reverse-snoc}
use Rattle.theory.specs.ArcNumbers.{ArcRef, Uses, UsesOnce, backwards, flipped}
use Rattle.theory.specs.Refinement.{pieces_at, pieces_of_used, replaced}

pub uses_parts : (k : ℕ) (a b : List ArcRef) → Uses k (a ++ b) → Uses k a ⊎ Uses k b
uses_parts k [] b h = inr h
uses_parts k (x ∷ a) b (inl e) = inl (inl e)
uses_parts k (x ∷ a) b (inr h) = elim (uses_parts k a b h) [ inl m ↦ inl (inr m) | inr m ↦ inr m ]

pub uses_back : (k : ℕ) (a : List ArcRef) → Uses k (backwards a) → Uses k a
uses_back k [] h = absurd h
uses_back k (x ∷ a) h =
    elim (uses_parts k (backwards a) (flipped x ∷ []) (subst (λ w. Uses k w) (reverse-snoc (flipped x) (map flipped a)) h)) [
      | inl m ↦ inr (uses_back k a m)
      | inr m ↦ elim m [ inl e ↦ inl e | inr z ↦ absurd z ]
    ]

pub not_same : (b : Bool) → ¬ (b ≡ not b)
not_same true e = absurd cc
not_same false e = absurd cc

-- pieces used once do not begin as they do backwards
one_way : (ps : List ArcRef) (X Y : List ArcRef) → UsesOnce ps → (p : ArcRef) × (q : List ArcRef) × (ps ≡ p ∷ q) → ¬ (ps ++ X ≡ backwards ps ++ Y)
one_way [] X Y o (p, q, n) e = absurd cc
one_way (a ∷ ps) X Y o (p, q, n) e =
    go (backwards ps) refl (e ∙ ap (λ w. w ++ Y) (reverse-snoc (flipped a) (map flipped ps)))
  where
    go : (b : List ArcRef) → backwards ps ≡ b → a ∷ (ps ++ X) ≡ (backwards ps ++ (flipped a ∷ [])) ++ Y → ⊥
    go [] f g =
        let h : a ∷ (ps ++ X) ≡ flipped a ∷ Y = g ∙ ap (λ w. (w ++ (flipped a ∷ [])) ++ Y) f in
        let k : a ≡ flipped a = cc in not_same a.reversed (ap (λ w. w.reversed) k)
    go (c ∷ b) f g =
        let h : a ∷ (ps ++ X) ≡ ((c ∷ b) ++ (flipped a ∷ [])) ++ Y = g ∙ ap (λ w. (w ++ (flipped a ∷ [])) ++ Y) f in
        let k : a ≡ c = cc in
        o.0 (uses_back a.arc ps (subst (λ w. Uses a.arc w) (sym f) (inl (ap (λ w. w.arc) k))))

abbrev pub IsFull : List ArcRef → Type 0
IsFull ps = (p : ArcRef) × (q : List ArcRef) × (ps ≡ p ∷ q)

full_end : (s : List ArcRef) (z : ArcRef) → IsFull (s ++ (z ∷ []))
full_end [] z = (z, [], refl)
full_end (x ∷ s) z = (x, s ++ (z ∷ []), refl)

full_back : (ps : List ArcRef) → IsFull ps → IsFull (backwards ps)
full_back [] f = absurd (let e : [] ≡ f.0 ∷ f.1 = f.2 in cc)
full_back (a ∷ ps) f = subst IsFull (sym (reverse-snoc (flipped a) (map flipped ps))) (full_end (backwards ps) (flipped a))

pub used_head : (b : Bool) (ps : List ArcRef) → IsFull ps → (p : ArcRef) × (q : List ArcRef) × (cond b (backwards ps) ps ≡ p ∷ q) × Uses p.arc ps
used_head false ps (p, q, e) = (p, q, e, subst (λ w. Uses p.arc w) (sym e) (inl refl))
used_head true ps f = let t = full_back ps f in (t.0, t.1, t.2, uses_back t.0.arc ps (subst (λ w. Uses t.0.arc w) (sym t.2) (inl refl)))

abbrev pub AllFull : List (List ArcRef) → List ArcRef → Type 0
AllFull pieces [] = Unit {0}
AllFull pieces (a ∷ us) = IsFull (pieces_at pieces a.arc) × AllFull pieces us

module _ (pieces : List (List ArcRef)) (once : (i : ℕ) → UsesOnce (pieces_at pieces i))
    (home : (k i j : ℕ) → Uses k (pieces_at pieces i) → Uses k (pieces_at pieces j) → i ≡ j) where
  same_first : (u v : ArcRef) (X Y : List ArcRef) → IsFull (pieces_at pieces u.arc) → IsFull (pieces_at pieces v.arc) →
      pieces_of_used pieces u ++ X ≡ pieces_of_used pieces v ++ Y → u ≡ v
  same_first u v X Y f g e =
      let a = used_head u.reversed (pieces_at pieces u.arc) f in
      let b = used_head v.reversed (pieces_at pieces v.arc) g in
      let k : a.0 ∷ (a.1 ++ X) ≡ b.0 ∷ (b.1 ++ Y) = ap (λ w. w ++ X) (sym a.2) ∙ e ∙ ap (λ w. w ++ Y) b.2 in
      let h : a.0 ≡ b.0 = cc in
      let n : u.arc ≡ v.arc = home a.0.arc u.arc v.arc a.3 (subst (λ w. Uses w (pieces_at pieces v.arc)) (ap (λ w. w.arc) (sym h)) b.3) in
      let m : u.reversed ≡ v.reversed = way u.reversed v.reversed
      (e ∙ ap (λ w. cond v.reversed (backwards (pieces_at pieces w)) (pieces_at pieces w) ++ Y) (sym n)) in
      λ i. record { arc = n i; reversed = m i }
    where
      way : (s t : Bool) → cond s (backwards (pieces_at pieces u.arc)) (pieces_at pieces u.arc) ++ X
          ≡ cond t (backwards (pieces_at pieces u.arc)) (pieces_at pieces u.arc) ++ Y → s ≡ t
      way true true e = refl
      way false false e = refl
      way false true e = absurd (one_way (pieces_at pieces u.arc) X Y (once u.arc) f e)
      way true false e = absurd (one_way (pieces_at pieces u.arc) Y X (once u.arc) f (sym e))

  -- one list of old arcs is the pieces of one list of new ones
  pub grouped_once : (us vs : List ArcRef) → AllFull pieces us → AllFull pieces vs → replaced pieces us ≡ replaced pieces vs → us ≡ vs
  grouped_once [] [] f g e = refl
  grouped_once [] (v ∷ vs) f g e =
      let b = used_head v.reversed (pieces_at pieces v.arc) g.0 in
      absurd (let k : [] ≡ b.0 ∷ (b.1 ++ replaced pieces vs) = e ∙ ap (λ w. w ++ replaced pieces vs) b.2 in cc)
  grouped_once (u ∷ us) [] f g e =
      let b = used_head u.reversed (pieces_at pieces u.arc) f.0 in
      absurd (let k : [] ≡ b.0 ∷ (b.1 ++ replaced pieces us) = sym e ∙ ap (λ w. w ++ replaced pieces us) b.2 in cc)
  grouped_once (u ∷ us) (v ∷ vs) f g e =
      let h : u ≡ v = same_first u v (replaced pieces us) (replaced pieces vs) f.0 g.0 e in
      let r : replaced pieces us ≡ replaced pieces vs =
      append_cancel (pieces_of_used pieces u) (replaced pieces us) (replaced pieces vs) (e ∙ ap (λ w. pieces_of_used pieces w ++ replaced pieces vs) (sym h)) in
      let t : us ≡ vs = grouped_once us vs f.1 g.1 r in
      λ i. h i ∷ t i
