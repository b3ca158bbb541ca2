-- What the table of starts notes: each used new arc at the used old one that it begins with, and nothing else.
use Rattle.std.proofs.Common.{◌≡◌, ℕ, zero, suc, ◌+◌, Bool, true, false, cond, List, [], ◌∷◌, length, ◌⊎◌, inl, inr, refl, sym, ap, ◌∙◌, subst, arith, Some}
use Rattle.std.specs.Cmp.{nat_cmp_total, tied_itself}
use Rattle.std.specs.Ordering.{is_eq, nat_cmp}
use Rattle.theory.specs.ArcNumbers.{ArcRef, backwards}
use Rattle.theory.specs.Refinement.{pieces_at, pieces_of_used}
use Rattle.theory.specs.Healing.{AreStarts, Starts}
use Rattle.split_heal.specs.ArcUseMap.{same_way}
use Rattle.split_heal.proofs.ByUses.{same_use}
use Rattle.split_heal.specs.Starts.{no_starts, starts_by, with_arcs, with_head, with_start}

-- what is noted of q was noted there before, or is what was put there
start_from : (a : ArcRef) (v : ArcRef × ℕ) (s : Starts) (q : ArcRef) (w : ArcRef × ℕ) → with_start a v s q ≡ Some w → (s q ≡ Some w) ⊎ ((a ≡ q) × (v ≡ w))
start_from a v s q w e = go (same_way a.reversed q.reversed) refl (is_eq (nat_cmp a.arc q.arc)) refl e
  where
    go : (b : Bool) → same_way a.reversed q.reversed ≡ b → (c : Bool) → is_eq (nat_cmp a.arc q.arc) ≡ c → cond b (cond c (Some v) (s q)) (s q) ≡ Some w →
        (s q ≡ Some w) ⊎ ((a ≡ q) × (v ≡ w))
    go true f true g k = inr (same_use a q f g, let m : v ≡ w = cc in m)
    go true f false g k = inl k
    go false f c g k = inl k

-- something is noted of q
abbrev Noted : Starts → ArcRef → Type 0
Noted s q = (w : ArcRef × ℕ) × (s q ≡ Some w)

start_put : (a : ArcRef) (v : ArcRef × ℕ) (s : Starts) → Noted (with_start a v s) a
start_put a v s = (v, rw (way a.reversed, equal a.arc) refl)
  where
    way : (b : Bool) → same_way b b ≡ true
    way true = refl
    way false = refl

    equal : (n : ℕ) → is_eq (nat_cmp n n) ≡ true
    equal n = ap is_eq (tied_itself nat_cmp_total n)

start_keeps : (a : ArcRef) (v : ArcRef × ℕ) (s : Starts) (q : ArcRef) → Noted s q → Noted (with_start a v s) q
start_keeps a v s q (w, e) = go (same_way a.reversed q.reversed) (is_eq (nat_cmp a.arc q.arc))
  where
    go : (b c : Bool) → (u : ArcRef × ℕ) × (cond b (cond c (Some v) (s q)) (s q) ≡ Some u)
    go true true = (v, refl)
    go true false = (w, e)
    go false c = (w, e)

head_from : (b : ArcRef) (ps : List ArcRef) (s : Starts) (q : ArcRef) (w : ArcRef × ℕ) → with_head b ps s q ≡ Some w →
    (s q ≡ Some w) ⊎ ((more : List ArcRef) × (ps ≡ q ∷ more) × ((b, length more) ≡ w))
head_from b [] s q w e = inl e
head_from b (a ∷ more) s q w e = elim (start_from a (b, length more) s q w e) [ inl h ↦ inl h | inr h ↦ inr (more, ap (λ x. x ∷ more) h.0, h.1) ]

head_keeps : (b : ArcRef) (ps : List ArcRef) (s : Starts) (q : ArcRef) → Noted s q → Noted (with_head b ps s) q
head_keeps b [] s q n = n
head_keeps b (a ∷ more) s q n = start_keeps a (b, length more) s q n

head_put : (b : ArcRef) (ps : List ArcRef) (s : Starts) (q : ArcRef) (more : List ArcRef) → ps ≡ q ∷ more → Noted (with_head b ps s) q
head_put b [] s q more e = absurd cc
head_put b (a ∷ rest) s q more e = let f : a ≡ q = cc in subst (Noted (with_start a (b, length rest) s)) f (start_put a (b, length rest) s)

module _ (pieces : List (List ArcRef)) where
  -- these are the pieces from number i on
  abbrev Behind : ℕ → List (List ArcRef) → Type 0
  Behind i ps = (j : ℕ) → pieces_at pieces (j + i) ≡ pieces_at ps j

  -- q begins the pieces of a used new arc, and this is noted of it
  abbrev Begun : ArcRef → ArcRef × ℕ → Type 0
  Begun q w = (more : List ArcRef) × (pieces_of_used pieces w.0 ≡ q ∷ more) × (length more ≡ w.1)

  started : (q : ArcRef) (w : ArcRef × ℕ) (b : ArcRef) (ps more : List ArcRef) → pieces_of_used pieces b ≡ ps → ps ≡ q ∷ more → (b, length more) ≡ w → Begun q w
  started q w b ps more e f g = (more, ap (λ x. pieces_of_used pieces x.0) (sym g) ∙ e ∙ f, ap (λ x. x.1) g)

  arcs_from : (i : ℕ) (s : Starts) (ps : List (List ArcRef)) → Behind i ps → (q : ArcRef) (w : ArcRef × ℕ) → with_arcs i s ps q ≡ Some w → (s q ≡ Some w) ⊎ Begun q w
  arcs_from i s [] at q w e = inl e
  arcs_from i s (p ∷ ps) at q w e =
      let here : pieces_at pieces i ≡ p = ap (pieces_at pieces) (omega arith) ∙ at zero in
      let ahead : ArcRef = record { arc = i; reversed = false } in
      let against : ArcRef = record { arc = i; reversed = true } in
      elim (arcs_from (i + 1) (with_head against (backwards p) (with_head ahead p s)) ps (λ j. ap (pieces_at pieces) (omega arith) ∙ at (suc j)) q w e) [
        | inr h ↦ inr h
        | inl h ↦ elim (head_from against (backwards p) (with_head ahead p s) q w h) [
          | inr k ↦ inr (started q w against (backwards p) k.0 (ap backwards here) k.1 k.2)
          | inl k ↦ elim (head_from ahead p s q w k) [ inl l ↦ inl l | inr l ↦ inr (started q w ahead p l.0 here l.1 l.2) ]
        ]
      ]

  arcs_keep : (i : ℕ) (s : Starts) (ps : List (List ArcRef)) (q : ArcRef) → Noted s q → Noted (with_arcs i s ps) q
  arcs_keep i s [] q n = n
  arcs_keep i s (p ∷ ps) q n =
      arcs_keep (i + 1) (with_head (record { arc = i; reversed = true }) (backwards p) (with_head (record { arc = i; reversed = false }) p s)) ps q
      (head_keeps (record { arc = i; reversed = true }) (backwards p) (with_head (record { arc = i; reversed = false }) p s) q
      (head_keeps (record { arc = i; reversed = false }) p s q n))

  -- what begins the pieces of a used new arc from number i on is noted
  arcs_put : (i : ℕ) (s : Starts) (ps : List (List ArcRef)) (j : ℕ) (r : Bool) (q : ArcRef) (more : List ArcRef) →
      cond r (backwards (pieces_at ps j)) (pieces_at ps j) ≡ q ∷ more → Noted (with_arcs i s ps) q
  arcs_put i s [] j true q more e = absurd (none e)
    where
      none : backwards [] ≡ q ∷ more → ⊥
      none e = cc
  arcs_put i s [] j false q more e = absurd cc
  arcs_put i s (p ∷ ps) (suc j) r q more e =
      arcs_put (i + 1) (with_head (record { arc = i; reversed = true }) (backwards p) (with_head (record { arc = i; reversed = false }) p s)) ps j r q more e
  arcs_put i s (p ∷ ps) zero true q more e =
      arcs_keep (i + 1) (with_head (record { arc = i; reversed = true }) (backwards p) (with_head (record { arc = i; reversed = false }) p s)) ps q
      (head_put (record { arc = i; reversed = true }) (backwards p) (with_head (record { arc = i; reversed = false }) p s) q more e)
  arcs_put i s (p ∷ ps) zero false q more e =
      arcs_keep (i + 1) (with_head (record { arc = i; reversed = true }) (backwards p) (with_head (record { arc = i; reversed = false }) p s)) ps q
      (head_keeps (record { arc = i; reversed = true }) (backwards p) (with_head (record { arc = i; reversed = false }) p s) q
      (head_put (record { arc = i; reversed = false }) p s q more e))

  pub starts_are : ((b c a : ArcRef) (more rest : List ArcRef) → pieces_of_used pieces b ≡ a ∷ more → pieces_of_used pieces c ≡ a ∷ rest → (b ≡ c) × (more ≡ rest)) →
      AreStarts pieces (starts_by pieces)
  starts_are once = record { recorded = recorded; only = only }
    where
      meant : (q : ArcRef) (w : ArcRef × ℕ) → starts_by pieces q ≡ Some w → Begun q w
      meant q w e =
          elim (arcs_from 0 no_starts pieces (λ j. ap (pieces_at pieces) (omega arith)) q w e) [ inr h ↦ h | inl h ↦ absurd cc ]

      recorded : (a b : ArcRef) (more : List ArcRef) → pieces_of_used pieces b ≡ a ∷ more → starts_by pieces a ≡ Some (b, length more)
      recorded a b more e =
          let n = arcs_put 0 no_starts pieces b.arc b.reversed a more e in
          let t = meant a n.0 n.1 in
          let k = once n.0.0 b a t.0 more t.1 e in
          n.1 ∙ (λ i. Some (k.0 i, (sym t.2 ∙ ap length k.1) i))

      only : (a b : ArcRef) (n : ℕ) → starts_by pieces a ≡ Some (b, n) → (more : List ArcRef) × (pieces_of_used pieces b ≡ a ∷ more) × (length more ≡ n)
      only a b n e = meant a (b, n) e
