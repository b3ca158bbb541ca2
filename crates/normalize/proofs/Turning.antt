-- A list of used arcs that stitches to a closed list, begun at another of its arcs.
use Rattle.std.proofs.Common.{◌≡◌, List, [], ◌∷◌, ◌++◌, refl, sym, ap, ◌∙◌, subst, append_assoc}
use Rattle.std.proofs.lemmas.List.{append-nil}
use Rattle.grid.specs.declared.pos.Pos.{Pos}
use Rattle.theory.proofs.Lists.{front-snoc, front_join, front_last, last-snoc, last_join}
use Rattle.theory.proofs.RingListStart.{stitch_parts}
use Rattle.theory.specs.ArcNumbers.{ArcRef, StitchFrom, StitchTo}
use Rattle.theory.specs.LinesAndRings.{IsRotation, closed}
use Rattle.theory.specs.Lists.{front_of, last_of}

module _ (arcs : List (List Pos)) where
  -- used arcs that stitch, one list after the other
  stitch_join : (x : Pos) (us vs : List ArcRef) (q s : List Pos) → StitchFrom arcs x us q → StitchFrom arcs (last_of x q) vs s → StitchFrom arcs x (us ++ vs) (q ++ s)
  stitch_join x [] vs q s h k =
      subst (λ w. StitchFrom arcs x vs (w ++ s)) (sym h) (subst (λ w. StitchFrom arcs (last_of x w) vs s) h k)
  stitch_join x (a ∷ us) vs q s (p, r, e, f, more) k = (
    p,
    r ++ s,
    e,
    ap (λ w. w ++ s) f ∙ append_assoc p r s,
    stitch_join (last_of x p) us vs r s more (subst (λ w. StitchFrom arcs w vs s) (ap (λ w. last_of x w) f ∙ last_join x p r) k),
  )

  closed_front : (y z : Pos) (m : List Pos) → last_of z m ≡ y → y ∷ (z ∷ m) ≡ closed (front_of y (z ∷ m))
  closed_front y z m e = front_last y (z ∷ m) ∙ ap (λ w. front_of y (z ∷ m) ++ (w ∷ [])) e

  -- what the list stitches to where it is begun elsewhere
  abbrev pub Elsewhere : List ArcRef → List Pos → Type 0
  Elsewhere us q = (p : List Pos) × IsRotation q p × StitchTo arcs us (closed p)

  started_elsewhere : (x : Pos) (l : List Pos) (a : ArcRef) (s t : List ArcRef) → StitchFrom arcs x (t ++ (a ∷ s)) (l ++ (x ∷ [])) → Elsewhere ((a ∷ s) ++ t) (x ∷ l)
  started_elsewhere x l a s t h =
      let k = stitch_parts arcs x t (a ∷ s) (l ++ (x ∷ [])) h in
      let round : last_of (last_of x k.0) k.1 ≡ x = sym (last_join x k.0 k.1) ∙ ap (λ w. last_of x w) (sym k.2) ∙ last-snoc x x l in
      let st = stitch_join (last_of x k.0) (a ∷ s) t k.1 k.0 k.4 (subst (λ w. StitchFrom arcs w t k.0) (sym round) k.3) in
      let far : last_of (last_of x k.0) (k.1 ++ k.0) ≡ last_of x k.0 = last_join (last_of x k.0) k.1 k.0 ∙ ap (λ w. last_of w k.0) round in (
        front_of (last_of x k.0) (k.1 ++ k.0),
        (
          front_of x k.0,
          front_of (last_of x k.0) k.1,
          sym (front-snoc x x l) ∙ ap (λ w. front_of x w) k.2 ∙ front_join x k.0 k.1,
          front_join (last_of x k.0) k.1 k.0 ∙ ap (λ w. front_of (last_of x k.0) k.1 ++ front_of w k.0) round,
        ),
        finish (last_of x k.0) k.0 k.1 k.2 far st,
      )
    where
      long : (m : List Pos) → (y : Pos) → last_of y m ≡ y → ¬ (m ≡ []) → StitchFrom arcs y ((a ∷ s) ++ t) m → StitchTo arcs ((a ∷ s) ++ t) (closed (front_of y m))
      long [] y e n st = absurd (n refl)
      long (z ∷ m) y e n st = subst (λ w. StitchTo arcs ((a ∷ s) ++ t) w) (closed_front y z m e) st

      none : (l : List Pos) → ¬ (l ++ (x ∷ []) ≡ [])
      none [] e = absurd cc
      none (z ∷ l) e = absurd cc

      some : (b c : List Pos) → l ++ (x ∷ []) ≡ b ++ c → ¬ (c ++ b ≡ [])
      some [] [] e f = none l e
      some [] (z ∷ c) e f = absurd cc
      some (z ∷ b) [] e f = absurd cc
      some (z ∷ b) (w ∷ c) e f = absurd cc

      finish : (y : Pos) (b c : List Pos) → l ++ (x ∷ []) ≡ b ++ c → last_of y (c ++ b) ≡ y → StitchFrom arcs y ((a ∷ s) ++ t) (c ++ b) →
          StitchTo arcs ((a ∷ s) ++ t) (closed (front_of y (c ++ b)))
      finish y b c e f st = long (c ++ b) y f (some b c e) st

  pub elsewhere : (s t : List ArcRef) (q : List Pos) → StitchTo arcs (t ++ s) (closed q) → Elsewhere (s ++ t) q
  elsewhere [] t q h = (q, ([], q, refl, sym (append-nil q)), subst (λ w. StitchTo arcs w (closed q)) (append-nil t) h)
  elsewhere (a ∷ s) [] q h = (q, ([], q, refl, sym (append-nil q)), subst (λ w. StitchTo arcs w (closed q)) (sym (append-nil (a ∷ s))) h)
  elsewhere (a ∷ s) (b ∷ t) [] h = absurd h
  elsewhere (a ∷ s) (b ∷ t) (x ∷ l) h = started_elsewhere x l a s (b ∷ t) h
