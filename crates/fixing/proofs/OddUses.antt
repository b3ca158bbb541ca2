-- How often the loops of a ring use a segment.
use Rattle.std.proofs.Common.{◌≡◌, ℕ, ◌+◌, Bool, true, false, cond, List, [], ◌∷◌, ◌++◌, length, nat_lt, refl, sym, ap, ◌∙◌, subst, append_assoc, arith}
use borrow.Author.Tests.{ltb-false}
use Rattle.std.specs.Ordering.{is_lt}
use Rattle.std.proofs.lemmas.List.{length-append}
use Rattle.grid.specs.declared.pos.Pos.{Pos}
use Rattle.theory.specs.Lists.{gathered, last_of}
use Rattle.theory.specs.TopologyFunction.{some}
use Rattle.theory.proofs.Lists.{append_nil}
use Rattle.lines.specs.Pairs.{pair_eq, pair_of, position_eq}
use Rattle.lines.specs.Segments.{segments_from, segments_of}
use Rattle.lines.specs.Turned.{position_cmp}
use Rattle.lines.specs.declared.pair.PositionPair.{PositionPair}
use Rattle.lines.proofs.Pairs.{pair_flip, pair_true}
use Rattle.lines.proofs.Positions.{position_refl}
use Rattle.fixing.specs.Loops.{loop_kept, loops_of, loops_on, path_from, path_to}
use Rattle.fixing.specs.Uses.{uses}
use Rattle.fixing.proofs.LoopLaws.{IsParted, parted}
use Rattle.fixing.proofs.RunLaws.{gathered_join}

uses_join : (s : PositionPair) (a b : List PositionPair) → uses s (a ++ b) ≡ uses s a + uses s b
uses_join s [] b = omega arith
uses_join s (t ∷ a) b = let e = uses_join s a b in omega arith

-- the segments of a list parted at a position
segments_parted : (a : List Pos) (p : Pos) (b : List Pos) → segments_of (a ++ (p ∷ b)) ≡ segments_of (a ++ (p ∷ [])) ++ segments_from p b
segments_parted [] p b = refl
segments_parted (x ∷ a) p b = from x a
  where
    from : (x : Pos) (a : List Pos) → segments_from x (a ++ (p ∷ b)) ≡ segments_from x (a ++ (p ∷ [])) ++ segments_from p b
    from x [] = refl
    from x (y ∷ a) = ap (λ w. pair_of x y ∷ w) (from y a)

one_end : (s : PositionPair) (p : Pos) → ¬ (s.lesser ≡ s.greater) → pair_eq s (pair_of p p) ≡ false
one_end s p n = go (pair_eq s (pair_of p p)) refl
  where
    ends : (t : Bool) → ◌≡◌ {A = PositionPair} s (cond t (record { lesser = p; greater = p }) (record { lesser = p; greater = p })) → s.lesser ≡ s.greater
    ends true e = ap (λ w. w.lesser) e ∙ sym (ap (λ w. w.greater) e)
    ends false e = ap (λ w. w.lesser) e ∙ sym (ap (λ w. w.greater) e)

    go : (b : Bool) → pair_eq s (pair_of p p) ≡ b → pair_eq s (pair_of p p) ≡ false
    go true e = absurd (n (ends (is_lt (position_cmp p p)) (pair_true s (pair_of p p) e)))
    go false e = e

-- so many uses, and twice as many as are gone
abbrev pub IsLeftOf : ℕ → ℕ → Type 0
IsLeftOf n m = (gone : ℕ) × (n ≡ m + (gone + gone))

-- a loop that is kept uses a segment as often as is said, and one that is not uses it twice or never
kept_uses : (s : PositionPair) → ¬ (s.lesser ≡ s.greater) → (p : Pos) (rest : List Pos) →
    IsLeftOf (uses s (segments_of ((p ∷ rest) ++ (p ∷ [])))) (uses s (gathered segments_of (loop_kept ((p ∷ rest) ++ (p ∷ [])))))
kept_uses s n p [] = (0, let e = one_end s p n in rw e (omega arith))
kept_uses s n p (q ∷ []) =
    (cond (pair_eq s (pair_of p q)) 1 0, rw (← pair_flip p q) (omega arith))
kept_uses s n p (q ∷ (r ∷ l)) = (0, go (nat_lt 3 (length ((p ∷ (q ∷ (r ∷ l))) ++ (p ∷ [])))) refl)
  where
    go : (b : Bool) → nat_lt 3 (length ((p ∷ (q ∷ (r ∷ l))) ++ (p ∷ []))) ≡ b →
        uses s (segments_of ((p ∷ (q ∷ (r ∷ l))) ++ (p ∷ [])))
        ≡ uses s (gathered segments_of (cond b (((p ∷ (q ∷ (r ∷ l))) ++ (p ∷ [])) ∷ []) [])) + (0 + 0)
    go true e =
        let k = ap (uses s) (append_nil (segments_of ((p ∷ (q ∷ (r ∷ l))) ++ (p ∷ [])))) in
        omega (arith, k)
    go false e = absurd (let m = ltb-false 3 (length ((p ∷ (q ∷ (r ∷ l))) ++ (p ∷ []))) e in omega (arith, m, length-append l (p ∷ [])))

-- the path where the walk ends
abbrev path_left : List Pos → List Pos → List Pos
path_left path [] = path
path_left path (p ∷ l) = cond (some (position_eq p) path) (path_left (path_to p path) l) (path_left (path ++ (p ∷ [])) l)

-- the segments of a path that goes on behind a loop
loop_parts : (s : PositionPair) (p : Pos) (path l : List Pos) → IsParted p path →
    uses s (segments_of (path ++ (p ∷ l))) ≡ uses s (segments_of (path_to p path ++ l)) + uses s (segments_of (path_from p path ++ (p ∷ [])))
loop_parts s p path l parts =
    let front = parts.front in
    let rest = parts.rest in
    let e1 : path ++ (p ∷ l) ≡ front ++ (p ∷ (rest ++ (p ∷ l))) = ap (λ w. w ++ (p ∷ l)) parts.whole ∙ append_assoc front (p ∷ rest) (p ∷ l) in
    let e2 : segments_of (path ++ (p ∷ l)) ≡ segments_of (front ++ (p ∷ [])) ++ (segments_of ((p ∷ rest) ++ (p ∷ [])) ++ segments_from p l) =
    ap segments_of e1 ∙ segments_parted front p (rest ++ (p ∷ l)) ∙ ap (λ w. segments_of (front ++ (p ∷ [])) ++ w) (segments_parted (p ∷ rest) p l) in
    let e3 : segments_of (path_to p path ++ l) ≡ segments_of (front ++ (p ∷ [])) ++ segments_from p l =
    ap (λ w. segments_of (w ++ l)) parts.to ∙ ap segments_of (append_assoc front (p ∷ []) l) ∙ segments_parted front p l in
    let u2 = ap (uses s) e2 ∙ uses_join s (segments_of (front ++ (p ∷ []))) (segments_of ((p ∷ rest) ++ (p ∷ [])) ++ segments_from p l) in
    let u4 = uses_join s (segments_of ((p ∷ rest) ++ (p ∷ []))) (segments_from p l) in
    let u3 = ap (uses s) e3 ∙ uses_join s (segments_of (front ++ (p ∷ []))) (segments_from p l) in
    let u5 = ap (λ w. uses s (segments_of (w ++ (p ∷ [])))) parts.from in
    sums (uses s (segments_of (path ++ (p ∷ l)))) (uses s (segments_of (front ++ (p ∷ [])))) (uses s (segments_of ((p ∷ rest) ++ (p ∷ []))))
    (uses s (segments_from p l)) (uses s (segments_of ((p ∷ rest) ++ (p ∷ [])) ++ segments_from p l)) (uses s (segments_of (path_to p path ++ l)))
    (uses s (segments_of (path_from p path ++ (p ∷ [])))) u2 u4 u3 u5
  where
    sums : (whole front loop left both cut closed : ℕ) → whole ≡ front + both → both ≡ loop + left → cut ≡ front + left → closed ≡ loop → whole ≡ cut + closed
    sums whole front loop left both cut closed a b c d = omega arith

loops_uses : (s : PositionPair) → ¬ (s.lesser ≡ s.greater) → (path l : List Pos) →
    IsLeftOf (uses s (segments_of (path ++ l))) (uses s (gathered segments_of (loops_on path l)) + uses s (segments_of (path_left path l)))
loops_uses s n path [] = (0, let e = ap (λ w. uses s (segments_of w)) (append_nil path) in e ∙ (omega arith))
loops_uses s n path (p ∷ l) = go (some (position_eq p) path) refl (loops_uses s n (path_to p path) l) (loops_uses s n (path ++ (p ∷ [])) l)
  where
    sums : (whole cut closed kept left gone more again : ℕ) → whole ≡ cut + closed → cut ≡ left + (gone + gone) → closed ≡ kept + (more + more) →
        again ≡ kept + left → whole ≡ again + ((gone + more) + (gone + more))
    sums whole cut closed kept left gone more again a b c d = omega arith

    go : (b : Bool) → some (position_eq p) path ≡ b →
        IsLeftOf (uses s (segments_of (path_to p path ++ l))) (uses s (gathered segments_of (loops_on (path_to p path) l)) + uses s (segments_of (path_left (path_to p path) l))) →
        IsLeftOf (uses s (segments_of ((path ++ (p ∷ [])) ++ l))) (uses s (gathered segments_of (loops_on (path ++ (p ∷ [])) l)) + uses s (segments_of (path_left (path ++ (p ∷ [])) l))) →
        IsLeftOf (uses s (segments_of (path ++ (p ∷ l))))
        (uses s (gathered segments_of (cond b (loop_kept (path_from p path ++ (p ∷ [])) ++ loops_on (path_to p path) l) (loops_on (path ++ (p ∷ [])) l)))
        + uses s (segments_of (cond b (path_left (path_to p path) l) (path_left (path ++ (p ∷ [])) l))))
    go true e f g =
        let parts = parted p path e in
        let loop : IsLeftOf (uses s (segments_of (path_from p path ++ (p ∷ [])))) (uses s (gathered segments_of (loop_kept (path_from p path ++ (p ∷ []))))) =
        subst (λ w. IsLeftOf (uses s (segments_of (w ++ (p ∷ [])))) (uses s (gathered segments_of (loop_kept (w ++ (p ∷ [])))))) (sym parts.from) (kept_uses s n p parts.rest) in
        let more = ap (uses s) (gathered_join segments_of (loop_kept (path_from p path ++ (p ∷ []))) (loops_on (path_to p path) l))
        ∙ uses_join s (gathered segments_of (loop_kept (path_from p path ++ (p ∷ [])))) (gathered segments_of (loops_on (path_to p path) l)) in (
          f.0 + loop.0,
          sums (uses s (segments_of (path ++ (p ∷ l)))) (uses s (segments_of (path_to p path ++ l))) (uses s (segments_of (path_from p path ++ (p ∷ []))))
              (uses s (gathered segments_of (loop_kept (path_from p path ++ (p ∷ [])))))
              (uses s (gathered segments_of (loops_on (path_to p path) l)) + uses s (segments_of (path_left (path_to p path) l))) f.0 loop.0
              (uses s (gathered segments_of (loop_kept (path_from p path ++ (p ∷ [])) ++ loops_on (path_to p path) l)) + uses s (segments_of (path_left (path_to p path) l)))
              (loop_parts s p path l parts) f.1 loop.1
              (moved (uses s (gathered segments_of (loop_kept (path_from p path ++ (p ∷ [])) ++ loops_on (path_to p path) l)))
              (uses s (gathered segments_of (loop_kept (path_from p path ++ (p ∷ []))))) (uses s (gathered segments_of (loops_on (path_to p path) l)))
              (uses s (segments_of (path_left (path_to p path) l))) more),
        )
      where
        moved : (all kept left path : ℕ) → all ≡ kept + left → all + path ≡ kept + (left + path)
        moved all kept left path e = omega arith
    go false e f g = (g.0, ap (λ w. uses s (segments_of w)) (sym (append_assoc path (p ∷ []) l)) ∙ g.1)

-- a path begins with x
abbrev BeginsWith : Pos → List Pos → Type 0
BeginsWith x path = (q : List Pos) × (path ≡ x ∷ q)

to_begins : (x p : Pos) (q : List Pos) → BeginsWith x (path_to p (x ∷ q))
to_begins x p q = go (position_eq p x)
  where
    go : (b : Bool) → BeginsWith x (cond b (x ∷ []) (x ∷ path_to p q))
    go true = ([], refl)
    go false = (path_to p q, refl)

-- where the list ends with the path's first position, the walk comes back there
back : (x : Pos) (q : List Pos) (p : Pos) (l : List Pos) → last_of p l ≡ x → path_left (x ∷ q) (p ∷ l) ≡ x ∷ []
back x q p [] e = rw (subst (λ w. position_eq w x ≡ true) (sym e) (position_refl x)) refl
back x q p (r ∷ l) e = go (some (position_eq p) (x ∷ q)) (λ s. back x s r l e)
  where
    go : (b : Bool) → ((s : List Pos) → path_left (x ∷ s) (r ∷ l) ≡ x ∷ []) →
        cond b (path_left (path_to p (x ∷ q)) (r ∷ l)) (path_left ((x ∷ q) ++ (p ∷ [])) (r ∷ l)) ≡ x ∷ []
    go true ih = let t = to_begins x p q in ap (λ w. path_left w (r ∷ l)) t.1 ∙ ih t.0
    go false ih = ih (q ++ (p ∷ []))

-- the loops of a closed list use a segment as often as it does, but for twice as many as are gone
pub odd_uses : (x : Pos) (l : List Pos) → last_of x l ≡ x → (s : PositionPair) → ¬ (s.lesser ≡ s.greater) →
    IsLeftOf (uses s (segments_of (x ∷ l))) (uses s (gathered segments_of (loops_of (x ∷ l))))
unfolding loops_of
odd_uses x [] e s n = (0, refl)
odd_uses x (p ∷ l) e s n =
    let t = loops_uses s n (x ∷ []) (p ∷ l) in
    let z = ap (λ w. uses s (segments_of w)) (back x [] p l e) in
    (t.0, ended _ _ _ t.0 t.1 z)
  where
    ended : (whole loops path gone : ℕ) → whole ≡ (loops + path) + (gone + gone) → path ≡ 0 → whole ≡ loops + (gone + gone)
    ended whole loops path gone a b = omega arith
