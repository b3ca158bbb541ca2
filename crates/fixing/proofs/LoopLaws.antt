-- What the loops of a ring are.
use Rattle.std.proofs.Common.{◌≡◌, ◌≤◌, ◌<◌, Bool, true, false, cond, List, [], ◌∷◌, ◌++◌, inl, inr, length, nat_lt, refl, sym, ap, ◌∙◌, subst, arith}
use borrow.Author.Tests.{ltb-true}
use Rattle.std.proofs.lemmas.List.{length-append}
use Rattle.grid.specs.declared.pos.Pos.{Pos}
use Rattle.theory.specs.LinesAndRings.{IsRing, closed}
use Rattle.theory.specs.Lists.{Distinct, Each, Has}
use Rattle.theory.specs.TopologyFunction.{some}
use Rattle.theory.proofs.Lists.{Distinct-snoc, front-snoc}
use Rattle.theory.proofs.ValidLists.{Simple-Trail}
use Rattle.lines.specs.Pairs.{position_eq}
use Rattle.lines.proofs.Positions.{position_refl, position_true}
use Rattle.fixing.specs.Laws.{IsSimpleRing}
use Rattle.fixing.specs.Loops.{loop_kept, loops_of, loops_on, path_from, path_to}
use Rattle.fixing.proofs.RunLaws.{Each-join}

-- a position that a path has parts it
pub record IsParted (p : Pos) (path : List Pos) : Type 0 where
  pub front : List Pos
  pub rest : List Pos
  pub whole : path ≡ front ++ (p ∷ rest)
  pub to : path_to p path ≡ front ++ (p ∷ [])
  pub from : path_from p path ≡ p ∷ rest

pub parted : (p : Pos) (path : List Pos) → some (position_eq p) path ≡ true → IsParted p path
parted p [] e = absurd cc
parted p (q ∷ l) e = go (position_eq p q) refl e (parted p l)
  where
    go : (b : Bool) → position_eq p q ≡ b → cond b true (some (position_eq p) l) ≡ true → (some (position_eq p) l ≡ true → IsParted p l) → IsParted p (q ∷ l)
    go true t f ih =
        let s = sym (position_true p q t) in
        record {
          front = [];
          rest = l;
          whole = ap (λ w. w ∷ l) s;
          to = ap (λ b. cond b (q ∷ []) (q ∷ path_to p l)) t ∙ ap (λ w. w ∷ []) s;
          from = ap (λ b. cond b (q ∷ l) (path_from p l)) t ∙ ap (λ w. w ∷ l) s;
        }
    go false t f ih =
        let h = ih f in
        record {
          front = q ∷ h.front;
          rest = h.rest;
          whole = ap (λ w. q ∷ w) h.whole;
          to = ap (λ b. cond b (q ∷ []) (q ∷ path_to p l)) t ∙ ap (λ w. q ∷ w) h.to;
          from = ap (λ b. cond b (q ∷ l) (path_from p l)) t ∙ h.from;
        }

-- a path that has not the position
not_among : (p : Pos) (path : List Pos) → some (position_eq p) path ≡ false → ¬ Has p path
not_among p [] e h = h
not_among p (q ∷ l) e h = go (position_eq p q) refl e (not_among p l) h
  where
    go : (b : Bool) → position_eq p q ≡ b → cond b true (some (position_eq p) l) ≡ false → (some (position_eq p) l ≡ false → ¬ Has p l) → ¬ Has p (q ∷ l)
    go true t f ih k = cc
    go false t f ih (inl k) = (let z : true ≡ false = sym (subst (λ w. position_eq p w ≡ true) k (position_refl p)) ∙ t in cc)
    go false t f ih (inr k) = ih f k

Distinct-behind : (a b : List Pos) → Distinct (a ++ b) → Distinct b
Distinct-behind [] b d = d
Distinct-behind (x ∷ a) b d = Distinct-behind a b d.1

Distinct-to : (a : List Pos) (p : Pos) (b : List Pos) → Distinct (a ++ (p ∷ b)) → Distinct (a ++ (p ∷ []))
Distinct-to [] p b d = ((λ h. h), tt)
Distinct-to (x ∷ a) p b d = ((λ h. d.0 (longer a h)), Distinct-to a p b d.1)
  where
    longer : (a : List Pos) → Has x (a ++ (p ∷ [])) → Has x (a ++ (p ∷ b))
    longer [] (inl k) = inl k
    longer [] (inr k) = absurd k
    longer (y ∷ a) (inl k) = inl k
    longer (y ∷ a) (inr k) = inr (longer a k)

-- positions that differ, three or more, closed, are a ring
simple_ring : (p : Pos) (rest : List Pos) → Distinct (p ∷ rest) → 3 ≤ length (p ∷ rest) → IsRing (p ∷ rest)
simple_ring p rest d n = record {
  long = n;
  once = Simple-Trail p (rest ++ (p ∷ [])) (record {
    long = omega (arith, length-append rest (p ∷ []));
    front = subst Distinct (sym (front-snoc p p rest)) d;
    rest = Distinct-snoc p rest d.1 d.0;
    closed_long = λ _. omega (arith, n, length-append rest (p ∷ []));
  });
}

-- a loop that is kept is such a ring
kept_simple : (p : Pos) (path : List Pos) → Distinct path → IsParted p path → Each IsSimpleRing (loop_kept (path_from p path ++ (p ∷ [])))
kept_simple p path d parts = go (nat_lt 3 (length (path_from p path ++ (p ∷ [])))) refl
  where
    is : path_from p path ++ (p ∷ []) ≡ closed (p ∷ parts.rest)
    is = ap (λ w. w ++ (p ∷ [])) parts.from

    go : (b : Bool) → nat_lt 3 (length (path_from p path ++ (p ∷ []))) ≡ b → Each IsSimpleRing (cond b ((path_from p path ++ (p ∷ [])) ∷ []) [])
    go false e = tt
    go true e =
        let n = ltb-true 3 (length (path_from p path ++ (p ∷ []))) e in
        let m : 3 < length (closed (p ∷ parts.rest)) = subst (λ w. 3 < length w) is n in
        let s = Distinct-behind parts.front (p ∷ parts.rest) (subst Distinct parts.whole d) in
        ((p ∷ parts.rest, is, simple_ring p parts.rest s (omega (arith, m, length-append parts.rest (p ∷ []))), s), tt)

loops_simple : (path l : List Pos) → Distinct path → Each IsSimpleRing (loops_on path l)
loops_simple path [] d = tt
loops_simple path (p ∷ l) d = go (some (position_eq p) path) refl (loops_simple (path_to p path) l) (loops_simple (path ++ (p ∷ [])) l)
  where
    go : (b : Bool) → some (position_eq p) path ≡ b → (Distinct (path_to p path) → Each IsSimpleRing (loops_on (path_to p path) l)) →
        (Distinct (path ++ (p ∷ [])) → Each IsSimpleRing (loops_on (path ++ (p ∷ [])) l)) →
        Each IsSimpleRing (cond b (loop_kept (path_from p path ++ (p ∷ [])) ++ loops_on (path_to p path) l) (loops_on (path ++ (p ∷ [])) l))
    go true e f g =
        let parts = parted p path e in
        Each-join IsSimpleRing (loop_kept (path_from p path ++ (p ∷ []))) (loops_on (path_to p path) l) (kept_simple p path d parts)
        (f (subst Distinct (sym parts.to) (Distinct-to parts.front p parts.rest (subst Distinct parts.whole d))))
    go false e f g = g (Distinct-snoc p path d (not_among p path e))

-- each loop is a ring that meets no vertex again
pub loops_are_simple : (l : List Pos) → Each IsSimpleRing (loops_of l)
unfolding loops_of
loops_are_simple l = loops_simple [] l tt
