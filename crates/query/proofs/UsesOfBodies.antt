-- What is noted as used, and what bodies use.
use Rattle.std.proofs.Common.{◌≡◌, ◌+◌, ℕ, zero, suc, List, [], ◌∷◌, inl, inr, refl, sym, ap, subst, Some, slice_get, arith}
use Rattle.grid.specs.declared.pos.Pos.{Pos}
use Rattle.theory.specs.ArcNumbers.{ArcRef, Uses}
use Rattle.theory.specs.Lists.{Has, gathered}
use Rattle.theory.specs.Topology.{Body, null, point, points, line, lines, polygon, polygons}
use Rattle.theory.specs.Users.{UsesArc}
use Rattle.theory.proofs.Lists.{Has-append, Has-append_left, Has-append_right}
use Rattle.theory.proofs.ListsOfLists.{Has-gathered, gathered_from, Has-joined, joined_from}
use Rattle.query.specs.Uses.{use_at, refs_uses, body_uses, bodies_uses}
use Rattle.query.specs.declared.uses.Use.{Use}

refs_from : (p : ℕ) (us : List ArcRef) (u : Use) → Has u (refs_uses p us) → (u.index ≡ p) × Uses u.arc us
refs_from p [] u h = absurd h
refs_from p (r ∷ us) u (inl e) = (ap (λ w. w.index) e, inl (ap (λ w. w.arc) e))
refs_from p (r ∷ us) u (inr h) = let t = refs_from p us u h in (t.0, inr t.1)

has_refs : (p k : ℕ) (us : List ArcRef) → Uses k us → Has (use_at k p) (refs_uses p us)
has_refs p k [] h = absurd h
has_refs p k (r ∷ us) (inl e) = inl (ap (λ n. use_at n p) e)
has_refs p k (r ∷ us) (inr h) = inr (has_refs p k us h)

lists_from : (p : ℕ) (ls : List (List ArcRef)) (u : Use) → Has u (gathered (refs_uses p) ls) → (u.index ≡ p) × ((us : List ArcRef) × Has us ls × Uses u.arc us)
lists_from p ls u h =
    let t = gathered_from (refs_uses p) ls u h in
    let r = refs_from p t.0 u t.2 in (r.0, (t.0, t.1, r.1))

has_lists : (p k : ℕ) (ls : List (List ArcRef)) (us : List ArcRef) → Has us ls → Uses k us → Has (use_at k p) (gathered (refs_uses p) ls)
has_lists p k ls us h s = Has-gathered (refs_uses p) ls us (use_at k p) h (has_refs p k us s)

pub body_from : (p : ℕ) (b : Body Pos) (u : Use) → Has u (body_uses p b) → (u.index ≡ p) × UsesArc u.arc b
body_from p null u h = absurd h
body_from p (point q) u h = absurd h
body_from p (points qs) u h = absurd h
body_from p (line us) u h = let r = refs_from p us u h in (r.0, inl (us, inl refl, r.1))
body_from p (lines ls) u h = let r = lists_from p ls u h in (r.0, inl r.1)
body_from p (polygon rs) u h = let r = lists_from p rs u h in (r.0, inr r.1)
body_from p (polygons ps) u h =
    let t = gathered_from (gathered (refs_uses p)) ps u h in
    let r = lists_from p t.0 u t.2 in
    (r.0, inr (r.1.0, Has-joined ps t.0 r.1.0 t.1 r.1.1, r.1.2))

pub has_body : (p k : ℕ) (b : Body Pos) → UsesArc k b → Has (use_at k p) (body_uses p b)
has_body p k null h = absurd (elim h [ inl t ↦ t.1 | inr t ↦ t.1 ])
has_body p k (point q) h = absurd (elim h [ inl t ↦ t.1 | inr t ↦ t.1 ])
has_body p k (points qs) h = absurd (elim h [ inl t ↦ t.1 | inr t ↦ t.1 ])
has_body p k (line us) (inl (vs, inl e, s)) = has_refs p k us (subst (Uses k) e s)
has_body p k (line us) (inl (vs, inr z, s)) = absurd z
has_body p k (line us) (inr (vs, z, s)) = absurd z
has_body p k (lines ls) (inl (vs, h, s)) = has_lists p k ls vs h s
has_body p k (lines ls) (inr (vs, z, s)) = absurd z
has_body p k (polygon rs) (inl (vs, z, s)) = absurd z
has_body p k (polygon rs) (inr (vs, h, s)) = has_lists p k rs vs h s
has_body p k (polygons ps) (inl (vs, z, s)) = absurd z
has_body p k (polygons ps) (inr (vs, h, s)) =
    let t = joined_from ps vs h in
    Has-gathered (gathered (refs_uses p)) ps t.0 (use_at k p) t.1 (has_lists p k t.0 vs t.2 s)

-- each noted use is of a body at its index
pub bodies_from : (bs : List (Body Pos)) (p : ℕ) (u : Use) → Has u (bodies_uses p bs) →
    (n : ℕ) × (b : Body Pos) × (slice_get bs n ≡ Some b) × (u.index ≡ p + n) × UsesArc u.arc b
bodies_from [] p u h = absurd h
bodies_from (b ∷ bs) p u h = elim (Has-append u (body_uses p b) (bodies_uses (p + 1) bs) h) [
  | inl k ↦ (let t = body_from p b u k in (0, b, refl, omega (arith, t.0), t.1))
  | inr k ↦ (let t = bodies_from bs (p + 1) u k in (suc t.0, t.1, t.2, omega (arith, t.3), t.4))
]

pub has_bodies : (bs : List (Body Pos)) (p n k : ℕ) (b : Body Pos) → slice_get bs n ≡ Some b → UsesArc k b → Has (use_at k (p + n)) (bodies_uses p bs)
has_bodies [] p n k b e h = absurd cc
has_bodies (c ∷ bs) p zero k b e h =
    let same : c ≡ b = cc in
    let here : p ≡ p + zero = omega arith in
    Has-append_left (use_at k (p + zero)) (body_uses p c) (bodies_uses (p + 1) bs)
    (subst (λ q. Has (use_at k q) (body_uses p c)) here (has_body p k c (subst (UsesArc k) (sym same) h)))
has_bodies (c ∷ bs) p (suc n) k b e h =
    let there : (p + 1) + n ≡ p + suc n = omega arith in
    Has-append_right (use_at k (p + suc n)) (body_uses p c) (bodies_uses (p + 1) bs)
    (subst (λ q. Has (use_at k q) (bodies_uses (p + 1) bs)) there (has_bodies bs (p + 1) n k b e h))
