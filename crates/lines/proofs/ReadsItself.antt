-- Lists that are read as themselves: lines, and the closed lists of rings, begun at any of their vertices.
use Rattle.std.proofs.Common.{◌≡◌, ◌≤◌, Bool, true, false, cond, List, [], ◌∷◌, length, refl, sym, ap, ◌∙◌, subst, arith, None}
use Rattle.std.proofs.lemmas.List.{length-append}
use Rattle.std.specs.declared.cmp.Ordering.{Ordering}
use Rattle.std.specs.Cmp.{IsTotalOrder}
use Rattle.std.specs.Cmp.Lexicographic.{slice_cmp}
use Rattle.std.specs.FinMap.{IsAntisymmetric}
use Rattle.std.specs.List.{dedup_from}
use Rattle.grid.specs.declared.pos.Pos.{Pos}
use Rattle.theory.specs.Geometry.{AtMost}
use Rattle.theory.specs.LinesAndRings.{Trail, IsLine, IsRing, IsRotation, closed}
use Rattle.theory.specs.TopologyFunction.{same_vertex, least_list, rotations}
use Rattle.theory.proofs.JunctionTest.{same_vertex-equal, equal-same_vertex}
use Rattle.theory.proofs.Lists.{front-snoc, last-snoc}
use Rattle.theory.proofs.Rotations.{rotation_back, rotation_trans, rotation_ring}
use Rattle.lines.specs.Turned.{position_cmp}
use Rattle.lines.specs.Reading.{collapsed, collapsed_ring_fault, line_fault, opened, ring_fault, ring_of}
use Rattle.lines.specs.Seen.{positions_of, vertices_of}
use Rattle.lines.specs.declared.line.Line as the_line
use Rattle.lines.specs.declared.ring.Ring as the_ring
use Rattle.lines.proofs.Codes.{large}
use Rattle.lines.proofs.Least.{least_is}
use Rattle.lines.specs.Positions.{position_total, position_same}
use Rattle.lines.proofs.Trails.{line_exact, once_means, trail_once}

-- a closed list without its last vertex
pub opened_closed : {V : Type 0} (r : List V) → opened (closed r) ≡ r
opened_closed [] = refl
opened_closed (x ∷ l) = front-snoc x x l

module _ {V : Type 0} (cmp : V → V → Ordering) (o : IsTotalOrder cmp) (same : IsAntisymmetric cmp) where
  kept_from : (x : V) (l : List V) → Trail (x ∷ l) → dedup_from (same_vertex cmp) x l ≡ x ∷ l
  kept_from x [] t = refl
  kept_from x (y ∷ l) t = go (same_vertex cmp y x) refl (kept_from y l t.1)
    where
      go : (b : Bool) → same_vertex cmp y x ≡ b → dedup_from (same_vertex cmp) y l ≡ y ∷ l →
          cond b (dedup_from (same_vertex cmp) x l) (x ∷ dedup_from (same_vertex cmp) y l) ≡ x ∷ (y ∷ l)
      go true p h = absurd ((t.0 y refl).0 (sym (same_vertex-equal cmp o same y x p)))
      go false p h = ap (λ w. x ∷ w) h

  -- neighbours of a trail differ, so none are read as one
  pub trail_collapses : (l : List V) → Trail l → collapsed cmp l ≡ l
  trail_collapses [] t = refl
  trail_collapses (x ∷ l) t = kept_from x l t

  -- a line has no fault
  pub line_without_fault : (l : List V) → IsLine l → line_fault cmp l ≡ None
  line_without_fault l k = (line_exact cmp o same l).1 (subst IsLine (sym (trail_collapses l k.once)) k)

  closed_judged : (r : List V) → IsRing r → collapsed_ring_fault cmp (closed r) ≡ None
  closed_judged [] k = absurd (let n : 3 ≤ 0 = k.long in omega arith)
  closed_judged (x ∷ l) k =
      let n : 3 ≤ length (x ∷ l) = k.long in
      rw (
        equal-same_vertex cmp o same x _ (sym (last-snoc x x l)),
        large (length (closed (x ∷ l))) 4 (omega (arith, n, length-append l (x ∷ []))),
        once_means cmp o same (closed (x ∷ l)) (trail_once (closed (x ∷ l)) k.once),
      ) refl

  -- the closed list of a ring has no fault
  pub ring_without_fault : (r : List V) → IsRing r → ring_fault cmp (closed r) ≡ None
  unfolding ring_fault
  ring_without_fault r k = ap (collapsed_ring_fault cmp) (trail_collapses (closed r) k.once) ∙ closed_judged r k

  -- the closed list of a ring that begins at another place reads as the ring's least rotation
  pub closed_reads : (r m : List V) → IsRing r → ((q : List V) → IsRotation r q → AtMost (slice_cmp cmp) r q) → IsRotation r m →
      ring_of cmp (closed m) ≡ r
  unfolding ring_of
  closed_reads r m k least q =
      ap (λ w. least_list (slice_cmp cmp) (rotations w)) (ap opened (trail_collapses (closed m) (rotation_ring r m q k).once) ∙ opened_closed m)
      ∙ sym (least_is cmp o same m r (let n : 3 ≤ length r = k.long in omega arith) (rotation_back r m q)
      (λ p h. least p (rotation_trans r m p q h)))

-- a line's positions have no fault, and are read as they are
pub line_reads : (l : the_line.Line) → (line_fault position_cmp (positions_of l) ≡ None) × (collapsed position_cmp (positions_of l) ≡ positions_of l)
line_reads l = (
  line_without_fault position_cmp position_total position_same (positions_of l) l.line,
  trail_collapses position_cmp position_total position_same (positions_of l) l.line.once,
)

-- the closed list of a ring, begun at any of its vertices, has no fault, and is read as that ring
pub ring_reads : (r : the_ring.Ring) (m : List Pos) → IsRotation (vertices_of r) m →
    (ring_fault position_cmp (closed m) ≡ None) × (ring_of position_cmp (closed m) ≡ vertices_of r)
ring_reads r m q = (
  ring_without_fault position_cmp position_total position_same m (rotation_ring (vertices_of r) m q r.ring),
  closed_reads position_cmp position_total position_same (vertices_of r) m r.ring r.least q,
)
