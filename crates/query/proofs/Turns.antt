-- The closed list of a ring, begun at its least step, is that of its least rotation.
use Rattle.std.proofs.Common.{◌≡◌, ◌≤◌, ◌<◌, ◌+◌, ℕ, zero, suc, false, List, [], ◌∷◌, ◌++◌, length, take, drop, inl, inr, refl, sym, ap, ◌∙◌, subst, arith, append_assoc, Some}
use Rattle.std.proofs.lemmas.List.{length-append}
use Rattle.std.proofs.Math.Seq.{drop-append_seam}
use Rattle.std.specs.Cmp.Lexicographic.{slice_cmp}
use Rattle.std.specs.Ordering.{is_lt, is_gt, ordering_then, ordering_reverse}
use Rattle.std.specs.declared.cmp.Ordering.{Ordering}
use Rattle.std.specs.declared.cmp.Ordering.TheVariants.{Less, Equal, Greater}
use Rattle.grid.specs.declared.pos.Pos.{Pos}
use Rattle.lines.specs.Reading.{opened}
use Rattle.lines.specs.Seen.{vertices_of}
use Rattle.lines.specs.Turned.{position_cmp}
use Rattle.lines.specs.Windows.{window, IsLeastStart}
use Rattle.lines.specs.declared.ring.Ring as the_ring
use Rattle.lines.proofs.Least.{least_is, least_turn}
use Rattle.lines.specs.Positions.{position_total, position_same}
use Rattle.theory.specs.Geometry.{AtMost}
use Rattle.theory.specs.LinesAndRings.{IsRing, IsRotation, closed}
use Rattle.theory.specs.Lists.{Steps, front_of, last_of}
use Rattle.theory.specs.TopologyFunction.{least_list, rotations}
use Rattle.theory.proofs.Lists.{append_cancel, front-snoc, front_last}
use Rattle.theory.proofs.Rotations.{rotation_back, rotation_trans, rotation_ring}
use Rattle.arcs.proofs.Steps.{IsLeastFrom, least_is as least_along, step_total}
use Rattle.arcs.specs.Steps.{step, step_cmp, least_from}
use Rattle.query.specs.Steps.{least_step, behind_step, up_to_step}
use Rattle.arcs.specs.declared.step.ArcStep.{ArcStep}
use Rattle.query.proofs.PartedAt.{IsParted, parted}

-- the order of two steps is that of the lists of their positions
then_nothing : (r : Ordering) → ordering_then r Equal ≡ r
then_nothing Less = refl
then_nothing Equal = refl
then_nothing Greater = refl

less_not_most : (r s : Ordering) → r ≡ ordering_reverse s → is_gt s ≡ false → is_lt r ≡ false
less_not_most r Less e h = ap is_lt e
less_not_most r Equal e h = ap is_lt e
less_not_most r Greater e h = absurd cc

not_before : (m : ArcStep) (u v : Pos) → AtMost step_cmp m (step u v) → is_lt (slice_cmp position_cmp (u ∷ (v ∷ [])) (m.from ∷ (m.to ∷ []))) ≡ false
not_before m u v h =
    ap (λ r. is_lt (ordering_then (position_cmp u m.from) r)) (then_nothing (position_cmp v m.to))
    ∙ less_not_most (step_cmp (step u v) m) (step_cmp m (step u v)) (step_total.antisymm (step u v) m) h

-- what stands at an index and the next one
window_step : (l : List Pos) (k : ℕ) → k + 1 < length l → (u : Pos) × (v : Pos) × (window l k ≡ u ∷ (v ∷ [])) × Steps u v l
window_step [] k h = absurd (omega arith)
window_step (x ∷ []) k h = absurd (omega arith)
window_step (x ∷ (y ∷ l)) zero h = (x, y, refl, inl (refl, refl))
window_step (x ∷ (y ∷ l)) (suc k) h = let t = window_step (y ∷ l) k (omega arith) in (t.0, t.1, t.2, inr t.3)

-- two lists with one more at their ends
opened_snoc : (a : List Pos) (x : Pos) → opened (a ++ (x ∷ [])) ≡ a
opened_snoc [] x = refl
opened_snoc (y ∷ a) x = front-snoc y x a

one_head : (x y : Pos) → x ∷ [] ≡ y ∷ [] → x ≡ y
one_head x y e = cc

snoc_same : (a b : List Pos) (x y : Pos) → a ++ (x ∷ []) ≡ b ++ (y ∷ []) → (a ≡ b) × (x ≡ y)
snoc_same a b x y e =
    let f : a ≡ b = sym (opened_snoc a x) ∙ ap opened e ∙ opened_snoc b y in
    (f, one_head x y (append_cancel b (x ∷ []) (y ∷ []) (ap (λ w. w ++ (x ∷ [])) (sym f) ∙ e)))

-- a list begun at a step that stands in it
abbrev pub started_at : ArcStep → List Pos → List Pos
started_at s w = s.from ∷ (s.to ∷ (behind_step s w ++ up_to_step s w))

-- how the closed list of a ring is begun at its least step
pub record IsStarted (f : List Pos) (s : ArcStep) (r : List Pos) : Type 0 where
  pub rotation : IsRotation f r
  pub started : started_at s (closed f) ≡ closed r
  pub least : (m : List Pos) → IsRotation f m → AtMost (slice_cmp position_cmp) r m

take_seam : (a b : List Pos) → take (length a) (a ++ b) ≡ a
take_seam [] b = refl
take_seam (x ∷ a) b = ap (λ w. x ∷ w) (take_seam a b)

started : (x : Pos) (l : List Pos) (m : ArcStep) → IsRing (x ∷ l) → Steps m.from m.to (closed (x ∷ l)) →
    ((u v : Pos) → Steps u v (closed (x ∷ l)) → AtMost step_cmp m (step u v)) → (r : List Pos) × IsStarted (x ∷ l) m r
started x l m ring there least = (r, record { rotation = turned; started = is; least = first })
  where
    f : List Pos
    f = x ∷ l

    at : (before : List Pos) × IsParted m x (l ++ (x ∷ [])) before
    at = parted m x (l ++ (x ∷ [])) there

    b : List Pos
    b = at.0

    c : List Pos
    c = behind_step m (closed f)

    t : List Pos
    t = front_of m.to c

    whole : closed f ≡ b ++ (m.from ∷ (m.to ∷ c))
    whole = at.1.whole

    ends : (f ≡ b ++ (m.from ∷ t)) × (x ≡ last_of m.to c)
    ends =
        snoc_same f (b ++ (m.from ∷ t)) x (last_of m.to c)
        (whole ∙ ap (λ w. b ++ (m.from ∷ w)) (front_last m.to c) ∙ sym (append_assoc b (m.from ∷ t) (last_of m.to c ∷ [])))

    r : List Pos
    r = m.from ∷ (t ++ b)

    turned : IsRotation f r
    turned = (b, m.from ∷ t, ends.0, refl)

    is : started_at m (closed f) ≡ closed r
    is =
        ap (λ w. m.from ∷ (w ++ up_to_step m (closed f))) (front_last m.to c ∙ ap (λ z. t ++ (z ∷ [])) (sym ends.1))
        ∙ ap (λ w. m.from ∷ w) (append_assoc t (x ∷ []) (up_to_step m (closed f)) ∙ ap (λ w. t ++ w) at.1.front ∙ sym (append_assoc t b (m.from ∷ [])))

    here : window (closed f) (length b) ≡ m.from ∷ (m.to ∷ [])
    here = ap (λ w. take 2 (drop (length b) w)) whole ∙ ap (take 2) (drop-append_seam b (m.from ∷ (m.to ∷ c)))

    start : IsLeastStart position_cmp (closed f) (length b)
    start = record {
      within =
          let n : length (closed f) ≡ length b + (length c + 2) =
          ap length whole ∙ length-append b (m.from ∷ (m.to ∷ c)) ∙ ap (λ k. length b + k) (let q : suc (suc (length c)) ≡ length c + 2 = omega arith in q) in
          omega arith;
      least = λ k h.
          let w = window_step (closed f) k h in
          subst (λ v. is_lt (slice_cmp position_cmp v (window (closed f) (length b))) ≡ false) (sym w.2)
          (subst (λ v. is_lt (slice_cmp position_cmp (w.0 ∷ (w.1 ∷ [])) v) ≡ false) (sym here) (not_before m w.0 w.1 (least w.0 w.1 w.3)));
    }

    moved : drop (length b) f ++ take (length b) f ≡ r
    moved =
        ap (λ w. drop (length b) w ++ take (length b) w) ends.0
        ∙ (λ i. drop-append_seam b (m.from ∷ t) i ++ take_seam b (m.from ∷ t) i)

    first : (q : List Pos) → IsRotation f q → AtMost (slice_cmp position_cmp) r q
    first q h =
        subst (λ w. AtMost (slice_cmp position_cmp) w q) moved
        (least_turn position_cmp position_total position_same f (length b) ring start q h)

-- the least step along the closed list of a ring
pub record IsTurnedBack (r f : List Pos) : Type 0 where
  pub least : ArcStep
  pub is : least_step (closed f) ≡ Some least
  pub started : started_at least (closed f) ≡ closed r

-- a ring's closed list, begun at any of its vertices, is turned back
pub turned_back : (r : the_ring.Ring) (f : List Pos) → IsRotation (vertices_of r) f → IsTurnedBack (vertices_of r) f
turned_back r f q = go f (rotation_ring (vertices_of r) f q r.ring) q
  where
    go : (f : List Pos) → IsRing f → IsRotation (vertices_of r) f → IsTurnedBack (vertices_of r) f
    go [] k q = absurd (let n : 3 ≤ 0 = k.long in omega arith)
    go (x ∷ []) k q = absurd (let n : 3 ≤ 1 = k.long in omega arith)
    go (x ∷ (y ∷ l)) k q = record { least = m; is = refl; started = b.1.started ∙ ap closed same }
      where
        m : ArcStep
        m = least_from step (step x y) y (l ++ (x ∷ []))

        t : IsLeastFrom step (step x y) (y ∷ (l ++ (x ∷ []))) m
        t = least_along step (step x y) y (l ++ (x ∷ []))

        b : (p : List Pos) × IsStarted (x ∷ (y ∷ l)) m p
        b =
            started x (y ∷ l) m k (elim t.found [
              | inl e ↦ inl (ap (λ w. w.from) e, ap (λ w. w.to) e)
              | inr h ↦ inr (subst (λ w. Steps w.from w.to (y ∷ (l ++ (x ∷ [])))) (sym h.3) h.2)
            ])
            (λ u v h. elim h [
              | inl e ↦ let s : step x y ≡ step u v = (λ i. step (sym e.0 i) (sym e.1 i)) in subst (λ w. AtMost step_cmp m w) s t.first
              | inr e ↦ t.all u v e
            ])

        least_of : (p : List Pos) → IsRing p → IsRotation (x ∷ (y ∷ l)) p → ((q : List Pos) → IsRotation (x ∷ (y ∷ l)) q → AtMost (slice_cmp position_cmp) p q) →
            p ≡ least_list (slice_cmp position_cmp) (rotations (x ∷ (y ∷ l)))
        least_of p k h least = least_is position_cmp position_total position_same (x ∷ (y ∷ l)) p (let n : 3 ≤ length p = k.long in omega arith) h least

        same : b.0 ≡ vertices_of r
        same =
            least_of b.0 (rotation_ring (x ∷ (y ∷ l)) b.0 b.1.rotation k) b.1.rotation b.1.least
            ∙ sym (least_of (vertices_of r) r.ring (rotation_back (vertices_of r) (x ∷ (y ∷ l)) q)
            (λ p h. r.least p (rotation_trans (vertices_of r) (x ∷ (y ∷ l)) p q h)))
