-- The rotation that begins with the least pair of a vertex and the next one is the least.
use Rattle.std.proofs.Common.{◌≡◌, ◌≤◌, ◌<◌, ◌+◌, ℕ, false, List, [], ◌∷◌, ◌++◌, length, take, drop, inl, inr, refl, sym, ap, ◌∙◌, subst, arith, append_assoc}
use Rattle.std.specs.declared.cmp.Ordering.{Ordering}
use Rattle.std.specs.declared.cmp.Ordering.TheVariants.{Less, Equal, Greater}
use Rattle.std.specs.Ordering.{is_lt, ordering_then, ordering_reverse}
use Rattle.std.specs.Cmp.{IsTotalOrder}
use Rattle.std.specs.FinMap.{IsAntisymmetric, slice_cmp-IsAntisymmetric}
use Rattle.std.specs.Cmp.Lexicographic.{slice_cmp}
use Rattle.std.proofs.lemmas.Cmp.{lists_total, tied_itself}
use Rattle.std.proofs.lemmas.List.{take-append-drop, length-take-le, length-drop, length-append}
use Rattle.std.proofs.Math.Seq.{drop-append_seam}
use Rattle.theory.specs.Lists.{Has}
use Rattle.theory.specs.LinesAndRings.{closed}
use Rattle.theory.specs.LinesAndRings.{IsRing, IsRotation}
use Rattle.theory.specs.Geometry.{AtMost}
use Rattle.theory.specs.TopologyFunction.{rotations_from, rotations, least_list}
use Rattle.theory.proofs.Lists.{append_nil}
use Rattle.theory.proofs.Rotations.{rotation_back, rotation_trans, rotation_ring, same_start}
use Rattle.theory.proofs.Ascending.{at_most_same, at_most_self}
use Rattle.theory.proofs.Turning.{least_list_found, rotation_listed}
use Rattle.lines.specs.Windows.{window, IsLeastStart}

-- each listed rotation is one
listed_rotation : {V : Type 0} (s t q : List V) → Has q (rotations_from s t) → IsRotation (s ++ t) q
listed_rotation s [] q h = absurd h
listed_rotation s (x ∷ t) q (inl e) = (s, x ∷ t, refl, e)
listed_rotation s (x ∷ t) q (inr h) =
    subst (λ w. IsRotation w q) (append_assoc s (x ∷ []) t) (listed_rotation (s ++ (x ∷ [])) t q h)

-- a rotation begins with the pair at its place
opens : {V : Type 0} (s t : List V) → 1 ≤ length t → 2 ≤ length (s ++ t) → window (closed (s ++ t)) (length s) ≡ take 2 (t ++ s)
opens [] [] n m = absurd (omega arith)
opens [] (x ∷ []) n m = absurd (omega arith)
opens [] (x ∷ (y ∷ l)) n m = refl
opens {V} (z ∷ s) t n m =
    ap (λ w. take 2 w) (ap (λ w. drop (length s) w) (append_assoc s t (z ∷ [])) ∙ drop-append_seam s (t ++ (z ∷ []))) ∙ after t n
  where
    after : (t : List V) → 1 ≤ length t → take 2 (t ++ (z ∷ [])) ≡ take 2 (t ++ (z ∷ s))
    after [] n = absurd (omega arith)
    after (a ∷ []) n = refl
    after (a ∷ (b ∷ t)) n = refl

module _ {V : Type 0} (cmp : V → V → Ordering) (o : IsTotalOrder cmp) (same : IsAntisymmetric cmp) where
  -- the first two vertices decide
  two_decide : (r m : List V) → IsRing r → 2 ≤ length m → IsRotation r m → is_lt (slice_cmp cmp (take 2 m) (take 2 r)) ≡ false → AtMost (slice_cmp cmp) r m
  two_decide [] m g n q e = let k : 3 ≤ 0 = g.long in absurd (omega arith)
  two_decide (x ∷ []) m g n q e = let k : 3 ≤ 1 = g.long in absurd (omega arith)
  two_decide (x ∷ (y ∷ l)) [] g n q e = absurd (omega arith)
  two_decide (x ∷ (y ∷ l)) (z ∷ []) g n q e = absurd (omega arith)
  two_decide (x ∷ (y ∷ l)) (z ∷ (w ∷ m)) g n q e = first (cmp z x) refl (cmp x z) (o.antisymm x z) e
    where
      second : z ≡ x → (c : Ordering) → cmp w y ≡ c → (d : Ordering) → d ≡ ordering_reverse c → cmp y w ≡ d → is_lt (ordering_then c Equal) ≡ false →
          AtMost (slice_cmp cmp) (x ∷ (y ∷ l)) (z ∷ (w ∷ m))
      second zx Less p d a b f = absurd cc
      second zx Greater p Less a b f =
          rw (sym zx, tied_itself o z, b) refl
      second zx Greater p Equal a b f = absurd cc
      second zx Greater p Greater a b f = absurd cc
      second zx Equal p d a b f =
          let wy : w ≡ y = same w y p in
          let k : z ∷ (w ∷ m) ≡ x ∷ (y ∷ m) = (λ i. zx i ∷ (wy i ∷ m)) in
          let h : x ∷ (y ∷ l) ≡ x ∷ (y ∷ m) = same_start x y l m g (subst (λ v. IsRotation (x ∷ (y ∷ l)) v) k q) in
          subst (λ v. AtMost (slice_cmp cmp) (x ∷ (y ∷ l)) v) (h ∙ sym k)
          (at_most_self (slice_cmp cmp) (lists_total o) (slice_cmp-IsAntisymmetric same) (x ∷ (y ∷ l)))

      first : (c : Ordering) → cmp z x ≡ c → (d : Ordering) → d ≡ ordering_reverse (cmp z x) → is_lt (ordering_then c (ordering_then (cmp w y) Equal)) ≡ false →
          AtMost (slice_cmp cmp) (x ∷ (y ∷ l)) (z ∷ (w ∷ m))
      first Less p d a f = absurd cc
      first Equal p d a f = second (same z x p) (cmp w y) refl (cmp y w) (o.antisymm y w) refl f
      first Greater p d a f = let k : cmp x z ≡ Less = o.antisymm x z ∙ ap ordering_reverse p in rw k refl

  rotation_length : (a b : List V) → IsRotation a b → length b ≡ length a
  rotation_length a b (s, t, e, f) =
      let g : length b ≡ length (t ++ s) = ap length f in
      let h : length a ≡ length (s ++ t) = ap length e in
      omega (arith, length-append t s, length-append s t)

  -- where the ring f, closed, has its least pair, its least rotation begins
  pub least_turn : (f : List V) (i : ℕ) → IsRing f → IsLeastStart cmp (closed f) i → (m : List V) → IsRotation f m →
      AtMost (slice_cmp cmp) (drop i f ++ take i f) m
  least_turn f i g b m q = go q.0 q.1 q.2 q.3
    where
      long : 3 ≤ length f
      long = g.long

      closed_length : (l : List V) → 1 ≤ length l → length (closed l) ≡ length l + 1
      closed_length [] n = absurd (omega arith)
      closed_length (x ∷ l) n = omega (arith, length-append l (x ∷ []))

      within : i < length f
      within = let n : length (closed f) ≡ length f + 1 = closed_length f (omega (arith, long)) in omega (arith, b.within)

      r : List V
      r = drop i f ++ take i f

      turned : IsRotation f r
      turned = (take i f, drop i f, sym (take-append-drop i f), refl)

      at : (s t : List V) → f ≡ s ++ t → 1 ≤ length t → window (closed f) (length s) ≡ take 2 (t ++ s)
      at s t e n =
          subst (λ w. window (closed w) (length s) ≡ take 2 (t ++ s)) (sym e)
          (opens s t n (let k : length f ≡ length (s ++ t) = ap length e in omega (arith, long)))

      here : window (closed f) i ≡ take 2 r
      here =
          subst (λ k. window (closed f) k ≡ take 2 r) (length-take-le i f (omega (arith, within)))
          (at (take i f) (drop i f) (sym (take-append-drop i f)) (omega (arith, length-drop i f, within)))

      decided : (s t : List V) → f ≡ s ++ t → 1 ≤ length t → AtMost (slice_cmp cmp) r (t ++ s)
      decided s t e n =
          let p : IsRotation f (t ++ s) = (s, t, e, refl) in
          let k : length f ≡ length s + length t = ap length e ∙ length-append s t in
          two_decide r (t ++ s) (rotation_ring f r turned g) (omega (arith, rotation_length f (t ++ s) p, long))
          (rotation_trans r f (t ++ s) (rotation_back f r turned) p)
          (subst (λ w. is_lt (slice_cmp cmp w (take 2 r)) ≡ false) (at s t e n)
          (subst (λ w. is_lt (slice_cmp cmp (window (closed f) (length s)) w) ≡ false) here
          (b.least (length s) (omega (arith, closed_length f (omega (arith, long)), k, n)))))

      go : (s t : List V) → f ≡ s ++ t → m ≡ t ++ s → AtMost (slice_cmp cmp) r m
      go s [] e h =
          let k : f ≡ [] ++ f = refl in
          let mf : f ++ [] ≡ m = append_nil f ∙ e ∙ append_nil s ∙ sym h in
          subst (λ w. AtMost (slice_cmp cmp) r w) mf (decided [] f k (omega (arith, long)))
      go s (x ∷ t) e h = subst (λ w. AtMost (slice_cmp cmp) r w) (sym h) (decided s (x ∷ t) e (omega arith))

  -- the rotation that comes before no other is the least of all
  pub least_is : (f r : List V) → 1 ≤ length r → IsRotation f r → ((m : List V) → IsRotation f m → AtMost (slice_cmp cmp) r m) →
      r ≡ least_list (slice_cmp cmp) (rotations f)
  least_is f [] n q least = absurd (omega arith)
  least_is f (x ∷ l) n q least =
      let lo : IsTotalOrder (slice_cmp cmp) = lists_total o in
      let lsame : IsAntisymmetric (slice_cmp cmp) = slice_cmp-IsAntisymmetric same in
      let t = least_list_found (slice_cmp cmp) lo (rotations f) (x ∷ l) (rotation_listed f x l q) in
      at_most_same (slice_cmp cmp) lo lsame (x ∷ l) (least_list (slice_cmp cmp) (rotations f))
      (least (least_list (slice_cmp cmp) (rotations f)) (listed_rotation [] f (least_list (slice_cmp cmp) (rotations f)) t.0)) t.1
