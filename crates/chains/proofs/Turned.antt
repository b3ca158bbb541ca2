-- The ring begun at its least start is turned.
use Rattle.std.proofs.Common.{◌≡◌, ℕ, ◌≤◌, Bool, true, false, not, List, [], ◌∷◌, ◌++◌, length, inl, inr, refl, sym, ap, ◌∙◌, subst, arith}
use Rattle.std.specs.Cmp.{tied_itself}
use Rattle.std.specs.Ordering.{is_gt, bool_cmp, ordering_then}
use Rattle.std.specs.declared.cmp.Ordering.{Ordering}
use Rattle.std.specs.declared.cmp.Ordering.TheVariants.{Less, Equal, Greater}
use Rattle.std.specs.Cmp.Lexicographic.{slice_cmp}
use Rattle.grid.specs.declared.pos.Pos.{Pos}
use Rattle.lines.specs.Turned.{position_cmp}
use Rattle.theory.specs.Lists.{Has}
use Rattle.chains.specs.Starts.{start_of, start_cmp, start_index}
use Rattle.lines.specs.Positions.{position_total, position_same}
use Rattle.theory.specs.LinesAndRings.{IsRing, IsRotation}
use Rattle.theory.specs.Geometry.{AtMost}
use Rattle.theory.specs.Seam.{IsSeamOf, IsTurned}
use Rattle.theory.proofs.Lists.{Has-append_right, Has-split, append_nil}
use Rattle.theory.proofs.Rotations.{least_second}
use Rattle.theory.proofs.Turning.{stop_means}
use Rattle.chains.proofs.Openings.{LeastAt, Opening, starts_list, head_or, index_least, opening, start_there}

pub then_head : (r s : Ordering) → is_gt (ordering_then r s) ≡ false → is_gt r ≡ false
then_head Less s e = refl
then_head Equal s e = refl
then_head Greater s e = e

then_tail : (r s : Ordering) → r ≡ Equal → is_gt (ordering_then r s) ≡ false → is_gt s ≡ false
then_tail r s p e = subst (λ w. is_gt (ordering_then w s) ≡ false) p e

-- both are stops, or both are none
pub same_kind : (b c : Bool) (d : Ordering) → b ≡ c → is_gt (ordering_then (bool_cmp (not b) (not c)) d) ≡ false → is_gt d ≡ false
same_kind true true d e h = h
same_kind true false d e h = absurd cc
same_kind false true d e h = absurd cc
same_kind false false d e h = h

-- where the least is no stop, there is none
pub no_other : (b c : Bool) (d : Ordering) → b ≡ false → is_gt (ordering_then (bool_cmp (not b) (not c)) d) ≡ false → c ≡ false
no_other true c d e h = absurd cc
no_other false true d e h = absurd cc
no_other false false d e h = refl

-- the place behind the first vertex of a rotation
second : (q x : Pos) (rest s t : List Pos) → q ∷ rest ≡ s ++ (x ∷ t) → 2 ≤ length (q ∷ rest) →
    (l : List Pos) × (t ++ s ≡ head_or q t ∷ l)
second q x rest [] [] e n =
    let k : 2 ≤ length (x ∷ []) = subst (λ w. 2 ≤ length w) e n in absurd (omega arith)
second q x rest (a ∷ s) [] e n = (s, (let k : q ∷ rest ≡ a ∷ (s ++ (x ∷ [])) = e in let h : a ≡ q = cc in ap (λ w. w ∷ s) h))
second q x rest s (z ∷ t) e n = (t ++ s, refl)

module _ (J : Pos → Type 0) (stop : Pos → Bool) (stops : (v : Pos) → stop v ≡ true → J v) (passes : (v : Pos) → stop v ≡ false → ¬ J v) where
  -- the start of each rotation is among the starts
  rotation_start : (q : Pos) (rest : List Pos) (x z : Pos) (m : List Pos) → IsRotation (q ∷ rest) (x ∷ (z ∷ m)) →
      Has (start_of stop x z) (starts_list stop q (q ∷ rest))
  rotation_start q rest x z m (s, [], e, f) =
      let g : q ∷ rest ≡ x ∷ (z ∷ m) = e ∙ append_nil s ∙ sym f in
      subst (λ w. Has (start_of stop x z) (starts_list stop q w)) (sym g) (inl refl)
  rotation_start q rest x z m (s, a ∷ [], e, f) =
      let k : x ∷ (z ∷ m) ≡ a ∷ s = f in
      let xa : x ≡ a = cc in
      let zs : z ∷ m ≡ s = cc in
      let g : q ∷ rest ≡ (z ∷ m) ++ (x ∷ []) = e ∙ (λ i. sym zs i ++ (sym xa i ∷ [])) in
      let qz : q ≡ z = (let h : q ∷ rest ≡ z ∷ (m ++ (x ∷ [])) = g in cc) in
      subst (λ w. Has (start_of stop x w) (starts_list stop q (q ∷ rest))) qz
      (subst (λ w. Has (start_of stop x q) (starts_list stop q w)) (sym g) (start_there stop q (z ∷ m) x []))
  rotation_start q rest x z m (s, a ∷ (b ∷ t), e, f) =
      let k : x ∷ (z ∷ m) ≡ a ∷ (b ∷ (t ++ s)) = f in
      let xa : x ≡ a = cc in
      let zb : z ≡ b = cc in
      let g : q ∷ rest ≡ s ++ (x ∷ (z ∷ t)) = e ∙ (λ i. s ++ (sym xa i ∷ (sym zb i ∷ t))) in
      subst (λ w. Has (start_of stop x z) (starts_list stop q w)) (sym g) (start_there stop q s x (z ∷ t))

  -- how the ring is turned
  pub record TurnedAt (r : List Pos) (i : ℕ) : Type 0 where
    pub first : Pos
    pub before : List Pos
    pub behind : List Pos
    pub parted : r ≡ before ++ (first ∷ behind)
    pub place : i ≡ length before
    pub turned : IsTurned position_cmp J r first (behind ++ before)
    pub free : stop first ≡ false → ((v : Pos) → Has v r → ¬ J v) × ((v : Pos) → Has v r → AtMost position_cmp first v)

  pub turned_at : (x y : Pos) (l : List Pos) → IsRing (x ∷ (y ∷ l)) → TurnedAt (x ∷ (y ∷ l)) (start_index stop (x ∷ (y ∷ l)))
  turned_at x y l g = record {
    first = f;
    before = o.left;
    behind = o.right;
    parted = o.parted;
    place = k.place ∙ sym o.place;
    turned = record { rotation = turn; seam = seam (stop f) refl; least = least };
    free = alone;
  }
    where
      r : List Pos
      r = x ∷ (y ∷ l)

      k : LeastAt (starts_list stop x r) (start_index stop r)
      k = index_least stop x y l

      o : Opening stop x r k.before k.here
      o = opening stop x x (y ∷ l) k.before k.here k.behind k.parted

      f : Pos
      f = o.vertex

      next : Pos
      next = head_or x o.right

      below : (u z : Pos) → Has (start_of stop u z) (starts_list stop x r) → is_gt (start_cmp (start_of stop f next) (start_of stop u z)) ≡ false
      below u z h = subst (λ w. is_gt (start_cmp w (start_of stop u z)) ≡ false) o.is (k.least (start_of stop u z) h)

      there : (u : Pos) → Has u r → (z : Pos) × Has (start_of stop u z) (starts_list stop x r)
      there u h =
          let p = Has-split u r h in
          (head_or x p.1, subst (λ w. Has (start_of stop u (head_or x p.1)) (starts_list stop x w)) (sym p.2) (start_there stop x p.0 u p.1))

      turn : IsRotation r (f ∷ (o.right ++ o.left))
      turn = (o.left, f ∷ o.right, o.parted, refl)

      is_there : Has f r
      is_there = subst (λ w. Has f w) (sym o.parted) (Has-append_right f o.left (f ∷ o.right) (inl refl))

      most : (u : Pos) → Has u r → stop f ≡ stop u → AtMost position_cmp f u
      most u h e =
          let t = there u h in
          then_head (position_cmp f u) (position_cmp next t.0)
          (same_kind (stop f) (stop u) (ordering_then (position_cmp f u) (position_cmp next t.0)) e (below u t.0 t.1))

      none : stop f ≡ false → (u : Pos) → Has u r → stop u ≡ false
      none e u h =
          let t = there u h in
          no_other (stop f) (stop u) (ordering_then (position_cmp f u) (position_cmp next t.0)) e (below u t.0 t.1)

      alone : stop f ≡ false → ((v : Pos) → Has v r → ¬ J v) × ((v : Pos) → Has v r → AtMost position_cmp f v)
      alone e = ((λ v h. passes v (none e v h)), (λ v h. most v h (e ∙ sym (none e v h))))

      seam : (b : Bool) → stop f ≡ b → IsSeamOf position_cmp J r f
      seam true e = inl (record { there = is_there; has_it = stops f e; least = λ u h j. most u h (e ∙ sym (stop_means J stop passes u j)) })
      seam false e = inr ((alone e).0, record { there = is_there; has_it = tt; least = λ u h j. (alone e).1 u h })

      least : (m : List Pos) → IsRotation r (f ∷ m) → AtMost (slice_cmp position_cmp) (f ∷ (o.right ++ o.left)) (f ∷ m)
      least =
          let s = second x f (y ∷ l) o.left o.right o.parted (let n : 3 ≤ length (x ∷ (y ∷ l)) = g.long in omega arith) in
          subst (λ w. (m : List Pos) → IsRotation r (f ∷ m) → AtMost (slice_cmp position_cmp) (f ∷ w) (f ∷ m)) (sym s.1)
          (least_second position_cmp position_total position_same r f next s.0 g
          (subst (λ w. IsRotation r (f ∷ w)) s.1 turn)
          (λ z m h.
          then_tail (position_cmp f f) (position_cmp next z) (tied_itself position_total f)
          (same_kind (stop f) (stop f) (ordering_then (position_cmp f f) (position_cmp next z)) refl (below f z (rotation_start x (y ∷ l) f z m h)))))
