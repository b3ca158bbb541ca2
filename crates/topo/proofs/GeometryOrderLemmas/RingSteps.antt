-- The steps round a ring: from another vertex on, and from the least one.
use Rattle.std.proofs.Common.{◌≡◌, false, List, [], ◌∷◌, ◌++◌, inl, inr, refl, sym, ap, ◌∙◌, subst, append_assoc}
use Rattle.std.specs.Ordering.{is_gt, ordering_reverse, ordering_then}
use Rattle.std.specs.declared.cmp.Ordering.{Ordering}
use Rattle.std.specs.declared.cmp.Ordering.TheVariants.{Less, Equal, Greater}
use Rattle.grid.specs.declared.pos.Pos.{Pos}
use Rattle.lines.specs.Positions.{position_total}
use Rattle.lines.specs.Turned.{position_cmp, list_cmp, IsLeastRotation}
use Rattle.theory.proofs.Lists.{append_nil}
use Rattle.theory.specs.LinesAndRings.{IsRotation, closed}
use Rattle.theory.specs.Lists.{Has, Steps}
use Rattle.topo.proofs.GeometryOrderLemmas.StepLists.{itself, step_there, steps_from, steps_of, steps_parted}
use Rattle.arcs.specs.Steps.{step_cmp}
use Rattle.arcs.specs.declared.step.ArcStep.{ArcStep}

-- the steps round a rotation are the same, from another one on
pub rotated : (r q : List Pos) → IsRotation r q → (a : List ArcStep) × (b : List ArcStep) × (steps_of (closed r) ≡ a ++ b) × (steps_of (closed q) ≡ b ++ a)
rotated r q (s, t, e, f) =
    let k = go s t in
    (k.0, k.1, ap (λ w. steps_of (closed w)) e ∙ k.2, ap (λ w. steps_of (closed w)) f ∙ k.3)
  where
    go : (s t : List Pos) → (a : List ArcStep) × (b : List ArcStep) × (steps_of (closed (s ++ t)) ≡ a ++ b) × (steps_of (closed (t ++ s)) ≡ b ++ a)
    go [] t = ([], steps_of (closed t), refl, ap (λ w. steps_of (closed w)) (append_nil t) ∙ sym (append_nil (steps_of (closed t))))
    go (x ∷ s) [] = (steps_of (closed (x ∷ s)), [], ap (λ w. steps_of (closed (x ∷ w))) (append_nil s) ∙ sym (append_nil (steps_of (closed (x ∷ s)))), refl)
    go (x ∷ s) (y ∷ t) = (
      steps_from x (s ++ (y ∷ [])),
      steps_from y (t ++ (x ∷ [])),
      ap (steps_from x) (append_assoc s (y ∷ t) (x ∷ [])) ∙ steps_parted x y s (t ++ (x ∷ [])),
      ap (steps_from y) (append_assoc t (x ∷ s) (y ∷ [])) ∙ steps_parted y x t (s ++ (y ∷ [])),
    )

-- each step round a ring begins one of its rotations
pub step_begins : (u v x y : Pos) (l : List Pos) → Steps u v (closed (x ∷ (y ∷ l))) → (m : List Pos) × IsRotation (x ∷ (y ∷ l)) (u ∷ (v ∷ m))
step_begins u v x y l h = go [] (x ∷ (y ∷ l)) refl h
  where
    -- what is left of the ring behind s
    go : (s t : List Pos) → x ∷ (y ∷ l) ≡ s ++ t → Steps u v (t ++ (x ∷ [])) → (m : List Pos) × IsRotation (x ∷ (y ∷ l)) (u ∷ (v ∷ m))
    go s [] e (inl k) = absurd k.1
    go s [] e (inr k) = absurd k
    go s (a ∷ (b ∷ t)) e (inl k) =
        (t ++ s, (s, a ∷ (b ∷ t), e, (λ i. k.0 i ∷ (k.1 i ∷ (t ++ s)))))
    go [] (a ∷ []) e (inl k) = absurd cc
    go (c ∷ s) (a ∷ []) e (inl k) =
        let f : x ≡ c = cc in
        (s, (c ∷ s, a ∷ [], e, (λ i. k.0 i ∷ ((k.1 ∙ f) i ∷ s))))
    go s (a ∷ t) e (inr k) = go (s ++ (a ∷ [])) t (e ∙ sym (append_assoc s (a ∷ []) t)) k

not_gt : (a b c : Ordering) → is_gt (ordering_then a (ordering_then b c)) ≡ false → is_gt (ordering_then a b) ≡ false
not_gt Less b c e = refl
not_gt Equal Less c e = refl
not_gt Equal Equal c e = refl
not_gt Equal Greater c e = absurd cc
not_gt Greater b c e = absurd cc

-- the first step of the least rotation is the least step round the ring
pub first_least : (x y : Pos) (l : List Pos) → IsLeastRotation (x ∷ (y ∷ l)) → (s : ArcStep) → Has s (steps_of (closed (x ∷ (y ∷ l)))) →
    is_gt (step_cmp (record { from = x; to = y }) s) ≡ false
first_least x y l least s h =
    let k = step_begins s.from s.to x y l (step_there s x (y ∷ (l ++ (x ∷ []))) h) in
    not_gt (position_cmp x s.from) (position_cmp y s.to) (list_cmp l k.0) (least (s.from ∷ (s.to ∷ k.0)) k.1)

first_not_gt : (a b : Ordering) → is_gt (ordering_then a b) ≡ false → is_gt a ≡ false
first_not_gt Less b e = refl
first_not_gt Equal b e = refl
first_not_gt Greater b e = absurd cc

-- no vertex comes before the first of the least rotation
pub vertex_behind : (x : Pos) (l : List Pos) → IsLeastRotation (x ∷ l) → (v : Pos) → Has v (x ∷ l) → is_gt (position_cmp x v) ≡ false
vertex_behind x l least v h = go [] (x ∷ l) refl h
  where
    go : (s t : List Pos) → x ∷ l ≡ s ++ t → Has v t → is_gt (position_cmp x v) ≡ false
    go s [] e h = absurd h
    go s (a ∷ t) e (inl k) =
        subst (λ w. is_gt (position_cmp x w) ≡ false) (sym k)
        (first_not_gt (position_cmp x a) (list_cmp l (t ++ s)) (least (a ∷ (t ++ s)) (s, a ∷ t, e, refl)))
    go s (a ∷ t) e (inr h) = go (s ++ (a ∷ [])) t (e ∙ sym (append_assoc s (a ∷ []) t)) h

first_counts : (a : Ordering) → is_gt a ≡ false → Less ≡ ordering_then a Less
first_counts Less e = refl
first_counts Equal e = refl
first_counts Greater e = absurd cc

greater : (x a : Pos) → is_gt (position_cmp x a) ≡ false → Greater ≡ ordering_then (position_cmp a x) Greater
greater x a e = go (position_cmp x a) e (position_total.antisymm a x)
  where
    go : (o : Ordering) → is_gt o ≡ false → position_cmp a x ≡ ordering_reverse o → Greater ≡ ordering_then (position_cmp a x) Greater
    go Less e f = ap (λ o. ordering_then o Greater) (sym f)
    go Equal e f = ap (λ o. ordering_then o Greater) (sym f)
    go Greater e f = absurd cc

-- one more position at the end of both, before which none of theirs comes, changes nothing
pub ended_alike : (x : Pos) (k l : List Pos) → ((v : Pos) → Has v k → is_gt (position_cmp x v) ≡ false) → ((v : Pos) → Has v l → is_gt (position_cmp x v) ≡ false) →
    list_cmp k l ≡ list_cmp (k ++ (x ∷ [])) (l ++ (x ∷ []))
ended_alike x [] [] f g = sym (ap (λ o. ordering_then o Equal) (itself x))
ended_alike x [] (b ∷ []) f g = first_counts (position_cmp x b) (g b (inl refl))
ended_alike x [] (b ∷ (c ∷ l)) f g = first_counts (position_cmp x b) (g b (inl refl))
ended_alike x (a ∷ []) [] f g = greater x a (f a (inl refl))
ended_alike x (a ∷ (c ∷ k)) [] f g = greater x a (f a (inl refl))
ended_alike x (a ∷ k) (b ∷ l) f g = ap (ordering_then (position_cmp a b)) (ended_alike x k l (λ v h. f v (inr h)) (λ v h. g v (inr h)))
