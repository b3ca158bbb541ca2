-- What stands in a list vertex by vertex: the first at a vertex, and those behind.
use Rattle.std.proofs.Common.{◌≡◌, zero, suc, Bool, true, false, cond, List, [], ◌∷◌, ◌++◌, take, drop, inl, inr, sym, ap, ◌∙◌, refl, subst}
use Rattle.std.specs.Cmp.{on_total}
use Rattle.std.specs.List.Sorted.{IsSorted}
use Rattle.std.specs.Ordering.{is_gt}
use Rattle.grid.specs.declared.pos.Pos.{Pos}
use Rattle.theory.specs.Lists.{Has}
use Rattle.lines.specs.ByVertex.{AreByVertex, count_at}
use Rattle.lines.specs.Pairs.{position_eq}
use Rattle.lines.specs.Positions.{position_total}
use Rattle.lines.specs.Turned.{position_cmp}
use Rattle.lines.proofs.Positions.{position_most, position_refl, position_true, true_false}
use Rattle.lines.proofs.SortedLists.{Up, up_from_sorted}

module _ {A : Type 0} (at : A → Pos) where
  -- the first that stand at v
  pub here_at : (v : Pos) (l : List A) (x : A) → Has x (take (count_at at v l) l) → at x ≡ v
  here_at v [] x h = absurd h
  here_at v (e ∷ l) x h = go (position_eq (at e) v) refl (here_at v l x) h
    where
      go : (b : Bool) → position_eq (at e) v ≡ b → (Has x (take (count_at at v l) l) → at x ≡ v) → Has x (take (cond b (suc (count_at at v l)) zero) (e ∷ l)) → at x ≡ v
      go true f on (inl i) = ap at i ∙ position_true (at e) v f
      go true f on (inr i) = on i
      go false f on i = absurd i

  -- those behind stand at others, where none is at a lesser vertex than v
  pub behind_at : (v : Pos) (l : List A) → ((x : A) → Has x l → is_gt (position_cmp v (at x)) ≡ false) → AreByVertex at l →
      (x : A) → Has x (drop (count_at at v l) l) → ¬ (at x ≡ v)
  behind_at v [] up g x h = absurd h
  behind_at v (e ∷ l) up g x h = go (position_eq (at e) v) refl (behind_at v l (λ y k. up y (inr k)) g.1 x) h
    where
      not_here : position_eq (at e) v ≡ false → Has x (e ∷ l) → ¬ (at x ≡ v)
      not_here f (inl i) k = true_false (position_eq (at e) v) (subst (λ w. position_eq w v ≡ true) (sym k ∙ ap at i) (position_refl v)) f
      not_here f (inr i) k =
          let same : at e ≡ v = position_most (at e) v (subst (λ w. is_gt (position_cmp (at e) w) ≡ false) k (g.0 x i)) (up e (inl refl)) in
          true_false (position_eq (at e) v) (subst (λ w. position_eq w v ≡ true) (sym same) (position_refl v)) f

      go : (b : Bool) → position_eq (at e) v ≡ b → (Has x (drop (count_at at v l) l) → ¬ (at x ≡ v)) →
          Has x (drop (cond b (suc (count_at at v l)) zero) (e ∷ l)) → ¬ (at x ≡ v)
      go true f on i = on i
      go false f on i = not_here f i

  pub are_behind : (xs ys : List A) → AreByVertex at (xs ++ ys) → AreByVertex at ys
  are_behind [] ys g = g
  are_behind (x ∷ xs) ys g = are_behind xs ys g.1

  pub sorted_hold : (l : List A) → IsSorted (λ x y. position_cmp (at x) (at y)) l → AreByVertex at l
  sorted_hold l s = go l (up_from_sorted (λ x y. position_cmp (at x) (at y)) (on_total at position_total) l s)
    where
      go : (l : List A) → Up (λ x y. position_cmp (at x) (at y)) l → AreByVertex at l
      go [] u = tt
      go (x ∷ l) u = (u.0, go l u.1)
