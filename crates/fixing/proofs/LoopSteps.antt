-- The steps of the walk round a ring.
use Rattle.std.proofs.Common.{◌≡◌, ℕ, ◌+◌, ◌<◌, ◌≤◌, zero, suc, get_or, nat_lt, Result, Ok, Err, OnOk, Bool, true, false, cond, List, [], ◌∷◌, ◌++◌, ◌⊎◌, inl, inr, length, take, drop, refl, sym, ap, ◌∙◌, subst, append_assoc, arith, Option, Some, None, slice_get}
use borrow.Author.Tests.{ltb-true, ltb-false}
use Rattle.std.specs.Option.{option_map}
use Rattle.std.specs.Ordering.{is_eq}
use Rattle.grid.specs.declared.pos.Pos.{Pos}
use Rattle.lines.specs.Pairs.{position_eq}
use Rattle.lines.specs.Turned.{position_cmp}
use Rattle.lines.proofs.Dropping.{item_at}
use Rattle.lines.proofs.Positions.{position_apart, position_true, tied_position, true_false, true_position}
use Rattle.theory.specs.TopologyFunction.{some}
use Rattle.fixing.specs.Loops.{loop_kept, loops_of, loops_on, path_from, path_to, place_on}

-- what the place of a position tells of a path
pub record IsPlaced (p : Pos) (path : List Pos) (k : ℕ) : Type 0 where
  pub within : k < length path
  pub is : slice_get path k ≡ Some p
  pub met : some (position_eq p) path ≡ true
  pub to : take (k + 1) path ≡ path_to p path
  pub from : drop k path ≡ path_from p path

first_placed : (p q : Pos) (l : List Pos) → position_eq p q ≡ true → IsPlaced p (q ∷ l) zero
first_placed p q l e = record {
  within = omega arith;
  is = ap Some (sym (position_true p q e));
  met = ap (λ b. cond b true (some (position_eq p) l)) e;
  to = sym (ap (λ b. cond b (q ∷ []) (q ∷ path_to p l)) e);
  from = sym (ap (λ b. cond b (q ∷ l) (path_from p l)) e);
}

later_placed : (p q : Pos) (l : List Pos) (k : ℕ) → position_eq p q ≡ false → IsPlaced p l k → IsPlaced p (q ∷ l) (suc k)
later_placed p q l k e h =
    let n : suc k + 1 ≡ suc (k + 1) = omega arith in
    record {
      within = (let m = h.within in omega arith);
      is = h.is;
      met = ap (λ b. cond b true (some (position_eq p) l)) e ∙ h.met;
      to = ap (λ m. take m (q ∷ l)) n ∙ ap (λ w. q ∷ w) h.to ∙ sym (ap (λ b. cond b (q ∷ []) (q ∷ path_to p l)) e);
      from = h.from ∙ sym (ap (λ b. cond b (q ∷ l) (path_from p l)) e);
    }

pub placed : (p : Pos) (path : List Pos) (k : ℕ) → place_on p path ≡ Some k → IsPlaced p path k
placed p [] k e = absurd cc
placed p (q ∷ l) k e = go (position_eq p q) refl (place_on p l) (placed p l) e
  where
    go : (b : Bool) → position_eq p q ≡ b → (o : Option ℕ) → ((j : ℕ) → o ≡ Some j → IsPlaced p l j) →
        cond b (Some zero) (option_map (λ j. suc j) o) ≡ Some k → IsPlaced p (q ∷ l) k
    go true t o ih f = let z : zero ≡ k = cc in subst (IsPlaced p (q ∷ l)) z (first_placed p q l t)
    go false t None ih f = absurd cc
    go false t (Some j) ih f = let z : suc j ≡ k = cc in subst (IsPlaced p (q ∷ l)) z (later_placed p q l j t (ih j refl))

-- what it tells that there is none
pub record IsNew (p : Pos) (path : List Pos) : Type 0 where
  pub not_met : some (position_eq p) path ≡ false
  pub nowhere : (k : ℕ) → ¬ (slice_get path k ≡ Some p)

pub unplaced : (p : Pos) (path : List Pos) → place_on p path ≡ None → IsNew p path
unplaced p [] e = record { not_met = refl; nowhere = λ k h. cc }
unplaced p (q ∷ l) e = go (position_eq p q) refl (place_on p l) (unplaced p l) e
  where
    go : (b : Bool) → position_eq p q ≡ b → (o : Option ℕ) → (o ≡ None → IsNew p l) →
        cond b (Some zero) (option_map (λ j. suc j) o) ≡ None → IsNew p (q ∷ l)
    go true t o ih f = absurd cc
    go false t (Some j) ih f = absurd cc
    go false t None ih f = record {
      not_met = ap (λ b. cond b true (some (position_eq p) l)) t ∙ (ih refl).not_met;
      nowhere = λ k. elsewhere k;
    }
      where
        elsewhere : (k : ℕ) → ¬ (slice_get (q ∷ l) k ≡ Some p)
        elsewhere zero h = let s : p ≡ q = cc in true_false (position_eq p q) (true_position p q s) t
        elsewhere (suc k) h = (ih refl).nowhere k h

-- each position of the path is noted with its place there
abbrev pub Notes : (Pos → Option ℕ) → List Pos → Type 0
Notes noted path = (k : ℕ) (p : Pos) → slice_get path k ≡ Some p → noted p ≡ Some k

-- a note that the path bears out
pub recorded_place : (noted : Pos → Option ℕ) (path : List Pos) (p : Pos) (k : ℕ) → Notes noted path → slice_get path k ≡ Some p → Some k ≡ place_on p path
recorded_place noted path p k notes e = go (place_on p path) refl
  where
    go : (o : Option ℕ) → place_on p path ≡ o → Some k ≡ o
    go None f = absurd ((unplaced p path f).nowhere k e)
    go (Some j) f = sym (notes k p e) ∙ notes j p (placed p path j f).is

-- no note that it bears out
pub no_place : (noted : Pos → Option ℕ) (path : List Pos) (p : Pos) → Notes noted path → ((k : ℕ) → noted p ≡ Some k → ¬ (slice_get path k ≡ Some p)) →
    None ≡ place_on p path
no_place noted path p notes not_there = go (place_on p path) refl
  where
    go : (o : Option ℕ) → place_on p path ≡ o → None ≡ o
    go None f = refl
    go (Some j) f = let h = (placed p path j f).is in absurd (not_there j (notes j p h) h)

get_taken : (n : ℕ) (path : List Pos) (k : ℕ) (p : Pos) → slice_get (take n path) k ≡ Some p → slice_get path k ≡ Some p
get_taken zero path k p e = absurd cc
get_taken (suc n) [] k p e = absurd cc
get_taken (suc n) (q ∷ l) zero p e = e
get_taken (suc n) (q ∷ l) (suc k) p e = get_taken n l k p e

get_pushed : (path : List Pos) (n : Pos) (k : ℕ) (p : Pos) → slice_get (path ++ (n ∷ [])) k ≡ Some p → (slice_get path k ≡ Some p) ⊎ ((k ≡ length path) × (n ≡ p))
get_pushed [] n zero p e = inr (refl, cc)
get_pushed [] n (suc k) p e = absurd cc
get_pushed (q ∷ l) n zero p e = inl e
get_pushed (q ∷ l) n (suc k) p e = elim (get_pushed l n k p e) [ inl h ↦ inl h | inr h ↦ inr (ap (λ j. suc j) h.0, h.1) ]

-- the notes of a path that is cut short
pub records_cut : (noted : Pos → Option ℕ) (path shorter : List Pos) (n : ℕ) → shorter ≡ take n path → Notes noted path → Notes noted shorter
records_cut noted path shorter n e notes k p h = notes k p (get_taken n path k p (subst (λ w. slice_get w k ≡ Some p) e h))

-- the notes of a path with one position more
pub records_more : (noted more : Pos → Option ℕ) (path longer : List Pos) (next : Pos) (n : ℕ) → place_on next path ≡ None →
    ((q : Pos) → more q ≡ cond (is_eq (position_cmp next q)) (Some n) (noted q)) → n ≡ length path → longer ≡ path ++ (next ∷ []) →
    Notes noted path → Notes more longer
records_more noted more path longer next n none with_next count made notes k p h =
    elim (get_pushed path next k p (subst (λ w. slice_get w k ≡ Some p) made h)) [
      | inl e ↦
          with_next p
          ∙ ap (λ b. cond b (Some n) (noted p)) (position_apart next p (λ s. (unplaced next path none).nowhere k (subst (λ w. slice_get path k ≡ Some w) s e)))
          ∙ notes k p e
      | inr t ↦ with_next p ∙ ap (λ b. cond b (Some n) (noted p)) (tied_position next p t.1) ∙ ap Some (count ∙ sym t.0)
    ]

-- on to a position that the path has
pub step_cut : (loops more : List (List Pos)) (path shorter l : List Pos) (p : Pos) (k : ℕ) → Some k ≡ place_on p path →
    more ≡ loops ++ loop_kept (drop k path ++ (p ∷ [])) → shorter ≡ take (k + 1) path → more ++ loops_on shorter l ≡ loops ++ loops_on path (p ∷ l)
step_cut loops more path shorter l p k e cut left =
    let at = placed p path k (sym e) in
    (λ i. cut i ++ loops_on (left i) l)
    ∙ append_assoc loops (loop_kept (drop k path ++ (p ∷ []))) (loops_on (take (k + 1) path) l)
    ∙ ap (λ w. loops ++ w)
    ((λ i. loop_kept (at.from i ++ (p ∷ [])) ++ loops_on (at.to i) l)
    ∙ sym (ap (λ b. cond b (loop_kept (path_from p path ++ (p ∷ [])) ++ loops_on (path_to p path) l) (loops_on (path ++ (p ∷ [])) l)) at.met))

-- on to a position that the path has not
pub step_on : (loops : List (List Pos)) (path longer l : List Pos) (p : Pos) → None ≡ place_on p path → longer ≡ path ++ (p ∷ []) →
    loops ++ loops_on longer l ≡ loops ++ loops_on path (p ∷ l)
step_on loops path longer l p e made =
    ap (λ w. loops ++ w)
    (ap (λ w. loops_on w l) made
    ∙ sym (ap (λ b. cond b (loop_kept (path_from p path ++ (p ∷ [])) ++ loops_on (path_to p path) l) (loops_on (path ++ (p ∷ [])) l)) (unplaced p path (sym e)).not_met))

-- the walk that has not begun
pub begun : (loops : List (List Pos)) (path : List Pos) → loops ≡ [] → path ≡ [] → (l : List Pos) → loops ++ loops_on path l ≡ loops_of l
unfolding loops_of
begun loops path none empty l = λ i. none i ++ loops_on (empty i) l

none_past : (path : List Pos) (k : ℕ) (p : Pos) → length path ≤ k → ¬ (slice_get path k ≡ Some p)
none_past [] k p n h = cc
none_past (q ∷ l) zero p n h = omega arith
none_past (q ∷ l) (suc k) p n h = none_past l k p (omega (arith, n)) h

-- the only place that is noted is past the path, or another stands there
pub other_index : (noted : Pos → Option ℕ) (path : List Pos) (p : Pos) (k : ℕ) → Notes noted path → Some k ≡ noted p → ¬ (slice_get path k ≡ Some p) → None ≡ place_on p path
other_index noted path p k notes e n =
    no_place noted path p notes (λ j f h. n (let s : j ≡ k = cc in subst (λ i. slice_get path i ≡ Some p) s h))

pub place_past : (noted : Pos → Option ℕ) (path seen : List Pos) (p : Pos) (k : ℕ) → Notes noted path → Some k ≡ noted p → seen ≡ path → false ≡ nat_lt k (length seen) →
    None ≡ place_on p path
place_past noted path seen p k notes e is b =
    let n = ltb-false k (length seen) (sym b) in
    other_index noted path p k notes e (none_past path k p (subst (λ w. length w ≤ k) is n))

-- what stands at a place of the path
pub stands : (path seen : List Pos) (k : ℕ) (met : Pos) → seen ≡ path → true ≡ nat_lt k (length seen) → met ≡ get_or seen k met → slice_get path k ≡ Some met
stands path seen k met is b e =
    let n = ltb-true k (length seen) (sym b) in
    subst (λ w. slice_get w k ≡ Some met) is (item_at seen k met n e)

pub place_other : (noted : Pos → Option ℕ) (path : List Pos) (p met : Pos) (k : ℕ) → Notes noted path → Some k ≡ noted p → slice_get path k ≡ Some met →
    position_eq met p ≡ false → None ≡ place_on p path
place_other noted path p met k notes e at f =
    other_index noted path p k notes e (λ h. let s : met ≡ p = cc in true_false (position_eq met p) (true_position met p s) f)

pub place_same : (noted : Pos → Option ℕ) (path : List Pos) (p met : Pos) (k : ℕ) → Notes noted path → slice_get path k ≡ Some met → position_eq met p ≡ true →
    Some k ≡ place_on p path
place_same noted path p met k notes at t = recorded_place noted path p k notes (at ∙ ap Some (position_true met p t))

-- on to a position that the path has, where the steps may fail
pub cut_means : {T E : Type 0} (r : Result T E) (loops more : List (List Pos)) (path shorter : List Pos) (p : Pos) (k : ℕ) → Some k ≡ place_on p path →
    OnOk r (more ≡ loops ++ loop_kept (drop k path ++ (p ∷ []))) → OnOk r (shorter ≡ take (k + 1) path) →
    OnOk r ((l : List Pos) → more ++ loops_on shorter l ≡ loops ++ loops_on path (p ∷ l))
cut_means (Ok u) loops more path shorter p k e cut left = λ l. step_cut loops more path shorter l p k e cut left
cut_means (Err x) loops more path shorter p k e cut left = tt

pub records_means : {T E : Type 0} (r : Result T E) (noted now : Pos → Option ℕ) (path shorter : List Pos) (n : ℕ) → ((q : Pos) → now q ≡ noted q) →
    OnOk r (shorter ≡ take n path) → Notes noted path → OnOk r (Notes now shorter)
records_means (Ok u) noted now path shorter n same e notes = λ k p h. same p ∙ records_cut noted path shorter n e notes k p h
records_means (Err x) noted now path shorter n same e notes = tt
