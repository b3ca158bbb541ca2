-- Lists that stand, as the code tells it.
use Rattle.std.proofs.Common.{◌≡◌, ℕ, ◌<◌, Bool, true, false, cond, ◌↔◌, List, [], ◌∷◌, length, replicate, inl, inr, refl, sym, ap, ◌∙◌, subst, Option, Some, None, slice_get}
use Rattle.std.proofs.lemmas.Option.{slice_get_within}
use Rattle.grid.specs.declared.pos.Pos.{Pos}
use Rattle.lines.specs.Pairs.{position_eq}
use Rattle.lines.specs.Turned.{position_cmp}
use Rattle.lines.proofs.Positions.{position_refl, position_true}
use Rattle.theory.proofs.ArcNumbers.{along_get}
use Rattle.theory.proofs.ListsOfLists.{get_has}
use Rattle.theory.specs.ArcNumbers.{ArcRef, Uses}
use Rattle.theory.specs.Geometry.{IsLineOf}
use Rattle.theory.specs.Lists.{last_of}
use Rattle.theory.specs.Validity.{BeginsLeast, Runs}
use Rattle.arcs.specs.Arcs.{Arcs}
use Rattle.chains.specs.OfArcs.{table_as_map}
use Rattle.arcs.specs.Table.{free_at, is_loop_if}
use Rattle.chains.proofs.TablesAsMap.{has_open, open_has}
use Rattle.validate.specs.Lists.{GoesRound, IsValidLine, IsValidRing, none_free}
use Rattle.arcs.specs.ArcMarks.{each_unmarked}
use Rattle.validate.specs.ArcEnds.{from_to, line_ends}
use Rattle.arcs.specs.Ends.{ends_along}
use Rattle.validate.specs.Chaining.{run_from}
use Rattle.validate.specs.RingStarts.{starts_least}
use Rattle.arcs.proofs.SetMarks.{once_means, if_once}
use Rattle.arcs.proofs.EndsAlong.{run_ends}
use Rattle.validate.proofs.ChainedLists.{runs_from, starts_there}
use Rattle.validate.proofs.Starting.{least_means, if_least}

-- what runs uses arcs that there are
pub runs_within : {V : Type 0} (arcs : List (List V)) (v : V) (us : List ArcRef) (w : V) → Runs arcs v us w → (k : ℕ) → Uses k us → k < length arcs
runs_within arcs v [] w h k u = absurd u
runs_within {V} arcs v (a ∷ us) w (q, e, h) k (inl f) =
    let t = along_get arcs a (v ∷ q) e in
    subst (λ z. z < length arcs) (sym f) (slice_get_within arcs a.arc t.0 t.1)
runs_within arcs v (a ∷ us) w (q, e, h) k (inr u) = runs_within arcs (last_of v q) us w h k u

-- a list runs from one vertex to one vertex
pub one_run : (arcs : List (List Pos)) (us : List ArcRef) → ¬ (us ≡ []) → (v w y z : Pos) → Runs arcs v us w → Runs arcs y us z → (v ≡ y) × (w ≡ z)
one_run arcs us n v w y z h k =
    let p : Some v ≡ Some y = sym (starts_there arcs v us w n h) ∙ starts_there arcs y us z n k in
    let e : v ≡ y = cc in
    let q : Some w ≡ Some z = sym (runs_from arcs v us w h) ∙ ap (λ x. run_from arcs x us) e ∙ runs_from arcs y us z k in
    let f : w ≡ z = cc in
    (e, f)

-- where a list that runs begins and ends
last_ends : (arcs : List (List Pos)) (v : Pos) (a : ArcRef) (us : List ArcRef) (w : Pos) → Runs arcs v (a ∷ us) w → (x : Pos) × (ends_along arcs (last_of a us) ≡ Some (x, w))
last_ends arcs v a [] w (q, e, h) = (v, run_ends arcs a v q e ∙ ap (λ z. Some (v, z)) h)
last_ends arcs v a (b ∷ us) w (q, e, h) = last_ends arcs (last_of v q) b us w h

pub run_line_ends : (arcs : List (List Pos)) (us : List ArcRef) (v w : Pos) → ¬ (us ≡ []) → Runs arcs v us w → line_ends arcs us ≡ v ∷ (w ∷ [])
run_line_ends arcs [] v w n h = absurd (n refl)
run_line_ends arcs (a ∷ us) v w n h =
    let t = last_ends arcs v a us w h in
    λ i. from_to (run_ends arcs a v h.0 h.1 i) (t.1 i)

-- a list that ends where it begins
pub goes_means : (arcs : List (List Pos)) (us : List ArcRef) (v w : Pos) (b : Bool) → Runs arcs v us w → ¬ (us ≡ []) → b ≡ position_eq v w → (b ≡ true) ↔ GoesRound arcs us
goes_means arcs us v w b h n e = (
  (λ t. (n, v, subst (λ x. Runs arcs v us x) (sym (position_true v w (sym e ∙ t))) h)),
  (λ (m, u, k).
      let t = one_run arcs us n v w u u h k in
      let f : v ≡ w = t.0 ∙ sym t.1 in
      e ∙ subst (λ x. position_eq v x ≡ true) f (position_refl v)),
)

module _ (t : Arcs) where
  pub none_free_open : (us : List ArcRef) → none_free t us ≡ true → (k : ℕ) (c : List Pos) → Uses k us → slice_get t.arcs k ≡ Some c → IsLineOf (table_as_map t) c
  none_free_open [] e k c u s = absurd u
  none_free_open (a ∷ us) e k c u s = go (free_at t a.arc) refl e u (λ d i. none_free_open us d k c i s)
    where
      go : (b : Bool) → free_at t a.arc ≡ b → cond b false (none_free t us) ≡ true → Uses k (a ∷ us) → (none_free t us ≡ true → Uses k us → IsLineOf (table_as_map t) c) → IsLineOf (table_as_map t) c
      go true p e u ih = absurd cc
      go false p e (inr i) ih = ih e i
      go false p e (inl f) ih =
          let g : slice_get t.arcs a.arc ≡ Some c = ap (slice_get t.arcs) (sym f) ∙ s in
          has_open t.loops t.arcs c (get_has t.arcs k c s) (sym (ap (is_loop_if t.loops) g) ∙ p)

  pub open_none_free : (us : List ArcRef) → ((k : ℕ) (c : List Pos) → Uses k us → slice_get t.arcs k ≡ Some c → IsLineOf (table_as_map t) c) → none_free t us ≡ true
  open_none_free [] h = refl
  open_none_free (a ∷ us) h =
      ap (λ b. cond b false (none_free t us)) (go (slice_get t.arcs a.arc) refl) ∙ open_none_free us (λ k c u. h k c (inr u))
    where
      go : (o : Option (List Pos)) → slice_get t.arcs a.arc ≡ o → is_loop_if t.loops o ≡ false
      go None e = refl
      go (Some c) e = (open_has t.loops t.arcs c (h a.arc c (inl refl) e)).1

-- what is told of a line's list, in the code's order
module _ (t : Arcs) (n : ℕ) (size : n ≡ length t.arcs) (us : List ArcRef) where
  pub line_once : IsValidLine t.arcs (table_as_map t) us → each_unmarked (replicate n false) us ≡ true
  line_once k = once_means n us k.once (λ i u. subst (λ w. i < w) (sym size) (runs_within t.arcs k.runs.0 us k.runs.1 k.runs.2 i u))

  pub line_says : (v w : Pos) (b : Bool) → each_unmarked (replicate n false) us ≡ true → ¬ (us ≡ []) → Runs t.arcs v us w → b ≡ none_free t us →
      (b ≡ true) ↔ IsValidLine t.arcs (table_as_map t) us
  line_says v w b e some h f = (
    (λ k. record { some = some; runs = (v, w, h); once = if_once n us e; no_free = none_free_open t us (sym f ∙ k) }),
    (λ k. f ∙ open_none_free t us k.no_free),
  )

  pub ring_once : IsValidRing position_cmp t.arcs us → each_unmarked (replicate n false) us ≡ true
  ring_once k = once_means n us k.once (λ i u. subst (λ w. i < w) (sym size) (runs_within t.arcs k.round.0 us k.round.0 k.round.1 i u))

  some_least : (us : List ArcRef) → BeginsLeast position_cmp t.arcs us → ¬ (us ≡ [])
  some_least [] h e = h
  some_least (a ∷ us) h e = absurd cc

  pub ring_goes : IsValidRing position_cmp t.arcs us → GoesRound t.arcs us
  ring_goes k = (some_least us k.least, k.round.0, k.round.1)

  pub ring_says : (b : Bool) → each_unmarked (replicate n false) us ≡ true → GoesRound t.arcs us → b ≡ starts_least t.arcs us →
      (b ≡ true) ↔ IsValidRing position_cmp t.arcs us
  ring_says b e round f = (
    (λ k. record { round = (round.1, round.2); once = if_once n us e; least = least_means t.arcs us (sym f ∙ k) }),
    (λ k. f ∙ if_least t.arcs us k.least),
  )
