-- Lists of used arcs run on exactly where their ends say so.
use Rattle.std.proofs.Common.{◌≡◌, Bool, true, false, cond, List, [], ◌∷◌, refl, sym, ap, ◌∙◌, subst, Option, Some, None}
use Rattle.grid.specs.declared.pos.Pos.{Pos}
use Rattle.lines.specs.Pairs.{position_eq}
use Rattle.lines.proofs.Positions.{position_refl, position_true}
use Rattle.theory.specs.ArcNumbers.{ArcRef}
use Rattle.theory.specs.Lists.{last_of}
use Rattle.theory.specs.Validity.{Runs}
use Rattle.arcs.specs.Ends.{ends_along, first_end}
use Rattle.arcs.proofs.EndsAlong.{ends_run, run_ends}
use Rattle.validate.specs.Chaining.{gone_on, next_from, run_from, start_of}

next_is : (here : Pos) (o : Option (Pos × Pos)) (w : Pos) → next_from here o ≡ Some w → o ≡ Some (here, w)
next_is here None w e = absurd cc
next_is here (Some (x, y)) w e = go (position_eq x here) refl e
  where
    go : (b : Bool) → position_eq x here ≡ b → cond b (Some y) None ≡ Some w → ◌≡◌ {A = Option (Pos × Pos)} (Some (x, y)) (Some (here, w))
    go true p e =
        let k : y ≡ w = cc in
        let f : x ≡ here = position_true x here p in
        λ i. Some (f i, k i)
    go false p e = absurd cc

is_next : (here w : Pos) → next_from here (Some (here, w)) ≡ Some w
is_next here w = ap (λ b. cond b (Some w) None) (position_refl here)

-- where used arcs run to
pub from_runs : (arcs : List (List Pos)) (v : Pos) (refs : List ArcRef) (w : Pos) → run_from arcs v refs ≡ Some w → Runs arcs v refs w
from_runs arcs v [] w e = (let k : v ≡ w = cc in k)
from_runs arcs v (a ∷ refs) w e = go (next_from v (ends_along arcs a)) refl e (λ u. from_runs arcs u refs w)
  where
    go : (o : Option Pos) → next_from v (ends_along arcs a) ≡ o → gone_on o (λ u. run_from arcs u refs) ≡ Some w →
        ((u : Pos) → run_from arcs u refs ≡ Some w → Runs arcs u refs w) → Runs arcs v (a ∷ refs) w
    go None p e ih = absurd cc
    go (Some u) p e ih =
        let t = ends_run arcs a v u (next_is v (ends_along arcs a) u p) in
        (t.0, t.1, subst (λ z. Runs arcs z refs w) (sym t.2) (ih u e))

pub runs_from : (arcs : List (List Pos)) (v : Pos) (refs : List ArcRef) (w : Pos) → Runs arcs v refs w → run_from arcs v refs ≡ Some w
runs_from arcs v [] w h = ap Some h
runs_from arcs v (a ∷ refs) w (q, e, h) =
    ap (λ o. gone_on (next_from v o) (λ u. run_from arcs u refs)) (run_ends arcs a v q e)
    ∙ ap (λ o. gone_on o (λ u. run_from arcs u refs)) (is_next v (last_of v q))
    ∙ runs_from arcs (last_of v q) refs w h

-- a list that runs begins where its first arc does
pub starts_there : (arcs : List (List Pos)) (v : Pos) (refs : List ArcRef) (w : Pos) → ¬ (refs ≡ []) → Runs arcs v refs w → start_of arcs refs ≡ Some v
starts_there arcs v [] w n h = absurd (n refl)
starts_there arcs v (a ∷ refs) w n (q, e, h) = ap first_end (run_ends arcs a v q e)

-- a list that begins nowhere, or stops on its way, doesn't run
pub none_starts : (arcs : List (List Pos)) (refs : List ArcRef) → start_of arcs refs ≡ None → (v w : Pos) → ¬ (refs ≡ []) → ¬ Runs arcs v refs w
none_starts arcs refs e v w n h =
    let k : Some v ≡ None = sym (starts_there arcs v refs w n h) ∙ e in absurd cc

pub none_runs : (arcs : List (List Pos)) (refs : List ArcRef) (u : Pos) → start_of arcs refs ≡ Some u → run_from arcs u refs ≡ None →
    (v w : Pos) → ¬ (refs ≡ []) → ¬ Runs arcs v refs w
none_runs arcs refs u s e v w n h =
    let p : Some u ≡ Some v = sym s ∙ starts_there arcs v refs w n h in
    let q : u ≡ v = cc in
    let k : None ≡ Some w = sym e ∙ ap (λ z. run_from arcs z refs) q ∙ runs_from arcs v refs w h in absurd cc
