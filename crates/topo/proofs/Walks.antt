-- Walking from the back, and what a list of arcs that stitches is walked to.
use Rattle.std.proofs.Common.{◌≡◌, List, [], ◌∷◌, ◌++◌, drop, refl, sym, ap, ◌∙◌, append_assoc, unwrap_or}
use Rattle.theory.specs.ArcNumbers.{ArcRef, StitchFrom, StitchTo}
use Rattle.theory.specs.Lists.{last_of}
use Rattle.grid.specs.declared.pos.Pos.{Pos}
use Rattle.topo.specs.Walked.{run_of, behind, walked}

append_nil : {A : Type 0} (l : List A) → l ++ [] ≡ l
append_nil [] = refl
append_nil (x ∷ l) = ap (λ w. x ∷ w) (append_nil l)

-- the last arc's positions come last
behind_last : (arcs : List (List Pos)) (rest : List ArcRef) (a : ArcRef) → behind arcs (rest ++ (a ∷ [])) ≡ behind arcs rest ++ drop 1 (run_of arcs a)
behind_last arcs [] a = append_nil (drop 1 (run_of arcs a))
behind_last arcs (b ∷ rest) a =
    ap (λ w. drop 1 (run_of arcs b) ++ w) (behind_last arcs rest a) ∙ sym (append_assoc (drop 1 (run_of arcs b)) (behind arcs rest) (drop 1 (run_of arcs a)))

-- the next arc from the back
pub back_step : (arcs : List (List Pos)) (front : List Pos) (refs rest : List ArcRef) (a : ArcRef) (old new : List Pos) (left : List Pos) →
    front ++ (behind arcs refs ++ old) ≡ left → old ≡ [] → refs ≡ rest ++ (a ∷ []) → new ≡ drop 1 (run_of arcs a) →
    front ++ (behind arcs rest ++ new) ≡ left
back_step arcs front refs rest a old new left h e f n =
    ap (λ w. front ++ w)
    (ap (λ w. behind arcs rest ++ w) n ∙ sym (behind_last arcs rest a) ∙ ap (behind arcs) (sym f) ∙ sym (append_nil (behind arcs refs)) ∙ ap (λ w. behind arcs refs ++ w) (sym e))
    ∙ h

behind_from : (arcs : List (List Pos)) (x : Pos) (used : List ArcRef) (r : List Pos) → StitchFrom arcs x used r → behind arcs used ≡ r
behind_from arcs x [] r e = sym e
behind_from arcs x (a ∷ used) r (q, s, e, f, more) =
    (λ i. drop 1 (unwrap_or (e i) []) ++ behind_from arcs (last_of x q) used s more i) ∙ sym f

-- arcs that stitch to a list are walked to it
pub walked_stitched : (arcs : List (List Pos)) (used : List ArcRef) (l : List Pos) → StitchTo arcs used l → walked arcs used ≡ l
walked_stitched arcs [] l e = sym e
walked_stitched arcs (a ∷ used) [] h = absurd h
walked_stitched arcs (a ∷ used) (x ∷ r) (q, s, e, f, more) =
    (λ i. unwrap_or (e i) [] ++ behind_from arcs (last_of x q) used s more i) ∙ ap (λ w. x ∷ w) (sym f)
