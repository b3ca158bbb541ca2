-- Whether arcs repeat positions, arc by arc.
use Rattle.std.proofs.Common.{◌≡◌, ◌+◌, ℕ, Bool, true, cond, List, ◌∷◌, drop, sym, ap, ◌∙◌}
use Rattle.grid.specs.declared.pos.Pos.{Pos}
use Rattle.lines.specs.Neighbours.{equal_neighbours}
use Rattle.lines.specs.Turned.{position_cmp}
use Rattle.theory.specs.TopologyFunction.{same_vertex}
use Rattle.normalize.specs.Repeats.{some_repeats}

-- the arc at a place is the first that is left
pub judged_on : (arcs : List (List Pos)) (n : ℕ) (c : List Pos) (b : Bool) (same : Pos → Pos → Bool) → same ≡ same_vertex position_cmp → drop n arcs ≡ c ∷ drop (n + 1) arcs →
    some_repeats (drop n arcs) ≡ some_repeats arcs → b ≡ equal_neighbours same c → some_repeats arcs ≡ cond b true (some_repeats (drop (n + 1) arcs))
judged_on arcs n c b same e left before is =
    sym before ∙ ap some_repeats left ∙ ap (λ w. cond w true (some_repeats (drop (n + 1) arcs))) (ap (λ s. equal_neighbours s c) (sym e) ∙ sym is)
