-- Lines that use a segment twice, cut where they do.
use Rattle.std.specs.Prelude.{Bool, true, false, cond, List, [], ◌∷◌, ◌++◌}
use Rattle.std.specs.Ordering.{is_eq}
use Rattle.grid.specs.declared.pos.Pos.{Pos}
use Rattle.lines.specs.Pairs.{pair_cmp, pair_of}
use Rattle.lines.specs.declared.pair.PositionPair.{PositionPair}

-- one segment more was used
abbrev pub or_used : PositionPair → (PositionPair → Bool) → PositionPair → Bool
or_used s used t = cond (is_eq (pair_cmp s t)) true (used t)

-- a run of two positions or more; one of fewer is none
abbrev pub run_kept : List Pos → List (List Pos)
run_kept [] = []
run_kept (p ∷ []) = []
run_kept (p ∷ (q ∷ l)) = (p ∷ (q ∷ l)) ∷ []

-- the run that has come to `here`, gone on with, and those behind it; `used` tells which segments were used before
abbrev pub runs_on : (PositionPair → Bool) → List Pos → Pos → List Pos → List (List Pos)
runs_on used run here [] = run_kept run
runs_on used run here (p ∷ l) =
    cond (used (pair_of here p))
    (run_kept run ++ runs_on (or_used (pair_of here p) used) (p ∷ []) p l)
    (runs_on (or_used (pair_of here p) used) (run ++ (p ∷ [])) p l)

-- the runs of a line in which neighbours differ: it is cut at each segment that was used before, which is left out
unfoldable pub runs_of : List Pos → List (List Pos)
runs_of [] = []
runs_of (x ∷ l) = runs_on (λ _. false) (x ∷ []) x l

-- the segments at their first use
abbrev pub first_uses : (PositionPair → Bool) → List PositionPair → List PositionPair
first_uses used [] = []
first_uses used (s ∷ l) = cond (used s) (first_uses (or_used s used) l) (s ∷ first_uses (or_used s used) l)
