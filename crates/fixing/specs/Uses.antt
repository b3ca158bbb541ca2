-- How often a segment is used.
use Rattle.std.specs.Prelude.{ℕ, ◌+◌, cond, List, [], ◌∷◌}
use Rattle.lines.specs.Pairs.{pair_eq}
use Rattle.lines.specs.declared.pair.PositionPair.{PositionPair}

-- how often the segment stands among these
abbrev pub uses : PositionPair → List PositionPair → ℕ
uses s [] = 0
uses s (t ∷ l) = cond (pair_eq s t) 1 0 + uses s l
