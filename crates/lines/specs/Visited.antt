-- The segments of a list of positions that may occur in it twice.
use Rattle.std.specs.Prelude.{◌≡◌, ◌&&◌, ◌⊎◌, Bool, true, List}
use Rattle.theory.specs.Lists.{Has, Twice}
use Rattle.grid.specs.declared.pos.Pos.{Pos}
use Rattle.lines.specs.PositionFilter.{may_hold}
use Rattle.lines.specs.Holding.{Keeps}
use Rattle.lines.specs.Segments.{segments_of}
use Rattle.lines.specs.declared.visited.VisitedVertices.{VisitedVertices}
use Rattle.lines.specs.declared.pair.PositionPair.{PositionPair}

-- both ends of each segment that occurs twice are among these
abbrev pub HoldEnds : List Pos → List Pos → Type 0
HoldEnds ends positions = (s : PositionPair) → Twice s (segments_of positions) → Has s.lesser ends × Has s.greater ends

-- whether a test holds of both ends
abbrev pub joins : (Pos → Bool) → PositionPair → Bool
joins may s = may s.lesser && may s.greater

-- the way goes on to p: p is met, and what was met stays so; it counts as retraced where p was met, and so was
-- the position that the way comes from before it was come to, or p is the one before that
pub record IsStep (p : Pos) (retraced : Bool) (old new : VisitedVertices) : Type 0 where
  pub here : new.here ≡ p
  pub before : new.before ≡ old.here
  pub met : Keeps (may_hold old.met) (may_hold new.met)
  pub marked : may_hold new.met p ≡ true
  pub again : may_hold old.met p ≡ true → new.again ≡ true
  pub meant : may_hold old.met p ≡ true → (old.again ≡ true) ⊎ (p ≡ old.before) → retraced ≡ true
