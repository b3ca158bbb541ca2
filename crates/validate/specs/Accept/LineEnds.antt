-- Lists of used arcs that stitch to a map's lines.
use Rattle.std.specs.Prelude.{List}
use Rattle.theory.specs.ArcNumbers.{ArcRef, StitchTo}
use Rattle.theory.specs.Geometry.{Geometry}
use Rattle.theory.specs.Lists.{Pairwise}

-- the map's lines are what the lists stitch to, one by one
abbrev pub LinesStitch : {V : Type 0} → List (List V) → List (List ArcRef) → Geometry V → Type 0
LinesStitch arcs lists g = Pairwise (λ l us. StitchTo arcs us l) g.lines lists
