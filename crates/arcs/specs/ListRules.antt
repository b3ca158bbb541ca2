-- What lists of used arcs become.
use Rattle.std.specs.Prelude.{List}
use Rattle.theory.specs.ArcNumbers.{ArcRef}

-- what a list of used arcs becomes
abbrev pub ListRule : Type 0
ListRule = List ArcRef → List ArcRef
