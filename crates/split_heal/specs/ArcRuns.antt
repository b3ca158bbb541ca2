-- Used arcs that go on from one another, as they are kept.
use Rattle.std.specs.Prelude.{List}
use Rattle.theory.specs.ArcNumbers.{ArcRef}
use Rattle.split_heal.specs.declared.arc_run.Arcs.{Arcs}
use Rattle.split_heal.specs.declared.arc_run.Arcs.TheVariants.{One, Any}

-- the used arcs, in order
abbrev pub listed : Arcs → List ArcRef
listed (One arcs) = arcs
listed (Any arcs) = arcs.items
