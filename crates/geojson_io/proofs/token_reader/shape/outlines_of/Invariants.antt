use Rattle.std.specs.List.{AllZip}
use Rattle.geojson_io.specs.TokenCoordinates.{OutlineOf}
use Rattle.geojson_io.proofs.token_reader.shape.outlines_of.Given as goal

abbrev pub invariant-loop-list : goal.invariant-loop-list
invariant-loop-list g l = AllZip (OutlineOf g.O.Outline.fault g.O.Outline.seen g.O.Outline.of) l.yielded l.found.items
