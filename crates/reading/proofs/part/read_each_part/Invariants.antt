use Rattle.std.proofs.Common.{◌≡◌, map, take, drop}
use Rattle.std.specs.List.{AllZip}
use Rattle.serde_json.specs.View.{view}
use Rattle.reading.specs.Parts.{each_faults}
use Rattle.reading.proofs.part.read_each_part.Given as goal

abbrev pub invariant-loop-i : goal.invariant-loop-i
invariant-loop-i g l = record {
  judged : each_faults (g.P.Part.faults l.part) 0 (map view l.values) ≡ each_faults (g.P.Part.faults l.part) l.i (map view (drop l.i l.values));
  meant : AllZip (g.P.Part.means l.part) (map view (take l.i l.values)) l.found.items;
}
