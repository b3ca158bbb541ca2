use Rattle.std.proofs.Common.{◌≡◌, ℕ, ◌+◌, ◌++◌, List, length}
use Rattle.faults.specs.declared.fault.Fault.{Fault}
use Rattle.rounded_maps.specs.Files.{AreRounded, files_of}
use Rattle.rounded_maps.specs.Refusals.{IsFirstFrom}
use Rattle.rounded_maps.specs.declared.files.Origin.{Origin}
use Rattle.rounded_maps.specs.declared.map.RoundedMap.{RoundedMap}
use Rattle.rounded_maps.proofs.files.read_maps.Given as goal

-- the maps so far, with those of the other files, are those of all
abbrev pub invariant-loop-source : goal.invariant-loop-source
invariant-loop-source g l = record {
  rounded : (more : List RoundedMap) (others : List Origin) → AreRounded l.rules l.place (files_of g.T.AsSlice.items l.source-iterator.rest.items) more others
      → AreRounded l.rules 0 (files_of g.T.AsSlice.items l.fn.sources.items) (l.read.maps.items ++ more) (l.read.origins.items ++ others);
  refused : (place : ℕ) (fault : Fault) → IsFirstFrom l.rules l.place (files_of g.T.AsSlice.items l.source-iterator.rest.items) place fault → IsFirstFrom l.rules 0 (files_of g.T.AsSlice.items l.fn.sources.items) place fault;
  place : l.place + length l.source-iterator.rest.items ≡ length l.fn.sources.items;
}
