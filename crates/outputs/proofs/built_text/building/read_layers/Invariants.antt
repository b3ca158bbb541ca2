use Rattle.std.proofs.Common.{length, map}
use Rattle.outputs.proofs.BuiltTextLemmas.Layers.{SoFarMap}
use Rattle.outputs.proofs.BuiltTextLemmas.Refusals.{SoFar}
use Rattle.outputs.proofs.built_text.building.read_layers.Given as goal

abbrev pub invariant-loop-source : goal.invariant-loop-source
invariant-loop-source g l = record {
  judged : SoFar l.grid (map (λ s. g.T.AsSlice.items s.1) l.texts) (map (λ s. g.T.AsSlice.items s.1) l.left) l.place;
  collected : SoFarMap l.grid (map (λ s. (g.N.AsStr.text s.0, g.T.AsSlice.items s.1)) l.texts) (map (λ s. (g.N.AsStr.text s.0, g.T.AsSlice.items s.1)) l.left) l.map;
}

abbrev pub decreases-loop-source : goal.decreases-loop-source
decreases-loop-source g l = length l.left
