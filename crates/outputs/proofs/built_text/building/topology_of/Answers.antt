use Rattle.std.proofs.Common.{map, subst}
use Rattle.outputs.specs.BuiltText.Sources.{AreAccepted}
use Rattle.outputs.proofs.BuiltTextLemmas.Fitting.{map_of_texts_fits, same_texts}
use Rattle.outputs.proofs.built_text.building.topology_of.Goals as goal

pub returns-clause-topology : goal.returns-clause-topology
returns-clause-topology g c =
    let t = c.args.grid.now in
    let texts = map (λ s. (g.N.AsStr.text s.0, g.T.AsSlice.items s.1)) c.args.texts.now in
    let read = c.in_ok-map.ensures in
    let built = c.in_ok-build_owned.ensures in
    record {
      map = c.in_ok-map.map;
      of_texts = read.map;
      fits = map_of_texts_fits t texts c.in_ok-map.map (subst (AreAccepted t) (same_texts g.N.AsStr.text g.T.AsSlice.items c.args.texts.now) read.accepted) read.map;
      topology = built.topology;
      of_map = built.of_map;
      few = built.few;
    }
