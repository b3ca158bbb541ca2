use Rattle.std.proofs.Common.{◌∙◌, ap, map, subst}
use Rattle.std.specs.FinMap as finite
use Rattle.rounded_maps.specs.Built.{AreLayersWith}
use Rattle.rounded_maps.specs.Files.{layer_of}
use Rattle.rounded_maps.proofs.building.build_maps.Goals as goal

pub returns-clause-built : goal.returns-clause-built
returns-clause-built g c =
    let layers = c.in_ok-map.map in
    record {
      maps = c.in_ok-maps.maps.items;
      of_files = c.in_ok-maps.ensures.maps;
      topology = record {
        layers = layers;
        of_maps = subst (λ names. AreLayersWith finite.empty names c.in_ok-maps.maps.items layers) (c.in_ok-layers.ensures ∙ ap (map (layer_of (map (λ n. n.now) c.args.names.now))) c.as_slice.ensures.value) c.in_ok-map.ensures;
        topology = c.in_ok-topology.ensures.topology;
        computed = c.in_ok-topology.ensures.computed;
        of_map = c.in_ok-topology.ensures.of_map;
      };
      report = c.in_ok-maps.ensures.report;
    }
