use Rattle.std.proofs.Common.{◌∙◌, ap}
use Rattle.topo.specs.OfMap.{seen_parts}
use Rattle.topo.proofs.TopologyLaws.{is_computed}
use Rattle.topo_io.specs.TopologyText.{topology_text}
use Rattle.round_trip.proofs.OfMap.{built_topology_is_read}
use Rattle.outputs.proofs.built_text.building.text_of.Goals as goal

pub returns-clause-canonical : goal.returns-clause-canonical
returns-clause-canonical g c =
    let built = c.in_ok-topology.ensures.topology in
    let parts = c.in_ok-topology.topology in
    record {
      map = built.map;
      of_texts = built.of_texts;
      is = c.in_ok-text.ensures.text ∙ ap topology_text (is_computed c.args.grid.now built.map (seen_parts parts) built.topology);
    }

pub returns-clause-read_back : goal.returns-clause-read_back
returns-clause-read_back g c =
    let built = c.in_ok-topology.ensures.topology in
    record {
      map = built.map;
      of_texts = built.of_texts;
      means = built_topology_is_read c.args.grid.now built.map c.in_ok-topology.topology _ built.topology built.of_map c.in_ok-text.ensures.limits built.few c.in_ok-text.ensures.text built.fits;
    }
