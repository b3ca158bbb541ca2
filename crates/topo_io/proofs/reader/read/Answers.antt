use Rattle.topo_io.specs.Roots.{layers_of_text}
use Rattle.topo_io.proofs.Filling.{read_layers}
use Rattle.topo_io.proofs.Fitting.{means_fits}
use Rattle.topo_io.proofs.reader.read.Goals as goal

pub returns-clause-means : goal.returns-clause-means
returns-clause-means c =
    let read = c.in_ok-grid.ensures in record {
      accepted = read.ok;
      grid = read.grid;
      layers = read_layers c.in_ok-grid.layers.items c.in_ok-map.map (layers_of_text c.args.bytes.now) c.in_ok-map.ensures.made read.distinct read.layers;
    }

pub returns-clause-fits : goal.returns-clause-fits
returns-clause-fits c = means_fits c.args.bytes.now c.in_ok-grid.grid c.in_ok-map.map (returns-clause-means c)
