use Rattle.std.proofs.Common.{subst, sym}
use Rattle.topo_io.specs.Means.{Means}
use Rattle.topo_io.proofs.topology.built_of_value.Goals as goal

pub returns-in-Ok-clause-means : goal.returns-in-Ok-clause-means
returns-in-Ok-clause-means c =
    let read = c.in_ok-grid in (
      read.map,
      subst (λ g. Means c.args.bytes.now g read.map) (sym c.in-Ok.ensures.topology.grid) read.ensures.means,
      c.in-Ok.ensures.of_map,
    )
