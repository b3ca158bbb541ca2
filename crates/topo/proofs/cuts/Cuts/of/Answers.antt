use Rattle.std.proofs.Common.{◌∙◌, ◌++◌, ap}
use Rattle.theory.specs.Lists.{gathered}
use Rattle.theory.specs.Topology.{forms_of}
use Rattle.chains.specs.Seen.{seen}
use Rattle.topo.specs.Building.{form_counts, form_pieces}
use Rattle.topo.proofs.cuts.Cuts.of.Goals as goal

pub returns : goal.returns
returns c = record {
  junctions = c.in_ok-index.index;
  index = c.in_ok-index.ensures;
  pieces = c.in_ok-add_layers.ensures.pieces ∙ ap (λ w. w ++ gathered (form_pieces c.in_ok-index.index) (forms_of (seen c.args.map.now))) c.new.ensures.items;
  counts = c.in_ok-add_layers.ensures.counts ∙ ap (λ w. w ++ gathered (form_counts c.in_ok-index.index) (forms_of (seen c.args.map.now))) c.new-2.ensures.items;
}
