use Rattle.std.proofs.Common.{◌∙◌, ap, map}
use Rattle.shapes.specs.Maps.{set_of}
use Rattle.topo.proofs.LayerLawsLemmas.Passing.{none_under}
use Rattle.refine.proofs.remove.features_under.Goals as goal

pub returns-in_default : goal.returns-in_default
returns-in_default c = ap (map (λ f. f.now)) c.new-none.ensures.items ∙ none_under (λ s. set_of s.now) c.layer.result c.args.map.now c.args.name.now c.layer.ensures c.in_default.is
