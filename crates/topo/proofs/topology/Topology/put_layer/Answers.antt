use Rattle.std.proofs.Common.{ap, ◌∙◌, subst, sym}
use Rattle.std.proofs.lemmas.Result.{IfOk-weaker}
use Rattle.shapes.specs.Maps.{with_features}
use Rattle.shapes.specs.Parts.{spelled_text}
use Rattle.shapes.specs.Sets.{from_list}
use Rattle.topo.specs.Features.{AreFeaturesOf}
use Rattle.topo.proofs.topology.Topology.put_layer.Goals as goal

pub features-requires : goal.features-requires
features-requires c = (c.requires.0, subst (AreFeaturesOf c.args.self.now.arcs.arcs c.requires.0) (sym c.geometries.ensures) c.requires.1)

pub returns : goal.returns
returns c =
    IfOk-weaker c.with_features.result _ _
    (λ made e fs h.
    let same = c.in_ok-features.ensures fs (subst (AreFeaturesOf c.args.self.now.arcs.arcs fs) (sym c.geometries.ensures) h) in
    e ∙ (λ i. with_features c.args.map ((c.text.ensures ∙ ap spelled_text c.name.ensures) i) ((c.in_ok-features-2.ensures ∙ ap from_list same) i)))
    c.with_features.ensures
