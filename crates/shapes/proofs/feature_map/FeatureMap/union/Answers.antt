use Rattle.std.proofs.Common.{◌∙◌, ap}
use Rattle.shapes.specs.Union.{union}
use Rattle.shapes.specs.Inside.{layers_of, united_at}
use Rattle.shapes.proofs.UnionLemmas.{united_twice}
use Rattle.shapes.proofs.feature_map.FeatureMap.union.Goals as goal

pub returns : goal.returns
returns c =
    united_twice c.self.inside.layers.entries c.other.inside.layers.entries (layers_of c.unite.new.united.entries) (layers_of c.unite-2.new.united.entries)
    (λ q. c.in_ok-unite.ensures.features q ∙ ap (λ es. united_at (layers_of c.other.inside.layers.entries) (layers_of es) c.self.inside.layers.entries q) c.new-layers.ensures.empty)
    c.in_ok-unite-2.ensures.features
    ∙ (λ i. union (c.self.view_is i) (c.other.view_is i))
