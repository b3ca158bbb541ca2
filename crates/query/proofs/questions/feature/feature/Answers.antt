use Rattle.shapes.specs.Maps.{features_at}
use Rattle.shapes.specs.Sets as set
use Rattle.topo.proofs.Stitched.{geometries_of}
use Rattle.query.proofs.LayerFeatures.{layer_found, layer_missing, layer_holds, named_features, not_named}
use Rattle.query.proofs.questions.feature.feature.Goals as goal

pub returns-in_default-clause-layer : goal.returns-in_default-clause-layer
returns-in_default-clause-layer c = λ m of. layer_missing _ (not_named m c.args.topology.now of c.args.layer.now c.in_default.ensures.none)

pub features-requires : goal.features-requires
features-requires c =
    let (m, of) = c.in-Some.ensures.of_map in
    (set.items (features_at m c.args.layer.now), geometries_of m c.args.topology.now c.args.layer.now c.in-Some.geometries.now of c.in-Some.ensures.found)

pub returns-in_err-features-clause-layer : goal.returns-in_err-features-clause-layer
returns-in_err-features-clause-layer c = λ m of. layer_holds c.from_residual.result _ c.from_residual.ensures.1 (named_features m c.args.topology.now of c.args.layer.now c.in-Some.geometries.now c.in-Some.ensures.found).0

pub returns : goal.returns
returns c = record {
  layer = λ m of. layer_found _ _ (named_features m c.args.topology.now of c.args.layer.now c.in-Some.geometries.now c.in-Some.ensures.found).0;
  features = λ m of.
      c.in_ok-features.ensures (set.items (features_at m c.args.layer.now))
      (geometries_of m c.args.topology.now c.args.layer.now c.in-Some.geometries.now of c.in-Some.ensures.found);
}
