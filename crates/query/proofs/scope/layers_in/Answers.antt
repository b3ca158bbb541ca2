use Rattle.std.proofs.Common.{subst, sym}
use Rattle.std.specs.Option.{option_map}
use Rattle.query.specs.Members.{AreLayersIn}
use Rattle.query.proofs.Asked.{layer_nowhere, layer_there}
use Rattle.query.proofs.scope.layers_in.Goals as goal

pub returns-in-Some-layer_named : goal.returns-in-Some-layer_named
returns-in-Some-layer_named c =
    let l = c.in-Some-layer_named.layer.now in
    let found = c.in-Some-layer_named.ensures.found in
    record {
      layer = λ m of. layer_there m c.args.topology.now of c.args.name c.in-Some.name c.in-Some.is _ l found.0 found.1;
      layers = subst (λ o. AreLayersIn c.args.topology.now (option_map (λ n. n.now) o) c.from_ref.result.now) (sym c.in-Some.is) (l, found.0, found.1, c.from_ref.ensures.value);
    }

pub returns-in-None-layer_named-clause-layer : goal.returns-in-None-layer_named-clause-layer
returns-in-None-layer_named-clause-layer c = λ m of. layer_nowhere m c.args.topology.now of c.args.name c.in-Some.name c.in-Some.is c.in-None-layer_named.ensures.none
