use Rattle.std.proofs.Common.{rules, ◌≡◌, ap, ◌∙◌, drop, take}
use Rattle.std.proofs.lemmas.Iterator.{YieldsList-from_map, YieldsList-from_slice}
use Rattle.std.proofs.lemmas.Iterator.Consumers.{YieldsList-from_chain}
use Rattle.std.proofs.lemmas.Iterator.Search.{cmp_from_yields_List}
use Rattle.std.specs.Iterator.Adapters.{map_callee}
use Rattle.std.specs.Option.{option_cmp}
use Rattle.arcs.specs.Steps.{step_along, step_cmp}
use Rattle.topo.proofs.geometry_order.lists.turned_order.Goals as goal

pub returns : goal.returns
returns c =
    let arcs = c.args.arcs.now.arcs in
    cmp_from_yields_List (λ x y. y ≡ x) _ (option_cmp step_cmp) _ c.cmp.ensures.ran
    (YieldsList-from_map _ (step_along arcs)
    (YieldsList-from_chain (YieldsList-from_slice (drop c.args.index c.args.used.now) cc) (YieldsList-from_slice (take c.args.index c.args.used.now) cc) (cc) (cc))
    c.map.ensures.closure (λ x r q k. search rules))
    (λ it e. YieldsList-from_map _ (step_along arcs)
    (YieldsList-from_chain (YieldsList-from_slice (drop c.args.other_index c.args.other.now) cc) (YieldsList-from_slice (take c.args.other_index c.args.other.now) cc) (cc) (cc))
    (ap map_callee e ∙ c.map-2.ensures.closure) (λ x r q k. search rules))
    (λ x y. search rules)
