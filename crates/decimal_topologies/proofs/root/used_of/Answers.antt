use Rattle.std.proofs.Common.{ap, ◌∙◌}
use Rattle.std.proofs.lemmas.Result.{IfOk-weaker}
use Rattle.decimal_topologies.specs.Layers.{seen_named}
use Rattle.decimal_topologies.specs.Used.{used_arcs}
use Rattle.decimal_topologies.proofs.Rooted.{count_is}
use Rattle.decimal_topologies.proofs.root.used_of.Goals as goal

pub returns-clause-used : goal.returns-clause-used
returns-clause-used c = IfOk-weaker c.used_arcs.result _ _ (λ used is. is ∙ ap (λ n. used_arcs n (seen_named c.args.layers.now.entries)) (count_is c.args.items.now)) c.used_arcs.ensures.used
