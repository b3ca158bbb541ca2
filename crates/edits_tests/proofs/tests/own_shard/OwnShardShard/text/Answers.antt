use Rattle.std.proofs.Common.{◌≡◌, subst}
use Rattle.std.specs.Prelude.{IfOk}
use Rattle.topo_io.specs.Canon.{canon}
use Rattle.edits_tests.proofs.tests.own_shard.OwnShardShard.text.Goals as goal

pub returns-clause-text : goal.returns-clause-text
returns-clause-text c =
    let same = c.in_ok-whole.ensures in
    subst (λ m. IfOk c.text.result (λ t. t.items ≡ canon c.args.self.now.grid m)) same.map
    (subst (λ g. IfOk c.text.result (λ t. t.items ≡ canon g c.in_ok-whole.whole.map)) same.grid c.text.ensures.text)
