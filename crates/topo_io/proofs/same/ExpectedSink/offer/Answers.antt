use Rattle.std.proofs.Common.{rules, ◌≡◌, arith, is_some, false}
use Rattle.std.proofs.lemmas.Grind.{common_steps}
use Rattle.sinks.specs.Seen.{one_more}
use Rattle.topo_io.proofs.Comparing.{shown, took_same, took_other}
use Rattle.topo_io.proofs.same.ExpectedSink.offer.Goals as goal

pub returns-then-same-piece-clause-refused : goal.returns-then-same-piece-clause-refused
returns-then-same-piece-clause-refused c =
    let none : is_some c.args.self.now.wrong ≡ false = grind (arith, common_steps) in
    let count : c.saturating_add-self-then-same-piece.result ≡ one_more c.args.self.now.failures = search rules in
    took_other c.args.self.now.whole.now c.args.piece.now c.args.self.now.at c.common-same.result c.args.self.now.failures _ c.args.self.now.wrong none (shown _ _ c.args.self.now.at c.common-same.result c.common-same.ensures.same) (omega arith) count

pub returns-clause-took : goal.returns-clause-took
returns-clause-took c some =
    let none : is_some c.args.self.now.wrong ≡ false = grind (arith, common_steps) in
    took_same c.args.self.now.whole.now c.args.piece.now c.args.self.now.at c.common-same.result c.args.self.now.failures c.args.self.now.wrong none (shown _ _ c.args.self.now.at c.common-same.result c.common-same.ensures.same)
