use Rattle.std.proofs.Common.{ap}
use Rattle.sinks.specs.Texts.{joined}
use Rattle.sinks.proofs.Left.{then_err_at, part_at}
use Rattle.sinks.proofs.written.EachWritten.write.Goals as goal

pub returns-in-Ok-clause-part : goal.returns-in-Ok-clause-part
returns-in-Ok-clause-part g c = then_err_at _ _ _ (ap (joined (g.N.Notation.text c.args.self.now.1.now)) c.in-Some.ensures.cases.0) c.in-Ok.ensures.whole c.write_others.ensures.part

pub returns-in-Err-clause-part : goal.returns-in-Err-clause-part
returns-in-Err-clause-part g c = part_at _ (ap (joined (g.N.Notation.text c.args.self.now.1.now)) c.in-Some.ensures.cases.0) c.in-Err.ensures.part
