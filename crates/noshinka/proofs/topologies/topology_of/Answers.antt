use Rattle.noshinka.proofs.Texts.{text_refused}
use Rattle.noshinka.proofs.topologies.topology_of.Goals as goal

pub returns-in-Err-clause-refused : goal.returns-in-Err-clause-refused
returns-in-Err-clause-refused c = text_refused c.args.place c.args.text.now _ c.in-Err.ensures.err _ c.of_text.ensures
