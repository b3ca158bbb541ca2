use Rattle.reading.proofs.Members.{faulty_type}
use Rattle.reading.proofs.part.type_fault.Goals as goal

pub returns : goal.returns
returns c = faulty_type c.args.kind c.here.result c.under_name.result c.here.ensures c.under_name.ensures
