use Rattle.json.specs.Value.{value_view}
use Rattle.decimal_faults.proofs.Meant.{faulty_outline}
use Rattle.decimal_faults.proofs.outline.OutlineOnPart.make.Goals as goal

pub returns-clause-refused : goal.returns-clause-refused
returns-clause-refused c = λ e fixing. faulty_outline c.args.self.now.grid fixing c.args.self.now.outline (value_view c.args.value.now) (c.make.ensures.refused e fixing)
