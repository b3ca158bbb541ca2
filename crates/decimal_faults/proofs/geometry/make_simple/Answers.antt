use Rattle.std.proofs.lemmas.Result.{IfOk-weaker}
use Rattle.json.specs.Value.{value_view}
use Rattle.decimal_faults.proofs.Nested.{faulty_simple, simple_made}
use Rattle.decimal_faults.proofs.geometry.make_simple.Goals as goal

pub returns-clause-made : goal.returns-clause-made
returns-clause-made c =
    IfOk-weaker c.make_member.result _ _ (λ s h e. simple_made c.args.grid.now (value_view c.args.value.now) h.0 c.args.kind s _ _ e h.1 h.2) c.make_member.ensures.made

pub returns-clause-refused : goal.returns-clause-refused
returns-clause-refused c = λ e is fixing. faulty_simple c.args.grid.now fixing (value_view c.args.value.now) c.args.kind is (c.make_member.ensures.refused e fixing)
