-- A source is refused for its name, which is that of the list at that place.
use Rattle.std.proofs.Common.{◌∙◌}
use Rattle.c_calls.proofs.Sources.{bad_source}
use Rattle.c_calls.proofs.borrowed.borrow_sources.Goals as goal

pub returns-in-Err-clause-refused : goal.returns-in-Err-clause-refused
returns-in-Err-clause-refused c = bad_source c.args.sources.now c.loop-source.source-index _ c.loop-source-test.true _ (c.len.ensures ∙ c.loop-source.invariant.1) _ c.in-Err.ensures.bad
