-- The names and texts so far, and those of the sources that are left, are those of the sources.
use Rattle.std.proofs.Common.{◌≡◌, ◌++◌, drop}
use Rattle.outputs.specs.BuiltText.Maps.{borrowed_texts}
use Rattle.c_calls.specs.Borrowed.{borrowed_sources}
use Rattle.c_calls.proofs.borrowed.borrow_sources.Given as goal

abbrev pub invariant-loop-source : goal.invariant-loop-source
invariant-loop-source l =
    (borrowed_texts l.texts.items ++ borrowed_sources (drop l.source-index l.fn.sources) ≡ borrowed_sources l.fn.sources)
    × (l.texts.len ≡ l.source-index)
