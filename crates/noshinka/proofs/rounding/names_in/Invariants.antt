-- The names so far, with those that are left, are all.
use Rattle.std.proofs.Common.{◌≡◌, ◌++◌, drop, map}
use Rattle.outputs.specs.BuiltText.Maps.{borrowed_texts}
use Rattle.noshinka.specs.Rounding.{names_in}
use Rattle.noshinka.proofs.rounding.names_in.Given as goal

abbrev pub invariant-loop-text : goal.invariant-loop-text
invariant-loop-text l = map (λ n. n.now) l.names.items ++ names_in (borrowed_texts (drop l.text-index l.fn.texts)) ≡ names_in (borrowed_texts l.fn.texts)
