-- The files so far, with those that are left, are all.
use Rattle.std.proofs.Common.{◌≡◌, ◌++◌, drop, map}
use Rattle.outputs.specs.BuiltText.Maps.{borrowed_texts}
use Rattle.rounded_maps.specs.Files.{file_of, files_of}
use Rattle.noshinka.proofs.rounding.files_in.Given as goal

abbrev pub invariant-loop-text : goal.invariant-loop-text
invariant-loop-text l =
    files_of (λ b. b.now) l.files.items ++ map (λ s. file_of l.fn.is_sequence l.fn.is_named s.1) (borrowed_texts (drop l.text-index l.fn.texts))
    ≡ map (λ s. file_of l.fn.is_sequence l.fn.is_named s.1) (borrowed_texts l.fn.texts)
