use Rattle.std.proofs.Common.{◌≡◌, ◌≤◌, ◌+◌, ◌-◌, ◌==◌, true, ◌∷◌, ◌∙◌, ap, arith, drop, length, length-drop, refl, rules, slice_index, sym, take}
use Rattle.std.proofs.lemmas.List.{take_all}
use Rattle.rounded_maps.specs.Sequences.{parts_of}
use Rattle.rounded_maps.proofs.Parts.{cut_at, cut_none}
use Rattle.rounded_maps.proofs.source.first_part.Goals as goal

pub returns-then-bytes-i-clause-parts : goal.returns-then-bytes-i-clause-parts
returns-then-bytes-i-clause-parts c =
    let bytes = c.args.bytes.now in
    let i = c.loop-i.i in
    let is : (slice_index bytes i == c.args.separator) ≡ true = rw c.if-bytes-i.true (search rules) in
    let len = length-drop (i + 1) bytes in
    let short : length (drop (i + 1) bytes) ≤ length bytes - (i + 1) = omega (arith, len) in
    cut_at c.args.separator bytes i (i + 1) refl c.loop-i-test.true c.loop-i.invariant is
    ∙ ap (λ rest. take i bytes ∷ parts_of c.args.separator rest) (sym (take_all (length bytes - (i + 1)) (drop (i + 1) bytes) short))

pub returns-clause-parts : goal.returns-clause-parts
returns-clause-parts c = cut_none c.args.separator c.args.bytes.now (λ k below. c.loop-i.invariant k (omega (arith, below, c.loop-i-test.false)))
