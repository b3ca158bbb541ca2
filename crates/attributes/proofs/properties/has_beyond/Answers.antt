use Rattle.std.proofs.Common.{◌∙◌, ◌+◌, ◌||◌, [], drop, sym, ap, arith}
use Rattle.std.proofs.lemmas.List.{at_drop_more}
use Rattle.attributes.specs.Attributes.{seen_member}
use Rattle.attributes.specs.Values.{has_beyond}
use Rattle.attributes.specs.declared.rules.Scale.{Scale}
use Rattle.attributes.proofs.properties.has_beyond.Goals as goal

pub loop-scale-preserved : goal.loop-scale-preserved
loop-scale-preserved c =
    let xs = c.args.scales.now in
    let i = c.loop-scale.scale-index in
    let p = seen_member c.args.properties in
    let none : Scale = record { property = record { ref_ptr = (0, 0); now = [] }; places = 0 } in
    let passed = sym c.is_beyond.ensures ∙ c.if-is_beyond.false in
    sym (at_drop_more (λ ss. has_beyond ss p) xs i none (omega arith) ∙ ap (λ b. b || has_beyond (drop (i + 1) xs) p) passed) ∙ c.loop-scale.invariant
