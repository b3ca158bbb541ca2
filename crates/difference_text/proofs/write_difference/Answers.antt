use Rattle.std.proofs.Common.{◌∙◌, refl}
use Rattle.std.specs.List.{list_all}
use Rattle.difference_text.specs.DifferenceJson.{difference_text}
use Rattle.difference_text.specs.DifferenceText.{is_same_layer}
use Rattle.difference_text.proofs.DifferenceTextLemmas.{answer_alike}
use Rattle.difference_text.proofs.DifferenceWriting.{copied_some}
use Rattle.difference_text.proofs.write_difference.Goals as goal

pub returns-in-Ok-write_found-clause-same : goal.returns-in-Ok-write_found-clause-same
returns-in-Ok-write_found-clause-same g c = λ m n old new.
    answer_alike (list_all is_same_layer c.in-Ok.difference.layers.items) c.is_empty.result c.is_empty.ensures (c.in-Ok.ensures.same m n old new)

pub returns-in-Ok-write_found-clause-whole : goal.returns-in-Ok-write_found-clause-whole
returns-in-Ok-write_found-clause-whole g c = (
  difference_text c.args.options.now.json c.in-Ok.difference c.args.old.now c.args.new.now,
  record { difference = c.in-Ok.difference; all = c.in-Ok.ensures.told; keyed = c.in-Ok.ensures.keyed ∙ copied_some c.args.options.now.key; is = refl },
  c.in-Ok-write_found.ensures.whole,
)

pub returns-clause-part : goal.returns-clause-part
returns-clause-part g c = λ e. (
  difference_text c.args.options.now.json c.in-Ok.difference c.args.old.now c.args.new.now,
  record { difference = c.in-Ok.difference; all = c.in-Ok.ensures.told; keyed = c.in-Ok.ensures.keyed ∙ copied_some c.args.options.now.key; is = refl },
  c.in-Err-Write.ensures.part,
)
