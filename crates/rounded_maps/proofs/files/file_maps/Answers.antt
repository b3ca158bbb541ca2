use Rattle.std.proofs.Common.{IfOk, inl, subst, sym}
use Rattle.std.proofs.lemmas.Result.{IfOk-weaker}
use Rattle.rounded_maps.specs.Files.{AreOfFile, file_of}
use Rattle.rounded_maps.proofs.Contents.{of_content}
use Rattle.rounded_maps.proofs.files.file_maps.Goals as goal

pub returns-then-is_sequence-clause-made : goal.returns-then-is_sequence-clause-made
returns-then-is_sequence-clause-made c =
    subst (λ s. IfOk c.sequence_maps.result (λ read. AreOfFile c.args.rules.now c.args.place (file_of s c.args.is_named c.args.bytes.now) read.maps.items read.origins.items))
    (sym c.if-is_sequence.true) (IfOk-weaker c.sequence_maps.result _ _ (λ read is. inl (is c.args.is_named)) c.sequence_maps.ensures.made)

pub returns-clause-made : goal.returns-clause-made
returns-clause-made c =
    subst (λ s. IfOk c.text_maps.result (λ read. AreOfFile c.args.rules.now c.args.place (file_of s c.args.is_named c.args.bytes.now) read.maps.items read.origins.items))
    (sym c.if-is_sequence.false)
    (IfOk-weaker c.text_maps.result _ _ (λ read is. of_content c.args.rules.now c.args.place c.args.is_named c.args.bytes.now is.0 read.maps.items read.origins.items is.1.0 is.1.1) (rw c.skip_mark.ensures at c.text_maps.ensures.made))
