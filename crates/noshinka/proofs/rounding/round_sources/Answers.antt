use Rattle.std.proofs.Common.{◌∙◌, ap, map, nat_eq}
use Rattle.std.proofs.lemmas.Result.{IfErr-weaker, IfOk-weaker}
use Rattle.outputs.specs.BuiltText.Maps.{borrowed_texts}
use Rattle.c_calls.specs.Borrowed.{borrowed_sources}
use Rattle.noshinka.specs.Rounding.{files_as, names_in}
use Rattle.noshinka.proofs.Roundings.{sources_files, sources_made, topology_asked}
use Rattle.noshinka.proofs.rounding.round_sources.Goals as goal

pub returns-then-options-eq1-clause-refused : goal.returns-then-options-eq1-clause-refused
returns-then-options-eq1-clause-refused c =
    let o = c.args.options.now in
    let files = c.in_ok-files.ensures ∙ ap (λ l. files_as o (borrowed_texts l)) c.as_slice-2.ensures.value ∙ ap (files_as o) c.in_ok-texts.ensures.texts in
    IfErr-weaker c.features_text.result _ _ (λ r h. sources_files o c.args.rules.now (borrowed_sources c.args.sources.now) _ files r h) c.features_text.ensures.refused

pub returns-clause-refused : goal.returns-clause-refused
returns-clause-refused c =
    let o = c.args.options.now in
    let files = c.in_ok-files.ensures ∙ ap (λ l. files_as o (borrowed_texts l)) c.as_slice-2.ensures.value ∙ ap (files_as o) c.in_ok-texts.ensures.texts in
    IfErr-weaker c.topology_text_of.result _ _ (λ r h. sources_files o c.args.rules.now (borrowed_sources c.args.sources.now) _ files r h) c.topology_text_of.ensures.refused

pub returns-clause-made : goal.returns-clause-made
returns-clause-made c =
    let o = c.args.options.now in
    let sources = borrowed_sources c.args.sources.now in
    let files = c.in_ok-files.ensures ∙ ap (λ l. files_as o (borrowed_texts l)) c.as_slice-2.ensures.value ∙ ap (files_as o) c.in_ok-texts.ensures.texts in
    let names = ap (map (λ n. n.now)) c.as_slice-else-options-eq1.ensures.value ∙ c.in_ok-names.ensures ∙ ap (λ l. names_in (borrowed_texts l)) c.as_slice.ensures.value ∙ ap names_in c.in_ok-texts.ensures.texts in
    IfOk-weaker c.topology_text_of.result _ _
    (λ t h. topology_asked o c.args.rules.now (names_in sources) (files_as o sources) t.items c.if-options-eq1.false (sources_made o c.args.rules.now sources _ (nat_eq o.report 1) t.items names files h))
    c.topology_text_of.ensures.made
