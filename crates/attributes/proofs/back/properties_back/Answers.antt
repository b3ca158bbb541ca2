use Rattle.std.proofs.Common.{◌∙◌, ap, sym, is_some}
use Rattle.std.proofs.lemmas.Result.{IfOk-weaker}
use Rattle.std.specs.BTreeMap.{get_by_text}
use Rattle.serde_json.specs.Read.{read}
use Rattle.serde_json.specs.View.{members_view, view}
use Rattle.serde_json.proofs.Views.{view-Object}
use Rattle.attributes.proofs.Printing.{members_are, printed_back}
use Rattle.attributes.proofs.back.properties_back.Goals as goal

pub returns : goal.returns
returns c =
    let p = c.args.props.now in
    let ms = members_view c.in-Object.members.entries in
    let value = members_are p.text (view c.in-Ok.value) ms p.properties (ap read (sym c.text.ensures) ∙ c.in-Ok.ensures.ok) (ap view c.in-Object.is ∙ view-Object c.in-Object.members) in
    IfOk-weaker c.members_text.result _ _ (λ t e. e value.0 ∙ printed_back (λ name. is_some (get_by_text c.args.numbers.now name)) c.args.scales.now p.text ms value.1) c.members_text.ensures
