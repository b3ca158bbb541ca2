use Rattle.std.proofs.Common.{◌∙◌, ap, sym}
use Rattle.std.proofs.lemmas.Result.{on_ok_weaker}
use Rattle.serde_json.specs.Find.{get}
use Rattle.serde_json.specs.Read.{read}
use Rattle.serde_json.specs.View.{members_view, view}
use Rattle.serde_json.proofs.Views.{view-Object}
use Rattle.attributes.specs.Columns.{column_at, value_at, with_value}
use Rattle.attributes.proofs.Gathering.{feature_more}
use Rattle.attributes.proofs.Printing.{members_are}
use Rattle.attributes.proofs.columns.Columns.add.Goals as goal

pub returns : goal.returns
returns c =
    let p = c.args.props.now in
    let ms = members_view c.in-Object.members.entries in
    let value = (members_are p.text (view c.in-Ok.value) ms p.properties (ap read (sym c.text.ensures) ∙ c.in-Ok.ensures.ok) (ap view c.in-Object.is ∙ view-Object c.in-Object.members)).1 in
    on_ok_weaker c.add_members.result
    (λ step features are name.
    step name ∙ ap (λ d. with_value (get name d) (column_at c.args.self.now name)) (sym value) ∙ ap (with_value (value_at name p)) (are name) ∙ sym (feature_more name features p))
    c.add_members.ensures
