use Rattle.std.proofs.Common.{◌∙◌, string_bytes, sym}
use Rattle.attributes.proofs.Gathering.{text_added}
use Rattle.attributes.proofs.columns.Columns.add_text.Goals as goal

pub returns : goal.returns
returns c =
    text_added c.args.self.now.numbers c.insert.new.self c.args.self.now.mixed c.args.name.now (string_bytes c.in_ok-from_str.field-0) c.count_of.result c.saturating_add-count.result
    c.in_ok-from_str.ensures.ok (sym c.contains.ensures ∙ c.if-contains.false) c.count_of.ensures c.saturating_add-count.ensures c.in_ok-insert.ensures.updates
