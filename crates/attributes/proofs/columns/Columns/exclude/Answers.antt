use Rattle.std.proofs.Common.{string_bytes}
use Rattle.attributes.proofs.Gathering.{name_excluded}
use Rattle.attributes.proofs.columns.Columns.exclude.Goals as goal

pub returns : goal.returns
returns c =
    name_excluded c.args.self.now.numbers c.remove.new.self c.args.self.now.mixed c.insert.new.self c.args.name.now (string_bytes c.in_ok-from_str.field-0) c.in_ok-from_str.ensures.ok c.remove.ensures.updates c.in_ok-insert.ensures.updates
