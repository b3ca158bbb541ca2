use Rattle.report_texts.proofs.Reports.{line_is}
use Rattle.report_texts.proofs.report_line.line_of.Goals as goal

pub returns : goal.returns
returns c = line_is c.args.rounded.now c.args.origins.now _ _ _ _ c.requires c.as_slice.ensures.value c.equal_of.ensures c.joined_of.ensures c.shared_of.ensures
