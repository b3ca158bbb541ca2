use Rattle.report_texts.specs.QualityParts.{text_or_null}
use Rattle.report_texts.specs.QualityText.{found_text}
use Rattle.report_texts.proofs.Qualities.{found_is}
use Rattle.report_texts.proofs.quality_text.write_quality.Goals as goal

pub returns : goal.returns
returns c = (
  found_text c.args.is_canonical (text_or_null c.in_ok-lists.lists) c.grid.result c.in_ok-near.near,
  found_is c.args.tests.now c.args.is_canonical c.args.topology.now c.in_ok-lists.lists c.grid.result c.in_ok-near.near c.in_ok-lists.ensures c.grid.ensures c.in_ok-near.ensures,
  c.in_ok-write_found.ensures,
)
