use Rattle.std.proofs.Common.{length}
use Rattle.merging.specs.Merge.{all_indexes, bytes_of}
use Rattle.refine.proofs.merge.merge_topologies.Goals as goal

pub returns-clause-text : goal.returns-clause-text
returns-clause-text c =
    let texts = c.args.texts.items in
    c.topology_of_union.ensures.text (bytes_of texts) (all_indexes texts) (length texts) c.in_ok-merge_all_by.ensures.merged
