use Rattle.std.specs.BTreeMap as tree
use Rattle.compare.specs.Indexed.{borrowed_cmp}
use Rattle.compare.proofs.Tables.{has_means}
use Rattle.compare.proofs.index.Index.has.Goals as goal

pub returns : goal.returns
returns c = λ gs ks is.
    has_means gs c.args.geometry.now c.contains_key.result (tree.get borrowed_cmp c.args.self.now.numbers c.args.geometry) c.contains_key.ensures (is.knows c.args.geometry)
