use Rattle.std.proofs.Common.{◌≡◌, ◌++◌, ◌∙◌, ap, sym, append-nil}
use Rattle.theory.specs.Lists.{gathered}
use Rattle.shapes.specs.Maps.{set_of}
use Rattle.shapes.specs.Sets as set
use Rattle.shapes.specs.OrderLaws.{feature_cmp_total}
use Rattle.shapes.specs.SetLaws.{items-from_list}
use Rattle.topo.specs.Building.{feature_counts, feature_pieces}
use Rattle.topo.proofs.cuts.Cuts.add_features.Goals as goal

pub returns-clause-pieces : goal.returns-clause-pieces
returns-clause-pieces c =
    let k : set.items (set_of c.args.features.now) ≡ c.args.features.now.keys = items-from_list feature_cmp_total c.args.features.now.keys c.iter-feature-items.ensures.ordered in
    sym (append-nil _) ∙ ap (λ es. c.loop-feature.self.pieces.items ++ gathered (feature_pieces c.args.index.now) es) (sym c.in-None.ensures.steps.0) ∙ c.loop-feature.invariant.pieces
    ∙ ap (λ es. c.args.self.now.pieces.items ++ gathered (feature_pieces c.args.index.now) es) (sym k)

pub returns-clause-counts : goal.returns-clause-counts
returns-clause-counts c =
    let k : set.items (set_of c.args.features.now) ≡ c.args.features.now.keys = items-from_list feature_cmp_total c.args.features.now.keys c.iter-feature-items.ensures.ordered in
    sym (append-nil _) ∙ ap (λ es. c.loop-feature.self.counts.items ++ gathered (feature_counts c.args.index.now) es) (sym c.in-None.ensures.steps.0) ∙ c.loop-feature.invariant.counts
    ∙ ap (λ es. c.args.self.now.counts.items ++ gathered (feature_counts c.args.index.now) es) (sym k)
