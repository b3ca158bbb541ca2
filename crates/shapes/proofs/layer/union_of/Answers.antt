use Rattle.std.proofs.Common.{◌≡◌, ◌++◌, ◌∙◌, ap, sym, subst, append-nil}
use Rattle.std.proofs.lemmas.Result.{IfOk-weaker}
use Rattle.std.specs.BTreeSet as sorted
use Rattle.shapes.specs.Maps.{set_of}
use Rattle.shapes.specs.Order.{feature_cmp}
use Rattle.shapes.proofs.UnionLemmas.{union_made}
use Rattle.shapes.proofs.layer.union_of.Goals as goal

pub returns : goal.returns
returns c =
    let copies = c.loop-feature.copies in
    let all : copies.items ≡ c.union-feature-items.result = sym (append-nil _) ∙ ap (λ ks. copies.items ++ ks) (sym c.in-None.ensures.steps.0) ∙ c.loop-feature.invariant ∙ sym c.union-feature-items.ensures.rest in
    let merged = subst (sorted.IsUnion feature_cmp c.args.these.now c.args.those.now) (sym all) c.union-feature-items.ensures.members in
    IfOk-weaker c.feature_set.result _ _ (λ s e. union_made c.args.these.now c.args.those.now (set_of s) copies.items merged e) c.feature_set.ensures
