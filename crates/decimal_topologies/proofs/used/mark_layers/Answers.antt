use Rattle.std.proofs.Common.{refl}
use Rattle.std.proofs.lemmas.Map.Iter.{rest_all, rest_more}
use Rattle.std.specs.Map.Iter.{deref_pair}
use Rattle.decimal_topologies.proofs.Marked.{layer_at, layers_at, marks_all, marks_more}
use Rattle.decimal_topologies.proofs.used.mark_layers.Goals as goal

pub loop-name-preserved : goal.loop-name-preserved
loop-name-preserved c =
    marks_more layer_at layers_at (λ n k x xs. refl) c.args.layers.now.entries _ _ (c.in-Some._name.now, c.in-Some.value.now) _ _ _
    (rest_more deref_pair c.loop-name._name-iterator _ c.next.result (c.in-Some._name, c.in-Some.value) c.in-Some.is c.next.ensures.steps) c.loop-name.invariant c.mark_geometry.ensures

pub returns : goal.returns
returns c =
    marks_all layer_at layers_at (λ n k. refl) c.args.layers.now.entries _ _ _ (rest_all deref_pair c.loop-name._name-iterator _ c.next.result c.in-None.is c.next.ensures.steps) c.loop-name.invariant
