use Rattle.std.proofs.Common.{◌≡◌, ◌<◌, ◌^◌, ap, arith, length, rules, subst, sym, ◌∙◌}
use Rattle.std.proofs.lemmas.Result.{IfOk-weaker}
use Rattle.std.specs.List.Sorted.{IsSorted}
use Rattle.compare.specs.Quality.Near.{Ascend}
use Rattle.compare.specs.Quality.Uses.{use_cmp}
use Rattle.snapping.specs.NearlyShared.Joined.{AreClusters, AreJoined, near_positions, positions_in}
use Rattle.snapping.proofs.NearlySharedLemmas.Sharing.{all_places}
use Rattle.snapping.proofs.nearly_shared.index.VertexIndex.clusters.Goals as goal

pub first_near-requires : goal.first_near-requires
first_near-requires c =
    subst Ascend (sym c.deref-2.ensures.value) (c.in_ok-vertices.ensures.ascend (subst (IsSorted use_cmp) (sym c.deref.ensures.value) c.self.invariant))

pub returns : goal.returns
returns c =
    let few : length c.in_ok-pairs.pairs.items < 2 ^ 63 = search rules in
    let all : positions_in c.deref-3.result.now ≡ near_positions c.args.steps c.in_ok-vertices.vertices.items =
    ap positions_in c.deref-3.ensures.value
    ∙ all_places 18446744073709551615 c.args.steps c.deref-2.result.now c.in_ok-pairs.pairs.items c.in_ok-pairs.ensures (omega (arith, few))
    ∙ ap (near_positions c.args.steps) c.deref-2.ensures.value in
    IfOk-weaker c.clusters_of.result (AreJoined c.args.steps (positions_in c.deref-3.result.now)) (AreClusters c.args.self.now c.args.steps)
    (λ made joined. record {
      vertices = c.in_ok-vertices.vertices.items;
      are = record {
        ascend = c.in_ok-vertices.ensures.ascend (subst (IsSorted use_cmp) (sym c.deref.ensures.value) c.self.invariant);
        there = c.in_ok-vertices.ensures.there;
        all = c.in_ok-vertices.ensures.all ∙ c.deref.ensures.value ∙ c.self.view_is;
      };
      joined = subst (λ w. AreJoined c.args.steps w made) all joined;
    })
    c.clusters_of.ensures
