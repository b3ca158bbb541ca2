use Rattle.std.proofs.Common.{ap, length, map, subst, sym, take, ◌∙◌}
use Rattle.std.specs.List.Sorted.{IsPermutation, IsSorted}
use Rattle.compare.specs.Quality.Found.{places_of}
use Rattle.compare.specs.Quality.Near.{Ascend, near_pairs}
use Rattle.compare.specs.Quality.Uses.{all_uses, use_cmp}
use Rattle.compare.proofs.quality.near.near_vertices.Goals as goal

pub first_near-requires : goal.first_near-requires
first_near-requires c =
    subst Ascend (sym c.deref-2.ensures.value) (c.in_ok-vertices.ensures.ascend (subst (IsSorted use_cmp) (sym c.deref.ensures.value) c.in_ok-uses.ensures.sorted))

pub count_near-requires : goal.count_near-requires
count_near-requires c =
    subst Ascend (sym c.deref-3.ensures.value) (c.in_ok-vertices.ensures.ascend (subst (IsSorted use_cmp) (sym c.deref.ensures.value) c.in_ok-uses.ensures.sorted))

pub returns : goal.returns
returns c = record {
  vertices = c.in_ok-vertices.vertices.items;
  are = record {
    ascend = c.in_ok-vertices.ensures.ascend (subst (IsSorted use_cmp) (sym c.deref.ensures.value) c.in_ok-uses.ensures.sorted);
    there = c.in_ok-vertices.ensures.there;
    all = subst (IsPermutation (all_uses c.args.topology.now)) (sym (c.in_ok-vertices.ensures.all ∙ c.deref.ensures.value)) c.in_ok-uses.ensures.permutation;
  };
  count = c.count_near.ensures ∙ ap (λ l. length (near_pairs c.args.steps l)) c.deref-3.ensures.value;
  first = c.in_ok-first.ensures ∙ ap (λ l. take c.args.most (map places_of (near_pairs c.args.steps l))) c.deref-2.ensures.value;
}
