use Rattle.std.proofs.Common.{ap, length, map, subst, sym, take, ◌∙◌}
use Rattle.std.specs.List.Sorted.{IsSorted}
use Rattle.compare.specs.Quality.Found.{places_of}
use Rattle.compare.specs.Quality.Near.{Ascend, near_pairs}
use Rattle.compare.specs.Quality.Uses.{use_cmp}
use Rattle.snapping.specs.NearlyShared.Shared.{first_of, shared}
use Rattle.snapping.proofs.NearlySharedLemmas.Sharing.{first_is}
use Rattle.snapping.proofs.nearly_shared.index.VertexIndex.count.Goals as goal

pub first_near-requires : goal.first_near-requires
first_near-requires c =
    subst Ascend (sym c.deref-2.ensures.value) (c.in_ok-vertices.ensures.ascend (subst (IsSorted use_cmp) (sym c.deref.ensures.value) c.self.invariant))

pub count_near-requires : goal.count_near-requires
count_near-requires c =
    subst Ascend (sym c.deref-4.ensures.value) (c.in_ok-vertices.ensures.ascend (subst (IsSorted use_cmp) (sym c.deref.ensures.value) c.self.invariant))

pub returns : goal.returns
returns c = record {
  vertices = c.in_ok-vertices.vertices.items;
  are = record {
    ascend = c.in_ok-vertices.ensures.ascend (subst (IsSorted use_cmp) (sym c.deref.ensures.value) c.self.invariant);
    there = c.in_ok-vertices.ensures.there;
    all = c.in_ok-vertices.ensures.all ∙ c.deref.ensures.value ∙ c.self.view_is;
  };
  shared = c.count_shared.ensures ∙ ap (λ l. length (shared l)) c.deref-3.ensures.value;
  count = c.count_near.ensures ∙ ap (λ l. length (near_pairs c.args.steps l)) c.deref-4.ensures.value;
  first =
      c.first_places.ensures
      ∙ ap first_of (c.deref-5.ensures.value ∙ c.in_ok-first.ensures ∙ ap (λ l. take 1 (map places_of (near_pairs c.args.steps l))) c.deref-2.ensures.value)
      ∙ first_is (near_pairs c.args.steps c.in_ok-vertices.vertices.items);
}
