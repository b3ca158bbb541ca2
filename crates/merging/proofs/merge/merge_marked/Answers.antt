use Rattle.std.proofs.Common.{◌≡◌, All, ap, sym, ◌∙◌, subst}
use Rattle.std.specs.Prelude.{map}
use Rattle.merging.specs.Leaves.{first_outside}
use Rattle.merging.specs.Naming.{AreMarksOf}
use Rattle.merging.specs.Plans.{first_other}
use Rattle.merging.proofs.MergeLemmas.{grids_merge, read_meant, length_bytes}
use Rattle.merging.proofs.KeptTexts.{some_kept, kept_union, one_grid_kept}
use Rattle.merging.proofs.merge.merge_marked.Goals as goal

pub read_marked-requires : goal.read_marked-requires
read_marked-requires g c = let (is, some, are) = c.requires.marked in record { marks = are.long }

pub returns-in-Some-clause-fault : goal.returns-in-Some-clause-fault
returns-in-Some-clause-fault g c = λ is are.
    let texts = map g.T.AsSlice.items c.args.texts.items in
    let indexes = ap (λ n. first_outside n is) (length_bytes g.T.AsSlice.items c.args.texts.items) ∙ are.indexes in
    let k = c.in_ok-grids.ensures.read in
    grids_merge (λ m. m.grid) (λ m. m.layers) texts k.meanings c.in_ok-grids.grids.items is c.in-Some.number indexes k.read k.grids_of
    (ap (first_other (λ g. g)) (sym c.deref.ensures.value) ∙ sym c.in-Some.ensures)

pub join_many-requires : goal.join_many-requires
join_many-requires g c =
    let texts = map g.T.AsSlice.items c.args.texts.items in
    let count = length_bytes g.T.AsSlice.items c.args.texts.items in
    let marks = c.args.marks.now in
    let (is, some, are) = c.requires.marked in
    record {
      some = some_kept g.S.Shard.grid_of g.S.Shard.map_of texts marks c.in_ok-grids.grids.items c.in_ok-grids.shards.items c.in_ok-grids.ensures.read is some
          (subst (λ n. AreMarksOf n is marks) (sym count) are);
    }

pub returns-in-Ok-clause-merged : goal.returns-in-Ok-clause-merged
returns-in-Ok-clause-merged g c = λ is are.
    let texts = map g.T.AsSlice.items c.args.texts.items in
    let grid = g.S.Shard.grid_of c.in-Ok.shard in
    let marks = c.args.marks.now in
    let grids = c.in_ok-grids.grids.items in
    let shards = c.in_ok-grids.shards.items in
    let k = c.in_ok-grids.ensures.read in
    let count = length_bytes g.T.AsSlice.items c.args.texts.items in
    let indexes = ap (λ n. first_outside n is) count ∙ are.indexes in
    let none = c.in_default.ensures ∙ ap (first_other (λ h. h)) c.deref.ensures.value in
    let (some_is, some, some_are) = c.requires.marked in
    let many = some_kept g.S.Shard.grid_of g.S.Shard.map_of texts marks grids shards k some_is some (subst (λ n. AreMarksOf n some_is marks) (sym count) some_are) in
    let (common, meant, on) = one_grid_kept g.S.Shard.grid_of g.S.Shard.map_of texts marks grids shards k none many in
    record {
      indexes = indexes;
      maps = map (λ m. m.layers) k.meanings;
      meant = read_meant (λ m. m.grid) (λ m. m.layers) grid texts k.meanings k.read (subst (λ h. All (λ m. m.grid ≡ h) k.meanings) (sym (c.in-Ok.ensures.grid common on)) meant);
      union = c.in-Ok.ensures.union ∙ kept_union g.S.Shard.grid_of g.S.Shard.map_of texts marks grids shards k is (subst (λ n. AreMarksOf n is marks) (sym count) are);
    }
