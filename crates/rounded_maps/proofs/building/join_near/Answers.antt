use Rattle.std.proofs.Common.{inr, rules, subst}
use Rattle.rounded_maps.specs.Joined.{AreVertexUses}
use Rattle.rounded_maps.proofs.building.join_near.Goals as goal

pub returns-clause-err : goal.returns-clause-err
returns-clause-err c = λ files rounded.
    inr (record {
      read = c.args.maps.items;
      origins = c.args.origins.now;
      rounded = rounded;
      asked = search rules;
      uses = c.in_ok-index.index;
      of = subst (λ ms. AreVertexUses ms c.in_ok-index.index) c.as_slice.ensures.value c.in_ok-index.ensures;
      clusters = c.in_ok-clusters.clusters;
      are = c.in_ok-clusters.ensures;
      of_map = c.in-Err.fault;
      refused = c.in-Err.ensures.err;
      is = c.in_file.ensures;
    })
