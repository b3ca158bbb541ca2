use Rattle.std.proofs.Common.{arith, ◌≡◌, ◌++◌, ◌∙◌, ap, sym, map}
use Rattle.std.proofs.lemmas.Grind.{common_steps}
use Rattle.theory.specs.Lists.{gathered}
use Rattle.theory.specs.Topology.{rings_in}
use Rattle.chains.specs.Seen.{form_of, ring_of}
use Rattle.chains.specs.Visits.{around_of}
use Rattle.chains.specs.Noted.{visits_recorded}
use Rattle.chains.proofs.Layers.{rings_seen}
use Rattle.chains.proofs.Same.{same_equal, same_step}
use Rattle.chains.proofs.visits.VisitsSeen.see_rings.Goals as goal

pub loop-ring-init : goal.loop-ring-init
loop-ring-init c =
    let first : map ring_of c.into_iter-ring-iterator.result ≡ rings_in (form_of c.args.shape.now) = ap (map ring_of) (c.into_iter-ring-iterator.ensures.into_iter_gives ∙ c.rings-ring-items.ensures) ∙ sym (rings_seen c.args.shape.now) in
    record {
      ends = grind (arith, common_steps);
      visits = same_equal (ap (λ ls. visits_recorded c.args.self.now ++ gathered around_of ls) first);
    }

pub loop-ring-preserved : goal.loop-ring-preserved
loop-ring-preserved c = record {
  ends = grind (arith, common_steps);
  visits = same_step _ c.in_ok-see_ring.ensures.visits c.loop-ring.invariant.visits (grind (arith, common_steps));
}
