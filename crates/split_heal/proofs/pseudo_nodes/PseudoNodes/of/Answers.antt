use Rattle.std.proofs.Common.{◌↔◌, subst, rules}
use Rattle.std.specs.List.Sorted.{IsPermutation}
use Rattle.theory.specs.Lists.{Has}
use Rattle.split_heal.specs.ArcUseMap.{recorded_of}
use Rattle.split_heal.proofs.Pairing.{meeting_means}
use Rattle.split_heal.proofs.pseudo_nodes.PseudoNodes.of.Goals as goal

pub returns : goal.returns
returns c =
    meeting_means c.args.arcs.now.arcs c.args.chosen.now c.args.ends.now c.in_ok-stops.stops c.sort.new.self.items c.deref.result.now (recorded_of c.in_ok-partners.partners)
    (λ q. subst (λ w. Has q c.in_ok-stops.stops ↔ Has q w) (search rules) (c.in_ok-stops.ensures q))
    (subst (λ w. IsPermutation w c.sort.new.self.items) c.in_ok-sorted.ensures c.sort.ensures.permutation) c.in_ok-sort.ensures.sorted c.deref.ensures.value c.in_ok-partners.ensures
