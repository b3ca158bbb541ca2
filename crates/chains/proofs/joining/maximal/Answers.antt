use Rattle.std.proofs.Common.{◌∙◌, map, subst, sym, ap}
use Rattle.chains.specs.Joined.{MeetsTwo}
use Rattle.chains.proofs.Parted.{alone_means}
use Rattle.chains.proofs.joining.maximal.Goals as goal

pub maximal_with-requires : goal.maximal_with-requires
maximal_with-requires c = subst (λ w. MeetsTwo w c.args.stops.now.keys) (sym (c.deref.ensures.value ∙ c.in_ok-list.ensures)) c.requires

pub returns : goal.returns
returns c =
    alone_means c.args.segments.now.keys c.deref.result.now c.args.stops.now.keys (map (λ d. d.items) c.new.result.items) c.maximal_with.result
    (c.deref.ensures.value ∙ c.in_ok-list.ensures) (ap (λ u. map (λ d. d.items) u) c.new.ensures.items) c.requires c.maximal_with.ensures
