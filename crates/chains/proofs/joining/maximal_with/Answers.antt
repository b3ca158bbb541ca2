use Rattle.std.proofs.Common.{◌≡◌, ◌++◌, map, sym, ap, ◌∙◌, subst}
use Rattle.std.proofs.lemmas.List.{map-append}
use Rattle.chains.specs.Joined.{AreMaximal, AreParted, AreAllChains, MeetsTwo}
use Rattle.chains.proofs.AllChains.{all_maximal}
use Rattle.chains.proofs.Parted.{parted_chains}
use Rattle.chains.proofs.joining.maximal_with.Goals as goal

pub returns : goal.returns
returns c all two parted =
    let found = parted_chains all c.args.segments.now c.in_ok-stops.stops (map (λ d. d.items) c.args.whole.items) (map (λ d. d.items) c.in_ok-found.found.items)
    (subst (λ k. MeetsTwo all k) (sym c.in_ok-stops.ensures) two)
    (subst (λ k. AreParted all k (map (λ d. d.items) c.args.whole.items) c.args.segments.now) (sym c.in_ok-stops.ensures) parted)
    (c.in_ok-found.ensures (subst (λ k. MeetsTwo c.args.segments.now k) (sym c.in_ok-stops.ensures) c.requires)) in
    let these : map (λ d. d.items) c.append.new.self.items ≡ map (λ d. d.items) c.args.whole.items ++ map (λ d. d.items) c.in_ok-found.found.items =
    ap (λ u. map (λ d. d.items) u) c.in_ok-append.ensures.items ∙ map-append (λ d. d.items) c.args.whole.items c.in_ok-found.found.items in
    subst (λ k. AreMaximal all k c.in_ok-table.table) c.in_ok-stops.ensures
    (all_maximal all c.in_ok-stops.stops (subst (λ k. MeetsTwo all k) (sym c.in_ok-stops.ensures) two)
    (map (λ d. d.items) c.append.new.self.items) c.in_ok-pieces.pieces.items _ (subst (AreAllChains all c.in_ok-stops.stops) (sym these) found)
    c.in_ok-pieces.ensures c.in_ok-table.ensures.arcs c.in_ok-table.ensures.loops)
