use Rattle.std.proofs.Common.{sym, ap, ◌∙◌, map, inl, inr, [], ◌∷◌}
use Rattle.std.proofs.lemmas.List.{map-append}
use Rattle.chains.specs.Walk.{links_in}
use Rattle.chains.proofs.Found.{skipped, taken}
use Rattle.chains.proofs.Noting.{recorded_some, recorded_none}
use Rattle.chains.proofs.joining.take_from.Goals as goal
use Rattle.chains.proofs.joining.take_from.Goals.{else-not-is_stop-2-via-then-not-is_stop-2+else-not-contains_key, else-not-is_stop-2-via-else-not-is_stop-2}

pub returns-then-not-contains_key : goal.returns-then-not-contains_key
returns-then-not-contains_key c = λ segs ok s j.
    skipped segs c.args.stops.now ok c.args.links.now (map (λ d. d.items) c.args.found.now.items) c.args.from c.args.to s j
    (sym c.if-not-is_stop-2.ensures) (recorded_none (links_in c.args.links.now c.args.to) c.if-not-contains_key.ensures)

pub returns : goal.returns
returns c = λ segs ok s j.
    taken segs c.args.stops.now ok c.args.links.now c.walk.new.links (map (λ d. d.items) c.args.found.now.items)
    (map (λ d. d.items) c.push.new.self.items) c.args.from c.args.to c.in_ok-chain.chain.items s j (sym c.if-not-is_stop.ensures)
    (elim c.else-not-is_stop-2.branch [
      | else-not-is_stop-2-via-then-not-is_stop-2+else-not-contains_key w ↦ inr (recorded_some (links_in c.args.links.now c.args.to) w.if-not-contains_key.ensures)
      | else-not-is_stop-2-via-else-not-is_stop-2 w ↦ inl (sym w.if-not-is_stop-2.ensures)
    ])
    c.in_ok-chain.ensures.walk
    (ap (λ u. map (λ d. d.items) u) c.in_ok-push.ensures.items ∙ map-append (λ d. d.items) c.args.found.now.items (c.in_ok-chain.chain ∷ []))
