use Rattle.std.proofs.Common.{◌≡◌, sym, ap, ◌∙◌, ◌+◌, map, inl, inr, drop, subst, [], ◌∷◌, true, false}
use Rattle.std.proofs.lemmas.List.{map-append}
use Rattle.chains.specs.Walk.{links_in}
use Rattle.chains.specs.Joined.{AmongSegments, IsJoining, Took}
use Rattle.chains.proofs.Noting.{joining_start}
use Rattle.chains.proofs.WalkSteps.{removed}
use Rattle.chains.proofs.Found.{two_steps, looped, all_found, Among-drop, Among-past, empty_links, none_below}
use Rattle.lines.proofs.Dropping.{drop_item}
use Rattle.grid.specs.declared.pos.Pos.{Pos}
use Rattle.chains.proofs.joining.chains_of.Goals as goal

yes_no : false ≡ true → ⊥
yes_no e = cc

pub loop-segment-init : goal.loop-segment-init
loop-segment-init c = λ ok. record {
  joining = subst (λ u. IsJoining c.args.segments.now c.args.stops.now c.in_ok-links.links (map (λ d. d.items) u)) (sym c.new-found.ensures.items)
      (joining_start c.args.segments.now c.args.stops.now (links_in c.in_ok-links.links) ok c.in_ok-links.ensures);
  rest = λ u v st s. inr s;
}

pub loop-segment-preserved : goal.loop-segment-preserved
loop-segment-preserved c = λ ok.
    let keys = c.args.stops.now in
    let segs = c.args.segments.now in
    let first : (Pos × Pos) → Type 0 = λ e.
    AmongSegments e.0 e.1 segs → IsJoining segs keys c.loop-segment.links (map (λ d. d.items) c.loop-segment.found.items) →
    Took segs keys c.take_from.new.links (map (λ d. d.items) c.loop-segment.found.items) (map (λ d. d.items) c.take_from.new.found.items) e.0 e.1 in
    let second : (Pos × Pos) → Type 0 = λ e.
    AmongSegments e.1 e.0 segs → IsJoining segs keys c.take_from.new.links (map (λ d. d.items) c.take_from.new.found.items) →
    Took segs keys c.take_from-in-loop-segment.new.links (map (λ d. d.items) c.take_from.new.found.items) (map (λ d. d.items) c.take_from-in-loop-segment.new.found.items) e.1 e.0 in
    let one : first c.ends.result = c.in_ok-take_from.ensures segs ok in
    let two : second c.ends.result = c.in_ok-take_from-2.ensures segs ok in
    let t = two_steps segs keys ok c.loop-segment.links c.take_from.new.links c.take_from-in-loop-segment.new.links
    (map (λ d. d.items) c.loop-segment.found.items) (map (λ d. d.items) c.take_from.new.found.items) (map (λ d. d.items) c.take_from-in-loop-segment.new.found.items)
    c.segment-item.result (drop c.loop-segment.segment-index segs) (drop (c.loop-segment.segment-index + 1) segs)
    (drop_item segs c.loop-segment.segment-index c.segment-item.result c.loop-segment-test.true c.segment-item.is)
    (λ u v h. Among-drop c.loop-segment.segment-index u v segs h)
    (c.loop-segment.invariant ok).joining (c.loop-segment.invariant ok).rest
    (subst first c.ends.ensures one) (subst second c.ends.ensures two) in
    record { joining = t.joining; rest = t.rest }

pub loop-seam-init : goal.loop-seam-init
loop-seam-init c = λ ok. record {
  joining = (c.loop-segment.invariant ok).joining;
  stops = λ u v st s. elim ((c.loop-segment.invariant ok).rest u v st s) [
    | inl t ↦ t
    | inr r ↦ absurd (Among-past c.loop-segment.segment-index u v c.args.segments.now c.loop-segment-test.false r)
  ];
}

pub loop-seam-preserved : goal.loop-seam-preserved
loop-seam-preserved c = λ ok.
    let t = looped c.args.segments.now c.args.stops.now ok c.loop-seam.links c.pop_first.new.self c.walk.new.links
    (map (λ d. d.items) c.loop-seam.found.items) (map (λ d. d.items) c.push.new.self.items) c.in-Some.seam c.in-Some.next c.in-Some.field-0-1-1
    c.in_ok-chain.chain.items (c.loop-seam.invariant ok).joining
    c.in-Some.ensures.value (removed c.loop-seam.links c.pop_first.new.self c.in-Some.seam c.in-Some.ensures.updates)
    (none_below c.loop-seam.links c.in-Some.seam c.in-Some.ensures.least) (c.loop-seam.invariant ok).stops c.in_ok-chain.ensures.walk
    (ap (λ u. map (λ d. d.items) u) c.in_ok-push.ensures.items ∙ map-append (λ d. d.items) c.loop-seam.found.items (c.in_ok-chain.chain ∷ [])) in
    record { joining = t.joining; stops = t.stops }

pub returns : goal.returns
returns c = λ ok.
    all_found c.args.segments.now c.args.stops.now ok c.loop-seam.links (map (λ d. d.items) c.loop-seam.found.items)
    (c.loop-seam.invariant ok).joining (c.loop-seam.invariant ok).stops
    (empty_links c.loop-seam.links (λ h. yes_no (c.in_default.ensures.variant.1 h)))
