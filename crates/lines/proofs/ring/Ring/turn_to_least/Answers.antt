use Rattle.std.proofs.Common.{◌∙◌, length, ap, subst, arith}
use Rattle.lines.specs.Turned.{position_cmp}
use Rattle.lines.specs.Windows.{IsLeastStart}
use Rattle.lines.proofs.Codes.{ring_by_code, ring_long}
use Rattle.lines.proofs.ring.Ring.turn_to_least.Goals as goal

pub least_start-start-requires : goal.least_start-start-requires
least_start-start-requires c =
    let k = ring_long c.requires.0 c.args.closed.items c.requires.1 c.requires.2 in
    omega (arith, k, ap length c.deref.ensures.value)

pub invariant_of-result : goal.invariant_of-result
invariant_of-result c =
    let made = ring_by_code c.requires.0 c.args.closed.items c.truncate.new.self.items c.rotate_left.new.self.items c.from_vec.result
    c.least_start-start.result c.len.result c.requires.1 c.requires.2
    (subst (λ l. IsLeastStart position_cmp l c.least_start-start.result) c.deref.ensures.value c.least_start-start.ensures)
    (c.len.ensures ∙ c.args.closed.ok.0) c.truncate.ensures.items c.rotate_left.ensures.items c.from_vec.ensures in
    record { ring = made.is_ring; least = made.least }

pub returns : goal.returns
returns c = λ l e n.
    let made = ring_by_code l c.args.closed.items c.truncate.new.self.items c.rotate_left.new.self.items c.from_vec.result
    c.least_start-start.result c.len.result e n
    (subst (λ w. IsLeastStart position_cmp w c.least_start-start.result) c.deref.ensures.value c.least_start-start.ensures)
    (c.len.ensures ∙ c.args.closed.ok.0) c.truncate.ensures.items c.rotate_left.ensures.items c.from_vec.ensures in
    made.is
