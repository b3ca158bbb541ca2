use Rattle.std.proofs.Common.{◌≡◌, ◌≤◌, ◌∙◌, Some, ap, arith, length, refl, slice_get, subst, suc, sym}
use Rattle.std.specs.List.{between}
use Rattle.split_heal.proofs.Bounds.{between_bounds, bounds_within, no_begin, no_end, past, stands}
use Rattle.split_heal.proofs.piece_lists.PieceLists.get.Goals as goal
use Rattle.split_heal.proofs.piece_lists.PieceLists.get.Goals.{In-Some-get}

-- the bounds that were found
found : (c : In-Some-get) →
    (slice_get c.self.inside.bounds.items c.args.number ≡ Some c.in-Some.from.now) × (slice_get c.self.inside.bounds.items (suc c.args.number) ≡ Some c.in-Some-get.to.now)
found c =
    let bs = c.self.inside.bounds.items in
    let n = c.args.number in (
      stands c.deref.result.now bs n n _ c.deref.ensures.value c.in-Some.ensures.lookup.0 c.in-Some.ensures.lookup.1 refl,
      stands c.deref-in-Some.result.now bs _ (suc n) _ c.deref-in-Some.ensures.value c.in-Some-get.ensures.lookup.0 c.in-Some-get.ensures.lookup.1 (omega arith),
    )

pub part-requires-clause-order : goal.part-requires-clause-order
part-requires-clause-order c =
    let (from, to) = found (goal.at.part-requires-clause-order c).In-Some-get in
    (bounds_within c.self.inside.bounds.items (length c.self.inside.refs.items) c.args.number c.in-Some.from.now c.in-Some-get.to.now c.self.invariant from to).0

pub part-requires-clause-bound : goal.part-requires-clause-bound
part-requires-clause-bound c =
    let (from, to) = found (goal.at.part-requires-clause-bound c).In-Some-get in
    subst (λ l. c.in-Some-get.to.now ≤ length l) (sym c.deref-in-Some-get.ensures.value)
    (bounds_within c.self.inside.bounds.items (length c.self.inside.refs.items) c.args.number c.in-Some.from.now c.in-Some-get.to.now c.self.invariant from to).1

pub returns-in-Some-get : goal.returns-in-Some-get
returns-in-Some-get c =
    let (from, to) = found (goal.at.returns-in-Some-get c).In-Some-get in
    ap Some c.part.ensures
    ∙ ap (λ l. Some (between c.in-Some.from.now c.in-Some-get.to.now l)) c.deref-in-Some-get.ensures.value
    ∙ sym (between_bounds c.self.inside.bounds.items c.self.inside.refs.items c.args.number c.in-Some.from.now c.in-Some-get.to.now from to)
    ∙ ap (λ ls. slice_get ls c.args.number) c.self.view_is

pub returns-in-None-get : goal.returns-in-None-get
returns-in-None-get c =
    let bs = c.self.inside.bounds.items in
    let n = c.args.number in
    sym (no_end bs c.self.inside.refs.items n (past c.deref-in-Some.result.now bs _ (suc n) c.deref-in-Some.ensures.value c.in-None-get.ensures.lookup.0 (omega arith)))
    ∙ ap (λ ls. slice_get ls n) c.self.view_is

pub returns-in-None : goal.returns-in-None
returns-in-None c =
    let bs = c.self.inside.bounds.items in
    let n = c.args.number in
    sym (no_begin bs c.self.inside.refs.items n (past c.deref.result.now bs n n c.deref.ensures.value c.in-None.ensures.lookup.0 refl))
    ∙ ap (λ ls. slice_get ls n) c.self.view_is
