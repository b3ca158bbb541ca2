use Rattle.std.proofs.Common.{◌∙◌, length, sym}
use Rattle.validate.proofs.Listing.{ring_goes, ring_once, ring_says}
use Rattle.validate.proofs.lists.is_valid_ring.Goals as goal

pub returns-then-not-add-clause-stands : goal.returns-then-not-add-clause-stands
returns-then-not-add-clause-stands c = (
  (λ e. absurd cc),
  (λ k. sym c.if-not-add.true ∙ c.add.ensures.once ∙ ring_once c.args.table.now (length c.args.used.now) c.requires c.args.refs.now k),
)

pub returns-then-not-goes_round-clause-stands : goal.returns-then-not-goes_round-clause-stands
returns-then-not-goes_round-clause-stands c = (
  (λ e. absurd cc),
  (λ k. sym c.if-not-goes_round.true ∙ c.goes_round.ensures.1 (ring_goes c.args.table.now (length c.args.used.now) c.requires c.args.refs.now k)),
)

pub returns-clause-stands : goal.returns-clause-stands
returns-clause-stands c =
    ring_says c.args.table.now (length c.args.used.now) c.requires c.args.refs.now c.starts_least.result (sym c.add.ensures.once ∙ c.if-not-add.false)
    (c.goes_round.ensures.0 c.if-not-goes_round.false) c.starts_least.ensures
