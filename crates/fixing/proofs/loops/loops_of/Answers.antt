use Rattle.std.proofs.Common.{◌+◌, ◌∙◌, sym, ap, drop}
use Rattle.std.proofs.lemmas.List.{drop_all}
use Rattle.theory.proofs.Lists.{append_nil}
use Rattle.lines.proofs.Dropping.{drop_item}
use Rattle.fixing.specs.Walks.{loops_left}
use Rattle.fixing.proofs.loops.loops_of.Goals as goal

pub loop-position-init : goal.loop-position-init
loop-position-init c = record { noted = c.new-walk.ensures.noted; left = c.new-walk.ensures.left c.args.closed.now }

pub step-requires : goal.step-requires
step-requires c = c.loop-position.invariant.noted

pub loop-position-preserved : goal.loop-position-preserved
loop-position-preserved c = record {
  noted = c.in_ok-step.ensures.noted;
  left = c.in_ok-step.ensures.left (drop (c.loop-position.position-index + 1) c.args.closed.now)
      ∙ ap (loops_left c.loop-position.walk) (sym (drop_item c.args.closed.now c.loop-position.position-index c.position-item.result c.loop-position-test.true c.position-item.is))
      ∙ c.loop-position.invariant.left;
}

pub returns : goal.returns
returns c =
    sym (append_nil c.loop-position.walk.loops.items)
    ∙ ap (loops_left c.loop-position.walk) (sym (drop_all c.loop-position.position-index c.args.closed.now c.loop-position-test.false))
    ∙ c.loop-position.invariant.left
