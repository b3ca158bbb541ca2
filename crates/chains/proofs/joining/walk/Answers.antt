use Rattle.std.proofs.Common.{sym, rules, arith}
use Rattle.std.proofs.lemmas.Grind.{common_steps}
use Rattle.chains.proofs.WalkSteps.{removed, onward_yes, onward_no, one_further, walk_over}
use Rattle.chains.proofs.joining.walk.Goals as goal
use Rattle.chains.proofs.joining.walk.Goals.{then-eq, else-eq}

pub loop-first-preserved : goal.loop-first-preserved
loop-first-preserved c = record {
  come =
      one_further c.args.links.now c.loop-first.links c.remove.new.self c.args.from c.args.to c.loop-first.before c.loop-first.here c.if-eq.next
      c.in-Some.first c.in-Some.second c.loop-first.chain.items c.push-in-Some.new.self.items c.loop-first.invariant.come (search rules)
      (removed c.loop-first.links c.remove.new.self c.loop-first.here c.remove.ensures.updates)
      (elim c.if-eq.branch [
        | then-eq w ↦ onward_yes c.loop-first.before c.in-Some.first c.in-Some.second c.if-eq.next (sym w.if-eq.ensures) w.next-is
        | else-eq w ↦ onward_no c.loop-first.before c.in-Some.first c.in-Some.second c.if-eq.next (sym w.if-eq.ensures) w.next-is
      ])
      c.in_ok-push-3.ensures.items;
  len = grind (arith, common_steps, c.remove.ensures.len, c.loop-first.invariant.len);
}

pub returns-clause-walk : goal.returns-clause-walk
returns-clause-walk c =
    walk_over c.args.links.now c.loop-first.links c.remove.new.self c.args.from c.args.to c.loop-first.before c.loop-first.here
    c.loop-first.chain.items c.loop-first.invariant.come (search rules) (search rules)
