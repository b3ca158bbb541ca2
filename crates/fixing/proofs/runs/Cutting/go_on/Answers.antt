use Rattle.std.proofs.Common.{ap, ◌∙◌}
use Rattle.std.specs.BTreeSet.{contains}
use Rattle.lines.specs.Pairs.{pair_cmp}
use Rattle.fixing.proofs.RunSteps.{step_new, used_means}
use Rattle.fixing.proofs.runs.Cutting.go_on.Goals as goal

pub returns-then-is_new : goal.returns-then-is_new
returns-then-is_new c = λ l.
    step_new (contains pair_cmp c.args.self.now.used) (contains pair_cmp c.insert.new.self) c.of.result c.args.self.now.here c.args.next c.of.ensures
    c.in_ok-is_new.ensures.updates.0 c.args.self.now.ended.items c.args.self.now.run.items c.push.new.self.items l c.in_ok-is_new.is_new
    c.in_ok-is_new.ensures.added c.if-is_new.true c.in_ok-push.ensures.items

pub returns : goal.returns
returns c =
    used_means c.begin_run.result (contains pair_cmp c.args.self.now.used) (contains pair_cmp c.begin_run.new.self.used) c.of.result c.args.self.now.here
    c.begin_run.new.self.here c.args.next c.of.ensures
    (λ q. ap (λ u. contains pair_cmp u q) c.begin_run.ensures.used ∙ c.in_ok-is_new.ensures.updates.0 q)
    c.args.self.now.ended.items c.begin_run.new.self.ended.items c.args.self.now.run.items c.begin_run.new.self.run.items
    c.in_ok-is_new.is_new c.begin_run.ensures.here c.in_ok-is_new.ensures.added c.if-is_new.false c.begin_run.ensures.ended c.begin_run.ensures.run
