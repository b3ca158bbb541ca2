use Rattle.std.proofs.Common.{refl}
use Rattle.arcs.proofs.Merged.{emptied}
use Rattle.compare.proofs.QualityLemmas.Grouping.{all_grouped, grouped_step, ordered_starts, ordered_step, starts}
use Rattle.compare.proofs.quality.vertices.vertices_of.Goals as goal

pub loop-first-init : goal.loop-first-init
loop-first-init c = record {
  grouped = starts c.args.uses.now c.new-vertices.result.items c.new-vertices.ensures.items;
  ordered = λ s. ordered_starts c.args.uses.now c.new-vertices.result.items c.new-vertices.ensures.items s;
}

pub loop-first-preserved : goal.loop-first-preserved
loop-first-preserved c = record {
  grouped =
      grouped_step c.args.uses.now c.loop-first.left.now c.in-Some.others.now c.split_at.result.0.now c.split_at.result.1.now c.in-Some.first.now c.loop-first.vertices.items
      c.push.new.self.items _ c.count_at.result c.in-Some.ensures.cases.0 c.count_at.ensures.count c.split_at.ensures.front c.split_at.ensures.back
      c.in_ok-push.ensures.items refl refl c.loop-first.invariant.grouped;
  ordered = λ s.
      ordered_step c.args.uses.now c.loop-first.left.now c.in-Some.others.now c.split_at.result.0.now c.split_at.result.1.now c.in-Some.first.now c.loop-first.vertices.items
      c.push.new.self.items _ c.count_at.result c.in-Some.ensures.cases.0 c.count_at.ensures.count c.split_at.ensures.front c.split_at.ensures.back
      c.in_ok-push.ensures.items refl refl (c.loop-first.invariant.ordered s);
}

pub returns-clause-ascend : goal.returns-clause-ascend
returns-clause-ascend c = λ s. (c.loop-first.invariant.ordered s).ascend

pub returns-clause-there : goal.returns-clause-there
returns-clause-there c = c.loop-first.invariant.grouped.there

pub returns-clause-all : goal.returns-clause-all
returns-clause-all c = all_grouped c.args.uses.now c.loop-first.left.now c.loop-first.vertices.items (emptied c.loop-first.left.now c.in_default.ensures.cases) c.loop-first.invariant.grouped
