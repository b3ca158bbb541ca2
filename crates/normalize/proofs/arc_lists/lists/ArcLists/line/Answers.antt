use Rattle.std.proofs.Common.{◌∙◌, arith, sym}
use Rattle.lines.proofs.Positions.{position_true}
use Rattle.normalize.proofs.ArcListsLemmas.RunningOn.{line_is_empty, line_is_short, line_uses_twice, tangled}
use Rattle.normalize.proofs.ArcListsLemmas.Trails.{line_says}
use Rattle.normalize.proofs.arc_lists.lists.ArcLists.line.Goals as goal

pub returns-then-count-lt1 : goal.returns-then-count-lt1
returns-then-count-lt1 c =
    let lists = c.args.self.now in
    line_is_empty lists.arcs.now lists.summaries.items lists.known c.args.used.now c.in-Some.start c.in-Some.end c.in-Some.ensures.runs c.in-Some.ensures.some
    c.segment_count-count.result 18446744073709551615 c.segment_count-count.ensures (omega arith) c.if-count-lt1.true

pub returns-then-count-lt3 : goal.returns-then-count-lt3
returns-then-count-lt3 c =
    let lists = c.args.self.now in
    line_is_short lists.arcs.now lists.summaries.items lists.known c.args.used.now c.in-Some.start c.in-Some.end c.in-Some.ensures.runs c.in-Some.ensures.some
    c.segment_count-count.result 18446744073709551615 c.segment_count-count.ensures (omega arith)
    (position_true c.in-Some.start c.in-Some.end (sym c.eq.ensures ∙ c.if-eq.true)) c.if-count-lt3.true

pub returns-then-branch : goal.returns-then-branch
returns-then-branch c =
    let lists = c.args.self.now in
    let once = c.in_ok-are_once.ensures c.if-branch.true in
    line_says lists.arcs.now lists.summaries.items lists.labels.items lists.known lists.labelled c.args.used.now c.in-Some.start c.in-Some.end c.in-Some.ensures.runs
    once.simple once.labels.some once.labels.once

pub returns-then-branch-2 : goal.returns-then-branch-2
returns-then-branch-2 c =
    let lists = c.args.self.now in
    line_uses_twice lists.arcs.now lists.summaries.items lists.known c.args.used.now c.in-Some.start c.in-Some.end c.in-Some.ensures.runs c.in-Some.ensures.some
    c.segment_count-count.result 18446744073709551615 c.segment_count-count.ensures (omega arith) c.if-count-ge3.true (c.in_ok-uses_twice.ensures c.if-branch-2.true)

pub returns-else-branch-2 : goal.returns-else-branch-2
returns-else-branch-2 c =
    let lists = c.args.self.now in
    tangled lists.arcs.now lists.summaries.items lists.known c.args.used.now c.in-Some.start c.in-Some.end c.in-Some.ensures.runs c.in-Some.ensures.some

pub returns-else-count-ge3 : goal.returns-else-count-ge3
returns-else-count-ge3 c =
    let lists = c.args.self.now in
    tangled lists.arcs.now lists.summaries.items lists.known c.args.used.now c.in-Some.start c.in-Some.end c.in-Some.ensures.runs c.in-Some.ensures.some
