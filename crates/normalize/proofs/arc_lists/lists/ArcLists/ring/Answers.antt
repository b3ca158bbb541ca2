use Rattle.std.proofs.Common.{arith}
use Rattle.normalize.proofs.ArcListsLemmas.RunningOn.{agree_at, differ, ring_is_open, ring_is_short, ring_uses_twice, tangled}
use Rattle.normalize.proofs.ArcListsLemmas.Trails.{ring_says}
use Rattle.normalize.proofs.arc_lists.lists.ArcLists.ring.Goals as goal

pub returns-then-ne : goal.returns-then-ne
returns-then-ne c =
    let lists = c.args.self.now in
    ring_is_open lists.arcs.now lists.summaries.items lists.known c.args.used.now c.in-Some.start c.in-Some.end c.in-Some.ensures.runs c.in-Some.ensures.some
    (differ c.in-Some.start c.in-Some.end c.ne.result c.ne.ensures c.if-ne.true)

pub returns-then-count-lt3 : goal.returns-then-count-lt3
returns-then-count-lt3 c =
    let lists = c.args.self.now in
    ring_is_short lists.arcs.now lists.summaries.items lists.known c.args.used.now c.in-Some.start c.in-Some.end c.in-Some.ensures.runs c.in-Some.ensures.some
    c.segment_count-count.result 18446744073709551615 c.segment_count-count.ensures (omega arith)
    (agree_at c.in-Some.start c.in-Some.end c.ne.result c.ne.ensures c.if-ne.false) c.if-count-lt3.true

pub returns-then-branch : goal.returns-then-branch
returns-then-branch c =
    let lists = c.args.self.now in
    let once = c.in_ok-are_once.ensures c.if-branch.true in
    ring_says lists.arcs.now lists.summaries.items lists.labels.items lists.known lists.labelled c.args.used.now c.in-Some.start c.in-Some.end c.in-Some.ensures.runs
    once.simple once.labels.some once.labels.once (agree_at c.in-Some.start c.in-Some.end c.ne.result c.ne.ensures c.if-ne.false)

pub returns-then-branch-2 : goal.returns-then-branch-2
returns-then-branch-2 c =
    let lists = c.args.self.now in
    ring_uses_twice lists.arcs.now lists.summaries.items lists.known c.args.used.now c.in-Some.start c.in-Some.end c.in-Some.ensures.runs c.in-Some.ensures.some
    c.segment_count-count.result 18446744073709551615 c.segment_count-count.ensures (omega arith)
    (agree_at c.in-Some.start c.in-Some.end c.ne.result c.ne.ensures c.if-ne.false) c.if-count-lt3.false (c.in_ok-uses_twice.ensures c.if-branch-2.true)

pub returns : goal.returns
returns c =
    let lists = c.args.self.now in
    tangled lists.arcs.now lists.summaries.items lists.known c.args.used.now c.in-Some.start c.in-Some.end c.in-Some.ensures.runs c.in-Some.ensures.some
