use Rattle.query.proofs.IndexLists.{put_index}
use Rattle.query.proofs.questions.neighbors.add_to_list.Goals as goal

pub returns-in_ok-add_once-in-Some : goal.returns-in_ok-add_once-in-Some
returns-in_ok-add_once-in-Some c =
    put_index (λ l. l.items) c.args.lists.now.items c.args.other c.args.index c.in-Some.list.now c.add_once.new.list
    c.in-Some.ensures.item.3.0 c.in-Some.ensures.value c.in_ok-add_once-in-Some.ensures
