use Rattle.shapes.proofs.MovingLemmas.{union_appended}
use Rattle.shapes.proofs.layer.append_few.Goals as goal

pub returns : goal.returns
returns c = union_appended c.args.many c.args.few c.append.new.self c.in_ok-append.ensures.inserts_all
