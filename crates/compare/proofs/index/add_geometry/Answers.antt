use Rattle.compare.proofs.Tables.{known_more}
use Rattle.compare.proofs.index.add_geometry.Goals as goal

pub returns : goal.returns
returns c = λ gs at known.
    known_more gs c.args.numbers.now c.insert.new.self c.args.number c.args.geometry c.args.number at (λ q. c.in_ok-insert.ensures.updates.0 q) known
