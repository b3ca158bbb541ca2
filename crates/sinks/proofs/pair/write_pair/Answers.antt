use Rattle.std.proofs.Common.{arith, append-nil, to_z-of_z}
use Rattle.std.proofs.lemmas.List.{drop_all}
use Rattle.sinks.specs.Texts.{pair_text}
use Rattle.sinks.proofs.pair.write_pair.Goals as goal

pub returns-clause-written : goal.returns-clause-written
returns-clause-written c =
    rw (c.write_pair_to.ensures.written, drop_all 43 c.args.bytes.now (omega arith), to_z-of_z c.ranges.x, to_z-of_z c.ranges.y) (append-nil (pair_text c.args.x c.args.y))
