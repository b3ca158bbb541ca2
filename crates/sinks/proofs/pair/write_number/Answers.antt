use Rattle.std.proofs.Common.{arith, rules}
use Rattle.std.proofs.lemmas.Fmt.{length-decimal-le}
use Rattle.sinks.proofs.pair.write_number.Goals as goal

pub write_digits-start-requires : goal.write_digits-start-requires
write_digits-start-requires c = (omega (arith, length-decimal-le 19 c.unsigned_abs.result (omega arith) (omega arith) (omega arith)), search rules)

pub returns-then-number-ge0-clause-start : goal.returns-then-number-ge0-clause-start
returns-then-number-ge0-clause-start c = let short = length-decimal-le 19 c.unsigned_abs.result (omega arith) (omega arith) (omega arith) in (omega arith, omega arith)

pub write_byte-requires : goal.write_byte-requires
write_byte-requires c = let short = length-decimal-le 19 c.unsigned_abs.result (omega arith) (omega arith) (omega arith) in (omega arith, search rules)

pub returns-clause-start : goal.returns-clause-start
returns-clause-start c = let short = length-decimal-le 19 c.unsigned_abs.result (omega arith) (omega arith) (omega arith) in (omega arith, omega arith)
