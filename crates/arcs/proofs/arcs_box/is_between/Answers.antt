use Rattle.std.proofs.Common.{arith}
use Rattle.std.proofs.lemmas.Int.{ints}
use Rattle.arcs.proofs.arcs_box.is_between.Goals as goal

pub returns-then-least-number : goal.returns-then-least-number
returns-then-least-number c = grind (arith, ints)

pub returns-else-least-number : goal.returns-else-least-number
returns-else-least-number c = grind (arith, ints)
