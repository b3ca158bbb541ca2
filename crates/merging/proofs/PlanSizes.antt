-- How much of a plan is left to look at, to run or to give up.
use Rattle.std.proofs.Common.{ℕ, ◌+◌, ◌*◌}
use Rattle.merging.specs.declared.plan.Plan.{Plan}
use Rattle.merging.specs.declared.plan.Plan.TheVariants.{Leaf, Node'}

-- less after a turn to the right, and for each part
abbrev pub weight : Plan → ℕ
weight (Leaf i) = 0
weight (Node' p left q right) = 2 * weight left + weight right + 1

-- how many leaves and nodes
abbrev pub size : Plan → ℕ
size (Leaf i) = 1
size (Node' p left q right) = size left + size right + 1
