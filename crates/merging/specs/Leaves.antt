-- The leaves of plans.
use Rattle.std.specs.Prelude.{ℕ, ◌<◌, List, [], ◌∷◌, ◌++◌, Option, Some, None, cond, nat_lt}
use Rattle.merging.specs.declared.plan.Plan.{Plan}
use Rattle.merging.specs.declared.plan.Plan.TheVariants.{Leaf, Node'}

-- the leaves from left to right
abbrev pub leaves : Plan → List ℕ
leaves (Leaf i) = i ∷ []
leaves (Node' p left q right) = leaves left ++ leaves right

-- each leaf is an index of a list of n
abbrev pub HasIndexes : ℕ → Plan → Type 0
HasIndexes n (Leaf i) = i < n
HasIndexes n (Node' p left q right) = HasIndexes n left × HasIndexes n right

-- the first number of the list that is no index of a list of n
abbrev pub first_outside : ℕ → List ℕ → Option ℕ
first_outside n [] = None
first_outside n (i ∷ is) = cond (nat_lt i n) (first_outside n is) (Some i)
