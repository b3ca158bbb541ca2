-- How plans group their leaves.
use Rattle.std.specs.Prelude.{◌≡◌, ℕ, ◌+◌, ◌-◌, ◌/◌, ◌≤◌}
use Rattle.merging.specs.declared.plan.Plan.{Plan}
use Rattle.merging.specs.declared.plan.Plan.TheVariants.{Leaf, Node'}

abbrev pub IsLeaf : Plan → ℕ → Type 0
IsLeaf (Leaf i) k = i ≡ k
IsLeaf (Node' p left q right) k = ⊥

-- the plan joins these two plans, in this order
abbrev pub IsNode : Plan → Plan → Plan → Type 0
IsNode left right (Leaf i) = ⊥
IsNode left right (Node' p first q second) = (first ≡ left) × (second ≡ right)

-- the indexes below n, the last of them alone on the right, and so on on the left
abbrev pub IsLeft : Plan → ℕ → Type 0
IsLeft (Leaf i) n = (n ≡ 1) × (i ≡ 0)
IsLeft (Node' p left q right) n = (2 ≤ n) × IsLeft left (n - 1) × IsLeaf right (n - 1)

-- n indexes from the start on, the first of them alone on the left, and so on on the right
abbrev pub IsRight : Plan → ℕ → ℕ → Type 0
IsRight (Leaf i) start n = (n ≡ 1) × (i ≡ start)
IsRight (Node' p left q right) start n = (2 ≤ n) × IsLeaf left start × IsRight right (start + 1) (n - 1)

-- n indexes from the start on, the first half, rounded down, on the left, and so on on both sides
abbrev pub IsHalves : Plan → ℕ → ℕ → Type 0
IsHalves (Leaf i) start n = (n ≡ 1) × (i ≡ start)
IsHalves (Node' p left q right) start n = (2 ≤ n) × IsHalves left start (n / 2) × IsHalves right (start + n / 2) (n - n / 2)
