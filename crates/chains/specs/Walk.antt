-- Walks along noted links.
use Rattle.std.specs.Prelude.{◌≡◌, List, ◌∷◌, ◌++◌, Option}
use Rattle.std.specs.BTreeMap.{BTreeMap, get}
use Rattle.theory.specs.Walking.{Walked}
use Rattle.grid.specs.declared.pos.Pos.{Pos}
use Rattle.lines.specs.Turned.{position_cmp}

-- the links that a map of two neighbours has
abbrev pub links_in : BTreeMap Pos (Pos × Pos) → Pos → Option (Pos × Pos)
links_in m q = get position_cmp m q

-- the list is from, to and what a walk from there goes on by
abbrev pub IsWalk : BTreeMap Pos (Pos × Pos) → Pos → Pos → List Pos → BTreeMap Pos (Pos × Pos) → Type 0
IsWalk m from to l k = (q : List Pos) × (l ≡ from ∷ (to ∷ q)) × Walked (links_in m) from to q (links_in k)

-- a walk from `from` to `to` has come by the list from `before` to `here`
abbrev pub HasCome : BTreeMap Pos (Pos × Pos) → Pos → Pos → List Pos → BTreeMap Pos (Pos × Pos) → Pos → Pos → Type 0
HasCome m from to l n before here =
    (q : List Pos) × (l ≡ from ∷ (to ∷ q)) ×
    ((s : List Pos) (k : Pos → Option (Pos × Pos)) → Walked (links_in n) before here s k → Walked (links_in m) from to (q ++ s) k)
