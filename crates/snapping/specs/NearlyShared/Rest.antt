-- Positions of pairs, each with those that stand beside it, while components are taken out.
use Rattle.std.specs.Prelude.{◌≡◌, ◌⊎◌, ◌↔◌, ℕ, Bool, true, false, cond, List, [], ◌∷◌, ◌++◌, Option, Some, None, IsSome, Vec}
use Rattle.std.specs.BTreeMap.{BTreeMap, get, Updates}
use Rattle.std.specs.Ordering.{is_eq}
use Rattle.std.specs.declared.alloc.Global.{Global}
use Rattle.grid.specs.declared.pos.Pos.{Pos}
use Rattle.lines.specs.Pairs.{position_eq}
use Rattle.lines.specs.Turned.{position_cmp}
use Rattle.theory.specs.Lists.{Has}
use Rattle.snapping.specs.NearlyShared.Connected.{Connected, are_within}

-- a table of the positions beside positions
abbrev pub Table : Type 0
Table = BTreeMap Pos (Vec Pos Global)

-- the positions of a list that may be there
abbrev pub listed : Option (Vec Pos Global) → List Pos
listed None = []
listed (Some v) = v.items

-- what the table has at a position
abbrev pub beside : Table → Pos → List Pos
beside m q = listed (get position_cmp m q)

-- the positions beside q, where one more is noted at p
abbrev pub recorded : Pos → Pos → Pos → List Pos → List Pos
recorded p other q l = cond (is_eq (position_cmp p q)) (l ++ (other ∷ [])) l

-- p and q are a pair, in either order
abbrev pub ArePaired : List (Pos × Pos) → Pos → Pos → Type 0
ArePaired pairs p q = Has (p, q) pairs ⊎ Has (q, p) pairs

-- the table has of each position those that it is paired with
abbrev pub AreBeside : List (Pos × Pos) → Table → Type 0
AreBeside pairs m = (p q : Pos) → Has q (beside m p) ↔ ArePaired pairs p q

-- what is left of the table has of each position that is left those that it is paired with, and they are left too
pub record IsRest (pairs : List (Pos × Pos)) (m : Table) : Type 0 where
  pub lists : (p : Pos) (v : Vec Pos Global) → get position_cmp m p ≡ Some v → (q : Pos) → Has q v.items ↔ ArePaired pairs p q
  pub closed : (p q : Pos) → IsSome (get position_cmp m p) → ArePaired pairs p q → IsSome (get position_cmp m q)

-- the members, and no others, are taken out of the table `whole`
pub record AreOut (whole left : Table) (members : List Pos) : Type 0 where
  pub there : (q : Pos) → Has q members → IsSome (get position_cmp whole q)
  pub gone : (q : Pos) → Has q members → get position_cmp left q ≡ None
  pub kept : (q : Pos) → ¬ Has q members → get position_cmp left q ≡ get position_cmp whole q

-- the members are all that is connected with the first, and are taken out
pub record IsTaken (pairs : List (Pos × Pos)) (whole left : Table) (first : Pos) (members : List Pos) : Type 0 where
  pub connected : (q : Pos) → Has q members ↔ Connected pairs first q
  pub out : AreOut whole left members

-- the first is taken out of what was left, and with it all that is connected with it
abbrev pub Takes : Pos → Vec Pos Global → Table → Table → List Pos → Type 0
Takes first others old new members =
    (pairs : List (Pos × Pos)) (whole : Table) → IsRest pairs whole → get position_cmp whole first ≡ Some others → Updates position_cmp whole old first None →
    IsTaken pairs whole new first members

-- where q is moved, when the positions of a list other than the first are moved to that
abbrev pub moved_to : Pos → List Pos → Pos → Option Pos → Option Pos
moved_to first [] q o = o
moved_to first (p ∷ ps) q o = moved_to first ps q (cond (position_eq p first) o (cond (is_eq (position_cmp p q)) (Some first) o))

-- whether each of the positions is at most n steps from r
abbrev pub all_within : ℕ → Pos → List Pos → Bool
all_within n r [] = true
all_within n r (p ∷ ps) = cond (are_within n r p) (all_within n r ps) false
