-- What is left of lines and rings, and what is counted.
use Rattle.std.specs.Prelude.{ℕ, ◌+◌, ◌-◌, ◌^◌, min, Bool, true, false, cond, not, ◌&&◌, List, [], ◌∷◌, ◌++◌, map, Option, Some, None, option_and_then}
use Rattle.std.specs.Option.{option_map}
use Rattle.grid.specs.declared.pos.Pos.{Pos}
use Rattle.theory.specs.LinesAndRings.{closed}
use Rattle.lines.specs.Reading.{collapsed, is_closed, line_fault, ring_fault}
use Rattle.lines.specs.Turned.{position_cmp}
use Rattle.lines.specs.declared.shape_fault.ShapeFault.{ShapeFault}
use Rattle.lines.specs.declared.shape_fault.ShapeFault.TheVariants.{TooShort, NotClosed, Revisit, OutOfMemory}
use Rattle.fixing.specs.Loops.{loops_of}
use Rattle.fixing.specs.Runs.{runs_of}
use Rattle.fixing.specs.declared.linework.Linework.{Linework}
use Rattle.fixing.specs.declared.linework.Linework.TheVariants.{Line, Ring}
use Rattle.fixing.specs.declared.linework.Fix.{Fix}
use Rattle.fixing.specs.declared.linework.Fix.TheVariants.{Nothing, Drop, Split}
use Rattle.fixing.specs.declared.rules.Collapsed.{Collapsed}
use Rattle.fixing.specs.declared.rules.Collapsed.TheVariants.{Refuse}
use Rattle.fixing.specs.declared.rules.Fixes.{Fixes}
use Rattle.fixing.specs.declared.rules.FixingRules.{FixingRules}

-- whether lines and rings of too few positions are refused
abbrev pub is_refusing : Collapsed → Bool
is_refusing Refuse = true
is_refusing _ = false

-- what is to be done with a line or ring that has a fault, or has none; none where the rules refuse it
abbrev pub need_of : FixingRules → Option ShapeFault → Option Fix
need_of rules None = Some Nothing
need_of rules (Some TooShort) = cond (is_refusing rules.collapsed) None (Some Drop)
need_of rules (Some Revisit) = cond rules.splits_folded (Some Split) None
need_of rules (Some NotClosed) = None
need_of rules (Some OutOfMemory) = None

-- the parts that a line or a closed list is split into
abbrev pub parts_of : Linework → List Pos → List (List Pos)
parts_of Line l = runs_of (collapsed position_cmp l)
parts_of Ring l = loops_of l

-- what is left of a list, where `parts` are those that it is split into
abbrev pub left_by : Fix → List Pos → List (List Pos) → List (List Pos)
left_by Nothing list parts = list ∷ []
left_by Drop list parts = []
left_by Split list parts = parts

-- what is to be done with a line
abbrev pub line_need : FixingRules → List Pos → Option Fix
line_need rules l = need_of rules (line_fault position_cmp l)

-- whether a ring is open: its last position is not its first
abbrev pub is_open : List Pos → Bool
is_open l = not (is_closed position_cmp l)

-- whether the rules close a ring
abbrev pub closes : FixingRules → List Pos → Bool
closes rules l = rules.closes_rings && is_open l

-- the list of a ring: where the rules close it, with its first position once more at its end [RFC 7946, 3.1.6]
abbrev pub closed_list : FixingRules → List Pos → List Pos
closed_list rules l = cond (closes rules l) (closed l) l

-- what is to be done with a closed list
abbrev pub closed_need : FixingRules → List Pos → Option Fix
closed_need rules l = need_of rules (ring_fault position_cmp l)

-- what is to be done with a ring
abbrev pub ring_need : FixingRules → List Pos → Option Fix
ring_need rules l = closed_need rules (closed_list rules l)

-- what is left of a line; none where it is refused
abbrev pub line_left : FixingRules → List Pos → Option (List (List Pos))
line_left rules l = option_map (λ need. left_by need l (runs_of (collapsed position_cmp l))) (line_need rules l)

-- what is left of a closed list; none where it is refused
abbrev pub closed_left : FixingRules → List Pos → Option (List (List Pos))
closed_left rules l = option_map (λ need. left_by need l (loops_of l)) (closed_need rules l)

-- what is left of a ring; none where it is refused
abbrev pub ring_left : FixingRules → List Pos → Option (List (List Pos))
ring_left rules l = closed_left rules (closed_list rules l)

-- the lines that are left of a line, equal neighbours read as one; none where it is refused
abbrev pub lines_left : FixingRules → List Pos → Option (List (List Pos))
lines_left rules l = option_map (map (collapsed position_cmp)) (line_left rules l)

-- the fault of a line or ring, if it has one that the rules don't fix
abbrev pub unfixed : FixingRules → Option ShapeFault → Option ShapeFault
unfixed rules None = None
unfixed rules (Some TooShort) = cond (is_refusing rules.collapsed) (Some TooShort) None
unfixed rules (Some Revisit) = cond rules.splits_folded None (Some Revisit)
unfixed rules (Some NotClosed) = Some NotClosed
unfixed rules (Some OutOfMemory) = Some OutOfMemory

-- what is left of each of the lists, one after the other; none where one is refused
abbrev pub all_left : {A B : Type 0} → (A → Option (List B)) → List A → Option (List B)
all_left left [] = Some []
all_left left (x ∷ l) = option_and_then (λ parts. option_map (λ more. parts ++ more) (all_left left l)) (left x)

-- a count of one more, up to the greatest
abbrev pub one_more : ℕ → ℕ
one_more n = min (n + 1) (2 ^ 64 - 1)

-- with what was done counted
abbrev pub counted : Option Fix → Fixes → Fixes
counted None fixes = fixes
counted (Some Nothing) fixes = fixes
counted (Some Drop) fixes = record fixes { collapsed = one_more fixes.collapsed }
counted (Some Split) fixes = record fixes { folded = one_more fixes.folded }

-- a ring counted as closed, where the rules close it
abbrev pub closed_counted : FixingRules → List Pos → Fixes → Fixes
closed_counted rules l fixes = cond (closes rules l) (record fixes { closed = one_more fixes.closed }) fixes

-- with what was done with a line counted
abbrev pub line_counted : FixingRules → List Pos → Fixes → Fixes
line_counted rules l fixes = counted (line_need rules l) fixes

-- with what was done with a ring counted: whether it was closed, and what then
abbrev pub ring_counted : FixingRules → List Pos → Fixes → Fixes
ring_counted rules l fixes = counted (ring_need rules l) (closed_counted rules l fixes)

-- with what was done with each counted
abbrev pub all_counted : {A : Type 0} → (A → Fixes → Fixes) → List A → Fixes → Fixes
all_counted count [] fixes = fixes
all_counted count (x ∷ l) fixes = all_counted count l (count x fixes)
