-- Arcs as the table keeps them: in order, each once, with a mark where it is a free loop.
use Rattle.std.specs.Prelude.{ℕ, ◌<◌, Bool, true, false, cond, ◌&&◌, ◌||◌, List, [], ◌∷◌, drop, map, length, Contains, Option, Some, None, IfSome, ◌≡◌}
use Rattle.std.specs.Ordering.{is_lt}
use Rattle.theory.specs.TopologyFunction.{keep}
use Rattle.grid.specs.declared.pos.Pos.{Pos}
use Rattle.lines.specs.Turned.{list_cmp}
use Rattle.arcs.specs.Extents.{within}
use Rattle.arcs.specs.Holding.{HoldAll}
use Rattle.arcs.specs.Table.{same_list}
use Rattle.arcs.specs.declared.piece.Piece.{Piece}
use Rattle.arcs.specs.declared.arcs_box.Extent.{Extent}
use Rattle.arcs.specs.declared.stored.StoredArc.{StoredArc}

-- the positions of the arc
abbrev pub positions_of : StoredArc → List Pos
positions_of a = a.positions

-- whether it is marked as a free loop
abbrev pub is_marked : StoredArc → Bool
is_marked a = a.free

-- its positions, and whether it is marked
abbrev pub marked_positions : StoredArc → List Pos × Bool
marked_positions a = (a.positions, a.free)

-- the chain of a piece, with its mark
abbrev pub stored_of : Piece → StoredArc
stored_of p = record { positions = p.chain; free = p.free }

-- the arcs that are marked
abbrev pub loops_of : List StoredArc → List (List Pos)
loops_of arcs = map positions_of (keep is_marked arcs)

-- whether each list comes before the next
abbrev pub rises : List (List Pos) → Bool
rises [] = true
rises (c ∷ []) = true
rises (c ∷ (d ∷ l)) = is_lt (list_cmp c d) && rises (d ∷ l)

-- the arcs are in order, each once, and all positions lie in the box, where one is known
pub record AreKept (arcs : List StoredArc) (extent : Option Extent) : Type 0 where
  pub rising : rises (map positions_of arcs) ≡ true
  pub held : IfSome extent (λ e. HoldAll (within e) (map positions_of arcs))

-- the first of some marks; where there is none, it is not set
abbrev pub first_of : List Bool → Bool
first_of [] = false
first_of (b ∷ marks) = b

-- lists as arcs, each with its mark
abbrev pub with_marks : List (List Pos) → List Bool → List StoredArc
with_marks [] marks = []
with_marks (c ∷ arcs) marks = record { positions = c; free = first_of marks } ∷ with_marks arcs (drop 1 marks)

-- an arc, marked where one of the two is
abbrev pub with_mark : StoredArc → StoredArc → StoredArc
with_mark a b = record { positions = a.positions; free = a.free || b.free }

-- arcs of which equal ones are together, each once, where one more is in front
abbrev pub merged_from : StoredArc → List StoredArc → List StoredArc
merged_from last [] = last ∷ []
merged_from last (a ∷ l) = cond (same_list a.positions last.positions) (merged_from (with_mark last a) l) (last ∷ merged_from a l)

-- arcs of which equal ones are together, each once
abbrev pub merged : List StoredArc → List StoredArc
merged [] = []
merged (a ∷ l) = merged_from a l

-- the same, where one more may are in front
abbrev pub merged_behind : Option StoredArc → List StoredArc → List StoredArc
merged_behind None l = merged l
merged_behind (Some a) l = merged_from a l

-- each number is less than how many there are
abbrev pub AreBelow : List ℕ → Type 0
AreBelow ks = (k : ℕ) → Contains ks k → k < length ks
