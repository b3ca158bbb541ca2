-- The vertices that two tables of arcs may share, and the arcs that have some.
use Rattle.std.specs.Prelude.{◌≡◌, ℕ, Bool, true, false, ◌&&◌, cond, drop, List, [], get_or, Option, Some, None, slice_get}
use Rattle.std.specs.List.{list_any}
use Rattle.theory.specs.Lists.{Has}
use Rattle.theory.specs.Refinement.{unclosed}
use Rattle.grid.specs.declared.pos.Pos.{Pos}
use Rattle.arcs.specs.Arcs.{Arcs}
use Rattle.lines.specs.PositionFilter as bits
use Rattle.arcs.specs.Extents.{within}
use Rattle.chains.specs.OfArcs.{arc_pieces}
use Rattle.arcs.specs.Table.{is_loop}
use Rattle.chains.specs.Visits.{inner_of, around_of}
use Rattle.arcs.specs.declared.arcs_box.Extent.{Extent}
use Rattle.chains.specs.declared.vertex_filter.VertexFilter.{VertexFilter}
use Rattle.chains.specs.declared.visits.Visit.{Visit}
use Rattle.arcs.specs.Placing.{whole}

-- whether a position may be a vertex of both tables
abbrev pub may_hold : VertexFilter → Pos → Bool
may_hold s p = within s.extent p && bits.may_hold s.bits p

-- the vertices of the arcs that lie in both extents may be vertices of both tables
abbrev pub HoldCommon : Extent → Extent → VertexFilter → List (List Pos) → Type 0
HoldCommon own other s arcs = (c : List Pos) → Has c arcs → (p : Pos) → Has p c → within own p ≡ true → within other p ≡ true → may_hold s p ≡ true

-- the vertices of the arcs of both tables may be
abbrev pub HoldShared : VertexFilter → List (List Pos) → List (List Pos) → Type 0
HoldShared s arcs others = (c : List Pos) → Has c arcs → (d : List Pos) → Has d others → (p : Pos) → Has p c → Has p d → may_hold s p ≡ true

-- of an arc that is not near none of the vertices may be
abbrev pub StaysApart : (Pos → Bool) → List Pos → Bool → Type 0
StaysApart may c near = near ≡ false → list_any may c ≡ false

-- the inner vertices of an arc: of a free loop all, otherwise all but the ends
abbrev pub inside : Bool → List Pos → List Pos
inside free c = cond free c (unclosed (drop 1 c))

-- whether the other table may have an inner vertex of an arc
abbrev pub meets : (Pos → Bool) → Bool → List Pos → Bool
meets may free c = list_any may (inside free c)

-- the visits of an arc that are no ends, if the other table may have an inner vertex of it
abbrev pub met_visits : (Pos → Bool) → Bool → List Pos → List Visit
met_visits may free c = cond (meets may free c) (cond free (around_of (unclosed c)) (inner_of c)) []

-- the same of an arc of a table
abbrev pub arc_meets : (Pos → Bool) → List (List Pos) → List Pos → Bool
arc_meets may loops c = meets may (is_loop loops c) c

-- the visits of an arc of a table that are no ends, if the other table may have an inner vertex of it
abbrev pub arc_shared : (Pos → Bool) → List (List Pos) → List Pos → List Visit
arc_shared may loops c = met_visits may (is_loop loops c) c

-- an arc that is not marked is its own one piece, where these are the junctions
abbrev pub StayWhole : List Pos → Arcs → List Bool → Type 0
StayWhole junctions t marks = (i : ℕ) (c : List Pos) → slice_get t.arcs i ≡ Some c → get_or marks i true ≡ false → arc_pieces junctions t.loops c ≡ whole t.loops c

-- some of all visits, and each that clashes with another
pub record KeepsClashes (kept all : List Visit) : Type 0 where
  pub only : (w : Visit) → Has w kept → Has w all
  pub clashing : (v w : Visit) → Has v all → Has w all → v.vertex ≡ w.vertex → ¬ (v ≡ w) → Has v kept
