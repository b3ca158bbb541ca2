-- The lists of lines and rings by the healed arcs, if these have the same pieces.
use Rattle.std.specs.Prelude.{◌&&◌, ◌+◌, ℕ, Bool, true, false, cond, List, [], ◌∷◌, ◌++◌, Option, Some, None, drop, take, length, slice_get}
use Rattle.std.specs.List.{list_all}
use Rattle.grid.specs.declared.pos.Pos.{Pos}
use Rattle.lines.specs.Turned.{position_cmp}
use Rattle.theory.specs.ArcNumbers.{ArcRef}
use Rattle.theory.specs.Refinement.{replaced}
use Rattle.theory.specs.Healing.{healed_list, healed_ring_list}
use Rattle.arcs.specs.contracts.table.ArcRefPartialEq.TheImpl as ref_eq
use Rattle.split_heal.specs.HealedParts.{HealedParts}
use Rattle.split_heal.specs.Starts.{starts_by}
use Rattle.topo.specs.Rewritten.{geometry_rewritten, layer_rewritten}
use Rattle.topo.specs.Parts.{LayerParts}
use Rattle.topo.specs.declared.geom.Geom.{Geom}
use lib.Pointwise.{pointwise}

-- whether there is a piece
abbrev pub some_piece : Option (List ArcRef) → Bool
some_piece None = false
some_piece (Some []) = false
some_piece (Some (a ∷ more)) = true

-- whether the used arc has pieces
abbrev pub has_pieces : List (List ArcRef) → ArcRef → Bool
has_pieces pieces a = some_piece (slice_get pieces a.arc)

-- whether each used arc of a list has pieces
abbrev pub all_have_pieces : List (List ArcRef) → List ArcRef → Bool
all_have_pieces pieces used = list_all (has_pieces pieces) used

abbrev pub same_ref : ArcRef → ArcRef → Bool
same_ref = ref_eq.eq-value.it

-- whether two lists of used arcs are equal
abbrev pub same_refs : List ArcRef → List ArcRef → Bool
same_refs = pointwise same_ref

-- the place of a used arc in a list; that behind the last where it is not there
abbrev pub place_of : ArcRef → List ArcRef → ℕ
place_of a [] = 0
place_of a (b ∷ refs) = cond (same_ref b a) 0 (1 + place_of a refs)

-- a list, begun where it has the first used arc of another
abbrev pub starts_as : List ArcRef → List ArcRef → List ArcRef
starts_as [] others = others
starts_as (a ∷ refs) others = drop (place_of a others) others ++ take (place_of a others) others

-- a list that stitches to nothing
abbrev pub nowhere : List (List Pos) → List ArcRef
nowhere arcs = record { arc = length arcs; reversed = false } ∷ []

-- a list where these are its pieces, and else one that stitches to nothing
abbrev pub listed_if : Bool → List (List Pos) → List ArcRef → List ArcRef
listed_if b arcs used = cond b used (nowhere arcs)

-- the list by the healed arcs, before it is compared
abbrev pub line_joined : List (List ArcRef) → HealedParts → List ArcRef → List ArcRef
line_joined pieces r used = healed_list (starts_by r.pieces) 0 (replaced pieces used)

-- the list of a ring by the healed arcs, before it is compared
abbrev pub ring_joined : List (List ArcRef) → HealedParts → List ArcRef → List ArcRef
ring_joined pieces r used = healed_ring_list position_cmp r.arcs.arcs (starts_by r.pieces) (replaced pieces used)

-- the list of a line by the healed arcs
abbrev pub line_healed : List (List ArcRef) → HealedParts → List ArcRef → List ArcRef
line_healed pieces r used =
    listed_if (all_have_pieces pieces used && same_refs (replaced r.pieces (line_joined pieces r used)) (replaced pieces used)) r.arcs.arcs (line_joined pieces r used)

-- the list of a ring
abbrev pub ring_healed : List (List ArcRef) → HealedParts → List ArcRef → List ArcRef
ring_healed pieces r used =
    listed_if (all_have_pieces pieces used && same_refs (replaced r.pieces (ring_joined pieces r used)) (starts_as (replaced r.pieces (ring_joined pieces r used)) (replaced pieces used))) r.arcs.arcs (ring_joined pieces r used)

-- a geometry by the healed arcs
abbrev pub geometry_healed : List (List ArcRef) → HealedParts → Geom → Geom
geometry_healed pieces r = geometry_rewritten (line_healed pieces r) (ring_healed pieces r)

-- a layer by the healed arcs
abbrev pub layer_healed : List (List ArcRef) → HealedParts → LayerParts → LayerParts
layer_healed pieces r = layer_rewritten (line_healed pieces r) (ring_healed pieces r)
