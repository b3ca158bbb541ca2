-- The table of arcs.
use Rattle.std.specs.Prelude.{◌≡◌, ℕ, Bool, true, false, cond, List, [], ◌∷◌, map, Option, Some, None, slice_get}
use Rattle.std.specs.Option.{option_map}
use Rattle.std.specs.List.{position, position_or_len, list_any}
use Rattle.theory.specs.Lists.{Has}
use Rattle.theory.specs.Chain.{Free}
use Rattle.theory.specs.Geometry.{Geometry, JunctionOf}
use Rattle.theory.specs.Arcs.{AreArcsOf, EachSegmentOnce}
use Rattle.theory.specs.Stitching.{HaveAllPieces}
use Rattle.theory.specs.ArcNumbers.{ArcRef}
use Rattle.grid.specs.declared.pos.Pos.{Pos}
use Rattle.lines.specs.Turned.{position_cmp}
use Rattle.lines.specs.Pairs.{position_eq}
use Rattle.arcs.specs.Among.{Tells}
use Rattle.arcs.specs.Arcs.{Arcs}
use Rattle.arcs.specs.Pieces.{chain_of, ArePieces}
use Rattle.arcs.specs.declared.piece.Piece.{Piece}
use lib.Pointwise.{pointwise}

-- whether two lists have equal positions
abbrev pub same_list : List Pos → List Pos → Bool
same_list = pointwise position_eq

-- the number of the arc that a piece is; that of all arcs where it is none [TopoJSON, 2]
abbrev pub number_in : List (List Pos) → Piece → ℕ
number_in arcs p = position_or_len (same_list p.chain) arcs

-- the used arc that runs along a piece; the number is that of all arcs where there is none [TopoJSON, 2]
abbrev pub located : List (List Pos) → Piece → ArcRef
located arcs p = record { arc = number_in arcs p; reversed = p.reversed }

-- the used arc that runs along a piece [TopoJSON, 2]
abbrev pub found_in : List (List Pos) → Piece → Option ArcRef
found_in arcs p = option_map (λ n. record { arc = n; reversed = p.reversed }) (position (same_list p.chain) arcs)

-- whether the list is one of the free loops
abbrev pub is_loop : List (List Pos) → List Pos → Bool
is_loop loops c = list_any (same_list c) loops

-- whether there is a list, and it is one of the free loops
abbrev pub is_loop_if : List (List Pos) → Option (List Pos) → Bool
is_loop_if loops None = false
is_loop_if loops (Some c) = is_loop loops c

-- whether the arc of a number is marked as a free loop
abbrev pub free_at : Arcs → ℕ → Bool
free_at t n = is_loop_if t.loops (slice_get t.arcs n)

-- each arc, and whether it is marked as a free loop
abbrev pub with_loops : Arcs → List (List Pos × Bool)
with_loops t = map (λ c. (c, is_loop t.loops c)) t.arcs

-- the arcs that are marked; where a mark is missing, it is not set
abbrev pub marked : List (List Pos) → List Bool → List (List Pos)
marked [] marks = []
marked (c ∷ arcs) [] = []
marked (c ∷ arcs) (b ∷ marks) = cond b (c ∷ marked arcs marks) (marked arcs marks)

-- the free loops are the chains of the pieces that are marked as free
pub record AreLoopsOf (ps : List Piece) (loops : List (List Pos)) : Type 0 where
  pub all : (p : Piece) → Has p ps → p.free ≡ true → Has p.chain loops
  pub only : (c : List Pos) → Has c loops → (p : Piece) × Has p ps × (c ≡ p.chain) × (p.free ≡ true)

-- pieces that have one chain carry one mark
abbrev pub AreAlike : List Piece → Type 0
AreAlike ps = (p q : Piece) → Has p ps → Has q ps → p.chain ≡ q.chain → p.free ≡ q.free

-- pieces of the map, among them those of each line and each ring
pub record ArePiecesOfMap (g : Geometry Pos) (ps : List Piece) : Type 0 where
  pub each : ArePieces g ps
  pub all : HaveAllPieces position_cmp g (map chain_of ps)

-- the arcs of the map, each marked as free exactly where no junction lies on it [TopoJSON, 2; own]
pub record IsTableOf (g : Geometry Pos) (t : Arcs) : Type 0 where
  pub arcs : AreArcsOf position_cmp g t.arcs
  pub free : (n : ℕ) (c : List Pos) → slice_get t.arcs n ≡ Some c → Tells (free_at t n) (Free (JunctionOf g) c)
  pub once : EachSegmentOnce g t.arcs
