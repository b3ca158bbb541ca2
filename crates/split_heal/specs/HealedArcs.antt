-- What runs are joined to: for each run a new arc, and its old ones in order along it.
use Rattle.std.specs.Prelude.{ℕ, ◌+◌, ◌-◌, Bool, true, false, cond, ◌||◌, List, [], ◌∷◌, ◌++◌, take, drop, length, slice_set, Option, Some, None, unwrap_or}
use Rattle.std.specs.Ordering.{is_lt}
use Rattle.theory.specs.ArcNumbers.{ArcRef, along, backwards}
use Rattle.theory.specs.LinesAndRings.{closed}
use Rattle.theory.specs.Refinement.{turned_used}
use Rattle.grid.specs.declared.pos.Pos.{Pos}
use Rattle.lines.specs.Turned.{position_cmp}
use Rattle.arcs.specs.Pieces.{is_backwards_less, least_direction}
use Rattle.arcs.specs.declared.piece.Piece.{Piece}

-- the positions along a used arc; none where there is no arc
abbrev pub positions_along : List (List Pos) → ArcRef → List Pos
positions_along arcs a = unwrap_or (along arcs a) []

-- a list without its last
abbrev pub without_last : {A : Type 0} → List A → List A
without_last l = take (length l - 1) l

-- a chain, and what further used arcs run along, each from the last position on
abbrev pub on_along : List (List Pos) → List Pos → List ArcRef → List Pos
on_along arcs l [] = l
on_along arcs l (a ∷ more) = on_along arcs (without_last l ++ positions_along arcs a) more

-- what a run runs along
abbrev pub run_along : List (List Pos) → List ArcRef → List Pos
run_along arcs [] = []
run_along arcs (a ∷ more) = on_along arcs (positions_along arcs a) more

-- a list begun at a place
abbrev pub started_at : {A : Type 0} → ℕ → List A → List A
started_at i l = drop i l ++ take i l

-- the place of the first least vertex, where the list goes on at place i
abbrev pub least_vertex_from : ℕ → Pos → ℕ → List Pos → ℕ
least_vertex_from place least i [] = place
least_vertex_from place least i (p ∷ l) =
    least_vertex_from (cond (is_lt (position_cmp p least)) i place) (cond (is_lt (position_cmp p least)) p least) (i + 1) l

-- the place of the first least vertex of a list
abbrev pub least_vertex : List Pos → ℕ
least_vertex [] = 0
least_vertex (p ∷ l) = least_vertex_from 0 p 1 l

-- a closed list, read from its least vertex
abbrev pub from_least : List Pos → List Pos
from_least l = closed (started_at (least_vertex (without_last l)) (without_last l))

abbrev pub is_there : Option ArcRef → Bool
is_there None = false
is_there (Some a) = true

-- whether an arc goes on to the first, so that the run goes round
abbrev pub goes_round : (ArcRef → Option ArcRef) → List ArcRef → Bool
goes_round partner [] = false
goes_round partner (a ∷ more) = is_there (partner a)

-- the chain of a run
abbrev pub chain_by : List (List Pos) → Bool → List ArcRef → List Pos
chain_by arcs round run = cond round (from_least (run_along arcs run)) (run_along arcs run)

-- the run in the direction of the new arc
abbrev pub directed : Bool → List ArcRef → List ArcRef
directed reversed run = cond reversed (backwards run) run

-- the same, and a loop's begun where it starts least
abbrev pub list_by : List (List Pos) → Bool → List ArcRef → List ArcRef
list_by arcs round run = cond round (turned_used position_cmp arcs run) run

-- the arc that a run is, ahead and from end to end, where it is one arc alone
abbrev pub whole_arc : Bool → List ArcRef → Option ℕ
whole_arc round [] = None
whole_arc round (a ∷ []) = cond (round || a.reversed) None (Some a.arc)
whole_arc round (a ∷ (b ∷ more)) = None

-- the new arc of a run that is open, or goes round: its chain in its least direction, and whether the run goes
-- against it
abbrev pub piece_by : List (List Pos) → Bool → List ArcRef → Piece
piece_by arcs round run = record {
  chain = least_direction (chain_by arcs round run);
  reversed = is_backwards_less (chain_by arcs round run);
  free = round;
}

-- the new arc of a run of old ones, as a piece
abbrev pub piece_of_run : List (List Pos) → (ArcRef → Option ArcRef) → List ArcRef → Piece
piece_of_run arcs partner run = piece_by arcs (goes_round partner run) run

-- the old arcs of a run in order along its new arc; those of a loop begin where they start least
abbrev pub list_of_run : List (List Pos) → (ArcRef → Option ArcRef) → List ArcRef → List ArcRef
list_of_run arcs partner run = list_by arcs (goes_round partner run) (directed (is_backwards_less (chain_by arcs (goes_round partner run) run)) run)

-- each list put at the number of its arc, among these
abbrev pub put_all : List ArcRef → List (List ArcRef) → List (List ArcRef) → List (List ArcRef)
put_all [] lists made = made
put_all (a ∷ refs) [] made = made
put_all (a ∷ refs) (l ∷ lists) made = put_all refs lists (slice_set made a.arc l)
