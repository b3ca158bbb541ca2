-- Worked rows of arcs that are cut again, by computation: for each old arc the indexes, in the table of the union, of its pieces.
-- Vertices are pairs of whole numbers, ordered by the first, then the second.
use Rattle.std.proofs.Common.{◌≡◌, ℕ, ℤ, pos, List, [], ◌∷◌, refl, true, false}
use Rattle.std.specs.Prelude.{map, negsuc}
use Rattle.theory.proofs.WorkedRows.{Position, by_position, first, p, second, third, triangle}
use Rattle.theory.specs.ArcNumbers.{ArcRef, index_of}
use Rattle.theory.specs.Geometry.{Geometry}
use Rattle.theory.specs.Refinement.{both_of, recut, replaced, turned_used}
use Rattle.theory.specs.TopologyFunction.{arcs_of}

abbrev of_ring : List Position → Geometry Position
of_ring r = record { lines = []; rings = r ∷ [] }

abbrev of_line : List Position → Geometry Position
of_line l = record { lines = l ∷ []; rings = [] }

-- the pieces of the arcs of the one map in the union with the other
abbrev pieces : Geometry Position → Geometry Position → List (List ℤ)
pieces g h = map (map index_of) (recut by_position g (both_of g h) (arcs_of by_position g) (arcs_of by_position (both_of g h)))

-- index i, and index -1 - i
abbrev ahead : ℕ → ℤ
ahead i = pos i

abbrev reversed : ℕ → ℤ
reversed i = negsuc i

-- the seam vanishes: a triangle, and a line that ends on it
loop_turned : pieces (of_ring triangle) (of_line (p 2 0 ∷ p 3 0 ∷ [])) ≡ (ahead 0 ∷ []) ∷ []
loop_turned = refl

line_kept : pieces (of_line (p 2 0 ∷ p 3 0 ∷ [])) (of_ring triangle) ≡ (ahead 1 ∷ []) ∷ []
line_kept = refl

-- a junction from an end alone: a triangle, and a closed line round it
loop_and_closed_line : pieces (of_ring triangle) (of_line (p 0 2 ∷ p 0 0 ∷ p 2 0 ∷ p 0 2 ∷ [])) ≡ (reversed 0 ∷ []) ∷ []
loop_and_closed_line = refl

closed_line_and_loop : pieces (of_line (p 0 2 ∷ p 0 0 ∷ p 2 0 ∷ p 0 2 ∷ [])) (of_ring triangle) ≡ (ahead 0 ∷ []) ∷ []
closed_line_and_loop = refl

-- two users, no junction: a triangle, and the same in the other direction
loop_twice : pieces (of_ring triangle) (of_ring (p 0 0 ∷ p 0 2 ∷ p 2 0 ∷ [])) ≡ (ahead 0 ∷ []) ∷ []
loop_twice = refl

-- a junction of the union alone
straight_line_cut : pieces (of_line (p 0 0 ∷ p 1 0 ∷ p 2 0 ∷ [])) (of_line (p 0 0 ∷ p 1 0 ∷ p 1 1 ∷ [])) ≡ (ahead 0 ∷ ahead 2 ∷ []) ∷ []
straight_line_cut = refl

bent_line_cut : pieces (of_line (p 0 0 ∷ p 1 0 ∷ p 1 1 ∷ [])) (of_line (p 0 0 ∷ p 1 0 ∷ p 2 0 ∷ [])) ≡ (ahead 0 ∷ ahead 1 ∷ []) ∷ []
bent_line_cut = refl

-- shared edge: the first two of three squares in a row
abbrev two_squares : Geometry Position
two_squares = record { lines = []; rings = first ∷ (second ∷ []) }

squares_cut : pieces two_squares (of_ring third) ≡ (ahead 0 ∷ []) ∷ (ahead 1 ∷ []) ∷ (ahead 2 ∷ ahead 4 ∷ reversed 3 ∷ []) ∷ []
squares_cut = refl

third_square_cut : pieces (of_ring third) two_squares ≡ (ahead 4 ∷ reversed 5 ∷ []) ∷ []
third_square_cut = refl

first_square_cut : pieces (of_ring first) (of_ring second) ≡ (ahead 0 ∷ reversed 1 ∷ []) ∷ []
first_square_cut = refl

second_square_cut : pieces (of_ring second) (of_ring first) ≡ (ahead 1 ∷ reversed 2 ∷ []) ∷ []
second_square_cut = refl

-- two squares, and a line that ends at a corner of the first
abbrev westward : Geometry Position
westward = of_line ((negsuc 0, pos 0) ∷ (p 0 0 ∷ []))

corner_cut : pieces two_squares westward ≡ (reversed 2 ∷ ahead 1 ∷ []) ∷ (ahead 3 ∷ []) ∷ (ahead 4 ∷ []) ∷ []
corner_cut = refl

westward_kept : pieces westward two_squares ≡ (ahead 0 ∷ []) ∷ []
westward_kept = refl

-- the lists of the two squares, and of the line, in the union
abbrev ring_in_union : List ArcRef → List ℤ
ring_in_union used =
    let table = arcs_of by_position (both_of two_squares westward) in
    map index_of (turned_used by_position table (replaced (recut by_position two_squares (both_of two_squares westward) (arcs_of by_position two_squares) table) used))

first_list : ring_in_union (record { arc = 1; reversed = false } ∷ (record { arc = 0; reversed = true } ∷ [])) ≡ ahead 2 ∷ ahead 3 ∷ reversed 1 ∷ []
first_list = refl

second_list : ring_in_union (record { arc = 2; reversed = false } ∷ (record { arc = 1; reversed = true } ∷ [])) ≡ ahead 4 ∷ reversed 3 ∷ []
second_list = refl
