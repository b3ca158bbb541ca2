-- How a list of vertices is read as a line or as a ring, and which lists are refused. `cmp` is the order of the vertices.
use Rattle.std.specs.Prelude.{◌≡◌, Bool, true, false, cond, not, ◌&&◌, List, [], ◌∷◌, length, nat_lt, Option, Some, None, if◌then◌else◌}
use Rattle.std.specs.declared.cmp.Ordering.{Ordering}
use Rattle.std.specs.List.{dedup}
use Rattle.std.specs.Cmp.Lexicographic.{slice_cmp}
use Rattle.theory.specs.Lists.{last_of, front_of}
use Rattle.theory.specs.TopologyFunction.{same_vertex, same_sides, rotations, least_list}
use Rattle.lines.specs.declared.shape_fault.ShapeFault.{ShapeFault}
use Rattle.lines.specs.declared.shape_fault.ShapeFault.TheVariants.{TooShort, NotClosed, Revisit}

-- equal neighbours are read as one
abbrev pub collapsed : {V : Type 0} → (V → V → Ordering) → List V → List V
collapsed cmp = dedup (same_vertex cmp)

-- whether the first and the last vertex are equal [RFC 7946, 3.1.6; own]
abbrev pub is_closed : {V : Type 0} → (V → V → Ordering) → List V → Bool
is_closed cmp [] = true
is_closed cmp (x ∷ l) = same_vertex cmp x (last_of x l)

-- whether u and v are neighbours in x ∷ l, in either order
abbrev pub are_beside : {V : Type 0} → (V → V → Ordering) → V → V → V → List V → Bool
are_beside cmp u v x [] = false
are_beside cmp u v x (y ∷ l) = cond (same_sides cmp (u, v) (x, y)) true (are_beside cmp u v y l)

abbrev pub repeats_from : {V : Type 0} → (V → V → Ordering) → V → List V → Bool
repeats_from cmp x [] = false
repeats_from cmp x (y ∷ l) = cond (are_beside cmp x y y l) true (repeats_from cmp y l)

-- whether an unordered pair of neighbours is at two places [RFC 7946, 3.1.6; own]
abbrev pub repeats : {V : Type 0} → (V → V → Ordering) → List V → Bool
repeats cmp [] = false
repeats cmp (x ∷ l) = repeats_from cmp x l

-- the list without its last vertex
abbrev pub opened : {V : Type 0} → List V → List V
opened [] = []
opened (x ∷ l) = front_of x l

abbrev pub collapsed_line_fault : {V : Type 0} → (V → V → Ordering) → List V → Option ShapeFault
collapsed_line_fault cmp l =
    if nat_lt (length l) 2 then Some TooShort
    else (if is_closed cmp l && nat_lt (length l) 4 then Some TooShort
    else (if repeats cmp l then Some Revisit else None))

abbrev pub collapsed_ring_fault : {V : Type 0} → (V → V → Ordering) → List V → Option ShapeFault
collapsed_ring_fault cmp [] = Some TooShort
collapsed_ring_fault cmp (x ∷ l) =
    if not (is_closed cmp (x ∷ l)) then Some NotClosed
    else (if nat_lt (length (x ∷ l)) 4 then Some TooShort
    else (if repeats cmp (x ∷ l) then Some Revisit else None))

-- why the list is no line; none where it is one [RFC 7946, 3.1.4; own]
unfoldable pub line_fault : {V : Type 0} → (V → V → Ordering) → List V → Option ShapeFault
line_fault cmp l = collapsed_line_fault cmp (collapsed cmp l)

-- why the list is no ring; none where it is one [RFC 7946, 3.1.6; own]
unfoldable pub ring_fault : {V : Type 0} → (V → V → Ordering) → List V → Option ShapeFault
ring_fault cmp l = collapsed_ring_fault cmp (collapsed cmp l)

-- c is what a list without a fault is read as, still closed
abbrev pub IsRingRead : {V : Type 0} → (V → V → Ordering) → List V → Type 0
IsRingRead {V} cmp c = (l : List V) × (c ≡ collapsed cmp l) × (ring_fault cmp l ≡ None)

-- the ring of a closed list: its least rotation, without the closing repeat
-- [RFC 7946, 3.1.6; starting place own]
unfoldable pub ring_of : {V : Type 0} → (V → V → Ordering) → List V → List V
ring_of cmp l = least_list (slice_cmp cmp) (rotations (opened (collapsed cmp l)))
