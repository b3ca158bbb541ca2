-- How rings turn, and on which side of them places lie. Arithmetic is that of 128 bits.
use Rattle.std.specs.Prelude.{ℕ, ℤ, pos, ◌*ℤ◌, ◌-ℤ◌, ◌+ℤ◌, Bool, false, cond, not, List, [], ◌∷◌, int_lt, nat_lt, take, reverse}
use Rattle.std.specs.Int.{int_wrap, int_wrapping_add, int_wrapping_sub, int_wrapping_mul}
use Rattle.std.specs.Ordering.{is_lt}
use Rattle.grid.specs.declared.pos.Pos.{Pos}
use Rattle.lines.specs.Reading.{ring_of}
use Rattle.lines.specs.Turned.{list_cmp, position_cmp}
use Rattle.fixing.specs.Left.{one_more}
use Rattle.fixing.specs.declared.rules.Rewind.{Rewind}
use Rattle.fixing.specs.declared.rules.Rewind.TheVariants.{Keep, Rfc7946, D3}
use mir.Syntax.{w128}

-- twice the area of the triangle of 0, a and b, greater than 0 where they turn counterclockwise
abbrev pub cross : Pos → Pos → ℤ
cross a b = (a.x *ℤ b.y) -ℤ (b.x *ℤ a.y)

-- what the segments from `here` along the list add to twice the area
abbrev pub area_from : Pos → List Pos → ℤ
area_from here [] = pos 0
area_from here (p ∷ l) = cross here p +ℤ area_from p l

-- twice the area of a ring, greater than 0 where it turns counterclockwise
abbrev pub twice_area : List Pos → ℤ
twice_area [] = pos 0
twice_area (x ∷ l) = area_from x l

-- whether a ring turns counterclockwise
abbrev pub turns_left : List Pos → Bool
turns_left closed = int_lt (pos 0) (int_wrap w128 (twice_area closed))

-- the double of a number
abbrev pub doubled : ℤ → ℤ
doubled n = int_wrapping_add w128 n n

-- the product of two differences
abbrev pub spread : ℤ → ℤ → ℤ → ℤ → ℤ
spread a b c d = int_wrapping_mul w128 (int_wrapping_sub w128 a b) (int_wrapping_sub w128 c d)

-- whether a ray to the right crosses the segment, from a place of which the doubled numbers are x and y
abbrev pub ray_crosses : Pos → Pos → ℤ × ℤ → Bool
ray_crosses a b place =
    cond (cond (int_lt place.1 (doubled a.y)) (int_lt place.1 (doubled b.y)) (not (int_lt place.1 (doubled b.y)))) false
    (cond (int_lt (doubled a.y) (doubled b.y))
    (int_lt (spread (doubled b.y) (doubled a.y) place.0 (doubled a.x)) (spread (doubled b.x) (doubled a.x) place.1 (doubled a.y)))
    (int_lt (spread (doubled b.x) (doubled a.x) place.1 (doubled a.y)) (spread (doubled b.y) (doubled a.y) place.0 (doubled a.x))))

-- a test, turned round where the other holds
abbrev pub turned_by : Bool → Bool → Bool
turned_by b inside = cond b (not inside) inside

-- whether a place is inside, by those of the segments from `here` along the list that its ray crosses
abbrev pub inside_from : Bool → ℤ × ℤ → Pos → List Pos → Bool
inside_from inside place here [] = inside
inside_from inside place here (p ∷ l) = inside_from (turned_by (ray_crosses here p place) inside) place p l

-- whether a place lies in a ring: whether its ray crosses an odd number of segments
abbrev pub is_inside : List Pos → ℤ × ℤ → Bool
is_inside [] place = false
is_inside (x ∷ l) place = inside_from false place x l

-- the middle of a segment, by its doubled numbers
abbrev pub middle : Pos → Pos → ℤ × ℤ
middle a b = (int_wrapping_add w128 a.x b.x, int_wrapping_add w128 a.y b.y)

-- whether more middles lie in the other ring than outside, with those of the segments from `here` along the list
abbrev pub mostly_inside : ℕ → ℕ → List Pos → Pos → List Pos → Bool
mostly_inside inside outside other here [] = nat_lt outside inside
mostly_inside inside outside other here (p ∷ l) =
    mostly_inside (cond (is_inside other (middle here p)) (one_more inside) inside) (cond (is_inside other (middle here p)) outside (one_more outside)) other p l

-- whether a ring begun so lies in another
abbrev pub lies_started : List Pos → List Pos → Bool
lies_started [] other = false
lies_started (x ∷ l) other = mostly_inside 0 0 other x l

-- whether a ring lies in another: whether more of the middles of its first eight segments do than not
unfoldable pub lies_in : List Pos → List Pos → Bool
lies_in ring other = lies_started (take 9 ring) other

-- whether a ring turns clockwise
abbrev pub turns_right : List Pos → Bool
turns_right closed = int_lt (int_wrap w128 (twice_area closed)) (pos 0)

-- the lesser of the two directions of a ring, by its vertices from the least rotation
abbrev pub lesser_turn : List Pos → List Pos
lesser_turn closed = cond (is_lt (list_cmp (ring_of position_cmp (reverse closed)) (ring_of position_cmp closed))) (reverse closed) closed

-- a ring turned left or right; without an area, turned as its lesser direction
abbrev pub turned_to : Bool → List Pos → List Pos
turned_to left closed =
    cond (turns_left closed) (cond left closed (reverse closed)) (cond (turns_right closed) (cond left (reverse closed) closed) (lesser_turn closed))

-- a ring turned as it is wanted: an outer one, or a hole
abbrev pub rewound : Rewind → Bool → List Pos → List Pos
rewound Keep is_outer closed = closed
rewound Rfc7946 is_outer closed = turned_to is_outer closed
rewound D3 is_outer closed = turned_to (not is_outer) closed
