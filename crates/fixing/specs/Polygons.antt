-- What is left of polygons: lists of closed lists, the outer ring first.
use Rattle.std.specs.Prelude.{ℕ, zero, suc, Bool, true, false, cond, not, List, [], ◌∷◌, ◌++◌, length, map, nat_lt, Option, Some, None, unwrap_or, option_and_then, is_none}
use Rattle.std.specs.Option.{option_map}
use Rattle.grid.specs.declared.pos.Pos.{Pos}
use Rattle.lines.specs.Reading.{ring_fault, ring_of}
use Rattle.lines.specs.Turned.{position_cmp}
use Rattle.theory.specs.TopologyFunction.{keep}
use Rattle.fixing.specs.Left.{all_counted, closed_list, ring_counted, ring_left}
use Rattle.fixing.specs.Measures.{lies_in, rewound, turns_left}
use Rattle.fixing.specs.declared.rules.Rewind.{Rewind}
use Rattle.fixing.specs.declared.rules.Fixes.{Fixes}
use Rattle.fixing.specs.declared.rules.FixingRules.{FixingRules}

-- whether a ring lies in the outer ring of a polygon
abbrev pub is_home : List Pos → List (List Pos) → Bool
is_home ring [] = false
is_home ring (outer ∷ holes) = lies_in ring outer

-- the place of the first polygon in whose outer ring a ring lies
abbrev pub home_of : List (List (List Pos)) → List Pos → Option ℕ
home_of [] ring = None
home_of (polygon ∷ polygons) ring = cond (is_home ring polygon) (Some zero) (option_map (λ k. suc k) (home_of polygons ring))

-- the polygons, with the ring behind those of the polygon at a place
abbrev pub put_ring : ℕ → List Pos → List (List (List Pos)) → List (List (List Pos))
put_ring k ring [] = []
put_ring zero ring (polygon ∷ polygons) = (polygon ++ (ring ∷ [])) ∷ polygons
put_ring (suc k) ring (polygon ∷ polygons) = polygon ∷ put_ring k ring polygons

-- the place of the polygon that a hole is put into: the only one, or that in which it lies, or the first
abbrev pub home_of_hole : List (List (List Pos)) → List Pos → ℕ
home_of_hole polygons hole = cond (nat_lt 1 (length polygons)) (unwrap_or (home_of polygons hole) 0) 0

-- the polygons with holes
abbrev pub put_holes : List (List Pos) → List (List (List Pos)) → List (List (List Pos))
put_holes [] polygons = polygons
put_holes (hole ∷ holes) polygons = put_holes holes (put_ring (home_of_hole polygons hole) hole polygons)

-- the polygons with a ring in the one that it lies in; where it lies in none it is dropped
abbrev pub put_at : Option ℕ → List Pos → List (List (List Pos)) → List (List (List Pos))
put_at None ring polygons = polygons
put_at (Some k) ring polygons = put_ring k ring polygons

-- the polygons once each of some rings is put into the one that it lies in, or into the first
abbrev pub put_others : List (List Pos) → List (List (List Pos)) → List (List (List Pos))
put_others [] polygons = polygons
put_others (ring ∷ rings) polygons = put_others rings (put_at (home_of polygons ring) ring polygons)

-- a polygon of each ring
abbrev pub polygons_of : List (List Pos) → List (List (List Pos))
polygons_of rings = map (λ ring. ring ∷ []) rings

-- whether a ring turns that way
abbrev pub turns_to : Bool → List Pos → Bool
turns_to left ring = cond left (turns_left ring) (not (turns_left ring))

-- the polygons of the loops of an outer ring: of each that turns as it did; the others are holes
abbrev pub polygons_of_loops : Bool → List (List Pos) → List (List (List Pos))
polygons_of_loops left loops =
    cond (nat_lt (length loops) 2) (polygons_of loops)
    (put_others (keep (λ ring. not (turns_to left ring)) loops) (polygons_of (keep (turns_to left) loops)))

-- the polygons with what is left of holes; none where one is refused
abbrev pub with_holes : FixingRules → List (List Pos) → List (List (List Pos)) → Option (List (List (List Pos)))
with_holes rules [] polygons = Some polygons
with_holes rules (hole ∷ holes) polygons = option_and_then (λ left. with_holes rules holes (put_holes left polygons)) (ring_left rules hole)

-- rings turned as they are wanted, where the first one is an outer ring or a hole, and the others are holes
abbrev pub rewound_from : Rewind → Bool → List (List Pos) → List (List Pos)
rewound_from rewind is_outer [] = []
rewound_from rewind is_outer (ring ∷ rings) = rewound rewind is_outer ring ∷ rewound_from rewind false rings

-- the rings of a polygon turned as they are wanted
abbrev pub rewound_polygon : Rewind → List (List Pos) → List (List Pos)
rewound_polygon rewind rings = rewound_from rewind true rings

-- what is left of a polygon, with its rings as they turned before; none where a ring of it is refused
abbrev pub polygon_kept : FixingRules → List (List Pos) → Option (List (List (List Pos)))
polygon_kept rules [] = Some ([] ∷ [])
polygon_kept rules (outer ∷ holes) =
    option_and_then (λ loops. with_holes rules holes (polygons_of_loops (turns_left (closed_list rules outer)) loops)) (ring_left rules outer)

-- what is left of a polygon; none where a ring of it is refused
abbrev pub polygon_left : FixingRules → List (List Pos) → Option (List (List (List Pos)))
polygon_left rules rings = option_map (map (rewound_polygon rules.rewind)) (polygon_kept rules rings)

-- the polygons that are left of a polygon, by the vertices of their rings; none where a ring of it is refused
abbrev pub polygons_left : FixingRules → List (List Pos) → Option (List (List (List Pos)))
polygons_left rules rings = option_map (map (map (ring_of position_cmp))) (polygon_left rules rings)

-- the vertices of the ring of a closed list, turned as it is wanted; none where it has a fault
abbrev pub ring_made : Rewind → Bool → List Pos → Option (List Pos)
ring_made rewind is_outer l = cond (is_none (ring_fault position_cmp l)) (Some (ring_of position_cmp (rewound rewind is_outer l))) None

-- those of the rings of closed lists; none where one has a fault
abbrev pub rings_made : Rewind → Bool → List (List Pos) → Option (List (List Pos))
rings_made rewind is_outer [] = Some []
rings_made rewind is_outer (l ∷ ls) = option_and_then (λ ring. option_map (λ rings. ring ∷ rings) (rings_made rewind false ls)) (ring_made rewind is_outer l)

-- one list, or none
abbrev pub listed : {A : Type 0} → Option A → List A
listed None = []
listed (Some x) = x ∷ []

-- the polygons of closed lists without a fault
abbrev pub polygons_made : Rewind → List (List (List Pos)) → List (List (List Pos))
polygons_made rewind [] = []
polygons_made rewind (p ∷ ps) = listed (rings_made rewind true p) ++ polygons_made rewind ps

-- with what was done with each ring counted
abbrev pub polygon_counted : FixingRules → List (List Pos) → Fixes → Fixes
polygon_counted rules rings fixes = all_counted (ring_counted rules) rings fixes
