-- How rings turn, by the areas along their arcs, and rings that are turned as they are wanted.
use Rattle.std.specs.Prelude.{zero, suc, ℤ, pos, negsuc, ◌+ℤ◌, ◌-ℤ◌, ◌*ℤ◌, neg_ℤ, Bool, true, false, not, cond, List, [], ◌∷◌, map, get_or, Option, Some, None, if◌then◌else◌}
use Rattle.grid.specs.declared.pos.Pos.{Pos}
use Rattle.theory.specs.ArcNumbers.{ArcRef, backwards}
use Rattle.fixing.specs.declared.rules.Rewind.{Rewind}
use Rattle.fixing.specs.declared.rules.Rewind.TheVariants.{Keep, Rfc7946, D3}
use Rattle.topo.specs.Bodies.{Body}
use Rattle.shapes.specs.declared.form.Form.TheVariants as of

-- twice the signed area of the triangle of 0 and two positions
abbrev pub cross : Pos → Pos → ℤ
cross a b = (a.x *ℤ b.y) -ℤ (b.x *ℤ a.y)

-- the same of each step along positions, added up: by the shoelace formula twice the signed area, where they are closed
abbrev pub area_from : Pos → List Pos → ℤ
area_from p [] = pos 0
area_from p (q ∷ qs) = cross p q +ℤ area_from q qs

-- twice the signed area between a list of positions and the origin, from its first position to its last
abbrev pub area_along : List Pos → ℤ
area_along [] = pos 0
area_along (p ∷ ps) = area_from p ps

-- the area along a used arc, by those along the arcs
abbrev pub area_of : List ℤ → ArcRef → ℤ
area_of areas a = cond a.reversed (neg_ℤ (get_or areas a.arc (pos 0))) (get_or areas a.arc (pos 0))

-- twice the signed area of a ring, above 0 where it turns counterclockwise
abbrev pub ring_area : List ℤ → List ArcRef → ℤ
ring_area areas [] = pos 0
ring_area areas (a ∷ used) = area_of areas a +ℤ ring_area areas used

-- a ring of this area turns the other way; one without an area turns neither way
abbrev pub turns_wrong : Bool → ℤ → Bool
turns_wrong counterclockwise (pos zero) = false
turns_wrong counterclockwise (pos (suc n)) = not counterclockwise
turns_wrong counterclockwise (negsuc n) = counterclockwise

-- whether rings are asked to turn counterclockwise: outer rings and not holes [RFC 7946, 3.1.6], or holes and not outer
-- rings, as d3-geo reads rings on the sphere
abbrev pub wanted : Rewind → Bool → Option Bool
wanted Keep outer = None
wanted Rfc7946 outer = Some outer
wanted D3 outer = Some (not outer)

-- the ring as it is, or read backwards where it turns the other way
abbrev pub turned_to : Option Bool → List ℤ → List ArcRef → List ArcRef
turned_to None areas ring = ring
turned_to (Some counterclockwise) areas ring = if turns_wrong counterclockwise (ring_area areas ring) then backwards ring else ring

-- the used arcs of a ring, outer or a hole, in the direction that is wanted [RFC 7946, 3.1.6]
abbrev pub rewound_ring : List ℤ → Rewind → Bool → List ArcRef → List ArcRef
rewound_ring areas r outer ring = turned_to (wanted r outer) areas ring

-- the first ring of a polygon is its outer one
abbrev pub rewound_rings : List ℤ → Rewind → List (List ArcRef) → List (List ArcRef)
rewound_rings areas r [] = []
rewound_rings areas r (outer ∷ holes) = rewound_ring areas r true outer ∷ map (rewound_ring areas r false) holes

-- a geometry's lists of used arcs, its rings in the directions that are wanted
abbrev pub rewound_body : List ℤ → Rewind → Body → Body
rewound_body areas r (of.Polygon rings) = of.Polygon (rewound_rings areas r rings)
rewound_body areas r (of.MultiPolygon polygons) = of.MultiPolygon (map (rewound_rings areas r) polygons)
rewound_body areas r of.Null = of.Null
rewound_body areas r (of.Point p) = of.Point p
rewound_body areas r (of.MultiPoint ps) = of.MultiPoint ps
rewound_body areas r (of.Line used) = of.Line used
rewound_body areas r (of.MultiLine ls) = of.MultiLine ls
