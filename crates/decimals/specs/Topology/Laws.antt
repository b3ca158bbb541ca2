-- What the areas along arcs say of rings, and what stays on the way back.
use Rattle.std.specs.Prelude.{◌≡◌, ◌≤◌, ℤ, pos, negsuc, neg_ℤ, ◌*ℤ◌, ◌-ℤ◌, unsigned_abs, Bool, false, List, [], map, Some}
use Rattle.grid.specs.declared.pos.Pos.{Pos}
use Rattle.theory.specs.ArcNumbers.{ArcRef, StitchTo}
use Rattle.fixing.specs.declared.rules.Rewind.{Rewind}
use Rattle.numerals.specs.Nearest.{IsNearest}
use Rattle.shapes.specs.Parts.{properties_text}
use Rattle.shapes.specs.declared.props.Props.{Props}
use Rattle.topo.specs.declared.geom.Geom.{Geom}
use Rattle.decimals.specs.Topology.LayersBack.{are_numbers, geometry_back}
use Rattle.decimals.specs.Topology.QuantizedAxis.{AxisParts, number_on}
use Rattle.decimals.specs.Topology.Turning.{area_along, rewound_ring, ring_area, turns_wrong, wanted}
use Rattle.decimals.specs.declared.topology.rules.BackRules.{BackRules}
use Rattle.decimals.specs.declared.topology.rules.NumbersBack.TheVariants as numbers

-- a ring that is asked to turn some way does not turn the other way [RFC 7946, 3.1.6]
abbrev pub RewoundRingsTurnRight : Type 0
RewoundRingsTurnRight = (areas : List ℤ) (r : Rewind) (outer counterclockwise : Bool) (ring : List ArcRef) → wanted r outer ≡ Some counterclockwise
    → turns_wrong counterclockwise (ring_area areas (rewound_ring areas r outer ring)) ≡ false

-- the areas along its arcs add up to that along the positions of a ring
abbrev pub AreasAddUp : Type 0
AreasAddUp = (arcs : List (List Pos)) (ring : List ArcRef) (l : List Pos) → StitchTo arcs ring l → ring_area (map area_along arcs) ring ≡ area_along l

-- a number over a scale, as a number over the size of the scale
abbrev pub signed_by : ℤ → ℤ → ℤ
signed_by (pos d) n = n
signed_by (negsuc d) n = neg_ℤ n

-- the number of an absolute number is the whole one nearest to it times the unit, less the translation, over the scale; of two that
-- are equally near the one farther from 0 [TopoJSON, 2.1.2]
abbrev pub NumbersAreNearest : Type 0
NumbersAreNearest = (a : AxisParts) (n : ℤ) → 1 ≤ unsigned_abs a.scale
    → IsNearest (signed_by a.scale ((n *ℤ pos a.unit) -ℤ a.translate)) (unsigned_abs a.scale) (number_on a n)

-- where texts stay texts and none was scaled, the text of a geometry's properties is as it was
abbrev pub PropertiesStay : Type 0
PropertiesStay = (r : BackRules) (features : List Props) (areas : List ℤ) (g : Geom) → r.numbers ≡ numbers.None → r.scales.now ≡ []
    → (geometry_back (are_numbers r.numbers features) r areas g).properties ≡ properties_text g.props
