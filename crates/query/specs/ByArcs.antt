-- The texts of geometries, read off the arcs of a topology.
use Rattle.std.specs.Prelude.{ℕ, List, [], ◌++◌, codes, Option, Some, None}
use Rattle.grid.specs.Place.{Transform}
use Rattle.grid.specs.declared.pos.Pos.{Pos}
use Rattle.geojson_io.specs.CollectionText.{place_text, form_text, feature_frame}
use Rattle.query.specs.Steps.{least_step, behind_step, up_to_step}
use Rattle.arcs.specs.declared.step.ArcStep.{ArcStep}
use Rattle.shapes.specs.Parts.{properties_text}
use Rattle.sinks.specs.Texts.{after_commas, joined, bracketed}
use Rattle.theory.specs.ArcNumbers.{ArcRef}
use Rattle.topo.specs.Parts.{TopologyParts}
use Rattle.topo.specs.Walked.{walked}
use Rattle.topo.specs.Bodies.{Body}
use Rattle.topo.specs.declared.geom.Geom.{Geom}

-- the positions along used arcs [TopoJSON, 2.1.4; RFC 7946, 3.1]
abbrev pub along : TopologyParts → List ArcRef → List Pos
along t used = walked t.arcs.arcs used

-- the places along used arcs
abbrev pub places_along : TopologyParts → List ArcRef → List ℕ
places_along t used = joined (place_text t.grid) (along t used)

-- the places of a closed list, begun at its least step
abbrev pub turned_at : Transform → List Pos → Option ArcStep → List ℕ
turned_at g w None = []
turned_at g w (Some s) =
    place_text g s.from ++ (codes "," ++ (place_text g s.to ++ (after_commas (place_text g) (behind_step s w) ++ after_commas (place_text g) (up_to_step s w))))

-- the places along the used arcs of a ring, begun at their least step
abbrev pub places_round : TopologyParts → List ArcRef → List ℕ
places_round t used = turned_at t.grid (along t used) (least_step (along t used))

-- the text of a line along used arcs [TopoJSON, 2.1.4; RFC 7946, 3.1]
abbrev pub line_along : TopologyParts → List ArcRef → List ℕ
line_along t used = bracketed (places_along t used)

-- the text of a ring along used arcs, begun at its least step and closed [TopoJSON, 2.1.4; RFC 7946, 3.1]
abbrev pub ring_along : TopologyParts → List ArcRef → List ℕ
ring_along t used = bracketed (places_round t used)

-- a geometry, or null [RFC 7946, 3.1 and 3.2]
abbrev pub body_text : TopologyParts → Body → List ℕ
body_text t = form_text (place_text t.grid) (line_along t) (ring_along t)

-- the feature of a geometry [RFC 7946, 3.1 and 3.2]
abbrev pub geom_text : TopologyParts → Geom → List ℕ
geom_text t g = feature_frame g.id (properties_text g.props) (body_text t g.body)
