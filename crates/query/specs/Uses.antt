-- Which arcs the bodies of features use.
use Rattle.std.specs.Prelude.{ℕ, ◌+◌, List, [], ◌∷◌, ◌++◌, map as map_list}
use Rattle.std.specs.Ordering.{nat_cmp, ordering_then}
use Rattle.std.specs.declared.cmp.Ordering.{Ordering}
use Rattle.grid.specs.declared.pos.Pos.{Pos}
use Rattle.theory.specs.ArcNumbers.{ArcRef}
use Rattle.theory.specs.Lists.{gathered}
use Rattle.theory.specs.Topology.{Body, line, lines, polygon, polygons}
use Rattle.topo.specs.OfMap.{body_of}
use Rattle.topo.specs.declared.geom.Geom.{Geom}
use Rattle.query.specs.declared.uses.Use.{Use}

-- the use of arc k by the feature at index p
abbrev pub use_at : ℕ → ℕ → Use
use_at k p = record { arc = k; index = p }

-- the feature at the index uses each of the arcs
abbrev pub refs_uses : ℕ → List ArcRef → List Use
refs_uses p us = map_list (λ u. record { arc = u.arc; index = p }) us

-- and each arc of its body
abbrev pub body_uses : ℕ → Body Pos → List Use
body_uses p (line us) = refs_uses p us
body_uses p (lines ls) = gathered (refs_uses p) ls
body_uses p (polygon rs) = gathered (refs_uses p) rs
body_uses p (polygons ps) = gathered (gathered (refs_uses p)) ps
body_uses p b = []

-- the bodies from the index on, one after the other
abbrev pub bodies_uses : ℕ → List (Body Pos) → List Use
bodies_uses p [] = []
bodies_uses p (b ∷ bs) = body_uses p b ++ bodies_uses (p + 1) bs

-- those of the bodies of geometries, from index 0 on
abbrev pub geometries_uses : List Geom → List Use
geometries_uses gs = bodies_uses 0 (map_list (λ g. body_of g.body) gs)

-- by indexes, then by arcs
abbrev pub use_cmp : Use → Use → Ordering
use_cmp u v = ordering_then (nat_cmp u.index v.index) (nat_cmp u.arc v.arc)
