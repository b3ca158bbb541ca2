-- Chains over any segments, with any stops.
use Rattle.std.specs.Prelude.{◌≡◌, ℕ, true, List, [], ◌∷◌, reverse, ◌⊎◌, Some, slice_get}
use Rattle.std.specs.BTreeMap.{BTreeMap}
use Rattle.std.specs.declared.cmp.Ordering.TheVariants.{Less}
use Rattle.theory.specs.Lists.{Has, Beside}
use Rattle.theory.specs.Chain.{IsChain, Free}
use Rattle.theory.specs.Segments.{TwoSegments}
use Rattle.theory.specs.Walking.{Joining}
use Rattle.theory.specs.Geometry.{AtMost}
use Rattle.theory.specs.Arcs.{Ascends}
use Rattle.grid.specs.declared.pos.Pos.{Pos}
use Rattle.lines.specs.Turned.{position_cmp, list_cmp}
use Rattle.arcs.specs.Arcs.{Arcs}
use Rattle.arcs.specs.Among.{among, Tells}
use Rattle.arcs.specs.Table.{free_at}
use Rattle.chains.specs.Walk.{links_in}
use Rattle.chains.specs.declared.segment.Segment.{Segment}

-- u and v are the ends of one of the segments [topojson-client (mesh)]
abbrev pub AmongSegments : Pos → Pos → List Segment → Type 0
AmongSegments u v [] = ⊥
AmongSegments u v (s ∷ ss) =
    (((u ≡ s.ends.lesser) × (v ≡ s.ends.greater)) ⊎ ((u ≡ s.ends.greater) × (v ≡ s.ends.lesser))) ⊎ AmongSegments u v ss

-- the segments as a relation of vertices
abbrev pub SegmentsOf : List Segment → Pos → Pos → Type 0
SegmentsOf segs u v = AmongSegments u v segs

-- v is one of the stops [topojson-client (mesh)]
abbrev pub StopAt : List Pos → Pos → Type 0
StopAt stops v = among stops v ≡ true

-- each vertex that is no stop lies on exactly two of the segments [topojson-client (mesh)]
abbrev pub MeetsTwo : List Segment → List Pos → Type 0
MeetsTwo segs stops = TwoSegments (SegmentsOf segs) (StopAt stops)

-- a chain over these segments with these stops
abbrev pub IsChainOver : List Segment → List Pos → List Pos → Type 0
IsChainOver segs stops c = IsChain (SegmentsOf segs) (StopAt stops) (AtMost position_cmp) c

-- the segment between u and v is on one of the lists
abbrev pub Covered : Pos → Pos → List (List Pos) → Type 0
Covered u v ds = (d : List Pos) × Has d ds × Beside u v d

-- the lists are chains, and the links are those of the vertices on none of them
abbrev pub IsJoining : List Segment → List Pos → BTreeMap Pos (Pos × Pos) → List (List Pos) → Type 0
IsJoining segs stops m ds = Joining (SegmentsOf segs) (StopAt stops) (AtMost position_cmp) (links_in m) (λ d. Has d ds)

-- what a walk from a stop has done
pub record Took (segs : List Segment) (stops : List Pos) (m : BTreeMap Pos (Pos × Pos)) (old ds : List (List Pos)) (from to : Pos) : Type 0 where
  pub joining : IsJoining segs stops m ds
  pub keeps : (d : List Pos) → Has d old → Has d ds
  pub covers : StopAt stops from → Covered from to ds

-- the lists are chains, and each of the segments is on one of them
pub record AreCovering (segs : List Segment) (stops : List Pos) (ds : List (List Pos)) : Type 0 where
  pub chains : (d : List Pos) → Has d ds → IsChainOver segs stops d
  pub covers : (u v : Pos) → AmongSegments u v segs → Covered u v ds

-- of all the segments some are on the lists, which are chains over all of them, and the rest are the others
pub record AreParted (all : List Segment) (stops : List Pos) (whole : List (List Pos)) (rest : List Segment) : Type 0 where
  pub chains : (d : List Pos) → Has d whole → IsChainOver all stops d
  pub within : (u v : Pos) → AmongSegments u v rest → AmongSegments u v all
  pub every : (u v : Pos) → AmongSegments u v all → Covered u v whole ⊎ AmongSegments u v rest

-- these are all the chains, each in one direction or the other
pub record AreAllChains (segs : List Segment) (stops : List Pos) (ds : List (List Pos)) : Type 0 where
  pub chains : (d : List Pos) → Has d ds → IsChainOver segs stops d
  pub each : (d : List Pos) → IsChainOver segs stops d → (c : List Pos) × Has c ds × ((c ≡ d) ⊎ (c ≡ reverse d))

-- these are the chains that come before their own reverse, sorted, each once, each marked as free exactly where no stop lies on it
pub record AreMaximal (segs : List Segment) (stops : List Pos) (t : Arcs) : Type 0 where
  pub ascends : Ascends list_cmp t.arcs
  pub only : (c : List Pos) → Has c t.arcs → IsChainOver segs stops c × (list_cmp c (reverse c) ≡ Less)
  pub all : (c : List Pos) → IsChainOver segs stops c → list_cmp c (reverse c) ≡ Less → Has c t.arcs
  pub free : (n : ℕ) (c : List Pos) → slice_get t.arcs n ≡ Some c → Tells (free_at t n) (Free (StopAt stops) c)
