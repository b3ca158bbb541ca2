-- What becomes of vertices that are nearly shared, where they are joined.
use Rattle.std.specs.Prelude.{◌≢◌, ◌↔◌, ℕ, List, map, unwrap_or}
use Rattle.std.specs.BTreeMap.{get, keys}
use Rattle.std.specs.List.Sorted.{IsStrictlySortedBy}
use Rattle.grid.specs.declared.pos.Pos.{Pos}
use Rattle.lines.specs.Turned.{position_cmp}
use Rattle.theory.specs.Lists.{Has}
use Rattle.compare.specs.Quality.Near.{near_pairs}
use Rattle.compare.specs.declared.quality.pairs.NearPlace.{NearPlace}
use Rattle.compare.specs.declared.quality.vertex.Vertex.{Vertex}
use Rattle.compare.specs.declared.quality.vertex.VertexUse.{VertexUse}
use Rattle.snapping.specs.NearlyShared.Connected.{Goes, IsLeastOf, IsNarrow}
use Rattle.snapping.specs.NearlyShared.Shared.{AreVertices}
use Rattle.snapping.specs.declared.nearly_shared.clusters.Clusters.{Clusters}

-- where the vertices lie of pairs that are at most n steps apart and nearly shared
abbrev pub near_positions : ℕ → List Vertex → List (Pos × Pos)
near_positions n vs = map (λ p. (p.0.at, p.1.at)) (near_pairs n vs)

-- where the places of pairs lie
abbrev pub positions_in : List (NearPlace × NearPlace) → List (Pos × Pos)
positions_in ps = map (λ p. (p.0.at, p.1.at)) ps

-- where a position goes
abbrev pub target_in : Clusters → Pos → Pos
target_in c p = unwrap_or (get position_cmp c.moves p) p

-- the positions that go elsewhere
abbrev pub moved_in : Clusters → List Pos
moved_in c = keys c.moves

-- the least positions of components that aren't narrow
abbrev pub wide_in : Clusters → List Pos
wide_in c = c.wide.items

-- the vertices that pairs connect are joined at their least position, where each is at most n steps from that
pub record AreJoined (n : ℕ) (pairs : List (Pos × Pos)) (c : Clusters) : Type 0 where
  -- each position goes where it should
  pub goes : (p : Pos) → Goes n pairs p (target_in c p)
  -- those that go elsewhere
  pub moved : (p : Pos) → Has p (moved_in c) ↔ (target_in c p ≢ p)
  -- the least position of each component that isn't narrow, in order
  pub wide : (r : Pos) → Has r (wide_in c) ↔ (IsLeastOf pairs r r × (¬ IsNarrow n pairs r))
  pub ascend : IsStrictlySortedBy position_cmp (wide_in c)

-- the vertices of the uses are joined that are nearly shared and at most n steps apart
pub record AreClusters (us : List VertexUse) (n : ℕ) (c : Clusters) : Type 0 where
  pub vertices : List Vertex
  pub are : AreVertices us vertices
  pub joined : AreJoined n (near_positions n vertices) c
