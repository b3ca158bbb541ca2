-- At most one topology is that of a map on a grid, and the computed one is.
use Rattle.std.proofs.Common.{◌≡◌}
use Rattle.grid.specs.Place.{Transform}
use Rattle.lines.specs.Turned.{position_cmp}
use Rattle.shapes.specs.Maps.{Layers}
use Rattle.chains.specs.Seen.{seen}
use Rattle.lines.specs.Positions.{position_total, position_same}
use Rattle.lines.proofs.Positions.{position_dec}
use Rattle.theory.proofs.OneTopology.{topology_unique}
use Rattle.theory.proofs.TopologyExists.{topology_exists}
use Rattle.topo.specs.Box.{box_of}
use Rattle.topo.specs.OfMap.{Seen, IsTopology, the_topology}
use Rattle.topo.proofs.Sound.{are_sound}

pub one_topology : (g : Transform) (m : Layers) (s t : Seen) → IsTopology g m s → IsTopology g m t → s ≡ t
one_topology g m s t h k = topology_unique position_cmp position_total position_same position_dec box_of g (seen m) (are_sound m) s t h k

pub has_topology : (g : Transform) (m : Layers) → IsTopology g m (the_topology g m)
unfolding the_topology
has_topology g m = topology_exists position_cmp position_total position_same position_dec box_of g (seen m) (are_sound m)

pub is_computed : (g : Transform) (m : Layers) (t : Seen) → IsTopology g m t → t ≡ the_topology g m
is_computed g m t h = one_topology g m t (the_topology g m) h (has_topology g m)
