-- Merged texts are read back as the union of the named maps.
use Rattle.std.proofs.Common.{◌≡◌, sym, ◌∙◌, ap, subst}
use Rattle.shapes.specs.Fitting.{MapFits}
use Rattle.topo.specs.OfMap.{seen_parts}
use Rattle.topo.proofs.TopologyLaws.{is_computed}
use Rattle.topo_io.specs.TopologyText.{topology_text}
use Rattle.topo_io.specs.Canon.{canon}
use Rattle.topo_io.specs.Means.{Means}
use Rattle.round_trip.proofs.OfMap.{written_topologies_are_read}
use Rattle.merging.specs.Leaves.{leaves}
use Rattle.merging.specs.Plans.{union_at}
use Rattle.merging.proofs.UnionFits.{union_at_fits}
use Rattle.refine.specs.TextLaws.{MergedTextsMeanUnions}

pub merged_texts_mean_unions : MergedTextsMeanUnions
merged_texts_mean_unions texts p t x u held same =
    let m = union_at x.maps (leaves p) in
    let fits : MapFits u.grid m = subst (λ g. MapFits g m) (sym same) (union_at_fits x.grid texts x.maps x.meant (leaves p)) in
    let written : topology_text (seen_parts u) ≡ t =
    ap topology_text (is_computed u.grid m (seen_parts u) held.of_map.topology) ∙ ap (λ g. canon g m) same ∙ sym x.text in
    subst (λ g. Means t g m) same (subst (λ s. Means s u.grid m) written (written_topologies_are_read m u held fits))
