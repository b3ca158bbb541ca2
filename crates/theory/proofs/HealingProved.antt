-- The laws of what is left, proved.
use Rattle.theory.proofs.Ascending.{dec_by}
use Rattle.theory.proofs.HealingCut.{cut_pieces}
use Rattle.theory.proofs.HealingHolds.{are_joined}
use Rattle.theory.proofs.HealingJoined.{joined_pieces}
use Rattle.theory.proofs.HealingKept.{kept_laws}
use Rattle.theory.proofs.HealingLists.{new_line, new_ring}
use Rattle.theory.proofs.HealingMaps.{ends_in_layers, kept_in_layers, less_is, less_layers, less_part, removed_topology}
use Rattle.theory.proofs.HealingStarts.{starts_exist}
use Rattle.theory.proofs.HealingWalks.{two_meet}
use Rattle.theory.specs.Geometry.{JunctionOf}
use Rattle.theory.specs.HealingLaws as law
use Rattle.theory.specs.Healing.{less}
use Rattle.theory.specs.Topology.{geometry_of}

pub kept_arcs_tell : {V : Type 0} → law.KeptArcsTell V
kept_arcs_tell cmp g u table l = kept_laws cmp l.order.total l.order.same (dec_by cmp l.order.total l.order.same) u l.sound table l.arcs g l.part

pub two_ends_meet : {V : Type 0} → law.TwoEndsMeet V
two_ends_meet cmp g u table l = two_meet cmp l.order.total l.order.same (dec_by cmp l.order.total l.order.same) u l.sound table l.arcs g l.part

pub joined_arcs_are_the_arcs : {V : Type 0} → law.JoinedArcsAreTheArcs V
joined_arcs_are_the_arcs cmp g u table l arcs pieces =
    let dec = dec_by cmp l.order.total l.order.same in (
      joined_pieces cmp l.order.total l.order.same dec u l.sound table l.arcs g l.part arcs pieces,
      are_joined cmp l.order.total l.order.same dec u l.sound table l.arcs g l.part arcs pieces,
    )

pub arcs_that_are_cut : {V : Type 0} → law.ArcsThatAreCut V
arcs_that_are_cut cmp g u table l arcs pieces ag cut =
    cut_pieces cmp l.order.total l.order.same (dec_by cmp l.order.total l.order.same) u l.sound table l.arcs g l.part arcs ag pieces cut

pub new_lists_along_old_ones : {V : Type 0} → law.NewListsAlongOldOnes V
new_lists_along_old_ones cmp g u table l arcs pieces ref =
    let dec = dec_by cmp l.order.total l.order.same in (
      starts_exist cmp l.order.total l.order.same dec u l.sound table l.arcs g l.part arcs pieces ref,
      λ starts are. (
        new_line cmp l.order.total l.order.same dec u l.sound table l.arcs g l.part arcs pieces ref starts are,
        new_ring cmp l.order.total l.order.same dec u l.sound table l.arcs g l.part arcs pieces ref starts are,
      ),
    )

pub marked_features_are_a_part : {V I : Type 0} → law.MarkedFeaturesAreAPart V I
marked_features_are_a_part cmp m marks table layers p =
    (less_part (less marks m) m (less_is marks m), less_layers cmp (JunctionOf (geometry_of m)) table marks m layers p)

pub kept_by_geometries : {V I : Type 0} → law.KeptByGeometries V I
kept_by_geometries cmp m n table l olds are =
    let dec = dec_by cmp l.order.total l.order.same in (
      kept_in_layers cmp l.order.total l.order.same dec m n l.sound l.part table l.arcs olds are,
      ends_in_layers cmp l.order.total l.order.same dec m n l.sound l.part table l.arcs olds are,
    )

pub topology_of_what_is_left : {V I G B : Type 0} → law.TopologyOfWhatIsLeft V I G B
topology_of_what_is_left cmp box_of on m n table l olds are arcs pieces starts joined st =
    removed_topology cmp l.order.total l.order.same (dec_by cmp l.order.total l.order.same) m n l.sound l.part table l.arcs olds are box_of on arcs pieces starts joined st
