-- New arcs that are known already, cut into old ones; and the arcs of what is left are such as are joined.
use Rattle.std.proofs.Common.{◌≡◌, List, inl, inr, sym, subst}
use Rattle.std.specs.Cmp.{IsTotalOrder}
use Rattle.std.specs.FinMap.{IsAntisymmetric}
use Rattle.std.specs.declared.cmp.Ordering.{Ordering}
use Rattle.theory.proofs.ArcsAsMap.{alike_back, arcs_alike, arcs_same, arcs_sound, turned_alike}
use Rattle.theory.proofs.ListsOfLists.{Pairwise-weaker}
use Rattle.theory.proofs.PiecesExist.{are_arcs_as_map, whole_union}
use Rattle.theory.proofs.HealingKept.{part_sound}
use Rattle.theory.proofs.ValidRings.{ring_turned}
use Rattle.theory.specs.ArcNumbers.{ArcRef}
use Rattle.theory.specs.Arcs.{AreArcsOf}
use Rattle.theory.specs.Chain.{Free}
use Rattle.theory.specs.Geometry.{Geometry, IsSound, JunctionOf}
use Rattle.theory.specs.Lists.{Has, Pairwise}
use Rattle.theory.specs.Refinement.{Alike, AreArcsAsMap, ArePiecesOfArc, IsPartOf, IsRefinementOf, LoopArc, arcs_as_map, both_of}
use Rattle.theory.specs.Healing.{IsCut}
use Rattle.theory.specs.Topology.{IsRingList}

module _ {V : Type 0} (cmp : V → V → Ordering) (o : IsTotalOrder cmp) (same : IsAntisymmetric cmp) (dec : (a b : V) → Dec (a ≡ b))
    (u : Geometry V) (su : IsSound u) (table : List (List V)) (all : AreArcsOf cmp u table)
    (g : Geometry V) (part : IsPartOf g u) (arcs : List (List V)) (ag : AreArcsOf cmp g arcs) where
  sg : IsSound g
  sg = part_sound g u su part

  -- the arcs of both as a map, which has the arcs of the whole map
  abbrev pub a : Geometry V
  a = both_of (arcs_as_map cmp g arcs) (arcs_as_map cmp u table)

  pub as_map : AreArcsAsMap g u arcs table a
  as_map = are_arcs_as_map cmp o same dec g u sg su arcs table ag all

  pub sa : IsSound a
  sa = arcs_sound cmp o same dec g u u sg su su (whole_union g u part) arcs table ag all a as_map

  pub alike : Alike a u
  alike = arcs_alike cmp o same dec g u u sg su su (whole_union g u part) arcs table ag all a as_map

  pub all_a : AreArcsOf cmp a table
  all_a = arcs_same cmp o same dec u a (alike_back cmp o same dec a u alike) table all

  piece : (c : List V) (used : List ArcRef) → Has c arcs → IsCut cmp g table c used → ArePiecesOfArc cmp (JunctionOf g) (JunctionOf u) table c used
  piece c used h (inl k) = inl k
  piece c used h (inr (free, k)) =
      let l : LoopArc g arcs k.loop = (subst (λ w. Has w arcs) k.arc h, subst (Free (JunctionOf g)) k.arc free) in
      let s = ring_turned cmp o same dec a sa table all_a k.loop (as_map.loop_left k.loop l) k.from
      (record { some = k.some; around = (k.round, k.turned, k.stitch); once = k.once }) in
      inr (
        k.loop,
        k.arc,
        free,
        subst (IsRingList cmp (JunctionOf u) table k.loop) (sym k.list)
            (s.0, s.1, turned_alike cmp o same dec a u alike k.loop s.0 s.1 s.2, s.3),
      )

  -- what cuts the arcs of what is left into arcs of the whole map are their pieces
  pub cut_pieces : (pieces : List (List ArcRef)) → Pairwise (IsCut cmp g table) arcs pieces → IsRefinementOf cmp g u arcs table pieces
  cut_pieces pieces p = record {
    old = ag;
    new = all;
    cut = Pairwise-weaker (IsCut cmp g table) (ArePiecesOfArc cmp (JunctionOf g) (JunctionOf u) table) arcs pieces piece p;
  }
