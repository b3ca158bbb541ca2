-- Removal: the refinement with the roles turned.
use Rattle.std.proofs.Common.{◌≡◌, ℕ, List, Some, slice_get}
use Rattle.std.specs.Cmp.{IsTotalOrder}
use Rattle.std.specs.FinMap.{IsAntisymmetric}
use Rattle.std.specs.declared.cmp.Ordering.{Ordering}
use Rattle.theory.proofs.ListsOfLists.{get_has}
use Rattle.theory.proofs.OneTopology.{stitch_unique}
use Rattle.theory.proofs.RefinementLaws.{pairwise_used}
use Rattle.theory.proofs.ReplacedNumbers.{refinement_laws}
use Rattle.theory.proofs.SegmentsOnce.{segments_once}
use Rattle.theory.specs.ArcNumbers.{ArcRef, StitchTo, Uses}
use Rattle.theory.specs.Arcs.{AreArcsOf}
use Rattle.theory.specs.Geometry.{Geometry, IsLineOf, IsSound, SegmentOf}
use Rattle.theory.specs.Lists.{Beside}
use Rattle.theory.specs.Refinement.{IsPartOf, IsRefinementOf, RefinementLaws, RemovalLaws, pieces_at, replaced}

module _ {V : Type 0} (cmp : V → V → Ordering) (o : IsTotalOrder cmp) (same : IsAntisymmetric cmp) (dec : (a b : V) → Dec (a ≡ b))
    (u : Geometry V) (su : IsSound u) (table : List (List V)) (all : AreArcsOf cmp u table)
    (g : Geometry V) (sg : IsSound g) (part : IsPartOf g u) (arcs : List (List V)) (pieces : List (List ArcRef))
    (ref : IsRefinementOf cmp g u arcs table pieces) where
  laws : RefinementLaws cmp g u arcs table pieces
  laws = refinement_laws cmp o same dec u su table all g sg part arcs pieces ref

  pub removal_laws : RemovalLaws g u table pieces
  removal_laws = record {
    kept = λ k d a b e h s. let t = laws.home k d a b e h s in (t.0, t.3);
    one_list = laws.one_home;
    one_place = laws.one_place;
    whole = λ k i d e h a b s. whole k i d e h a b s;
    all_or_none = λ k d a b v w e h s i.
        let t = laws.home k d a b e h s in
        (segments_once cmp o same dec g sg arcs ref.old).no_other v w t.1 (get_has arcs t.0 t.1 t.2) (t.4 v w i);
  }
    where
      piece_of : (k i : ℕ) → Uses k (pieces_at pieces i) → (c : List V) × (slice_get arcs i ≡ Some c)
      piece_of k i h = pairwise_used _ arcs pieces ref.cut i k h

      whole : (k i : ℕ) (d : List V) → slice_get table k ≡ Some d → Uses k (pieces_at pieces i) → (a b : V) → Beside a b d → SegmentOf g a b
      whole k i d e h a b s =
          let c = piece_of k i h in
          (segments_once cmp o same dec g sg arcs ref.old).no_other a b c.0 (get_has arcs i c.0 c.1)
          (laws.inside k i c.0 d c.1 e h a b s)

  -- a line's new list has for its pieces the line's old list
  pub old_list : (l : List V) (used before : List ArcRef) → IsLineOf g l → StitchTo arcs used l → StitchTo table before l → replaced pieces used ≡ before
  old_list l used before i h k =
      stitch_unique cmp o same dec u su table all l (replaced pieces used) before (laws.line l used i h) k
