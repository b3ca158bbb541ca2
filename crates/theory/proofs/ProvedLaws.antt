-- The laws of maps, proved.
use Rattle.std.proofs.Common.{◌≡◌, ◌≤◌, Bool, true, false, cond, List, [], ◌∷◌, ◌++◌, inl, inr, refl, ap, ◌∙◌, subst, arith, sym}
use Rattle.std.specs.declared.cmp.Ordering.{Ordering}
use Rattle.theory.proofs.ArcsAsMap.{arcs_alike, arcs_sound, junction_map}
use Rattle.theory.proofs.ArcsOfMap.{are_arcs, line_is_cut, ring_is_cut}
use Rattle.theory.proofs.Ascending.{at_most_same, dec_by}
use Rattle.theory.proofs.ChainLists.{stitched_unique}
use Rattle.theory.proofs.Chains.{Chain-Trail, all_chains, not_own_reverse, one_chain}
use Rattle.theory.proofs.JunctionTest.{junction_means, some_found}
use Rattle.theory.proofs.Junctions.{junction_law}
use Rattle.theory.proofs.Lists.{Has-append}
use Rattle.theory.proofs.ListsOfLists.{Each-Has}
use Rattle.theory.proofs.Networks.{Joins-flip, is_network, network_has, same_chains}
use Rattle.theory.proofs.OneTopology.{arcs_unique, ring_list_unique, stitch_unique, topology_unique}
use Rattle.theory.proofs.Pieces.{line_junction, ring_junction, two_segments_of}
use Rattle.theory.proofs.PiecesExist.{are_arcs_as_map, arcs_are_pieces, recut_refines, refinement_once}
use Rattle.theory.proofs.RecutBodies.{form_replaced}
use Rattle.theory.specs.ArcNumbers.{StitchTo}
use Rattle.theory.proofs.Healed.{removal_laws}
use Rattle.theory.proofs.ReplacedNumbers.{refinement_laws}
use Rattle.theory.proofs.Reversing.{IsChain-reverse}
use Rattle.theory.proofs.RingListStart.{least_start, turned_used_is}
use Rattle.theory.proofs.Rotations.{least_second, ring_list_rotated, rotation_back, rotation_has}
use Rattle.theory.proofs.SegmentsOnce.{segments_once, sorted_pieces_are_arcs}
use Rattle.theory.proofs.Stitching.{beside_stitched, stitched_beside}
use Rattle.theory.proofs.TopologyExists.{topology_exists}
use Rattle.theory.proofs.UsersOfArcs.{share, users}
use Rattle.theory.proofs.VisitedAgain.{Trail-turn, ring_turn}
use Rattle.theory.proofs.WalksExist.{walks_exist}
use Rattle.theory.proofs.WalksFindAll.{walks_find_all}
use Rattle.theory.specs.Chain.{Free}
use Rattle.theory.specs.Geometry.{AtMost, Geometry, IsChainOf, IsLineOf, IsRingOf, JunctionOf}
use Rattle.theory.specs.Laws as law
use Rattle.theory.specs.Laws.{IsOrder}
use Rattle.theory.specs.LinesAndRings.{IsRotation, closed}
use Rattle.theory.specs.Lists.{Each, Has}
use Rattle.theory.specs.Network.{IsChainIn, IsStop, Joins, network_of}
use Rattle.theory.specs.Refinement.{arcs_as_map, both_of, recut, turned_used, replaced}
use Rattle.theory.specs.Topology.{IsRingList}
use Rattle.theory.specs.TopologyFunction.{is_junction, line_cut, ring_cut, arcs_of, some, turned}

-- two vertices are one or not
same_vertices : {V : Type 0} (cmp : V → V → Ordering) → IsOrder cmp → (a b : V) → Dec (a ≡ b)
same_vertices cmp o = dec_by cmp o.total o.same

at_same : {V : Type 0} (cmp : V → V → Ordering) → IsOrder cmp → (a b : V) → AtMost cmp a b → AtMost cmp b a → a ≡ b
at_same cmp o = at_most_same cmp o.total o.same

pub one_chain_through_a_segment : {V : Type 0} → law.OneChainThroughASegment V
one_chain_through_a_segment cmp n o ok = one_chain (Joins n) (IsStop n) (AtMost cmp) (Joins-flip n) ok.two (at_same cmp o)

pub no_segment_twice : {V : Type 0} → law.NoSegmentTwice V
no_segment_twice cmp n o ok [] k = tt
no_segment_twice cmp n o ok (x ∷ r) k = Chain-Trail (Joins n) (IsStop n) (AtMost cmp) (Joins-flip n) ok.two (at_same cmp o) x r k

pub not_its_reverse : {V : Type 0} → law.NotItsReverse V
not_its_reverse cmp n o ok [] k = absurd k
not_its_reverse cmp n o ok (x ∷ []) k = let h : 1 ≤ 0 = k.long in absurd (omega arith)
not_its_reverse cmp n o ok (x ∷ (y ∷ r)) k = not_own_reverse (Joins n) (IsStop n) (AtMost cmp) (Joins-flip n) ok.two (at_same cmp o) x y r k

pub reverse_is_a_chain : {V : Type 0} → law.ReverseIsAChain V
reverse_is_a_chain cmp n o ok = IsChain-reverse (Joins n) (IsStop n) (AtMost cmp) (Joins-flip n)

pub covering_chains_are_all : {V : Type 0} → law.CoveringChainsAreAll V
covering_chains_are_all cmp n o ok ds chains cover = record {
  chains = chains;
  all = all_chains (Joins n) (IsStop n) (AtMost cmp) (Joins-flip n) ok.two (at_same cmp o) (λ d. Has d ds)
      (λ d h. Each-Has (IsChainIn cmp n) ds chains d h) cover;
}

pub one_list_of_chains : {V : Type 0} → law.OneListOfChains V
one_list_of_chains cmp n o ok x r cs ds ec ed h k =
    stitched_unique (Joins n) (IsStop n) (AtMost cmp) (Joins-flip n) ok.two (at_same cmp o) cs ds x r ec ed h k

pub walks_find_all_chains : {V : Type 0} → law.WalksFindAllChains V
walks_find_all_chains cmp n o ok = walks_find_all cmp o.total o.same (same_vertices cmp o) n ok

pub walks_end : {V : Type 0} → law.WalksEnd V
walks_end cmp n o ok =
    let d = walks_exist cmp o.total o.same (same_vertices cmp o) n ok in
    (d.left, d.lists, d.found, d.none, d.covered)

pub map_is_a_network : {V : Type 0} → law.MapIsANetwork V
map_is_a_network cmp g o s =
    let dec = same_vertices cmp o in
    let of = network_has cmp o.total o.same dec g s in
    (is_network cmp o.total o.same dec g s (network_of cmp g) of, of, same_chains cmp o.total o.same dec g s (network_of cmp g) of)

pub junction_by_segments : {V : Type 0} → law.JunctionBySegments V
junction_by_segments cmp g o s =
    junction_law (IsLineOf g) (IsRingOf g) (same_vertices cmp o)
    (λ l h. Trail-turn l (s.lines l h).once) (λ r h. ring_turn r (s.rings r h))

pub visited_again_is_a_junction : {V : Type 0} → law.VisitedAgainIsAJunction V
visited_again_is_a_junction cmp g o s v l (inl h) t = line_junction g s (same_vertices cmp o) l h v t
visited_again_is_a_junction cmp g o s v l (inr h) t = ring_junction g s (same_vertices cmp o) l h v t

pub others_on_two_segments : {V : Type 0} → law.OthersOnTwoSegments V
others_on_two_segments cmp g o s = two_segments_of g s (same_vertices cmp o)

pub pieces_of_a_line : {V : Type 0} → law.PiecesOfALine V
pieces_of_a_line cmp g o s [] h = let k : 2 ≤ 0 = (s.lines [] h).long in absurd (omega arith)
pieces_of_a_line cmp g o s (x ∷ r) h = line_is_cut cmp o.total o.same (same_vertices cmp o) g s x r h

pub pieces_of_a_ring : {V : Type 0} → law.PiecesOfARing V
pieces_of_a_ring cmp g o s r h =
    let c = ring_is_cut cmp o.total o.same (same_vertices cmp o) g s r h in
    let t = c.turning in (
      t.first,
      t.behind ++ t.before,
      record { rotation = (t.before, t.first ∷ t.behind, t.parted, refl); seam = t.seam; least = t.least },
      (c.chains, c.stitched),
    )

pub pieces_cover : {V : Type 0} → law.PiecesCover V
pieces_cover x r ps s u v = (stitched_beside u v x ps r s, λ t. beside_stitched u v x ps r s t.0 t.1 t.2)

-- a test that no member passes
none_passes : {V : Type 0} (cmp : V → V → Ordering) → IsOrder cmp → (g : Geometry V) (r : List V) → Free (JunctionOf g) r →
    some (is_junction cmp g) r ≡ false
none_passes cmp o g r free = go (some (is_junction cmp g) r) refl
  where
    go : (b : Bool) → some (is_junction cmp g) r ≡ b → b ≡ false
    go false e = refl
    go true e = (let t = some_found (is_junction cmp g) r e in absurd (free t.0 t.1 (junction_means cmp o.total o.same g t.0 t.2)))

pub one_free_loop : {V : Type 0} → law.OneFreeLoop V
one_free_loop {V} cmp g o s [] h free = let k : 3 ≤ 0 = (s.rings [] h).long in absurd (omega arith)
one_free_loop {V} cmp g o s (y ∷ q) h free =
    let c = ring_is_cut cmp o.total o.same (same_vertices cmp o) g s (y ∷ q) h in
    let t = c.turning in
    let l : List V = t.behind ++ t.before in
    let rotation : IsRotation (y ∷ q) (t.first ∷ l) = (t.before, t.first ∷ t.behind, t.parted, refl) in
    let one : ring_cut cmp (is_junction cmp g) (y ∷ q) ≡ closed (t.first ∷ l) ∷ [] =
    ap (λ w. cond w (line_cut (is_junction cmp g) (closed (turned cmp (is_junction cmp g) (y ∷ q)))) (closed (turned cmp (is_junction cmp g) (y ∷ q)) ∷ []))
    (none_passes cmp o g (y ∷ q) free)
    ∙ ap (λ w. closed w ∷ []) t.is in (
      t.first,
      l,
      record { rotation = rotation; seam = t.seam; least = t.least },
      elim t.seam [ inl m ↦ absurd (free t.first m.there m.has_it) | inr m ↦ m.1 ],
      one,
      (subst (λ w. Each (IsChainOf cmp g) w) one c.chains).0,
      λ v k. free v (rotation_has (t.first ∷ l) (y ∷ q) (rotation_back (y ∷ q) (t.first ∷ l) rotation) v (closed-Has v t.first l k)),
    )
  where
    closed-Has : (v x : V) (l : List V) → Has v (closed (x ∷ l)) → Has v (x ∷ l)
    closed-Has v x l (inl e) = inl e
    closed-Has v x l (inr k) = elim (Has-append v l (x ∷ []) k) [ inl j ↦ inr j | inr j ↦ elim j [ inl e ↦ inl e | inr z ↦ absurd z ] ]

pub ring_from_any_place : {V : Type 0} → law.RingFromAnyPlace V
ring_from_any_place cmp g arcs a b used r h = ring_list_rotated cmp (JunctionOf g) arcs a b used r h

pub least_second_vertex : {V : Type 0} → law.LeastSecondVertex V
least_second_vertex cmp o = least_second cmp o.total o.same

pub pieces_are_the_arcs : {V : Type 0} → law.PiecesAreTheArcs V
pieces_are_the_arcs cmp g o s ps arcs have good sorted =
    sorted_pieces_are_arcs cmp o.total o.same (same_vertices cmp o) g s ps have arcs good sorted

pub arcs_of_a_map : {V : Type 0} → law.ArcsOfAMap V
arcs_of_a_map cmp g o s =
    let all = are_arcs cmp o.total o.same (same_vertices cmp o) g s in
    (all, λ arcs h. arcs_unique cmp o.total o.same (same_vertices cmp o) g arcs (arcs_of cmp g) h all)

pub each_segment_once : {V : Type 0} → law.SegmentsOnce V
each_segment_once cmp g o s = segments_once cmp o.total o.same (same_vertices cmp o) g s

pub one_list_of_numbers : {V : Type 0} → law.OneListOfNumbers V
one_list_of_numbers cmp g o s = stitch_unique cmp o.total o.same (same_vertices cmp o) g s

pub one_list_of_a_ring : {V : Type 0} → law.OneListOfARing V
one_list_of_a_ring cmp g o s = ring_list_unique cmp o.total o.same (same_vertices cmp o) g s

pub ring_begins_at_least_start : {V : Type 0} → law.RingBeginsAtLeastStart V
ring_begins_at_least_start cmp g o s arcs all = least_start cmp o.total o.same (same_vertices cmp o) g s arcs all

pub one_topology : {V I G B : Type 0} → law.OneTopology V I G B
one_topology cmp box_of on m o s = topology_unique cmp o.total o.same (same_vertices cmp o) box_of on m s

pub topology_of_a_map : {V I G B : Type 0} → law.TopologyOfAMap V I G B
topology_of_a_map cmp box_of on m o s = topology_exists cmp o.total o.same (same_vertices cmp o) box_of on m s

pub users_of_an_arc : {V : Type 0} → law.UsersOfAnArc V
users_of_an_arc cmp g o s arcs all f h form rings = users cmp o.total o.same (same_vertices cmp o) g s arcs all f h form rings

pub shared_segment_is_a_shared_arc : {V : Type 0} → law.SharedSegmentIsASharedArc V
shared_segment_is_a_shared_arc cmp g o s arcs all = share cmp o.total o.same (same_vertices cmp o) g s arcs all

pub junctions_only_grow : {V : Type 0} → law.JunctionsOnlyGrow V
junctions_only_grow g u part = junction_map (IsLineOf g) (IsRingOf g) (IsLineOf u) (IsRingOf u) part.lines part.rings

pub one_list_of_pieces : {V : Type 0} → law.OneListOfPieces V
one_list_of_pieces cmp g u o sg su part arcs table ag au =
    let has = recut_refines cmp o.total o.same (same_vertices cmp o) g u sg su part arcs table ag au in
    (has, λ pieces h. refinement_once cmp o.total o.same (same_vertices cmp o) g u sg su part arcs table ag au pieces (recut cmp g u arcs table) h has)

pub arcs_of_a_union_are_pieces : {V : Type 0} → law.ArcsOfAUnionArePieces V
arcs_of_a_union_are_pieces cmp m n u o = arcs_are_pieces cmp o.total o.same (same_vertices cmp o) m n u

pub pieces_in_place : {V : Type 0} → law.PiecesInPlace V
pieces_in_place cmp g u o sg su part arcs table pieces ref =
    refinement_laws cmp o.total o.same (same_vertices cmp o) u su table ref.new g sg part arcs pieces ref

pub ring_replaced_and_turned : {V : Type 0} → law.RingReplacedAndTurned V
ring_replaced_and_turned cmp g u o sg su part arcs table pieces ref r used i h =
    let k = (pieces_in_place cmp g u o sg su part arcs table pieces ref).ring r used i h in
    subst (λ w. IsRingList cmp (JunctionOf u) table r w)
    (sym (ap (turned_used cmp table) k.2
    ∙ turned_used_is cmp o.total o.same (same_vertices cmp o) u su table ref.new r (part.rings r i) k.0 k.1 k.3))
    k.3

pub body_after_a_recut : {V : Type 0} → law.BodyAfterARecut V
body_after_a_recut cmp g u o sg su part arcs table pieces ref f h ls rs form =
    form_replaced (λ l used. StitchTo arcs used l) (IsRingList cmp (JunctionOf g) arcs)
    (λ l used. StitchTo table used l) (IsRingList cmp (JunctionOf u) table)
    (replaced pieces) (λ used. turned_used cmp table (replaced pieces used)) f h form
    (λ l used i k. (pieces_in_place cmp g u o sg su part arcs table pieces ref).line l used (ls l i) k)
    (λ r used i k. ring_replaced_and_turned cmp g u o sg su part arcs table pieces ref r used (rs r i) k)

pub union_known_from_arcs : {V : Type 0} → law.UnionKnownFromArcs V
union_known_from_arcs cmp m n u o sm sn su union ms ns am an =
    let dec = same_vertices cmp o in
    let a = both_of (arcs_as_map cmp m ms) (arcs_as_map cmp n ns) in
    let h = are_arcs_as_map cmp o.total o.same dec m n sm sn ms ns am an in
    (arcs_sound cmp o.total o.same dec m n u sm sn su union ms ns am an a h, arcs_alike cmp o.total o.same dec m n u sm sn su union ms ns am an a h)

pub pieces_of_what_is_left : {V : Type 0} → law.PiecesOfWhatIsLeft V
pieces_of_what_is_left cmp g u o sg su part arcs table pieces ref =
    removal_laws cmp o.total o.same (same_vertices cmp o) u su table ref.new g sg part arcs pieces ref
