-- Chains over all segments, of which some stood already and the others were found over the rest.
use Rattle.std.proofs.Common.{◌≡◌, List, [], ◌∷◌, ◌++◌, inl, inr, sym, subst, Result, Ok, Err, IfOk}
use Rattle.theory.specs.Geometry.{AtMost}
use Rattle.theory.specs.Lists.{Has}
use Rattle.theory.proofs.Chains.{all_chains}
use Rattle.theory.proofs.Lists.{Has-append, Has-append_left, Has-append_right}
use Rattle.grid.specs.declared.pos.Pos.{Pos}
use Rattle.lines.specs.Turned.{position_cmp}
use Rattle.chains.specs.Joined.{AmongSegments, SegmentsOf, StopAt, MeetsTwo, IsChainOver, Covered, AreCovering, AreParted, AreAllChains, AreMaximal}
use Rattle.arcs.specs.Arcs.{Arcs}
use Rattle.chains.specs.declared.segment.Segment.{Segment}
use Rattle.lines.proofs.Positions.{position_most}
use Rattle.chains.proofs.Found.{Among-turn}

-- a chain over some segments is one over more
more_segments : (segs all : List Segment) (stops : List Pos) → ((u v : Pos) → AmongSegments u v segs → AmongSegments u v all) → (d : List Pos) →
    IsChainOver segs stops d → IsChainOver all stops d
more_segments segs all stops into [] k = absurd k
more_segments segs all stops into (x ∷ r) k = record {
  long = k.long;
  along = λ u v s. into u v (k.along u v s);
  front_simple = k.front_simple;
  rest_simple = k.rest_simple;
  closed_long = k.closed_long;
  inner_free = k.inner_free;
  ends = k.ends;
}

pub parted_chains : (all rest : List Segment) (stops : List Pos) (whole ds : List (List Pos)) → MeetsTwo all stops → AreParted all stops whole rest →
    AreCovering rest stops ds → AreAllChains all stops (whole ++ ds)
parted_chains all rest stops whole ds ok p c = record {
  chains = chains;
  each = all_chains (SegmentsOf all) (StopAt stops) (AtMost position_cmp) (λ u v. Among-turn all u v) ok position_most (λ d. Has d (whole ++ ds)) chains cover;
}
  where
    chains : (d : List Pos) → Has d (whole ++ ds) → IsChainOver all stops d
    chains d h = elim (Has-append d whole ds h) [ inl k ↦ p.chains d k | inr k ↦ more_segments rest all stops p.within d (c.chains d k) ]

    cover : (u v : Pos) → AmongSegments u v all → Covered u v (whole ++ ds)
    cover u v s = elim (p.every u v s) [
      | inl t ↦ (t.0, Has-append_left t.0 whole ds t.1, t.2)
      | inr r ↦ let t = c.covers u v r in (t.0, Has-append_right t.0 whole ds t.1, t.2)
    ]

-- where no chain stood before
none_parted : (segs : List Segment) (stops : List Pos) → AreParted segs stops [] segs
none_parted segs stops = record { chains = λ d h. absurd h; within = λ u v h. h; every = λ u v h. inr h }

-- in the form of the code
pub alone_means : {E : Type 0} (segs list : List Segment) (stops : List Pos) (whole : List (List Pos)) (r : Result Arcs E) → list ≡ segs → whole ≡ [] →
    MeetsTwo segs stops → IfOk r (λ t. (all : List Segment) → MeetsTwo all stops → AreParted all stops whole list → AreMaximal all stops t) →
    IfOk r (λ t. AreMaximal segs stops t)
alone_means segs list stops whole (Ok t) e f two h =
    h segs two (subst (λ w. AreParted segs stops w list) (sym f) (subst (AreParted segs stops []) (sym e) (none_parted segs stops)))
alone_means segs list stops whole (Err r) e f two h = tt
