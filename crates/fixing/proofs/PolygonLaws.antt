-- The rings of what is left of a polygon.
use Rattle.std.proofs.Common.{◌≡◌, ℕ, zero, suc, Bool, true, false, cond, not, List, [], ◌∷◌, length, nat_lt, refl, subst, Option, Some, None, option_and_then}
use Rattle.grid.specs.declared.pos.Pos.{Pos}
use Rattle.theory.specs.Lists.{Each}
use Rattle.theory.specs.TopologyFunction.{keep}
use Rattle.fixing.specs.Laws.{EachRing}
use Rattle.fixing.specs.Left.{closed_list, ring_left}
use Rattle.fixing.specs.Measures.{turns_left}
use Rattle.fixing.specs.Polygons.{home_of, home_of_hole, polygon_kept, polygons_of, polygons_of_loops, put_at, put_holes, put_others, put_ring, turns_to, with_holes}
use Rattle.fixing.specs.declared.rules.FixingRules.{FixingRules}
use Rattle.fixing.proofs.RunLaws.{Each-join}

module _ (P : List Pos → Type 0) where
  put_ring_each : (k : ℕ) (ring : List Pos) (ps : List (List (List Pos))) → P ring → EachRing P ps → EachRing P (put_ring k ring ps)
  put_ring_each k ring [] h e = tt
  put_ring_each zero ring (p ∷ ps) h e = (Each-join P p (ring ∷ []) e.0 (h, tt), e.1)
  put_ring_each (suc k) ring (p ∷ ps) h e = (e.0, put_ring_each k ring ps h e.1)

  put_holes_each : (holes : List (List Pos)) (ps : List (List (List Pos))) → Each P holes → EachRing P ps → EachRing P (put_holes holes ps)
  put_holes_each [] ps h e = e
  put_holes_each (hole ∷ holes) ps h e =
      put_holes_each holes (put_ring (home_of_hole ps hole) hole ps) h.1 (put_ring_each (home_of_hole ps hole) hole ps h.0 e)

  put_at_each : (o : Option ℕ) (ring : List Pos) (ps : List (List (List Pos))) → P ring → EachRing P ps → EachRing P (put_at o ring ps)
  put_at_each None ring ps h e = e
  put_at_each (Some k) ring ps h e = put_ring_each k ring ps h e

  put_others_each : (rings : List (List Pos)) (ps : List (List (List Pos))) → Each P rings → EachRing P ps → EachRing P (put_others rings ps)
  put_others_each [] ps h e = e
  put_others_each (ring ∷ rings) ps h e =
      put_others_each rings (put_at (home_of ps ring) ring ps) h.1 (put_at_each (home_of ps ring) ring ps h.0 e)

  alone_each : (rings : List (List Pos)) → Each P rings → EachRing P (polygons_of rings)
  alone_each [] h = tt
  alone_each (ring ∷ rings) h = ((h.0, tt), alone_each rings h.1)

  keep_each : (f : List Pos → Bool) (rings : List (List Pos)) → Each P rings → Each P (keep f rings)
  keep_each f [] h = tt
  keep_each f (ring ∷ rings) h = go (f ring) h.0 (keep_each f rings h.1)
    where
      go : (b : Bool) → P ring → Each P (keep f rings) → Each P (cond b (ring ∷ keep f rings) (keep f rings))
      go true k e = (k, e)
      go false k e = e

  loops_each : (left : Bool) (loops : List (List Pos)) → Each P loops → EachRing P (polygons_of_loops left loops)
  loops_each left loops h = go (nat_lt (length loops) 2)
    where
      go : (b : Bool) →
          EachRing P (cond b (polygons_of loops) (put_others (keep (λ ring. not (turns_to left ring)) loops) (polygons_of (keep (turns_to left) loops))))
      go true = alone_each loops h
      go false =
          put_others_each (keep (λ ring. not (turns_to left ring)) loops) (polygons_of (keep (turns_to left) loops))
          (keep_each (λ ring. not (turns_to left ring)) loops h) (alone_each (keep (turns_to left) loops) (keep_each (turns_to left) loops h))

  module _ (rules : FixingRules) (sound : (ring : List Pos) (left : List (List Pos)) → ring_left rules ring ≡ Some left → Each P left) where
    with_holes_each : (holes : List (List Pos)) (ps made : List (List (List Pos))) → EachRing P ps → with_holes rules holes ps ≡ Some made → EachRing P made
    with_holes_each [] ps made e h = let s : ps ≡ made = cc in subst (EachRing P) s e
    with_holes_each (hole ∷ holes) ps made e h = go (ring_left rules hole) (sound hole) (λ left k. with_holes_each holes (put_holes left ps) made k) h
      where
        go : (o : Option (List (List Pos))) → ((left : List (List Pos)) → o ≡ Some left → Each P left) →
            ((left : List (List Pos)) → EachRing P (put_holes left ps) → with_holes rules holes (put_holes left ps) ≡ Some made → EachRing P made) →
            option_and_then (λ left. with_holes rules holes (put_holes left ps)) o ≡ Some made → EachRing P made
        go None s ih k = absurd cc
        go (Some left) s ih k = ih left (put_holes_each left ps (s left refl) e) k

    -- what holds of each ring that is left of a ring holds of each ring of the polygons
    pub polygon_each : (rings : List (List Pos)) (made : List (List (List Pos))) → polygon_kept rules rings ≡ Some made → EachRing P made
    polygon_each [] made h = let s : [] ∷ [] ≡ made = cc in subst (EachRing P) s (tt, tt)
    polygon_each (outer ∷ holes) made h = go (ring_left rules outer) (sound outer) h
      where
        go : (o : Option (List (List Pos))) → ((left : List (List Pos)) → o ≡ Some left → Each P left) →
            option_and_then (λ loops. with_holes rules holes (polygons_of_loops (turns_left (closed_list rules outer)) loops)) o ≡ Some made → EachRing P made
        go None s k = absurd cc
        go (Some loops) s k =
            let left = turns_left (closed_list rules outer) in with_holes_each holes (polygons_of_loops left loops) made (loops_each left loops (s loops refl)) k
