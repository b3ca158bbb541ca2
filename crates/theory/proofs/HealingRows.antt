-- Worked rows of lists along joined arcs, by computation: three squares in a row, of which some are taken out.
use Rattle.std.proofs.Common.{◌≡◌, ℕ, ℤ, pos, cond, int_eq, List, [], ◌∷◌, refl, Some, None}
use Rattle.std.specs.Prelude.{map, negsuc}
use Rattle.theory.proofs.WorkedRows.{Position, ahead, by_position, first, reversed, second, third}
use Rattle.theory.specs.ArcNumbers.{ArcRef, index_of}
use Rattle.theory.specs.Geometry.{Geometry}
use Rattle.theory.specs.Healing.{Starts, healed_ring_list}
use Rattle.theory.specs.TopologyFunction.{arcs_of, ring_refs}

abbrev rings : List (List Position) → Geometry Position
rings rs = record { lines = []; rings = rs }

abbrev whole : Geometry Position
whole = rings (first ∷ second ∷ third ∷ [])

-- what is noted at a used old arc
abbrev at : List (ArcRef × (ArcRef × ℕ)) → Starts
at [] a = None
at (n ∷ notes) a = cond (int_eq (index_of n.0) (index_of a)) (Some n.1) (at notes a)

-- the new list of a ring, from its old one
abbrev new_list : Geometry Position → List (ArcRef × (ArcRef × ℕ)) → List Position → List ℤ
new_list g notes r = map index_of (healed_ring_list by_position (arcs_of by_position g) (at notes) (ring_refs by_position whole r))

abbrev list : Geometry Position → List Position → List ℤ
list g r = map index_of (ring_refs by_position g r)

-- the old lists
old_second : list whole second ≡ pos 2 ∷ (pos 4 ∷ (negsuc 3 ∷ (negsuc 1 ∷ [])))
old_second = refl

-- without the third the second's three outer arcs are joined
abbrev without_third : Geometry Position
without_third = rings (first ∷ second ∷ [])

abbrev joined_of_second : List (ArcRef × (ArcRef × ℕ))
joined_of_second =
    (ahead 0, (ahead 0, 0)) ∷ ((reversed 0, (reversed 0, 0)) ∷ ((ahead 1, (ahead 1, 0)) ∷ ((reversed 1, (reversed 1, 0))
    ∷ ((ahead 2, (ahead 2, 2)) ∷ ((ahead 3, (reversed 2, 2)) ∷ [])))))

second_joined : new_list without_third joined_of_second second ≡ list without_third second
second_joined = refl

first_joined : new_list without_third joined_of_second first ≡ list without_third first
first_joined = refl

-- without the others the third is a free loop
third_alone : new_list (rings (third ∷ [])) ((ahead 4, (ahead 0, 1)) ∷ ((ahead 5, (reversed 0, 1)) ∷ [])) third ≡ list (rings (third ∷ [])) third
third_alone = refl
