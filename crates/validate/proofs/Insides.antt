-- The vertices inside all arcs, arc by arc, are those inside the lines and those of the rings.
use Rattle.std.proofs.Common.{Bool, true, false, cond, not, List, [], ◌∷◌, ◌++◌, map, sym, subst, append_assoc}
use Rattle.std.specs.List.Sorted.{IsPermutation}
use Rattle.std.proofs.lemmas.List.Sorted.{IsPermutation-append_comm, IsPermutation-append_left, IsPermutation-append_right, IsPermutation-refl, IsPermutation-trans}
use Rattle.theory.specs.Lists.{gathered}
use Rattle.theory.specs.Refinement.{unclosed}
use Rattle.theory.specs.Validity.{inner_of, insides}
use Rattle.theory.specs.TopologyFunction.{keep}
use Rattle.arcs.proofs.Marks.{gathered_map}
use Rattle.arcs.specs.Arcs.{Arcs}
use Rattle.chains.specs.OfArcs.{table_as_map}
use Rattle.arcs.specs.Table.{is_loop, with_loops}
use Rattle.validate.specs.Noding.{arc_inside}

module _ {V : Type 0} (f : List V → Bool) where
  abbrev part : List V → List V
  part c = cond (f c) (unclosed c) (inner_of c)

  abbrev of_lines : List (List V) → List V
  of_lines arcs = gathered inner_of (keep (λ c. not (f c)) arcs)

  abbrev of_rings : List (List V) → List V
  of_rings arcs = gathered (λ r. r) (map unclosed (keep f arcs))

  pub parts : (arcs : List (List V)) → IsPermutation (gathered part arcs) (of_lines arcs ++ of_rings arcs)
  parts [] = IsPermutation-refl []
  parts (c ∷ arcs) = go (f c) (parts arcs)
    where
      go : (b : Bool) → IsPermutation (gathered part arcs) (of_lines arcs ++ of_rings arcs) →
          IsPermutation (cond b (unclosed c) (inner_of c) ++ gathered part arcs)
          (gathered inner_of (cond (not b) (c ∷ keep (λ c. not (f c)) arcs) (keep (λ c. not (f c)) arcs)) ++ gathered (λ r. r) (map unclosed (cond b (c ∷ keep f arcs) (keep f arcs))))
      go true p =
          IsPermutation-trans (unclosed c ++ gathered part arcs) (unclosed c ++ (of_lines arcs ++ of_rings arcs)) (of_lines arcs ++ (unclosed c ++ of_rings arcs))
          (IsPermutation-append_right (unclosed c) (gathered part arcs) (of_lines arcs ++ of_rings arcs) p)
          (subst (λ w. IsPermutation w (of_lines arcs ++ (unclosed c ++ of_rings arcs))) (append_assoc (unclosed c) (of_lines arcs) (of_rings arcs))
          (subst (λ w. IsPermutation ((unclosed c ++ of_lines arcs) ++ of_rings arcs) w) (append_assoc (of_lines arcs) (unclosed c) (of_rings arcs))
          (IsPermutation-append_left (of_rings arcs) (unclosed c ++ of_lines arcs) (of_lines arcs ++ unclosed c) (IsPermutation-append_comm (unclosed c) (of_lines arcs)))))
      go false p =
          subst (λ w. IsPermutation (inner_of c ++ gathered part arcs) w) (sym (append_assoc (inner_of c) (of_lines arcs) (of_rings arcs)))
          (IsPermutation-append_right (inner_of c) (gathered part arcs) (of_lines arcs ++ of_rings arcs) p)

pub insides_of_table : (t : Arcs) → IsPermutation (gathered arc_inside (with_loops t)) (insides (table_as_map t))
insides_of_table t =
    subst (λ w. IsPermutation w (insides (table_as_map t))) (sym (gathered_map arc_inside (λ c. (c, is_loop t.loops c)) t.arcs)) (parts (is_loop t.loops) t.arcs)
