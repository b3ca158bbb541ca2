-- What a test of positions says of the arcs that are looked at.
use Rattle.std.proofs.Common.{Bool, List, ◌∷◌, inl, inr, ◌⊎◌, sym, subst}
use Rattle.theory.specs.Lists.{Has}
use Rattle.grid.specs.declared.pos.Pos.{Pos}
use Rattle.lines.specs.Holding.{AreMarked, Holds}

-- of the arcs those of whose vertices it does not hold are still to come
abbrev pub ArcsAreLeft : (Pos → Bool) → List (List Pos) → List (List Pos) → Type 0
ArcsAreLeft may all left = (c : List Pos) → Has c all → Has c left ⊎ Holds may c

pub arc_marked : (now new : Pos → Bool) (all left : List (List Pos)) (arc : List Pos) → AreMarked arc now new →
    ArcsAreLeft now all (arc ∷ left) → ArcsAreLeft new all left
arc_marked now new all left arc m before c j = elim (before c j) [
  | inl (inl e) ↦ inr (subst (Holds new) (sym e) m.1)
  | inl (inr r) ↦ inl r
  | inr k ↦ inr (λ p q. m.0 p (k p q))
]
