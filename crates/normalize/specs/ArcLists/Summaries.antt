-- What is known of each arc.
use Rattle.std.proofs.Props.{props}
use Rattle.std.specs.Coded.{×_prop, →_prop, Unit-prop}
use Rattle.std.specs.Prelude.{◌≡◌, ℕ, true, List, [], ◌∷◌, length}
use Rattle.grid.specs.declared.pos.Pos.{Pos}
use Rattle.lines.specs.Reading.{collapsed}
use Rattle.lines.specs.Turned.{position_cmp}
use Rattle.theory.specs.LinesAndRings.{Trail}
use Rattle.theory.specs.Lists.{Pairwise}
use Rattle.theory.specs.OneProof.{Trail-prop}
use Rattle.normalize.specs.declared.arc_lists.summaries.ArcSummary.{ArcSummary}

-- how many positions it has, equal neighbours read as one; where it is said to be simple, no segment occurs in it twice
abbrev pub IsSummary : List Pos → ArcSummary → Type 0
IsSummary c s = (s.count ≡ length (collapsed position_cmp c)) × (s.simple ≡ true → Trail (collapsed position_cmp c))

-- the same of each arc
abbrev pub AreSummaries : List (List Pos) → List ArcSummary → Type 0
AreSummaries = Pairwise IsSummary

same_count-prop : (m n : ℕ) → IsProp (m ≡ n)
same_count-prop m n = Prim.hlevel props

pub IsSummary-prop : (c : List Pos) (s : ArcSummary) → IsProp (IsSummary c s)
IsSummary-prop c s = ×_prop (same_count-prop s.count (length (collapsed position_cmp c))) (→_prop (Trail-prop (collapsed position_cmp c)))

-- two proofs that these are the arcs' summaries are equal
pub AreSummaries-prop : (arcs : List (List Pos)) (ss : List ArcSummary) → IsProp (AreSummaries arcs ss)
AreSummaries-prop [] [] = Unit-prop
AreSummaries-prop [] (s ∷ ss) = λ a b. absurd a
AreSummaries-prop (c ∷ arcs) [] = λ a b. absurd a
AreSummaries-prop (c ∷ arcs) (s ∷ ss) = ×_prop (IsSummary-prop c s) (AreSummaries-prop arcs ss)
