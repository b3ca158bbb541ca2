-- Labels of arcs, which those share that have a segment in common.
use Rattle.std.proofs.Props.{props}
use Rattle.std.specs.Coded.{→_prop, Π_prop}
use Rattle.std.specs.Prelude.{◌≡◌, ℕ, Bool, true, false, cond, not, ◌||◌, nat_eq, List, [], ◌∷◌, Some, get_or, slice_get}
use Rattle.grid.specs.declared.pos.Pos.{Pos}
use Rattle.lines.specs.Pairs.{pair_eq}
use Rattle.lines.specs.Reading.{collapsed}
use Rattle.lines.specs.Turned.{position_cmp}
use Rattle.theory.specs.Lists.{Beside}
use Rattle.normalize.specs.declared.arc_lists.segments.NumberedSegment.{NumberedSegment}

-- the label of an arc, 0 where there is none
abbrev pub label_at : List ℕ → ℕ → ℕ
label_at ls i = get_or ls i 0

-- whether the arcs of equal segments have one label
abbrev pub agree : List ℕ → NumberedSegment → NumberedSegment → Bool
agree ls s t = not (pair_eq s.pair t.pair) || nat_eq (label_at ls s.arc) (label_at ls t.arc)

-- the same of neighbours, where s is before the list
abbrev pub agree_from : List ℕ → NumberedSegment → List NumberedSegment → Bool
agree_from ls s [] = true
agree_from ls s (t ∷ l) = cond (agree ls s t) (agree_from ls t l) false

-- whether the arcs of neighbours in a list of segments have one label, where the segments are equal
abbrev pub all_agree : List ℕ → List NumberedSegment → Bool
all_agree ls [] = true
all_agree ls (s ∷ l) = agree_from ls s l

-- arcs that have two neighbours in common, in either order, have one label
abbrev pub ShareLabels : List (List Pos) → List ℕ → Type 0
ShareLabels arcs ls =
    (i j : ℕ) (c d : List Pos) (u v : Pos) → slice_get arcs i ≡ Some c → slice_get arcs j ≡ Some d → Beside u v (collapsed position_cmp c) → Beside u v (collapsed position_cmp d) →
    label_at ls i ≡ label_at ls j

same_label-prop : (m n : ℕ) → IsProp (m ≡ n)
same_label-prop m n = Prim.hlevel props

-- two proofs that labels are shared so are equal
pub ShareLabels-prop : (arcs : List (List Pos)) (ls : List ℕ) → IsProp (ShareLabels arcs ls)
ShareLabels-prop arcs ls =
    Π_prop (λ i. Π_prop (λ j. Π_prop (λ c. Π_prop (λ d. Π_prop (λ u. Π_prop (λ v.
    →_prop (→_prop (→_prop (→_prop (same_label-prop (label_at ls i) (label_at ls j)))))))))))
