-- The least and the greatest index of the features that use each arc.
use Rattle.std.specs.Prelude.{ℕ, ◌+◌, ◌==◌, min, max, Bool, true, false, not, cond, List, [], ◌∷◌, ◌++◌, Option, Some, None, get_or, set}
use Rattle.std.specs.Ordering.{nat_cmp, ordering_then}
use Rattle.std.specs.declared.cmp.Ordering.{Ordering}
use Rattle.query.specs.declared.edges.Edges.{Edges}
use Rattle.query.specs.declared.edges.Edges.TheVariants.{All, Interior, Exterior}
use Rattle.query.specs.declared.spans.Span.{Span}
use Rattle.query.specs.declared.uses.Use.{Use}

-- the span with one more index
abbrev pub widened : Option Span → ℕ → Span
widened None p = record { least = p; greatest = p }
widened (Some s) p = record { least = min s.least p; greatest = max s.greatest p }

-- the spans of the arcs with one more use
abbrev pub with_use : List (Option Span) → Use → List (Option Span)
with_use ss u = set ss u.arc (Some (widened (get_or ss u.arc None) u.index))

-- and with each use in turn
abbrev pub with_uses : List (Option Span) → List Use → List (Option Span)
with_uses ss [] = ss
with_uses ss (u ∷ us) = with_uses (with_use ss u) us

-- by least indexes, then by greatest
abbrev pub span_cmp : Span → Span → Ordering
span_cmp s t = ordering_then (nat_cmp s.least t.least) (nat_cmp s.greatest t.greatest)

-- whether edges ask for an arc with these users: any, two and more, or one alone
abbrev pub asks_for_users : Edges → Span → Bool
asks_for_users All s = true
asks_for_users Interior s = not (s.least == s.greatest)
asks_for_users Exterior s = s.least == s.greatest

-- and whether for an arc, which without a user they don't
abbrev pub asks_for : Edges → Option Span → Bool
asks_for e None = false
asks_for e (Some s) = asks_for_users e s

-- the number, where they ask for its arc
abbrev pub number_if : Edges → ℕ → Option Span → List ℕ
number_if e n o = cond (asks_for e o) (n ∷ []) []

-- the numbers of those of the arcs that they ask for, the first of which has the number n
abbrev pub numbers_from : Edges → ℕ → List (Option Span) → List ℕ
numbers_from e n [] = []
numbers_from e n (o ∷ os) = number_if e n o ++ numbers_from e (n + 1) os
