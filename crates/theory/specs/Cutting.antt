-- Cutting a list at stops.
use Rattle.std.specs.Prelude.{Bool, cond, List, [], ◌∷◌, ◌++◌}
use Rattle.theory.specs.Lists.{NoTurnBack, Steps, Twice}

-- the list runs along segments, does not turn back, and where it comes again to a vertex there is a stop
-- [topojson-server]
pub record Course {V : Type 0} (S : V → V → Type 0) (J : V → Type 0) (l : List V) : Type 0 where
  pub along : (u v : V) → Steps u v l → S u v
  pub no_turn : NoTurnBack l
  pub again : (v : V) → Twice v l → J v

-- the pieces of the list that begins with the vertices `current` and goes on by the second list, cut at each stop
-- [topojson-server]
abbrev pub cut_from : {V : Type 0} → (V → Bool) → List V → List V → List (List V)
cut_from stop current [] = []
cut_from stop current (p ∷ rest) =
    cond (stop p) ((current ++ (p ∷ [])) ∷ cut_from stop (p ∷ []) rest) (cut_from stop (current ++ (p ∷ [])) rest)
