-- Where the list of a ring begins.
use Rattle.std.specs.Prelude.{ℕ, ◌+◌, cond, List, [], ◌∷◌, Option, Some, None}
use Rattle.std.specs.Ordering.{is_gt}
use Rattle.theory.specs.ArcNumbers.{ArcRef, along}
use Rattle.grid.specs.declared.pos.Pos.{Pos}
use Rattle.arcs.specs.Keys.{key_of, key_cmp}
use Rattle.arcs.specs.declared.key.Key.{Key}

-- the first two vertices of a list, where there is one
abbrev pub key_if : Option (List Pos) → Key
key_if None = record { first = None; second = None }
key_if (Some l) = key_of l

-- the first two vertices along a used arc
abbrev pub used_key : List (List Pos) → ArcRef → Key
used_key arcs a = key_if (along arcs a)

-- the place of the first used arc that starts least, where the list goes on at place i
abbrev pub least_index_from : List (List Pos) → ℕ → Key → ℕ → List ArcRef → ℕ
least_index_from arcs index least i [] = index
least_index_from arcs index least i (a ∷ l) =
    least_index_from arcs (cond (is_gt (key_cmp least (used_key arcs a))) i index) (cond (is_gt (key_cmp least (used_key arcs a))) (used_key arcs a) least) (i + 1) l

-- the place of the first used arc that starts least
abbrev pub least_index : List (List Pos) → List ArcRef → ℕ
least_index arcs [] = 0
least_index arcs (a ∷ l) = least_index_from arcs 0 (used_key arcs a) 1 l
