-- Rings that use a segment twice, cut into loops.
use Rattle.std.specs.Prelude.{ℕ, suc, zero, cond, List, [], ◌∷◌, ◌++◌, length, nat_lt, Option, Some, None}
use Rattle.std.specs.Option.{option_map}
use Rattle.grid.specs.declared.pos.Pos.{Pos}
use Rattle.lines.specs.Pairs.{position_eq}
use Rattle.theory.specs.TopologyFunction.{some}

-- the place of a position on a path
abbrev pub place_on : Pos → List Pos → Option ℕ
place_on p [] = None
place_on p (q ∷ l) = cond (position_eq p q) (Some zero) (option_map (λ k. suc k) (place_on p l))

-- the path up to the position, and with it
abbrev pub path_to : Pos → List Pos → List Pos
path_to p [] = []
path_to p (q ∷ l) = cond (position_eq p q) (q ∷ []) (q ∷ path_to p l)

-- the path from the position on
abbrev pub path_from : Pos → List Pos → List Pos
path_from p [] = []
path_from p (q ∷ l) = cond (position_eq p q) (q ∷ l) (path_from p l)

-- a loop of three segments or more, which has four positions or more; one to a position and back is none
abbrev pub loop_kept : List Pos → List (List Pos)
loop_kept l = cond (nat_lt 3 (length l)) (l ∷ []) []

-- the walk that has come along the path, gone on with: where it meets a position of the path, the loop since then is
-- cut off
abbrev pub loops_on : List Pos → List Pos → List (List Pos)
loops_on path [] = []
loops_on path (p ∷ l) =
    cond (some (position_eq p) path)
    (loop_kept (path_from p path ++ (p ∷ [])) ++ loops_on (path_to p path) l)
    (loops_on (path ++ (p ∷ [])) l)

-- the loops of a closed list, in the order in which they end
unfoldable pub loops_of : List Pos → List (List Pos)
loops_of closed = loops_on [] closed
