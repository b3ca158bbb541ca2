-- Shards on a stack.
use Rattle.std.specs.Prelude.{◌≡◌, List, [], ◌∷◌, ◌++◌}
use Rattle.shapes.specs.Maps.{Layers}
use Rattle.shapes.specs.Union.{union}

-- the new list has, in place of the last two of the old one, a shard of the union of their maps
pub record LastJoined {S : Type 0} (map_of : S → Layers) (old new : List S) : Type 0 where
  pub all_but_one : List S
  pub all_but_two : List S
  pub first : S
  pub second : S
  pub joined : S
  pub takes_second : old ≡ all_but_one ++ (second ∷ [])
  pub takes_first : all_but_one ≡ all_but_two ++ (first ∷ [])
  pub puts : new ≡ all_but_two ++ (joined ∷ [])
  pub union_of : map_of joined ≡ union (map_of first) (map_of second)
