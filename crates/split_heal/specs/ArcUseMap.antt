-- What is noted of used arcs.
use Rattle.std.specs.Prelude.{ℕ, Bool, true, false, cond, not, List, get_or, Option, Some, None}
use Rattle.std.specs.Ordering.{is_eq, nat_cmp}
use Rattle.theory.specs.ArcNumbers.{ArcRef}
use Rattle.split_heal.specs.declared.by_use.ArcUseMap.{ArcUseMap}

-- what is noted at a place; nothing behind the last
abbrev pub value_at : {T : Type 0} → List (Option T) → ℕ → Option T
value_at l k = get_or l k None

-- what is noted of a used arc
abbrev pub recorded_of : {T : Type 0} → ArcUseMap T → ArcRef → Option T
recorded_of b q = cond q.reversed (value_at b.against.items q.arc) (value_at b.ahead.items q.arc)

-- whether both are used in one direction
abbrev pub same_way : Bool → Bool → Bool
same_way true b = b
same_way false b = not b

-- the same, and this noted of a
abbrev pub with_recorded : {T : Type 0} → ArcRef → T → (ArcRef → Option T) → ArcRef → Option T
with_recorded a v s q = cond (same_way a.reversed q.reversed) (cond (is_eq (nat_cmp a.arc q.arc)) (Some v) (s q)) (s q)
