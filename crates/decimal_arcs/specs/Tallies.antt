-- What is counted of rounded positions.
use Rattle.std.specs.Prelude.{ℕ, ◌+◌, ◌-◌, ◌^◌, min, List, [], ◌∷◌}
use Rattle.decimal_maps.specs.Tally.{with_position}
use Rattle.decimal_maps.specs.declared.tally.Tally.{Tally}
use Rattle.decimal_arcs.specs.declared.place.Place.{Place}

-- so many heights more
abbrev pub with_heights : ℕ → Tally → Tally
with_heights n t = record t { heights = min (t.heights + n) (2 ^ 64 - 1) }

-- one more position, with its heights
abbrev pub with_place : Place → Tally → Tally
with_place p t = with_heights p.heights (with_position p.far t)

-- one after another
abbrev pub with_places : List Place → Tally → Tally
with_places [] t = t
with_places (p ∷ ps) t = with_places ps (with_place p t)
