-- Equality of positions, and unordered pairs of them.
use Rattle.std.specs.Prelude.{Bool, cond, ◌&&◌}
use Rattle.std.specs.Ordering.{is_lt, int_eq, ordering_then}
use Rattle.std.specs.declared.cmp.Ordering.{Ordering}
use Rattle.grid.specs.declared.pos.Pos.{Pos}
use Rattle.lines.specs.Turned.{position_cmp}
use Rattle.lines.specs.declared.pair.PositionPair.{PositionPair}

-- whether two positions have equal numbers
abbrev pub position_eq : Pos → Pos → Bool
position_eq p q = int_eq p.x q.x && int_eq p.y q.y

-- whether two unordered pairs are equal
abbrev pub pair_eq : PositionPair → PositionPair → Bool
pair_eq s t = position_eq s.lesser t.lesser && position_eq s.greater t.greater

-- unordered pairs by the lesser position, then by the greater
abbrev pub pair_cmp : PositionPair → PositionPair → Ordering
pair_cmp s t = ordering_then (position_cmp s.lesser t.lesser) (position_cmp s.greater t.greater)

-- the unordered pair, the lesser first
abbrev pub pair_of : Pos → Pos → PositionPair
pair_of a b = cond (is_lt (position_cmp a b)) (record { lesser = a; greater = b }) (record { lesser = b; greater = a })
