-- Shapes by the types of their geometries.
use Rattle.std.specs.Prelude.{◌≡◌}
use Rattle.json.specs.Json.{Json}
use Rattle.fixing.specs.Forms.{RawShape}
use Rattle.reading.specs.declared.geometry.GeometryType.{GeometryType}
use Rattle.decimal_maps.specs.Geometries.{IsShape, kind_of}
use Rattle.decimal_maps.specs.declared.rules.DecimalGrid.{DecimalGrid}
use Rattle.decimal_maps.specs.declared.tally.Tally.{Tally}

-- the shape that coordinates are in a geometry of that type [RFC 7946, 3.1.2 to 3.1.7]
abbrev pub IsShapeOf : DecimalGrid → GeometryType → Json → RawShape → Tally → Tally → Type 0
IsShapeOf grid k j s a b = (kind_of s ≡ k) × IsShape grid j s a b
