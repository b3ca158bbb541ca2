-- The shapes of a geometry among others.
use Rattle.std.specs.Prelude.{◌≡◌, ◌⊎◌, List, [], ◌∷◌}
use Rattle.json.specs.Json.{Json}
use Rattle.fixing.specs.Forms.{RawShape}
use Rattle.decimal_maps.specs.Geometries.{IsSimple, IsCollection}
use Rattle.decimal_maps.specs.declared.rules.DecimalGrid.{DecimalGrid}
use Rattle.decimal_maps.specs.declared.tally.Tally.{Tally}

-- one shape, or those of a collection
abbrev pub HasShapes : DecimalGrid → Json → List RawShape → Tally → Tally → Type 0
HasShapes grid j ss a b = ((s : RawShape) × (ss ≡ s ∷ []) × IsSimple grid j s a b) ⊎ IsCollection grid j ss a b
