-- Laws of lists of GeoJSON texts.
use Rattle.std.specs.Prelude.{◌≡◌, ℕ, List}
use Rattle.grid.specs.Place.{Transform}
use Rattle.shapes.specs.Maps.{Layers}
use Rattle.outputs.specs.BuiltText.Maps.{IsMapOfTexts, IsTextOfTexts}

-- texts have only one map
abbrev pub OneMapOfTexts : Type 0
OneMapOfTexts = (t : Transform) (texts : List (List ℕ × List ℕ)) (m n : Layers) → IsMapOfTexts t texts m → IsMapOfTexts t texts n → m ≡ n

-- and so only one canonical text
abbrev pub OneTextOfTexts : Type 0
OneTextOfTexts = (t : Transform) (texts : List (List ℕ × List ℕ)) (a b : List ℕ) → IsTextOfTexts t texts a → IsTextOfTexts t texts b → a ≡ b
