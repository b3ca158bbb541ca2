-- What a caller of the library passes for a call.
use Rattle.std.specs.Prelude.{ℕ, List, map}
use Rattle.grid.specs.Place.{Transform, scaling, transform}
use Rattle.c_calls.specs.declared.borrowed.GridNumbers.{GridNumbers}
use Rattle.c_calls.specs.declared.borrowed.SourceText.{SourceText}

-- the bytes of each name and text
abbrev pub borrowed_sources : List SourceText → List (List ℕ × List ℕ)
borrowed_sources sources = map (λ s. (s.layer.now, s.text.now)) sources

-- the transform of some numbers
abbrev pub grid_of : GridNumbers → Transform
grid_of n = transform (scaling n.scale_x n.translate_x) (scaling n.scale_y n.translate_y)
