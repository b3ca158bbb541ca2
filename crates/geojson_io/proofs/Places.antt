-- Positions that were read.
use Rattle.std.proofs.Common.{◌≡◌, ℤ, List, [], ◌∷◌, subst, ◌∙◌}
use Rattle.serde_json.specs.Data.{Data}
use Rattle.grid.specs.Place.{IsGridNumber, Scaling, Transform}
use Rattle.grid.specs.declared.pos.Pos.{Pos}
use Rattle.reading.specs.Parts.{IsPair}
use Rattle.reading.specs.Positions.{position_at}
use Rattle.reading.proofs.Positions.{position_is}
use Rattle.geojson_io.specs.Positions.{grid_number, position_in}

-- what an element means
abbrev pub IsCoordinate : Scaling → Data → ℤ → Type 0
IsCoordinate s d n = (n ≡ grid_number s d) × IsGridNumber n

pub two_inside : (s t : Scaling) (ds : List Data) (x y : ℤ) → IsPair (IsCoordinate s) (IsCoordinate t) ds x y → IsGridNumber x × IsGridNumber y
two_inside s t [] x y h = absurd h
two_inside s t (a ∷ []) x y h = absurd h
two_inside s t (a ∷ b ∷ []) x y h = (h.0.1, h.1.1)
two_inside s t (a ∷ b ∷ e ∷ ds) x y h = absurd h

pub pair_is : (t : Transform) (ds : List Data) (x y : ℤ) (q : Pos) → IsPair (IsCoordinate t.x) (IsCoordinate t.y) ds x y → q.x ≡ x → q.y ≡ y → q ≡ position_in t ds
pair_is t [] x y q h e f = absurd h
pair_is t (a ∷ []) x y q h e f = absurd h
pair_is t (a ∷ b ∷ []) x y q h e f = position_is q x y e f h.0.1 h.1.1 ∙ (λ i. position_at (h.0.0 i) (h.1.0 i))
pair_is t (a ∷ b ∷ c ∷ ds) x y q h e f = absurd h

pub same_axes : (P : Scaling → Scaling → Type 0) (s s' t t' : Scaling) → s ≡ s' → t ≡ t' → P s t → P s' t'
same_axes P s s' t t' e f h = subst (λ u. P u t') e (subst (λ u. P s u) f h)
