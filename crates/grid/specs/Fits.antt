-- Positions and their absolute places.
use Rattle.std.specs.Prelude.{◌≡◌, ℤ}
use mathlib.Core.HLevel.{is_prop→PathP}
use Rattle.grid.specs.Place.{Transform, FitsAxis, IsGridNumber, IsGridNumber-prop, absolute}
use Rattle.grid.specs.declared.pos.Pos.{Pos}

-- the first grid number of a position
abbrev pub x_of : Pos → ℤ
x_of p = p.x

-- the second grid number of a position
abbrev pub y_of : Pos → ℤ
y_of p = p.y

-- equal numbers make one position
pub one_position : (p q : Pos) → p.x ≡ q.x → p.y ≡ q.y → p ≡ q
one_position p q e f i = record {
  x = e i;
  y = f i;
  across = is_prop→PathP (λ j. IsGridNumber (e j)) (λ j. IsGridNumber-prop (e j)) p.across q.across i;
  along = is_prop→PathP (λ j. IsGridNumber (f j)) (λ j. IsGridNumber-prop (f j)) p.along q.along i;
}

-- the absolute place of a position [TopoJSON, 2.1.2]
abbrev pub absolute_place : Transform → Pos → ℤ × ℤ
absolute_place t p = (absolute t.x p.x, absolute t.y p.y)

-- both absolute numbers of the position are within the limits
pub record Fits (t : Transform) (p : Pos) : Type 0 where
  pub x : FitsAxis t.x p.x
  pub y : FitsAxis t.y p.y

-- the position fits, and this is its absolute place [TopoJSON, 2.1.2]
pub record IsPlaceOf (t : Transform) (a : ℤ × ℤ) (p : Pos) : Type 0 where
  pub place : absolute_place t p ≡ a
  pub fits : Fits t p
