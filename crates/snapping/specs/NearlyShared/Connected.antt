-- What pairs of positions connect.
use Rattle.std.specs.Prelude.{◌≡◌, ◌⊎◌, ◌&&◌, ℕ, Bool, true, List}
use Rattle.grid.specs.Fits.{x_of, y_of}
use Rattle.grid.specs.declared.pos.Pos.{Pos}
use Rattle.lines.specs.Turned.{position_cmp}
use Rattle.theory.specs.Geometry.{AtMost}
use Rattle.theory.specs.Lists.{Has}
use Rattle.compare.specs.Quality.Near.{within}

-- pairs connect p and q: the reflexive, symmetric and transitive closure
pub data Connected (pairs : List (Pos × Pos)) : Pos → Pos → Type 0 where
  itself : (p : Pos) → Connected pairs p p
  paired : (p q : Pos) → Has (p, q) pairs → Connected pairs p q
  turned : (p q : Pos) → Connected pairs p q → Connected pairs q p
  through : (p q r : Pos) → Connected pairs p q → Connected pairs q r → Connected pairs p r

-- r is connected with p, and no position that is comes before r, by x, then by y
pub record IsLeastOf (pairs : List (Pos × Pos)) (p r : Pos) : Type 0 where
  pub connected : Connected pairs p r
  pub least : (q : Pos) → Connected pairs p q → AtMost position_cmp r q

-- whether p and q are at most n steps apart, along x and along y
abbrev pub are_within : ℕ → Pos → Pos → Bool
are_within n p q = within n (x_of p) (x_of q) && within n (y_of p) (y_of q)

-- each position that is connected with r is at most n steps from it
abbrev pub IsNarrow : ℕ → List (Pos × Pos) → Pos → Type 0
IsNarrow n pairs r = (q : Pos) → Connected pairs r q → are_within n r q ≡ true

-- p goes to the least position that it is connected with, if each that is connected is at most n steps from that; else it stays
abbrev pub Goes : ℕ → List (Pos × Pos) → Pos → Pos → Type 0
Goes n pairs p t = (IsLeastOf pairs p t × IsNarrow n pairs t) ⊎ ((t ≡ p) × ((r : Pos) → IsLeastOf pairs p r → ¬ IsNarrow n pairs r))
