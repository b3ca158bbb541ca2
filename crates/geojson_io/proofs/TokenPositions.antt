-- Positions of tokens.
use Rattle.std.proofs.Common.{◌≡◌, ℕ, ℤ, ◌<◌, List, ◌∷◌, Some, Ok, refl}
use Rattle.json.specs.Token.{Token, begin_array, end_array}
use Rattle.serde_json.specs.Data as data_of
use Rattle.serde_json.specs.Data.{Num, Data, array, item, no_items}
use Rattle.serde_json.specs.Find.{as_i64, of_integer}
use Rattle.serde_json.specs.Read.{number_of}
use Rattle.grid.specs.Place.{Transform, IsGridNumber}
use Rattle.grid.specs.Computed.{axis_number}
use Rattle.grid.specs.declared.pos.Pos.{Pos}
use Rattle.reading.proofs.Positions.{position_is}
use Rattle.geojson_io.specs.Positions.{position_faults, position_of}
use Rattle.reading.specs.Tokens.Reads.{Reads}
use Rattle.reading.proofs.TokenPartsLemmas.Pairs.{two_numbers}

pub position_reads : (g : Transform) (depth : ℕ) (s t : List ℕ) (a b x y : ℤ) (new : List Token) (q : Pos) → 0 < depth
    → number_of s ≡ Some (of_integer a) → as_i64 (of_integer a) ≡ Some a → axis_number g.x a ≡ Ok x → number_of t ≡ Some (of_integer b) → as_i64 (of_integer b) ≡ Some b → axis_number g.y b ≡ Ok y
    → IsGridNumber x → IsGridNumber y → q.x ≡ x → q.y ≡ y
    → Reads (position_faults g) (λ d p. p ≡ position_of g d) depth (begin_array ∷ Token.number s ∷ Token.number t ∷ end_array ∷ new) new q
position_reads g depth s t a b x y new q some first wa xa second wb yb inside along qx qy = record {
  from = array (item (data_of.number (of_integer a)) (item (data_of.number (of_integer b)) no_items));
  given = two_numbers depth s t (of_integer a) (of_integer b) new some first second;
  faultless = rw (wa, xa, wb, yb) refl;
  meant = rw (wa, xa, wb, yb) (position_is q x y qx qy inside along);
}
