-- Arcs of the table, and the places along them.
use Rattle.std.proofs.Common.{◌≡◌, ℕ, ◌+◌, Bool, true, false, length, drop, reverse, List, ◌∷◌, Option, Some, slice_get, Vec, refl, sym, ap, ◌∙◌, arith}
use Rattle.std.proofs.lemmas.List.{drop_more, length-map, length-reverse}
use Rattle.std.proofs.lemmas.Option.{get_or_from_slice_get, slice_get_within}
use Rattle.std.specs.declared.alloc.Global.{Global}
use Rattle.decimal_arcs.specs.Seen.{seen_arcs}
use Rattle.decimal_topologies.specs.Stitching.{directed}
use Rattle.decimal_arcs.specs.declared.place.Place.{Place}

-- a table of arcs
abbrev pub Table : Type 0
Table = List (Option (Vec Place Global))

pub seen-length : (ts : Table) → length (seen_arcs ts) ≡ length ts
seen-length ts = length-map ts _

pub directed-length : (b : Bool) (ps : List Place) → length (directed b ps) ≡ length ps
directed-length false ps = refl
directed-length true ps = length-reverse ps

-- the places from an index on begin with that one
pub dropped : (ps : List Place) (i : ℕ) (p : Place) → slice_get ps i ≡ Some p → drop i ps ≡ p ∷ drop (i + 1) ps
dropped ps i p is = drop_more ps i p (slice_get_within ps i p is) ∙ ap (λ q. q ∷ drop (i + 1) ps) (get_or_from_slice_get ps i p p is)
