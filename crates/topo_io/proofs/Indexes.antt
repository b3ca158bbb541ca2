-- The arc that an index names, and the positions along it.
use Rattle.std.proofs.Common.{◌≡◌, ℕ, ℤ, pos, negsuc, Bool, true, false, cond, List, [], map, reverse, get_or, refl, ap, ◌∙◌, sym}
use Rattle.std.specs.List.{AllZip}
use Rattle.serde_json.specs.Data.{Data}
use Rattle.grid.specs.declared.pos.Pos.{Pos}
use Rattle.theory.specs.ArcNumbers.{ArcRef, index_of}
use Rattle.reading.specs.Numbers.{whole_of}
use Rattle.reading.specs.Parts.{elements}
use Rattle.reading.proofs.Lists.{zip_map}
use Rattle.topo_io.specs.Arcs.{arc_number, used_arc, used_arcs, along}

by_direction : (arcs : List (List Pos)) (b : Bool) (n : ℕ) → used_arc arcs (cond b (negsuc n) (pos n)) ≡ cond b (reverse (get_or arcs n [])) (get_or arcs n [])
by_direction arcs true n = refl
by_direction arcs false n = refl

number_by_direction : (b : Bool) (n : ℕ) → arc_number (cond b (negsuc n) (pos n)) ≡ n
number_by_direction true n = refl
number_by_direction false n = refl

pub number_of_index : (a : ArcRef) (i : ℤ) → index_of a ≡ i → arc_number i ≡ a.arc
number_of_index a i e = ap arc_number (sym e) ∙ number_by_direction a.reversed a.arc

pub along_index : (arcs : List (List Pos)) (a : ArcRef) (i : ℤ) → index_of a ≡ i → along arcs a ≡ used_arc arcs i
along_index arcs a i e = sym (ap (used_arc arcs) (sym e) ∙ by_direction arcs a.reversed a.arc)

-- the arcs that a list of indexes names
pub used_along : (arcs : List (List Pos)) (us seen : List ArcRef) (d : Data) → seen ≡ us → AllZip (λ i u. along arcs u ≡ used_arc arcs (whole_of i)) (elements d) us → map (along arcs) seen ≡ used_arcs arcs d
used_along arcs us seen d same h = ap (map (along arcs)) same ∙ zip_map (along arcs) (λ i. used_arc arcs (whole_of i)) (elements d) us h
