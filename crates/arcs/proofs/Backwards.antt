-- A list of used arcs, read backwards.
use Rattle.std.proofs.Common.{◌≡◌, List, [], ◌∷◌, ◌++◌, map, reverse, ap, ◌∙◌}
use Rattle.std.proofs.lemmas.List.{map-append, reverse-append}
use Rattle.theory.specs.ArcNumbers.{ArcRef, backwards, flipped}

-- the last of a list of used arcs is the first of it read backwards
pub back_step : (left rest : List ArcRef) (x : ArcRef) → left ≡ rest ++ (x ∷ []) → backwards left ≡ flipped x ∷ backwards rest
back_step left rest x e = ap backwards e ∙ ap reverse (map-append flipped rest (x ∷ [])) ∙ reverse-append (map flipped rest) (flipped x ∷ [])
