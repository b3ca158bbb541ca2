-- Marks of arcs by their numbers.
use Rattle.std.specs.Prelude.{Bool, true, false, cond, List, [], ◌∷◌, get_or, set}
use Rattle.theory.specs.ArcNumbers.{ArcRef}

-- the marks, with those of used arcs set to a value
abbrev pub marks_set : Bool → List Bool → List ArcRef → List Bool
marks_set value marks [] = marks
marks_set value marks (a ∷ refs) = marks_set value (set marks a.arc value) refs

-- whether no arc of a list is marked, none occurs in it twice, and each has a mark
abbrev pub each_unmarked : List Bool → List ArcRef → Bool
each_unmarked marks [] = true
each_unmarked marks (a ∷ refs) = cond (get_or marks a.arc true) false (each_unmarked (set marks a.arc true) refs)
