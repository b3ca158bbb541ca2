-- Faults that were found, of those that a definition lists.
use Rattle.std.specs.Prelude.{◌≡◌, List, [], ◌∷◌, map, Bool, true, false}
use Rattle.faults.specs.Fault.{Pair, pair_of}
use Rattle.faults.specs.declared.fault.Fault.{Fault}
use Rattle.reading.specs.declared.fault_lists.found.Wanted.{Wanted}
use Rattle.reading.specs.declared.fault_lists.found.Wanted.TheVariants.{First, All}

-- what each fault says
abbrev pub pairs_of : List Fault → List Pair
pairs_of fs = map pair_of fs

-- all of a list, or its first
abbrev pub kept : Wanted → List Pair → List Pair
kept All ps = ps
kept First [] = []
kept First (p ∷ ps) = p ∷ []

-- the first alone is wanted, and found
abbrev pub is_full : Wanted → List Pair → Bool
is_full All ps = false
is_full First [] = false
is_full First (p ∷ ps) = true

-- these were found of a list of faults
pub record AreFound (w : Wanted) (all found : List Pair) : Type 0 where
  pub are : found ≡ kept w all

-- of a list of one fault or none, all were found
pub record AtMostOne (all found : List Pair) : Type 0 where
  pub same : found ≡ all
  pub short : kept First all ≡ all
