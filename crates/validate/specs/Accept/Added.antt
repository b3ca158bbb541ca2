-- What is known of lists of used arcs that are added to those that were seen.
use Rattle.std.specs.Prelude.{◌≡◌, ◌<◌, ◌↔◌, ◌⊎◌, ◌++◌, ℕ, Bool, true, false, List, get_or, length}
use Rattle.lines.specs.Turned.{position_cmp}
use Rattle.theory.specs.ArcNumbers.{ArcRef, Uses}
use Rattle.theory.specs.Lists.{Has, gathered}
use Rattle.arcs.specs.Arcs.{Arcs}
use Rattle.chains.specs.OfArcs.{table_as_map}
use Rattle.validate.specs.Lists.{IsValidLine, IsValidRing}
use Rattle.validate.specs.ArcEnds.{line_ends}
use Rattle.validate.specs.declared.accept.lists.ListsSeen.{ListsSeen}

-- each list stands for itself
pub record EachIsValid (t : Arcs) (lines rings : List (List ArcRef)) : Type 0 where
  pub each_line : (us : List ArcRef) → Has us lines → IsValidLine t.arcs (table_as_map t) us
  pub each_ring : (us : List ArcRef) → Has us rings → IsValidRing position_cmp t.arcs us

-- one of the lists uses the arc of a number
abbrev pub IsUsed : List (List ArcRef) → List (List ArcRef) → ℕ → Type 0
IsUsed lines rings k = (us : List ArcRef) × (Has us lines ⊎ Has us rings) × Uses k us

-- the answer is whether each list is valid; then the arcs that they use are marked, and where the lines begin and end is added
pub record AreAdded (t : Arcs) (lines rings : List (List ArcRef)) (answer : Bool) (old now : ListsSeen) : Type 0 where
  pub len : length now.used ≡ length old.used
  pub stand : (answer ≡ true) ↔ EachIsValid t lines rings
  pub used : answer ≡ true → (k : ℕ) → k < length old.used → (get_or now.used k false ≡ true) ↔ ((get_or old.used k false ≡ true) ⊎ IsUsed lines rings k)
  pub ends : answer ≡ true → now.ends.items ≡ old.ends.items ++ gathered (line_ends t.arcs) lines
