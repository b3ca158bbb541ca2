-- Where the writing of what an iterator gives stopped. An iterator goes from s to t, and f is the text of a value.
use Rattle.std.specs.Prelude.{◌≡◌, ℕ, List, [], ◌∷◌, ◌++◌, map, Option, None}
use Rattle.std.specs.Iterator.{Yields, YieldsThen, Drains}
use Rattle.sinks.specs.Seen.{Seen}
use Rattle.sinks.specs.Texts.{joined, separator}
use Rattle.sinks.specs.Writes.{TookAll, TookPart, TookInto}

-- the iterator was asked to its end, and the sink took the texts of all that it gave, with commas between them
pub record WritesAll {S T : Type 0} (steps : S → Option T → S → Type 0) (f : T → List ℕ) (s t : S) (old new : Seen) : Type 0 where
  pub given : List T
  pub asked : YieldsThen steps s given None t
  pub took : TookAll old new (joined f given)

-- the sink failed in the text of the last value that the iterator was asked for; those before it were written whole
pub record StopsAtValue {S T : Type 0} (steps : S → Option T → S → Type 0) (f : T → List ℕ) (s t : S) (old new : Seen) : Type 0 where
  pub given : List T
  pub last : T
  pub asked : Yields steps s (given ++ (last ∷ [])) t
  pub took : TookInto old new (joined f given) (separator given ++ f last)

-- the sink failed in the head, in the text of a value or in the tail, and nothing was asked or offered after that
pub data StopsIn {S T : Type 0} (steps : S → Option T → S → Type 0) (f : T → List ℕ) (head tail : List ℕ) (s t : S) (old new : Seen) : Type 0 where
  in_head : t ≡ s → TookPart old new head → StopsIn steps f head tail s t old new
  in_value : (mid : Seen) → TookAll old mid head → StopsAtValue steps f s t mid new → StopsIn steps f head tail s t old new
  in_tail : (mid near : Seen) → TookAll old mid head → WritesAll steps f s t mid near → TookPart near new tail → StopsIn steps f head tail s t old new

-- the sink failed in the text of what an iterator gives from s on, of which v is what the text shows. The iterator
-- was asked to its end; or it gave xs and was asked for no more, and then the sink took a beginning of the text
-- whatever follows xs
pub data FailedIn {S T X : Type 0} (steps : S → Option T → S → Type 0) (v : T → X) (text : List X → List ℕ) (s : S) (old new : Seen) : Type 0 where
  of_all : (xs : List T) → Drains steps s xs → TookPart old new (text (map v xs)) → FailedIn steps v text s old new
  of_some : (xs : List T) (t : S) → Yields steps s xs t → ((others : List X) → TookPart old new (text (map v xs ++ others))) → FailedIn steps v text s old new
