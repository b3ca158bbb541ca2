-- How a call ends: its outcome, and its room before and after the call.
use Rattle.std.specs.Prelude.{◌≡◌, ◌⊎◌, ℕ, Bool, true, false, ◌<◌, ◌≤◌, List, length, map, take}
use Rattle.sinks.specs.PathText.PathText.{path_text}
use Rattle.faults.specs.Fault.{number_of, turn_of}
use Rattle.faults.specs.declared.fault.Fault.{Fault}
use Rattle.c_calls.specs.declared.outcome.CallOutcome.{CallOutcome}
use Rattle.c_calls.specs.declared.refusal.CallRefusal.{CallRefusal}
use Rattle.c_calls.specs.declared.refusal.CallRefusal.TheVariants.{BadGrid, BadName, BadChoice, NoId, Text, OtherGrid, NoText, BadPlan, NoLayer, OutOfMemory}

-- the text of the path of a fault
abbrev pub path_of : Fault → List ℕ
path_of f = path_text (map turn_of f.path.items)

-- the text at the place has the fault, and its path is at the front of the room, if it fits
pub record IsFaultOutcome (at : ℕ) (f : Fault) (o : CallOutcome) (old new : List ℕ) : Type 0 where
  pub status : o.status ≡ 4
  pub place : o.place ≡ at
  pub fault : o.fault ≡ number_of f.kind
  pub path : o.length ≤ length old → take o.length new ≡ path_of f
  pub untouched : length old < o.length → new ≡ old
  pub length : o.length ≡ length (path_of f)

-- out of memory
pub record IsOutOfMemory (o : CallOutcome) : Type 0 where
  pub status : o.status ≡ 5
  pub fault : o.fault ≡ 20

-- refused without a path: the status, the fault's number and the place
pub record IsEnd (number kind at : ℕ) (o : CallOutcome) : Type 0 where
  pub status : o.status ≡ number
  pub fault : o.fault ≡ kind
  pub place : o.place ≡ at

-- the outcome says the refusal; if there is no memory for the path of a fault, it says that
abbrev pub IsRefused : CallRefusal → CallOutcome → List ℕ → List ℕ → Type 0
IsRefused BadGrid o old new = IsEnd 2 0 0 o
IsRefused (BadName place) o old new = IsEnd 2 0 place o
IsRefused BadChoice o old new = IsEnd 2 0 0 o
IsRefused NoId o old new = IsEnd 2 0 0 o
IsRefused (Text place f) o old new = IsOutOfMemory o ⊎ IsFaultOutcome place f o old new
IsRefused (OtherGrid place) o old new = IsEnd 4 17 place o
IsRefused NoText o old new = IsEnd 4 18 0 o
IsRefused (BadPlan leaf) o old new = IsEnd 4 18 0 o
IsRefused NoLayer o old new = IsEnd 4 19 0 o
IsRefused OutOfMemory o old new = IsOutOfMemory o

-- the text is at the front of the room, or it is longer than the room
pub record IsDone (text : List ℕ) (o : CallOutcome) (old new : List ℕ) : Type 0 where
  pub statuses : (o.status ≡ 0) ⊎ (o.status ≡ 6)
  pub size : length new ≡ length old
  pub fits : o.status ≡ 0 → length text ≤ length old
  pub put : o.status ≡ 0 → take (length text) new ≡ text
  pub small : o.status ≡ 6 → length old < length text
  pub untouched : o.status ≡ 6 → new ≡ old
  pub length : o.length ≡ length text

-- the first bytes of the room, as many as the outcome says, are an answer
pub record HasAnswer (Answer : List ℕ → Type 0) (o : CallOutcome) (new : List ℕ) : Type 0 where
  pub fits : o.length ≤ length new
  pub answer : Answer (take o.length new)

-- the outcome says why there is no answer
pub record HasRefusal (Why : CallRefusal → Type 0) (o : CallOutcome) (old new : List ℕ) : Type 0 where
  pub refusal : CallRefusal
  pub why : Why refusal
  pub says : IsRefused refusal o old new

-- there is an answer of the length that the outcome says, which is more than the room has; the room is as it was
pub record NeedsRoom (Answer : List ℕ → Type 0) (o : CallOutcome) (old new : List ℕ) : Type 0 where
  pub text : List ℕ
  pub answer : Answer text
  pub small : length old < o.length
  pub untouched : new ≡ old
  pub length : o.length ≡ length text

-- a call ends with an answer, with a reason why there is none, out of memory, or with a room that is too small
pub record EndsWith (Answer : List ℕ → Type 0) (Why : CallRefusal → Type 0) (o : CallOutcome) (old new : List ℕ) : Type 0 where
  pub statuses : (o.status ≡ 0) ⊎ ((o.status ≡ 2) ⊎ ((o.status ≡ 4) ⊎ ((o.status ≡ 5) ⊎ (o.status ≡ 6))))
  pub done : o.status ≡ 0 → HasAnswer Answer o new
  pub usage : o.status ≡ 2 → HasRefusal Why o old new
  pub refused : o.status ≡ 4 → HasRefusal Why o old new
  pub small : o.status ≡ 6 → NeedsRoom Answer o old new

-- the one for yes, the other for no
abbrev pub Says : Type 0 → Type 0 → Bool → Type 0
Says Yes No true = Yes
Says Yes No false = No

-- a question ends with yes, with no, with a reason why there is no answer, or out of memory
pub record EndsWithYesOrNo (Yes No : Type 0) (Why : CallRefusal → Type 0) (o : CallOutcome) (old new : List ℕ) : Type 0 where
  pub statuses : (o.status ≡ 0) ⊎ ((o.status ≡ 1) ⊎ ((o.status ≡ 2) ⊎ ((o.status ≡ 4) ⊎ (o.status ≡ 5))))
  pub yes : o.status ≡ 0 → Yes
  pub no : o.status ≡ 1 → No
  pub usage : o.status ≡ 2 → HasRefusal Why o old new
  pub refused : o.status ≡ 4 → HasRefusal Why o old new
