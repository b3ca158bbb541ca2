-- Where the texts before are accepted, the next one is the first that is refused.
use Rattle.std.proofs.Common.{◌≡◌, ℕ, List, [], ◌∷◌, ◌++◌, length}
use Rattle.std.specs.Prelude.{All}
use Rattle.faults.specs.Fault.{Pair, IsWant}
use Rattle.faults.specs.declared.fault.Fault.{Fault}
use Rattle.reading.specs.Fault.{LeastOrWant}
use Rattle.reading.specs.FirstRefused.{IsFirstRefused}

-- the text at the place, after those before it, is refused with its fault, which is told with the place's number
pub first_refused : (faults : List ℕ → List Pair) (texts before left : List (List ℕ)) (text : List ℕ) (after : List (List ℕ)) (place number : ℕ) (fault f : Fault) →
    before ++ left ≡ texts → length before ≡ place → All (λ t. faults t ≡ []) before → left ≡ text ∷ after → LeastOrWant (faults text) fault →
    (number ≡ place) × (f ≡ fault) × (IsWant fault → ⊥) → IsFirstRefused faults texts number f
first_refused faults texts before left text after place number fault f old at accepted split least (same_number, same_fault, no_want) =
    let parts : before ++ (text ∷ after) ≡ texts = rw split at old in
    record {
      before = before;
      text = text;
      after = after;
      parts = parts;
      at = rw same_number at;
      accepted = accepted;
      least = rw same_fault (least.least no_want);
      no_want = rw same_fault no_want;
    }
