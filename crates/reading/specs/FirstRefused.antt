-- The first text of a list that is refused.
use Rattle.std.specs.Prelude.{◌≡◌, ℕ, List, [], ◌∷◌, ◌++◌, length, All}
use Rattle.faults.specs.Fault.{Pair, pair_of, IsWant}
use Rattle.faults.specs.declared.fault.Fault.{Fault}
use Rattle.reading.specs.Fault.{IsLeast}

-- the text of that number is refused with its first error, and those before it are accepted
pub record IsFirstRefused (faults : List ℕ → List Pair) (texts : List (List ℕ)) (number : ℕ) (f : Fault) : Type 0 where
  pub before : List (List ℕ)
  pub text : List ℕ
  pub after : List (List ℕ)
  pub parts : before ++ (text ∷ after) ≡ texts
  pub at : length before ≡ number
  pub accepted : All (λ t. faults t ≡ []) before
  pub least : IsLeast (faults text) (pair_of f)
  pub no_want : IsWant f → ⊥
