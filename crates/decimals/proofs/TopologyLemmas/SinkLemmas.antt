-- What a sink in memory has taken.
use Rattle.std.proofs.Common.{◌≡◌, ℕ, List, [], Option, Some, subst}
use Rattle.std.specs.Io.KnownBytes.{Appends}

pub appended : (a b : Option (List ℕ)) (xs text : List ℕ) → a ≡ Some [] → b ≡ Some xs → Appends a b text → xs ≡ text
appended a b xs text p q h = let first : Appends (Some []) b text = subst (λ x. Appends x b text) p h in subst (λ y. Appends (Some []) y text) q first
