-- The member `properties`, as it is written.
use Rattle.std.proofs.Common.{◌≡◌, ℕ, List, [], ◌++◌, refl, sym, ap, ◌∙◌, codes, IsTrue, Bool, true, false, rules, if◌then◌else◌}
use Rattle.std.specs.Str.{bytes_eq}
use Rattle.std.proofs.lemmas.Slice.Eq.{bytes_eq-Decides}
use Rattle.shapes.specs.Writing.Members.{properties_member}

not_true : (b : Bool) → b ≡ false → IsTrue b → ⊥
not_true b e h = search rules

false_is : (b : Bool) → (b ≡ true → ⊥) → b ≡ false
false_is true h = absurd (h refl)
false_is false h = refl

-- properties that are there
pub properties_are : (t u : List ℕ) (b : Bool) → b ≡ false → (u ≡ codes "{}" → IsTrue b) → t ≡ u → codes "\"properties\":" ++ (t ++ codes ",") ≡ properties_member u
properties_are t u b none empty e =
    ap (λ s. codes "\"properties\":" ++ (s ++ codes ",")) e
    ∙ sym (ap (λ c. if c then [] else codes "\"properties\":" ++ (u ++ codes ","))
    (false_is (bytes_eq u (codes "{}")) (λ yes. not_true b none (empty ((bytes_eq-Decides u (codes "{}")).0 yes)))))
