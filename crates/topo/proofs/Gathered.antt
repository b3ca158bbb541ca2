-- What is gathered from lists of lists.
use Rattle.std.proofs.Common.{◌≡◌, List, [], ◌∷◌, ◌++◌, refl, sym, ap, ◌∙◌, append_assoc}
use Rattle.theory.specs.Lists.{gathered, joined}

pub gathered_join : {A B : Type 0} (f : A → List B) (a b : List A) → gathered f (a ++ b) ≡ gathered f a ++ gathered f b
gathered_join f [] b = refl
gathered_join f (x ∷ a) b = ap (λ w. f x ++ w) (gathered_join f a b) ∙ sym (append_assoc (f x) (gathered f a) (gathered f b))

-- what is gathered of lists one after the other
pub gathered_joined : {A B : Type 0} (f : A → List B) (ls : List (List A)) → gathered f (joined ls) ≡ gathered (gathered f) ls
gathered_joined f [] = refl
gathered_joined f (l ∷ ls) = gathered_join f l (joined ls) ∙ ap (λ w. gathered f l ++ w) (gathered_joined f ls)
