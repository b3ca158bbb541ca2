-- Loops whose lists end.
use Rattle.std.proofs.Common.{◌≡◌, List, [], ◌∷◌, ◌++◌, length, refl, arith, subst, sym, append-nil}

pub nothing_left : {X : Type 0} (xs : List X) → length xs ≡ 0 → xs ≡ []
nothing_left [] e = refl
nothing_left (x ∷ xs) e = absurd (omega arith)

-- what was made so far is all, where nothing is left
pub at_end : {X Y : Type 0} (means : List X → List Y → Type 0) (whole : List Y → Type 0) (made : List Y) (left : List X)
    → left ≡ [] → means [] [] → ((more : List Y) → means left more → whole (made ++ more)) → whole made
at_end means whole made left none begun inv = subst whole (append-nil made) (inv [] (subst (λ l. means l []) (sym none) begun))
