-- Texts with commas between them.
use Rattle.std.proofs.Common.{◌≡◌, ℕ, List, [], ◌∷◌, ◌++◌, Bool, true, false, refl, ap, append_assoc, sym, ◌∙◌}
use Rattle.rounded_maps.specs.Written.{is_after, text_behind, texts_behind}

-- the first of them
pub one_behind : (b : Bool) (x : List ℕ) (xs : List (List ℕ)) → texts_behind b (x ∷ xs) ≡ text_behind b x ++ texts_behind true xs
one_behind false x xs = refl
one_behind true x xs = refl

after_both : (xs ys : List (List ℕ)) → texts_behind true (xs ++ ys) ≡ texts_behind true xs ++ texts_behind true ys
after_both [] ys = refl
after_both (x ∷ xs) ys =
    ap (λ t. text_behind true x ++ t) (after_both xs ys) ∙ sym (append_assoc (text_behind true x) (texts_behind true xs) (texts_behind true ys))

pub after_some : (xs : List (List ℕ)) → is_after true xs ≡ true
after_some [] = refl
after_some (x ∷ xs) = refl

-- some of them, and the others
pub both_behind : (b : Bool) (xs ys : List (List ℕ)) → texts_behind b (xs ++ ys) ≡ texts_behind b xs ++ texts_behind (is_after b xs) ys
both_behind false [] ys = refl
both_behind false (x ∷ xs) ys = ap (λ t. x ++ t) (after_both xs ys) ∙ sym (append_assoc x (texts_behind true xs) (texts_behind true ys))
both_behind true [] ys = refl
both_behind true (x ∷ xs) ys = after_both (x ∷ xs) ys
