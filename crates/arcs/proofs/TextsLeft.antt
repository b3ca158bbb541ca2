-- Texts with commas between them, of which those that are left are written behind what stands before the next.
use Rattle.std.proofs.Common.{◌≡◌, ℕ, List, [], ◌∷◌, ◌++◌, refl, sym, ap, ◌∙◌, subst, codes}
use Rattle.sinks.specs.Seen.{Seen}
use Rattle.sinks.specs.Texts.{after_commas, joined}
use Rattle.sinks.specs.Writes.{TookAll, TookPart, TookUpTo}
use Rattle.sinks.proofs.Left.{left_none, left_part, left_step}
use Rattle.sinks.proofs.Writes.{up_to_start}

-- the texts with commas between them, behind a separator where there are some
abbrev pub behind : {X : Type 0} → (X → List ℕ) → List ℕ → List X → List ℕ
behind f s [] = []
behind f s (x ∷ xs) = (s ++ f x) ++ after_commas f xs

behind_nothing : {X : Type 0} (f : X → List ℕ) (xs : List X) → behind f [] xs ≡ joined f xs
behind_nothing f [] = refl
behind_nothing f (x ∷ xs) = refl

behind_comma : {X : Type 0} (f : X → List ℕ) (xs : List X) → after_commas f xs ≡ behind f (codes ",") xs
behind_comma f [] = refl
behind_comma f (x ∷ xs) = refl

module _ {X : Type 0} (f : X → List ℕ) (xs : List X) where
  -- at the start all are left
  pub texts_started : (left : List X) (a : Seen) → left ≡ xs → TookUpTo a a (joined f xs) (behind f [] left)
  texts_started left a e = subst (TookUpTo a a (joined f xs)) (sym (ap (behind f []) e ∙ behind_nothing f xs)) (up_to_start a (joined f xs))

  module _ (s : List ℕ) (left rest : List X) (x : X) (e : left ≡ x ∷ rest) where
    next_text : behind f s left ≡ (s ++ f x) ++ behind f (codes ",") rest
    next_text = ap (behind f s) e ∙ ap (λ t. (s ++ f x) ++ t) (behind_comma f rest)

    -- one more
    pub text_more : {a b c : Seen} → TookUpTo a b (joined f xs) (behind f s left) → TookAll b c (s ++ f x) → TookUpTo a c (joined f xs) (behind f (codes ",") rest)
    text_more p q = left_step (behind f (codes ",") rest) p next_text q

    -- a part of one more
    pub text_part : {a b c : Seen} → TookUpTo a b (joined f xs) (behind f s left) → TookPart b c (s ++ f x) → TookPart a c (joined f xs)
    text_part p q = left_part (behind f (codes ",") rest) p next_text q

  -- behind the last none is
  pub texts_done : (s : List ℕ) (left : List X) {a b : Seen} → left ≡ [] → TookUpTo a b (joined f xs) (behind f s left) → TookAll a b (joined f xs)
  texts_done s left {a} {b} e p = left_none (subst (TookUpTo a b (joined f xs)) (ap (behind f s) e) p)
