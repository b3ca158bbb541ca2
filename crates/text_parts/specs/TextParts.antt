-- Parts of which texts are put together.
use Rattle.std.specs.Prelude.{ℕ, ℤ, Bool, true, List, [], ◌∷◌, ◌++◌, codes, cond}
use Rattle.std.specs.Fmt.{signed_decimal}

-- the texts of some values in order, one behind another
abbrev pub each_text : {T : Type 0} → (T → List ℕ) → List T → List ℕ
each_text f [] = []
each_text f (x ∷ xs) = f x ++ each_text f xs

-- two numbers with a comma between them
abbrev pub number_pair : ℤ × ℤ → List ℕ
number_pair p = signed_decimal p.0 ++ (codes "," ++ signed_decimal p.1)

-- the texts of some values in order, each behind the separator where others are before it
abbrev pub behind_texts : {T : Type 0} → List ℕ → Bool → (T → List ℕ) → List T → List ℕ
behind_texts separator is_behind f [] = []
behind_texts separator is_behind f (x ∷ xs) = (cond is_behind separator [] ++ f x) ++ behind_texts separator true f xs
