-- The ends of a line, as they are noted.
use Rattle.std.proofs.Common.{◌≡◌, ℕ, ◌+◌, ◌<◌, drop, get_or, length, List, [], ◌∷◌, ◌++◌, refl, sym, ap, ◌∙◌, append_assoc}
use Rattle.std.proofs.lemmas.List.{drop_more}
use Rattle.grid.specs.declared.pos.Pos.{Pos}
use Rattle.theory.specs.Lists.{last_of}
use Rattle.topo.specs.LayerLaws.LeftLists.{both_ends, last_alone}

last_behind : (x y : Pos) (l : List Pos) → last_of x (l ++ (y ∷ [])) ≡ y
last_behind x y [] = refl
last_behind x y (z ∷ l) = last_behind z y l

alone_behind : (y : Pos) (l : List Pos) → last_alone (l ++ (y ∷ [])) ≡ y ∷ []
alone_behind y [] = refl
alone_behind y (x ∷ l) = ap (λ v. v ∷ []) (last_behind x y l)

-- the first and the last of a line are noted
pub recorded_ends : (all more less before mid behind : List Pos) (x y : Pos) → all ≡ x ∷ more → more ≡ less ++ (y ∷ []) → mid ≡ before ++ (x ∷ []) → behind ≡ mid ++ (y ∷ []) →
    behind ≡ before ++ both_ends all
recorded_ends all more less before mid behind x y e f g h =
    h ∙ ap (λ l. l ++ (y ∷ [])) g ∙ append_assoc before (x ∷ []) (y ∷ [])
    ∙ ap (λ l. before ++ (x ∷ l)) (sym (ap last_alone f ∙ alone_behind y less))
    ∙ ap (λ l. before ++ both_ends l) (sym e)

-- the ends of one item of a list are noted before those of what is behind it
pub record_step : {A : Type 0} (R : List A → List Pos) (f : A → List Pos) (xs : List A) (i : ℕ) (x : A) (was now all : List Pos) →
    ((y : A) (rest : List A) → R (y ∷ rest) ≡ f y ++ R rest) →
    i < length xs → x ≡ get_or xs i x → now ≡ was ++ f x → was ++ R (drop i xs) ≡ all → now ++ R (drop (i + 1) xs) ≡ all
record_step R f xs i x was now all split lt e n h =
    ap (λ l. l ++ R (drop (i + 1) xs)) n
    ∙ append_assoc was (f x) (R (drop (i + 1) xs))
    ∙ ap (λ l. was ++ l) (sym (ap R (drop_more xs i x lt ∙ ap (λ y. y ∷ drop (i + 1) xs) (sym e)) ∙ split x (drop (i + 1) xs)))
    ∙ h
