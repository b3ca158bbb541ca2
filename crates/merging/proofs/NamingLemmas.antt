-- What marks keep of a list, and the union of that.
use Rattle.std.proofs.Common.{◌≡◌, ℕ, zero, suc, ◌<◌, Bool, true, false, List, [], ◌∷◌, ◌++◌, length, get_or, Some, refl, sym, ◌∙◌, ap, arith, inl, inr}
use Rattle.std.specs.Prelude.{map as map_list, slice_get}
use Rattle.theory.specs.Lists.{Has}
use Rattle.shapes.specs.Maps.{Layers}
use Rattle.merging.specs.Plans.{union_all, union_at}
use Rattle.merging.specs.Naming.{AreMarksOf, kept}
use Rattle.merging.proofs.AlikeLemmas.{same_union, at, named_among, among_named}
use Rattle.merging.proofs.LeafLemmas.{inside}

pub none_kept : {X : Type 0} (marks : List Bool) → kept {X = X} marks [] ≡ []
none_kept [] = refl
none_kept (b ∷ bs) = refl

pub kept-push : {X : Type 0} (marks : List Bool) (xs : List X) (x : X) (b : Bool) → get_or marks (length xs) false ≡ b → kept marks (xs ++ (x ∷ [])) ≡ kept marks xs ++ kept (b ∷ []) (x ∷ [])
kept-push [] xs x b e = ap (λ c. kept (c ∷ []) (x ∷ [])) e
kept-push (c ∷ cs) [] x b e = alone c e
  where
    alone : (c : Bool) → c ≡ b → kept (c ∷ cs) (x ∷ []) ≡ kept (b ∷ []) (x ∷ [])
    alone true k = ap (λ w. x ∷ w) (none_kept cs) ∙ ap (λ d. kept (d ∷ []) (x ∷ [])) k
    alone false k = none_kept cs ∙ ap (λ d. kept (d ∷ []) (x ∷ [])) k
kept-push (true ∷ cs) (y ∷ ys) x b e = ap (λ w. y ∷ w) (kept-push cs ys x b e)
kept-push (false ∷ cs) (y ∷ ys) x b e = kept-push cs ys x b e

pub kept-map : {X Y : Type 0} (f : X → Y) (marks : List Bool) (xs : List X) → map_list f (kept marks xs) ≡ kept marks (map_list f xs)
kept-map f [] xs = refl
kept-map f (b ∷ bs) [] = refl
kept-map f (true ∷ bs) (x ∷ xs) = ap (λ w. f x ∷ w) (kept-map f bs xs)
kept-map f (false ∷ bs) (x ∷ xs) = kept-map f bs xs

kept_from : (marks : List Bool) (ms : List Layers) (m : Layers) → Has m (kept marks ms) → (i : ℕ) × (get_or marks i false ≡ true) × (slice_get ms i ≡ Some m)
kept_from [] ms m h = absurd h
kept_from (b ∷ bs) [] m h = absurd h
kept_from (true ∷ bs) (n ∷ ns) m (inl e) = (0, refl, ap Some (sym e))
kept_from (true ∷ bs) (n ∷ ns) m (inr h) = let (i, is_set, e) = kept_from bs ns m h in (suc i, is_set, e)
kept_from (false ∷ bs) (n ∷ ns) m h = let (i, is_set, e) = kept_from bs ns m h in (suc i, is_set, e)

from_kept : (marks : List Bool) (ms : List Layers) (m : Layers) (i : ℕ) → get_or marks i false ≡ true → slice_get ms i ≡ Some m → Has m (kept marks ms)
from_kept [] ms m i is_set e = absurd cc
from_kept (b ∷ bs) [] m i is_set e = absurd cc
from_kept (true ∷ bs) (n ∷ ns) m zero is_set e = let same : m ≡ n = cc in inl same
from_kept (false ∷ bs) (n ∷ ns) m zero is_set e = absurd cc
from_kept (true ∷ bs) (n ∷ ns) m (suc i) is_set e = inr (from_kept bs ns m i is_set e)
from_kept (false ∷ bs) (n ∷ ns) m (suc i) is_set e = from_kept bs ns m i is_set e

kept_some : {X : Type 0} (marks : List Bool) (xs : List X) (i : ℕ) → get_or marks i false ≡ true → i < length xs → 0 < length (kept marks xs)
kept_some [] xs i is_set lt = absurd cc
kept_some (b ∷ bs) [] i is_set lt = absurd (omega arith)
kept_some (true ∷ bs) (x ∷ xs) i is_set lt = omega arith
kept_some (false ∷ bs) (x ∷ xs) zero is_set lt = absurd cc
kept_some (false ∷ bs) (x ∷ xs) (suc i) is_set lt = kept_some bs xs i is_set (omega arith)

-- the maps that are marked, each once, have the union of the maps at the indexes
pub marked_union : (ms : List Layers) (is : List ℕ) (marks : List Bool) → AreMarksOf (length ms) is marks → union_all (kept marks ms) ≡ union_at ms is
marked_union ms is marks a =
    same_union (kept marks ms) (map_list (at ms) is)
    (λ m h. let (i, is_set, e) = kept_from marks ms m h in named_among ms is m i ((a.set_at i).0 is_set) e)
    (λ m h. let (i, there, e) = among_named ms is a.indexes m h in from_kept marks ms m i ((a.set_at i).1 there) e)

-- some item is kept
pub some_marked : {X : Type 0} (xs : List X) (is : List ℕ) (marks : List Bool) → AreMarksOf (length xs) is marks → 0 < length is → 0 < length (kept marks xs)
some_marked xs [] marks a lt = absurd (omega (arith, lt))
some_marked xs (i ∷ js) marks a lt = kept_some marks xs i ((a.set_at i).1 (inl refl)) (inside (length xs) (i ∷ js) i a.indexes (inl refl))
