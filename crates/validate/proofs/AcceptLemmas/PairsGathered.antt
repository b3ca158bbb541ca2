-- What is gathered of two lists, pair by pair, and taken apart again.
use Rattle.std.proofs.Common.{List, [], ◌∷◌, ◌++◌}
use Rattle.std.specs.Prelude.{map as map_list}
use Rattle.theory.specs.Lists.{Pairwise, gathered, joined}

Pairwise-append : {A B : Type 0} (R : A → B → Type 0) (xs zs : List A) (ys ws : List B) → Pairwise R xs ys → Pairwise R zs ws → Pairwise R (xs ++ zs) (ys ++ ws)
Pairwise-append R [] zs [] ws h k = k
Pairwise-append R [] zs (y ∷ ys) ws h k = absurd h
Pairwise-append R (x ∷ xs) zs [] ws h k = absurd h
Pairwise-append R (x ∷ xs) zs (y ∷ ys) ws h k = (h.0, Pairwise-append R xs zs ys ws h.1 k)

-- where the first parts are as long as each other
parted : {A B : Type 0} (R T : A → B → Type 0) (xs zs : List A) (ys ws : List B) → Pairwise R xs ys → Pairwise T (xs ++ zs) (ys ++ ws) → Pairwise T xs ys × Pairwise T zs ws
parted R T [] zs [] ws h k = (tt, k)
parted R T [] zs (y ∷ ys) ws h k = absurd h
parted R T (x ∷ xs) zs [] ws h k = absurd h
parted R T (x ∷ xs) zs (y ∷ ys) ws h k = let p = parted R T xs zs ys ws h.1 k.1 in ((k.0, p.0), p.1)

-- pairs of what f gives, and of what f and g give
pub pairs_with : {A B C : Type 0} (R : A → B → Type 0) (S : C → B → Type 0) (f : A → C) → ((x : A) (y : B) → R x y → S (f x) y) →
    (xs : List A) (ys : List B) → Pairwise R xs ys → Pairwise S (map_list f xs) ys
pairs_with R S f one [] [] h = tt
pairs_with R S f one [] (y ∷ ys) h = absurd h
pairs_with R S f one (x ∷ xs) [] h = absurd h
pairs_with R S f one (x ∷ xs) (y ∷ ys) h = (one x y h.0, pairs_with R S f one xs ys h.1)

pub pairs_mapped : {A B C D : Type 0} (R : C → D → Type 0) (f : A → C) (g : B → D) (xs : List A) (ys : List B) → Pairwise (λ x y. R (f x) (g y)) xs ys →
    Pairwise R (map_list f xs) (map_list g ys)
pairs_mapped R f g [] [] h = tt
pairs_mapped R f g [] (y ∷ ys) h = absurd h
pairs_mapped R f g (x ∷ xs) [] h = absurd h
pairs_mapped R f g (x ∷ xs) (y ∷ ys) h = (h.0, pairs_mapped R f g xs ys h.1)

module _ {A B C D : Type 0} (R : A → B → Type 0) (S : C → D → Type 0) (f : A → List C) (g : B → List D) (each : (x : A) (y : B) → R x y → Pairwise S (f x) (g y)) where
  pub pairs_gathered : (xs : List A) (ys : List B) → Pairwise R xs ys → Pairwise S (gathered f xs) (gathered g ys)
  pairs_gathered [] [] h = tt
  pairs_gathered [] (y ∷ ys) h = absurd h
  pairs_gathered (x ∷ xs) [] h = absurd h
  pairs_gathered (x ∷ xs) (y ∷ ys) h = Pairwise-append S (f x) (gathered f xs) (g y) (gathered g ys) (each x y h.0) (pairs_gathered xs ys h.1)

-- the same of lists of lists
pub pairs_joined : {A B : Type 0} (R : A → B → Type 0) (xs : List (List A)) (ys : List (List B)) → Pairwise (Pairwise R) xs ys → Pairwise R (joined xs) (joined ys)
pairs_joined R [] [] h = tt
pairs_joined R [] (y ∷ ys) h = absurd h
pairs_joined R (x ∷ xs) [] h = absurd h
pairs_joined R (x ∷ xs) (y ∷ ys) h = Pairwise-append R x (joined xs) y (joined ys) h.0 (pairs_joined R xs ys h.1)

-- taken apart
module _ {A B C D : Type 0} (R Q : A → B → Type 0) (S T : C → D → Type 0) (f : A → List C) (g : B → List D) (each : (x : A) (y : B) → R x y → Pairwise S (f x) (g y))
    (one : (x : A) (y : B) → R x y → Pairwise T (f x) (g y) → Q x y) where
  pub pairs_parted : (xs : List A) (ys : List B) → Pairwise R xs ys → Pairwise T (gathered f xs) (gathered g ys) → Pairwise Q xs ys
  pairs_parted [] [] h k = tt
  pairs_parted [] (y ∷ ys) h k = absurd h
  pairs_parted (x ∷ xs) [] h k = absurd h
  pairs_parted (x ∷ xs) (y ∷ ys) h k =
      let p = parted S T (f x) (gathered f xs) (g y) (gathered g ys) (each x y h.0) k in
      (one x y h.0 p.0, pairs_parted xs ys h.1 p.1)

pub pairs_unjoined : {A B : Type 0} (R T : A → B → Type 0) (xs : List (List A)) (ys : List (List B)) → Pairwise (Pairwise R) xs ys → Pairwise T (joined xs) (joined ys) →
    Pairwise (Pairwise T) xs ys
pairs_unjoined R T [] [] h k = tt
pairs_unjoined R T [] (y ∷ ys) h k = absurd h
pairs_unjoined R T (x ∷ xs) [] h k = absurd h
pairs_unjoined R T (x ∷ xs) (y ∷ ys) h k =
    let p = parted R T x (joined xs) y (joined ys) h.0 k in
    (p.0, pairs_unjoined R T xs ys h.1 p.1)
