-- Words about lists of vertices.
use Rattle.std.specs.Prelude.{◌≡◌, List, [], ◌∷◌, ◌⊎◌, ◌++◌}

-- the list begins with v
abbrev pub Begins : {V : Type 0} → V → List V → Type 0
Begins v [] = ⊥
Begins v (x ∷ l) = v ≡ x

-- the list begins with v, b
abbrev pub BeginsTwo : {V : Type 0} → V → V → List V → Type 0
BeginsTwo v b [] = ⊥
BeginsTwo v b (x ∷ l) = (v ≡ x) × Begins b l

-- v occurs somewhere in the list
abbrev pub Has : {V : Type 0} → V → List V → Type 0
Has v [] = ⊥
Has v (x ∷ l) = (v ≡ x) ⊎ Has v l

-- the vertex is at two places
abbrev pub Twice : {V : Type 0} → V → List V → Type 0
Twice v [] = ⊥
Twice v (x ∷ l) = ((v ≡ x) × Has v l) ⊎ Twice v l

-- no two places hold one vertex
abbrev pub Distinct : {V : Type 0} → List V → Type 0
Distinct [] = Unit {0}
Distinct (x ∷ l) = (¬ Has x l) × Distinct l

-- v is right after u somewhere in the list
abbrev pub Steps : {V : Type 0} → V → V → List V → Type 0
Steps u v [] = ⊥
Steps u v (x ∷ l) = ((u ≡ x) × Begins v l) ⊎ Steps u v l

-- u and v are neighbours somewhere in the list, in either order
abbrev pub Beside : {V : Type 0} → V → V → List V → Type 0
Beside u v l = Steps u v l ⊎ Steps v u l

-- a, v, b are one after the other somewhere in the list: v at an inner place
abbrev pub Passes : {V : Type 0} → V → V → V → List V → Type 0
Passes a v b [] = ⊥
Passes a v b (x ∷ l) = ((a ≡ x) × BeginsTwo v b l) ⊎ Passes a v b l

-- v is between a and b somewhere in the list, in either direction
abbrev pub Between : {V : Type 0} → V → V → V → List V → Type 0
Between a v b l = Passes a v b l ⊎ Passes b v a l

-- what the junctions' laws need of each line and ring: at least two places, and no turn back
abbrev pub NoTurnBack : {V : Type 0} → List V → Type 0
NoTurnBack {V} l = (a v b : V) → Passes a v b l → ¬ (a ≡ b)

-- the last vertex of x ∷ r
abbrev pub last_of : {V : Type 0} → V → List V → V
last_of x [] = x
last_of x (y ∷ r) = last_of y r

-- x ∷ r without its last vertex
abbrev pub front_of : {V : Type 0} → V → List V → List V
front_of x [] = []
front_of x (y ∷ r) = x ∷ front_of y r

-- v is the first or the last vertex
abbrev pub EndOf : {V : Type 0} → V → List V → Type 0
EndOf v [] = ⊥
EndOf v (x ∷ r) = (v ≡ x) ⊎ (v ≡ last_of x r)

-- each of the lists has P
abbrev pub Each : {V : Type 0} → (List V → Type 0) → List (List V) → Type 0
Each P [] = Unit {0}
Each P (c ∷ cs) = P c × Each P cs

-- some one of the lists has P
abbrev pub SomeHas : {V : Type 0} → (List V → Type 0) → List (List V) → Type 0
SomeHas P [] = ⊥
SomeHas P (c ∷ cs) = P c ⊎ SomeHas P cs

-- the lists are as long as each other, and R holds place by place
abbrev pub Pairwise : {A B : Type 0} → (A → B → Type 0) → List A → List B → Type 0
Pairwise R [] [] = Unit {0}
Pairwise R [] (y ∷ ys) = ⊥
Pairwise R (x ∷ xs) [] = ⊥
Pairwise R (x ∷ xs) (y ∷ ys) = R x y × Pairwise R xs ys

-- all lists of lists, one after the other
abbrev pub joined : {A : Type 0} → List (List A) → List A
joined [] = []
joined (x ∷ l) = x ++ joined l

-- what f gives for each member, one after the other
abbrev pub gathered : {A B : Type 0} → (A → List B) → List A → List B
gathered f [] = []
gathered f (x ∷ l) = f x ++ gathered f l
