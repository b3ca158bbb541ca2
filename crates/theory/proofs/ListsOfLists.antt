-- Members of lists, of mapped lists and of lists of lists.
use Rattle.std.proofs.Common.{◌≡◌, List, [], ◌∷◌, map, inl, inr, refl, sym, ap, subst, ℕ, suc, zero, Some, slice_get}
use Rattle.std.specs.Prelude.{map}
use Rattle.theory.proofs.Lists.{Has-append, Has-append_left, Has-append_right}
use Rattle.theory.specs.Lists.{Each, Has, Pairwise, SomeHas, gathered, joined}

pub Has-map : {A B : Type 0} (f : A → B) (l : List A) (x : A) → Has x l → Has (f x) (map f l)
Has-map f [] x h = absurd h
Has-map f (y ∷ l) x (inl e) = inl (ap f e)
Has-map f (y ∷ l) x (inr h) = inr (Has-map f l x h)

pub map_has : {A B : Type 0} (f : A → B) (l : List A) (y : B) → Has y (map f l) → (x : A) × Has x l × (y ≡ f x)
map_has f [] y h = absurd h
map_has f (x ∷ l) y (inl e) = (x, inl refl, e)
map_has f (x ∷ l) y (inr h) = let t = map_has f l y h in (t.0, inr t.1, t.2)

pub Each-Has : {V : Type 0} (P : List V → Type 0) (cs : List (List V)) → Each P cs → (c : List V) → Has c cs → P c
Each-Has P [] e c h = absurd h
Each-Has P (d ∷ cs) e c (inl h) = subst P (sym h) e.0
Each-Has P (d ∷ cs) e c (inr h) = Each-Has P cs e.1 c h

pub SomeHas-Has : {V : Type 0} (P : List V → Type 0) (cs : List (List V)) → SomeHas P cs → (c : List V) × Has c cs × P c
SomeHas-Has P [] h = absurd h
SomeHas-Has P (c ∷ cs) (inl h) = (c, inl refl, h)
SomeHas-Has P (c ∷ cs) (inr h) = let t = SomeHas-Has P cs h in (t.0, inr t.1, t.2)

pub Has-SomeHas : {V : Type 0} (Q : List V → Type 0) (ps : List (List V)) (p : List V) → Has p ps → Q p → SomeHas Q ps
Has-SomeHas Q [] p h q = absurd h
Has-SomeHas Q (c ∷ ps) p (inl h) q = inl (subst Q h q)
Has-SomeHas Q (c ∷ ps) p (inr h) q = inr (Has-SomeHas Q ps p h q)

pub Has-gathered : {A B : Type 0} (f : A → List B) (l : List A) (x : A) (y : B) → Has x l → Has y (f x) → Has y (gathered f l)
Has-gathered f [] x y h k = absurd h
Has-gathered f (z ∷ l) x y (inl h) k = Has-append_left y (f z) (gathered f l) (subst (λ w. Has y (f w)) h k)
Has-gathered f (z ∷ l) x y (inr h) k = Has-append_right y (f z) (gathered f l) (Has-gathered f l x y h k)

pub gathered_from : {A B : Type 0} (f : A → List B) (l : List A) (y : B) → Has y (gathered f l) → (x : A) × Has x l × Has y (f x)
gathered_from f [] y h = absurd h
gathered_from f (z ∷ l) y h =
    elim (Has-append y (f z) (gathered f l) h) [
      | inl k ↦ (z, inl refl, k)
      | inr k ↦ (let t = gathered_from f l y k in (t.0, inr t.1, t.2))
    ]

pub joined_from : {A : Type 0} (ls : List (List A)) (x : A) → Has x (joined ls) → (l : List A) × Has l ls × Has x l
joined_from [] x h = absurd h
joined_from (k ∷ ls) x h =
    elim (Has-append x k (joined ls) h) [
      | inl i ↦ (k, inl refl, i)
      | inr i ↦ (let t = joined_from ls x i in (t.0, inr t.1, t.2))
    ]

pub Has-joined : {A : Type 0} (ls : List (List A)) (l : List A) (x : A) → Has l ls → Has x l → Has x (joined ls)
Has-joined [] l x h k = absurd h
Has-joined (m ∷ ls) l x (inl h) k = Has-append_left x m (joined ls) (subst (λ w. Has x w) h k)
Has-joined (m ∷ ls) l x (inr h) k = Has-append_right x m (joined ls) (Has-joined ls l x h k)

pub Pairwise-map : {A B : Type 0} (R : A → B → Type 0) (f : A → B) (xs : List A) → ((x : A) → Has x xs → R x (f x)) → Pairwise R xs (map f xs)
Pairwise-map R f [] h = tt
Pairwise-map R f (x ∷ xs) h = (h x (inl refl), Pairwise-map R f xs (λ y k. h y (inr k)))

-- what stands side by side in one relation stands so in one that follows from it
pub Pairwise-weaker : {A B : Type 0} (R T : A → B → Type 0) (xs : List A) (ys : List B) → ((x : A) (y : B) → Has x xs → R x y → T x y) → Pairwise R xs ys → Pairwise T xs ys
Pairwise-weaker R T [] [] f p = tt
Pairwise-weaker R T [] (y ∷ ys) f p = absurd p
Pairwise-weaker R T (x ∷ xs) [] f p = absurd p
Pairwise-weaker R T (x ∷ xs) (y ∷ ys) f p = (f x y (inl refl) p.0, Pairwise-weaker R T xs ys (λ z w h. f z w (inr h)) p.1)

-- and so it stands the other way round
pub Pairwise-flip : {A B : Type 0} (R : A → B → Type 0) (T : B → A → Type 0) → ((x : A) (y : B) → R x y → T y x) → (xs : List A) (ys : List B) → Pairwise R xs ys → Pairwise T ys xs
Pairwise-flip R T f [] [] p = tt
Pairwise-flip R T f [] (y ∷ ys) p = absurd p
Pairwise-flip R T f (x ∷ xs) [] p = absurd p
Pairwise-flip R T f (x ∷ xs) (y ∷ ys) p = (f x y p.0, Pairwise-flip R T f xs ys p.1)

pub Pairwise-same : {A B : Type 0} (R : A → B → Type 0) → ((x : A) (y z : B) → R x y → R x z → y ≡ z) →
    (xs : List A) (ys zs : List B) → Pairwise R xs ys → Pairwise R xs zs → ys ≡ zs
Pairwise-same R f [] [] [] p q = refl
Pairwise-same R f [] [] (z ∷ zs) p q = absurd q
Pairwise-same R f [] (y ∷ ys) zs p q = absurd p
Pairwise-same R f (x ∷ xs) [] zs p q = absurd p
Pairwise-same R f (x ∷ xs) (y ∷ ys) [] p q = absurd q
Pairwise-same R f (x ∷ xs) (y ∷ ys) (z ∷ zs) p q =
    let h : y ≡ z = f x y z p.0 q.0 in
    let t : ys ≡ zs = Pairwise-same R f xs ys zs p.1 q.1 in cc

pub get_has : {A : Type 0} (l : List A) (i : ℕ) (x : A) → slice_get l i ≡ Some x → Has x l
get_has [] i x e = absurd cc
get_has (y ∷ l) zero x e = inl (let k : Some y ≡ Some x = e in cc)
get_has (y ∷ l) (suc i) x e = inr (get_has l i x e)

pub has_get : {A : Type 0} (l : List A) (x : A) → Has x l → (i : ℕ) × (slice_get l i ≡ Some x)
has_get [] x h = absurd h
has_get (y ∷ l) x (inl e) = (zero, ap Some (sym e))
has_get (y ∷ l) x (inr h) = let t = has_get l x h in (suc t.0, t.1)

pub Each-all : {V : Type 0} (P : List V → Type 0) (cs : List (List V)) → ((c : List V) → Has c cs → P c) → Each P cs
Each-all P [] f = tt
Each-all P (c ∷ cs) f = (f c (inl refl), Each-all P cs (λ d h. f d (inr h)))
