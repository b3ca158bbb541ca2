-- The geometry of a feature after its arcs are cut again.
use Rattle.std.proofs.Common.{List, [], ◌∷◌, inl, inr, refl}
use Rattle.std.specs.Prelude.{map}
use Rattle.theory.proofs.ListsOfLists.{Has-joined}
use Rattle.theory.specs.Lists.{Has, Pairwise}
use Rattle.theory.specs.Topology.{Form, IsFormOf, line, lines, lines_in, null, point, points, polygon, polygons, rings_in}
use Rattle.theory.specs.TopologyFunction.{form_map}

-- place by place, with f's answers in place of the members of the second list
Pairwise-mapped : {A B C : Type 0} (R : A → B → Type 0) (T : A → C → Type 0) (f : B → C) (xs : List A) (ys : List B) → Pairwise R xs ys →
    ((x : A) (y : B) → Has x xs → R x y → T x (f y)) → Pairwise T xs (map f ys)
Pairwise-mapped R T f [] [] p k = tt
Pairwise-mapped R T f [] (y ∷ ys) p k = absurd p
Pairwise-mapped R T f (x ∷ xs) [] p k = absurd p
Pairwise-mapped R T f (x ∷ xs) (y ∷ ys) p k = (k x y (inl refl) p.0, Pairwise-mapped R T f xs ys p.1 (λ z w h. k z w (inr h)))

-- a form whose lines and rings are replaced is one of the same kind, if each line and each ring is
pub form_replaced : {V L R M N P Q : Type 0} (A : L → M → Type 0) (B : R → N → Type 0) (C : L → P → Type 0) (D : R → Q → Type 0) (a : M → P) (b : N → Q)
    (f : Form V L R) (h : Form V M N) → IsFormOf A B f h →
    ((l : L) (m : M) → Has l (lines_in f) → A l m → C l (a m)) → ((r : R) (n : N) → Has r (rings_in f) → B r n → D r (b n)) →
    IsFormOf C D f (form_map a b h)
form_replaced A B C D a b null null p l r = tt
form_replaced A B C D a b (point x) (point y) p l r = p
form_replaced A B C D a b (points xs) (points ys) p l r = p
form_replaced A B C D a b (line x) (line y) p l r = l x y (inl refl) p
form_replaced A B C D a b (lines xs) (lines ys) p l r = Pairwise-mapped A C a xs ys p l
form_replaced A B C D a b (polygon xs) (polygon ys) p l r = Pairwise-mapped B D b xs ys p r
form_replaced A B C D a b (polygons xs) (polygons ys) p l r =
    Pairwise-mapped (Pairwise B) (Pairwise D) (map b) xs ys p
    (λ x y h q. Pairwise-mapped B D b x y q (λ z w i. r z w (Has-joined xs x z h i)))
form_replaced A B C D a b f h p l r = absurd search
