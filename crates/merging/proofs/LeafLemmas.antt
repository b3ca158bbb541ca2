-- The search of the leaves of a plan for the first that is no index.
use Rattle.std.proofs.Common.{◌≡◌, ℕ, ◌+◌, ◌<◌, ◌≤◌, Bool, true, false, cond, List, [], ◌∷◌, ◌++◌, length, Option, Some, None, refl, sym, ◌∙◌, ap, subst, inl, inr, arith, append-nil}
use Rattle.std.specs.Prelude.{nat_lt}
use Rattle.std.specs.Option.{option_or}
use Rattle.std.specs.List.{flat_map, sum_by}
use Rattle.std.proofs.lemmas.Bool.{ltb-true, lt-ltb, le-ltb}
use Rattle.std.proofs.lemmas.Grind.{flat_map-append}
use Rattle.std.proofs.lemmas.List.{length-append}
use Rattle.std.proofs.lemmas.List.Concat.{flat_map-cons}
use Rattle.std.proofs.lemmas.List.Sums.{sum_by-append, sum_by-cons}
use Rattle.merging.specs.declared.plan.Plan.{Plan}
use Rattle.merging.specs.declared.plan.Plan.TheVariants.{Leaf, Node'}
use Rattle.merging.specs.Leaves.{leaves, first_outside, HasIndexes}
use Rattle.merging.specs.Alike.{IsIn}

pub first_outside-append : (n : ℕ) (xs ys : List ℕ) → first_outside n (xs ++ ys) ≡ option_or (first_outside n xs) (first_outside n ys)
first_outside-append n [] ys = refl
first_outside-append n (x ∷ xs) ys = go (nat_lt x n) (first_outside-append n xs ys)
  where
    go : (b : Bool) → first_outside n (xs ++ ys) ≡ option_or (first_outside n xs) (first_outside n ys) →
        cond b (first_outside n (xs ++ ys)) (Some x) ≡ option_or (cond b (first_outside n xs) (Some x)) (first_outside n ys)
    go true e = e
    go false e = refl

both_none : {A : Type 0} (x y : Option A) → option_or x y ≡ None → (x ≡ None) × (y ≡ None)
both_none None y e = (refl, e)
both_none (Some a) y e = absurd cc

is_index : (n i : ℕ) → cond (nat_lt i n) None (Some i) ≡ None → i < n
is_index n i e = ltb-true i n (go (nat_lt i n) e)
  where
    go : (b : Bool) → cond b None (Some i) ≡ None → b ≡ true
    go true e = refl
    go false e = absurd cc

pub has_indexes : (n : ℕ) (p : Plan) → first_outside n (leaves p) ≡ None → HasIndexes n p
has_indexes n (Leaf i) e = is_index n i e
has_indexes n (Node' p left q right) e =
    let b = both_none (first_outside n (leaves left)) (first_outside n (leaves right)) (sym (first_outside-append n (leaves left) (leaves right)) ∙ e) in
    (has_indexes n left b.0, has_indexes n right b.1)

if_later : (n : ℕ) (xs ys : List ℕ) (o : Option ℕ) → option_or (first_outside n (xs ++ ys)) o ≡ option_or (first_outside n xs) (option_or (first_outside n ys) o)
if_later n xs ys o = ap (λ f. option_or f o) (first_outside-append n xs ys) ∙ grouped (first_outside n xs) (first_outside n ys) o
  where
    grouped : (a b c : Option ℕ) → option_or (option_or a b) c ≡ option_or a (option_or b c)
    grouped None b c = refl
    grouped (Some x) b c = refl

-- other leaves are left to look at, and they tell the same
pub if_as : (n : ℕ) (xs ys zs : List ℕ) (o p f : Option ℕ) → option_or (first_outside n (xs ++ ys)) o ≡ f →
    option_or (first_outside n ys) o ≡ option_or (first_outside n zs) p → option_or (first_outside n (xs ++ zs)) p ≡ f
if_as n xs ys zs o p f h e = if_later n xs zs p ∙ ap (option_or (first_outside n xs)) (sym e) ∙ sym (if_later n xs ys o) ∙ h

-- a leaf on the left that is an index tells nothing
pub index_passed : (n i : ℕ) (xs ls rs ts : List ℕ) (o f : Option ℕ) → option_or (first_outside n (xs ++ (ls ++ rs))) o ≡ f →
    ls ≡ i ∷ [] → ts ≡ rs → i < n → option_or (first_outside n (xs ++ ts)) o ≡ f
index_passed n i xs ls rs ts o f h leaf same lt =
    if_as n xs (ls ++ rs) ts o o f h
    (ap (λ w. option_or w o)
    (ap (λ w. first_outside n (w ++ rs)) leaf ∙ ap (λ b. cond b (first_outside n rs) (Some i)) (lt-ltb i n lt) ∙ ap (first_outside n) (sym same)))

-- a leaf on the left that is no index is told before what stands on its right
pub leaf_means : (n i : ℕ) (xs ls rs ts : List ℕ) (o f : Option ℕ) → option_or (first_outside n (xs ++ (ls ++ rs))) o ≡ f →
    ls ≡ i ∷ [] → ts ≡ ls → n ≤ i → option_or (first_outside n (xs ++ ts)) o ≡ f
leaf_means n i xs ls rs ts o f h leaf same le =
    let tells : (r : Option ℕ) → cond (nat_lt i n) r (Some i) ≡ Some i = λ r. ap (λ b. cond b r (Some i)) (le-ltb i n le) in
    if_as n xs (ls ++ rs) ts o o f h
    (ap (λ w. option_or w o)
    (ap (λ w. first_outside n (w ++ rs)) leaf ∙ tells (first_outside n rs) ∙ sym (tells None) ∙ ap (first_outside n) (sym (same ∙ leaf))))

-- a leaf alone is told before what was found on its right
pub leaf_read : (n i : ℕ) (xs ls : List ℕ) (o p f : Option ℕ) → option_or (first_outside n (xs ++ ls)) o ≡ f →
    ls ≡ i ∷ [] → p ≡ cond (nat_lt i n) o (Some i) → option_or (first_outside n xs) p ≡ f
leaf_read n i xs ls o p f h leaf is =
    ap (λ w. option_or (first_outside n w) p) (sym (append-nil xs))
    ∙ if_as n xs ls [] o p f h (ap (λ w. option_or (first_outside n w) o) leaf ∙ read (nat_lt i n) ∙ sym is)
  where
    read : (b : Bool) → option_or (cond b None (Some i)) o ≡ cond b o (Some i)
    read true = refl
    read false = refl

-- what stands on the right was told by a call
pub right_means : (n : ℕ) (xs ls rs ts us : List ℕ) (o r p f : Option ℕ) → option_or (first_outside n (xs ++ (ls ++ rs))) o ≡ f →
    ts ≡ ls → us ≡ rs → r ≡ first_outside n us → p ≡ option_or r o → option_or (first_outside n (xs ++ ts)) p ≡ f
right_means n xs ls rs ts us o r p f h left right told is =
    if_as n xs (ls ++ rs) ts o p f h
    (if_later n ls rs o ∙ ap (λ w. option_or (first_outside n w) (option_or (first_outside n rs) o)) (sym left)
    ∙ ap (option_or (first_outside n ts)) (ap (λ w. option_or (first_outside n w) o) (sym right) ∙ ap (λ w. option_or w o) (sym told) ∙ sym is))

-- the last item of a list is taken
pub flat_pop : {X A : Type 0} (f : X → List A) (old new : List X) (x : X) → old ≡ new ++ (x ∷ []) → flat_map f old ≡ flat_map f new ++ f x
flat_pop f old new x e = ap (flat_map f) e ∙ flat_map-append f new (x ∷ []) ∙ ap (λ w. flat_map f new ++ w) (flat_map-cons f x [] ∙ append-nil (f x))

pub sum_pop : {X : Type 0} (f : X → ℕ) (old new : List X) (x : X) → old ≡ new ++ (x ∷ []) → sum_by f old ≡ sum_by f new + f x
sum_pop f old new x e = ap (sum_by f) e ∙ sum_by-append f new (x ∷ []) ∙ ap (λ w. sum_by f new + w) (sum_by-cons f x [] ∙ omega arith)

pub some_leaf : (p : Plan) → (i : ℕ) × IsIn i (leaves p)
some_leaf (Leaf i) = (i, inl refl)
some_leaf (Node' p left q right) = let (i, h) = some_leaf left in (i, further (leaves left) (leaves right) i h)
  where
    further : (is js : List ℕ) (i : ℕ) → IsIn i is → IsIn i (is ++ js)
    further [] js i h = absurd h
    further (k ∷ ks) js i (inl e) = inl e
    further (k ∷ ks) js i (inr h) = inr (further ks js i h)

pub inside : (n : ℕ) (is : List ℕ) (i : ℕ) → first_outside n is ≡ None → IsIn i is → i < n
inside n [] i none h = absurd h
inside n (j ∷ js) i none h = go (nat_lt j n) refl none (inside n js i) h
  where
    go : (b : Bool) → nat_lt j n ≡ b → cond b (first_outside n js) (Some j) ≡ None → (first_outside n js ≡ None → IsIn i js → i < n) → IsIn i (j ∷ js) → i < n
    go true low e rest (inl same) = subst (λ k. k < n) (sym same) (ltb-true j n low)
    go true low e rest (inr k) = rest e k
    go false low e rest k = absurd cc

pub some_leaves : (p : Plan) → 0 < length (leaves p)
some_leaves (Leaf i) = omega arith
some_leaves (Node' p left q right) = let some = some_leaves left in omega (arith, some, length-append (leaves left) (leaves right))
