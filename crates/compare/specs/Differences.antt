-- What differs between two lists whose members have ids.
use Rattle.std.specs.Prelude.{◌≡◌, ◌↔◌, ◌<◌, ℕ, List, [], ◌∷◌, Some, slice_get, map}
use Rattle.std.specs.List.Sorted.{IsStrictlyIncreasing}
use Rattle.shapes.specs.declared.shape.Id.{Id}
use Rattle.shapes.specs.declared.shape.Id.TheVariants as id
use Rattle.theory.specs.Lists.{Has}
use Rattle.compare.specs.declared.difference.Changed.{Changed}
use Rattle.compare.specs.declared.difference.LayerDifference.{LayerDifference}

module _ {A K : Type 0} (no_key : K) (key : A → K) where
  -- x stands at place i and has a key, which no other member has
  pub record IsAloneBy (xs : List A) (i : ℕ) (x : A) : Type 0 where
    pub at : slice_get xs i ≡ Some x
    pub some : ¬ (key x ≡ no_key)
    pub only : (j : ℕ) (y : A) → slice_get xs j ≡ Some y → key y ≡ key x → j ≡ i

  -- the members at the two places have one key, which no other member of either list has, and differ
  pub record ArePartnersBy (olds news : List A) (i j : ℕ) : Type 0 where
    pub old : A
    pub new : A
    pub of_old : IsAloneBy olds i old
    pub of_new : IsAloneBy news j new
    pub same : key old ≡ key new
    pub differ : ¬ (old ≡ new)

  -- the member at place i is none of the other list, and has no partner there
  pub record IsGoneBy (xs others : List A) (i : ℕ) : Type 0 where
    pub member : A
    pub at : slice_get xs i ≡ Some member
    pub none : ¬ Has member others
    pub alone : (j : ℕ) → ¬ ArePartnersBy xs others i j

-- each number is below all that follow
abbrev pub Climbs : List ℕ → Type 0
Climbs [] = Unit {0}
Climbs (x ∷ xs) = ((y : ℕ) → Has y xs → x < y) × Climbs xs

-- the numbers are those below n that have P, ascending
pub record Those (P : ℕ → Type 0) (n : ℕ) (ks : List ℕ) : Type 0 where
  pub exact : (k : ℕ) → Has k ks ↔ ((k < n) × P k)
  pub climb : Climbs ks

-- the members of the old list that are gone, those of the new one that are there first, and the pairs of partners
pub record IsDifferenceBy {A K : Type 0} (no_key : K) (key : A → K) (olds news : List A) (d : LayerDifference) : Type 0 where
  pub removed : (i : ℕ) → Has i d.removed.items ↔ IsGoneBy no_key key olds news i
  pub added : (j : ℕ) → Has j d.added.items ↔ IsGoneBy no_key key news olds j
  pub changed : (c : Changed) → Has c d.changed.items ↔ ArePartnersBy no_key key olds news c.old c.new
  pub removed_ascend : IsStrictlyIncreasing d.removed.items
  pub added_ascend : IsStrictlyIncreasing d.added.items
  pub changed_ascend : IsStrictlyIncreasing (map (λ c. c.old) d.changed.items)

-- the same of members that pair by their ids
abbrev pub IsDifference : {A : Type 0} → (A → Id) → List A → List A → LayerDifference → Type 0
IsDifference id_in olds news d = IsDifferenceBy id.None id_in olds news d
