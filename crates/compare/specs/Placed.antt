-- What differs between two lists of geometries, beside each of which are the keys of its members.
use Rattle.std.specs.Prelude.{◌≡◌, ◌↔◌, ◌<◌, ℕ, List, Some, slice_get, map}
use Rattle.std.specs.List.Sorted.{IsStrictlyIncreasing}
use Rattle.shapes.specs.declared.shape.Id.{Id}
use Rattle.shapes.specs.declared.shape.Id.TheVariants as id
use Rattle.theory.specs.Lists.{Has}
use Rattle.topo.specs.declared.geom.Geom.{Geom}
use Rattle.compare.specs.Differences.{Climbs}
use Rattle.compare.specs.declared.difference.Changed.{Changed}
use Rattle.compare.specs.declared.difference.LayerDifference.{LayerDifference}

-- k is a key that is at place i alone
pub record IsOnly (ks : List Id) (i : ℕ) (k : Id) : Type 0 where
  pub at : slice_get ks i ≡ Some k
  pub some : ¬ (k ≡ id.None)
  pub only : (j : ℕ) → slice_get ks j ≡ Some k → j ≡ i

-- the geometry at place i is none of the other list, and its key is there and at place j of the other list alone
pub record ArePartnersAt (gs hs : List Geom) (ks ls : List Id) (i j : ℕ) : Type 0 where
  pub old : Geom
  pub key : Id
  pub old_at : slice_get gs i ≡ Some old
  pub of_old : IsOnly ks i key
  pub of_new : IsOnly ls j key
  pub none : ¬ Has old hs

-- the geometry at place i is none of the other list, and has no partner there
pub record IsGoneAt (gs hs : List Geom) (ks ls : List Id) (i : ℕ) : Type 0 where
  pub member : Geom
  pub at : slice_get gs i ≡ Some member
  pub none : ¬ Has member hs
  pub alone : (j : ℕ) → ¬ ArePartnersAt gs hs ks ls i j

-- the difference of two lists of geometries with keys: what is removed, added and changed, by places in order
pub record IsDifferenceAt (gs hs : List Geom) (ks ls : List Id) (d : LayerDifference) : Type 0 where
  pub removed : (i : ℕ) → Has i d.removed.items ↔ IsGoneAt gs hs ks ls i
  pub added : (j : ℕ) → Has j d.added.items ↔ IsGoneAt hs gs ls ks j
  pub changed : (c : Changed) → Has c d.changed.items ↔ ArePartnersAt gs hs ks ls c.old c.new
  pub removed_ascend : IsStrictlyIncreasing d.removed.items
  pub added_ascend : IsStrictlyIncreasing d.added.items
  pub changed_ascend : IsStrictlyIncreasing (map (λ c. c.old) d.changed.items)

-- the pairs of partners whose old member has a number below n
pub record ArePairs (gs hs : List Geom) (ks ls : List Id) (n : ℕ) (cs : List Changed) : Type 0 where
  pub exact : (c : Changed) → Has c cs ↔ ((c.old < n) × ArePartnersAt gs hs ks ls c.old c.new)
  pub climb : Climbs (map (λ c. c.old) cs)
