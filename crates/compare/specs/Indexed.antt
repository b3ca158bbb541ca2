-- Geometries found by what they are and by their keys.
use Rattle.std.specs.Prelude.{◌≡◌, ◌↔◌, ◌<◌, ℕ, List, Option, Some, None, slice_get, length}
use Rattle.std.specs.Borrow.{Bor}
use Rattle.std.specs.BTreeMap as tree
use Rattle.std.specs.declared.cmp.Ordering.{Ordering}
use Rattle.shapes.specs.contracts.shape.IdOrd.TheImpl as id_order
use Rattle.shapes.specs.declared.shape.Id.{Id}
use Rattle.shapes.specs.declared.shape.Id.TheVariants as ids
use Rattle.topo.specs.contracts.geom.GeomOrd.TheImpl as geometry_order
use Rattle.topo.specs.declared.geom.Geom.{Geom}
use Rattle.compare.specs.Keyed.{keys_in}
use Rattle.compare.specs.declared.index.Index.{Index}
use Rattle.compare.specs.declared.index.Occurrence.{Occurrence}
use Rattle.compare.specs.declared.index.Occurrence.TheVariants.{Single, Repeated}

-- the id of a feature that has none
abbrev pub id_none : Id
id_none = ids.None

-- the number where it is the only one
abbrev pub once : Option Occurrence → Option ℕ
once None = None
once (Some (Single k)) = Some k
once (Some Repeated) = None

-- the orders of what is borrowed
abbrev pub borrowed_cmp : Bor Geom → Bor Geom → Ordering
borrowed_cmp a b = geometry_order.cmp-value.it a.now b.now

-- the order of borrowed ids
abbrev pub borrowed_id_cmp : Bor Id → Bor Id → Ordering
borrowed_id_cmp a b = id_order.cmp-value.it a.now b.now

-- there is a number
abbrev pub Found : Option ℕ → Type 0
Found None = ⊥
Found (Some k) = Unit {0}

-- the geometry is at a place below n
abbrev pub OccursBelow : List Geom → ℕ → Geom → Type 0
OccursBelow gs n g = (k : ℕ) × (k < n) × (slice_get gs k ≡ Some g)

-- the table has the first n geometries
abbrev pub Knows : List Geom → ℕ → tree.BTreeMap (Bor Geom) ℕ → Type 0
Knows gs n m = (q : Bor Geom) → Found (tree.get borrowed_cmp m q) ↔ OccursBelow gs n q.now

-- where a key occurs once it is at n, by where it stood below
abbrev pub occurrence_after : ℕ → Option Occurrence → Occurrence
occurrence_after n None = Single n
occurrence_after n (Some s) = Repeated

-- where the key is among the first n
abbrev pub OccursAs : List Id → ℕ → Id → Option Occurrence → Type 0
OccursAs ks n x None = (j : ℕ) → j < n → ¬ (slice_get ks j ≡ Some x)
OccursAs ks n x (Some (Single k)) = (k < n) × (slice_get ks k ≡ Some x) × ((j : ℕ) → j < n → slice_get ks j ≡ Some x → j ≡ k)
OccursAs ks n x (Some Repeated) = (j : ℕ) × (k : ℕ) × (¬ (j ≡ k)) × (slice_get ks j ≡ Some x) × (slice_get ks k ≡ Some x)

-- the table has where each key is among the first n
abbrev pub occurrences_of : List Id → ℕ → tree.BTreeMap (Bor Id) Occurrence → Type 0
occurrences_of ks n m = (q : Bor Id) → OccursAs ks n q.now (tree.get borrowed_id_cmp m q)

-- the index of a list of geometries with their keys: which geometries there are, and where each key occurs
pub record IsIndexOf (gs : List Geom) (ks : List Id) (i : Index) : Type 0 where
  pub lends : i.geometries.now ≡ gs
  pub keys : keys_in i.keys ≡ ks
  pub knows : Knows gs (length gs) i.numbers
  pub stand : occurrences_of ks (length ks) i.occurrences
