-- Which of some ids are missing, and which occur more than once.
use Rattle.std.specs.Prelude.{◌+◌, ◌&&◌, ℕ, Bool, true, false, cond, not, List, [], ◌∷◌, map, nat_lt, unwrap_or}
use Rattle.std.specs.Borrow.{Bor}
use Rattle.std.specs.BTreeMap as tree
use Rattle.std.specs.Ordering.{is_eq}
use Rattle.std.specs.declared.cmp.Ordering.{Ordering}
use Rattle.shapes.specs.Order.{id_cmp}
use Rattle.shapes.specs.contracts.shape.IdOrd.TheImpl as id_order
use Rattle.shapes.specs.declared.shape.Id.{Id}
use Rattle.shapes.specs.declared.shape.Id.TheVariants as id
use Rattle.topo.specs.declared.geom.Geom.{Geom}

-- the ids of geometries
abbrev pub ids_in : List Geom → List Id
ids_in gs = map (λ g. g.id) gs

-- whether there is no id
abbrev pub is_missing : Id → Bool
is_missing id.None = true
is_missing (id.Number n) = false
is_missing (id.Text t) = false

-- 1 for yes
abbrev pub one_if : Bool → ℕ
one_if b = cond b 1 0

-- how many times the id occurs in the list
abbrev pub count_of : Id → List Id → ℕ
count_of q [] = 0
count_of q (i ∷ ids) = one_if (is_eq (id_cmp q i)) + count_of q ids

-- whether it is an id, and occurs in the list more than once
abbrev pub occurs_again : List Id → Id → Bool
occurs_again ids q = not (is_missing q) && nat_lt 1 (count_of q ids)

-- the numbers of the members for which p says yes, the first of which has the number n
abbrev pub numbers_of : (Id → Bool) → ℕ → List Id → List ℕ
numbers_of p n [] = []
numbers_of p n (i ∷ ids) = cond (p i) (n ∷ numbers_of p (n + 1) ids) (numbers_of p (n + 1) ids)

-- the order of what is borrowed
abbrev pub borrowed_cmp : Bor Id → Bor Id → Ordering
borrowed_cmp a b = id_order.cmp-value.it a.now b.now

-- how many times a table has counted the id
abbrev pub times : Id → tree.BTreeMap (Bor Id) ℕ → ℕ
times q m = unwrap_or (tree.get_by (λ k. id_order.cmp-value.it q k.now) m) 0
