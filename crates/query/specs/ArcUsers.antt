-- The users of arcs by class, and the lists of those that share an arc and are of two classes.
use Rattle.std.specs.Prelude.{◌≡◌, ◌↔◌, ◌==◌, ◌-◌, ℕ, Bool, cond, false, not, List, [], ◌∷◌, ◌++◌, Option, Some, None, filter, get_or, length, set, slice_get}
use Rattle.std.specs.List.Sorted.{IsNonDecreasingBy, IsStrictlyIncreasing}
use Rattle.std.specs.Ordering.{nat_cmp, ordering_then}
use Rattle.std.specs.declared.cmp.Ordering.{Ordering}
use Rattle.theory.specs.Lists.{Has}
use Rattle.topo.specs.declared.geom.Geom.{Geom}
use Rattle.query.specs.Uses.{geometries_uses, use_at}
use Rattle.query.specs.declared.arc_users.ArcUser.{ArcUser}
use Rattle.query.specs.declared.uses.Use.{Use}

-- the class of an index; one without a class is a class of its own
abbrev pub class_at : List ℕ → ℕ → ℕ
class_at cs i = get_or cs i i

-- a use with the class of its index
abbrev pub user_of : List ℕ → Use → ArcUser
user_of cs u = record { arc = u.arc; class = class_at cs u.index; index = u.index }

-- the users are those of the uses
pub record AreUsersOf (cs : List ℕ) (us : List Use) (vs : List ArcUser) : Type 0 where
  pub there : (u : Use) → Has u us → Has (user_of cs u) vs
  pub only : (v : ArcUser) → Has v vs → (u : Use) × Has u us × (v ≡ user_of cs u)

-- by arcs, then by classes, then by indexes
abbrev pub user_cmp : ArcUser → ArcUser → Ordering
user_cmp u v = ordering_then (nat_cmp u.arc v.arc) (ordering_then (nat_cmp u.class v.class) (nat_cmp u.index v.index))

-- those of an arc
abbrev pub users_of : ℕ → List ArcUser → List ArcUser
users_of k = filter (λ v. v.arc == k)

-- those of a user's arc that are of other classes
abbrev pub others : ArcUser → List ArcUser → List ArcUser
others u vs = filter (λ v. not (v.class == u.class)) (users_of u.arc vs)

-- arc by arc, and those of an arc class by class
pub record AreInOrder (vs : List ArcUser) : Type 0 where
  pub by_arc : IsNonDecreasingBy (λ v. v.arc) vs
  pub by_class : (k : ℕ) → IsNonDecreasingBy (λ v. v.class) (users_of k vs)

abbrev pub is_number : Option ℕ → ℕ → Bool
is_number None x = false
is_number (Some y) x = y == x

-- the index at the end of the list, unless it is there
abbrev pub with_index : List ℕ → ℕ → List ℕ
with_index l i = cond (is_number (slice_get l (length l - 1)) i) l (l ++ (i ∷ []))

-- the index added to the list of another one
abbrev pub with_index_at : ℕ → List (List ℕ) → ℕ → List (List ℕ)
with_index_at i ls j = set ls j (with_index (get_or ls j []) i)

-- and in the lists of users
abbrev pub with_index_in : ℕ → List (List ℕ) → List ArcUser → List (List ℕ)
with_index_in i ls [] = ls
with_index_in i ls (v ∷ vs) = with_index_in i (with_index_at i ls v.index) vs

-- the index of each use added to the lists of its arc's users that are of other classes
abbrev pub with_indexes : List ℕ → List ArcUser → List (List ℕ) → List Use → List (List ℕ)
with_indexes cs vs ls [] = ls
with_indexes cs vs ls (u ∷ us) = with_indexes cs vs (with_index_in u.index ls (others (user_of cs u) vs)) us

-- the geometries at two indexes use one arc, and are of two classes
pub record ShareUnlike (gs : List Geom) (cs : List ℕ) (i j : ℕ) : Type 0 where
  pub arc : ℕ
  pub one : Has (use_at arc i) (geometries_uses gs)
  pub other : Has (use_at arc j) (geometries_uses gs)
  pub unlike : ¬ (class_at cs i ≡ class_at cs j)

-- one list for each geometry, in order: the indexes of those that share an arc with it and are of other classes, ascending
pub record AreListsBy (gs : List Geom) (cs : List ℕ) (lists : List (List ℕ)) : Type 0 where
  pub each : length lists ≡ length gs
  pub ascend : (i : ℕ) (js : List ℕ) → slice_get lists i ≡ Some js → IsStrictlyIncreasing js
  pub exact : (i : ℕ) (js : List ℕ) → slice_get lists i ≡ Some js → (j : ℕ) → Has j js ↔ ShareUnlike gs cs i j
