-- The lists of faults of wholes are in order, where those of their parts are.
use Rattle.std.proofs.Common.{◌≡◌, ℕ, ℤ, ◌+◌, ◌<◌, List, [], ◌∷◌, ◌++◌, map, Option, Some, None, Result, Ok, Err, Bool, true, false, codes, is_some, Less, Equal, refl, sym, subst, arith, if◌then◌else◌, not, nat_le, append-nil}
use Rattle.std.specs.Cmp.{nat_cmp_is}
use Rattle.std.specs.List.{AllByRecursion, All}
use Rattle.std.specs.List.Sorted.{IsStrictlySortedBy}
use Rattle.std.proofs.lemmas.Cmp.{nat_cmp_total, tied_itself}
use Rattle.std.proofs.lemmas.List.Elements.{All-cons, All-nil}
use Rattle.serde_json.specs.Data.{Data, Items, Members, Num, null, boolean, number, string, array, object, depth}
use Rattle.serde_json.specs.Find.{get, as_null, as_array, as_number, as_i64}
use Rattle.faults.specs.Path.{Turn, name, index}
use Rattle.faults.specs.Fault.{Pair, pair_of, prefixed, number_of}
use Rattle.faults.specs.declared.fault.Fault.{Fault}
use Rattle.faults.specs.declared.fault.FaultKind.{FaultKind}
use Rattle.faults.specs.declared.fault.FaultKind.TheVariants as kind
use Rattle.lines.specs.declared.shape_fault.ShapeFault.{ShapeFault}
use Rattle.reading.specs.Fault.{turn_cmp, path_cmp, pair_cmp, here, under, unless_faulty, IsUpto, IsLeast, LeastOrWant}
use Rattle.reading.specs.Info.{id_faults, properties_faults, info_faults}
use Rattle.reading.specs.Numbers.{whole_faults, number_faults, element_faults}
use Rattle.reading.specs.Outlines.{outline_faults}
use Rattle.reading.specs.Parts.{list_of, array_faults, each_faults, list_faults, two_faults, pair_faults, there, member_faults, if_there, option_faults, unless_null, object_faults, typed_faults}
use Rattle.reading.specs.Scan.{scan_faults}
use Rattle.serde_json.specs.Written.{has_float}
use Rattle.shapes.specs.declared.nesting.TheConstants.{GREATEST_PROPERTY_DEPTH}
use Rattle.reading.specs.Text.{text_faults}
use Rattle.reading.specs.Shapes.{shape_faults}
use Rattle.reading.specs.declared.geometry.GeometryType.{GeometryType}
use Rattle.reading.specs.declared.geometry.GeometryType.TheVariants.{Point, MultiPoint, LineString, MultiLineString, Polygon, MultiPolygon}
use Rattle.reading.proofs.Fits.{all_append, all_weaker, all_map}
use Rattle.reading.proofs.Least.{turn_itself, BeginsAfter}
use Rattle.reading.specs.FaultLists.Ascending.{IsAscending}
use Rattle.reading.specs.FaultLists.Found.{kept, AreFound}
use Rattle.reading.specs.declared.fault_lists.found.Wanted.TheVariants.{First}

-- p comes before each of these
abbrev pub AreBehind : Pair → List Pair → Type 0
AreBehind p ps = AllByRecursion (λ q. pair_cmp p q ≡ Less) ps

-- the path of each begins with a later turn
pub record IsBeyond (t : Turn) (ps : List Pair) : Type 0 where
  pub all : AllByRecursion (λ p. BeginsAfter t p.path) ps

pub beyond_none : (t : Turn) → IsBeyond t []
beyond_none t = record { all = tt }

all_of : {X : Type 0} (P : X → Type 0) → ((x : X) → P x) → (xs : List X) → AllByRecursion P xs
all_of P f [] = tt
all_of P f (x ∷ xs) = (f x, all_of P f xs)

pub beyond_under : (t u : Turn) (ps : List Pair) → turn_cmp t u ≡ Less → IsBeyond t (under u ps)
beyond_under t u ps less = record { all = all_map (λ p. BeginsAfter t p.path) (prefixed u) ps (all_of _ (λ p. less) ps) }

pub beyond_append : (t : Turn) (ps qs : List Pair) → IsBeyond t ps → IsBeyond t qs → IsBeyond t (ps ++ qs)
beyond_append t ps qs a b = record { all = all_append (λ p. BeginsAfter t p.path) ps qs a.all b.all }

-- ---- lists in order

pub ascending_none : IsAscending []
unfolding IsStrictlySortedBy
ascending_none = record { sorted = tt }

pub ascending_one : (p : Pair) → IsAscending (p ∷ [])
unfolding IsStrictlySortedBy
ascending_one p = record { sorted = (tt, tt) }

pub ascending_here : (k : FaultKind) → IsAscending (here k)
ascending_here k = ascending_one (record { path = []; kind = k })

before_prefixed : (t : Turn) (p q : Pair) → pair_cmp p q ≡ Less → pair_cmp (prefixed t p) (prefixed t q) ≡ Less
before_prefixed t p q h = rw (turn_itself t) h

before_path : (t : Turn) (p q : Pair) (us : List Turn) → q.path ≡ us → BeginsAfter t us → pair_cmp (prefixed t p) q ≡ Less
before_path t p q [] is h = absurd h
before_path t p q (u ∷ us) is h = rw (is, h) refl

before_beyond : (t : Turn) (p : Pair) (qs : List Pair) → IsBeyond t qs → AreBehind (prefixed t p) qs
before_beyond t p qs h = all_weaker _ _ qs (λ q b. before_path t p q q.path refl b) h.all

sorted_under : (t : Turn) (ps qs : List Pair) → IsStrictlySortedBy pair_cmp ps → IsBeyond t qs → IsStrictlySortedBy pair_cmp qs → IsStrictlySortedBy pair_cmp (under t ps ++ qs)
unfolding IsStrictlySortedBy
sorted_under t [] qs a later b = b
sorted_under t (p ∷ ps) qs a later b = (
  all_append (λ q. pair_cmp (prefixed t p) q ≡ Less) (under t ps) qs
      (all_map (λ q. pair_cmp (prefixed t p) q ≡ Less) (prefixed t) ps (all_weaker _ _ ps (λ q h. before_prefixed t p q h) a.0))
      (before_beyond t p qs later),
  sorted_under t ps qs a.1 later b,
)

-- the faults of a part, and those of later parts
pub ascending_more : (t : Turn) (ps qs : List Pair) → IsAscending ps → IsBeyond t qs → IsAscending qs → IsAscending (under t ps ++ qs)
ascending_more t ps qs a later b = record { sorted = sorted_under t ps qs a.sorted later b.sorted }

pub ascending_under : (t : Turn) (ps : List Pair) → IsAscending ps → IsAscending (under t ps)
ascending_under t ps a = subst IsAscending (append-nil (under t ps)) (ascending_more t ps [] a (beyond_none t) ascending_none)

-- ---- the first is the least

path_itself : (ts : List Turn) → path_cmp ts ts ≡ Equal
path_itself [] = refl
path_itself (t ∷ ts) = rw (turn_itself t) (path_itself ts)

upto_itself : (p : Pair) → IsUpto p p
upto_itself p = rw (path_itself p.path, tied_itself nat_cmp_total (number_of p.kind)) refl

all_upto : (p : Pair) (qs : List Pair) → AreBehind p qs → All (IsUpto p) qs
all_upto p [] h = All-nil _
all_upto p (q ∷ qs) h = All-cons (IsUpto p) q qs (rw h.0 refl) (all_upto p qs h.1)

pub behind_first : (p : Pair) (ps : List Pair) → IsStrictlySortedBy pair_cmp (p ∷ ps) → AreBehind p ps
unfolding IsStrictlySortedBy
behind_first p ps h = h.0

pub first_least : (p : Pair) (ps : List Pair) → IsAscending (p ∷ ps) → IsLeast (p ∷ ps) p
first_least p ps a = record { present = (0, omega arith, refl); first = All-cons (IsUpto p) p ps (upto_itself p) (all_upto p ps (behind_first p ps a.sorted)) }

-- ---- parts

module _ (of : Data → List Pair) (each : (d : Data) → IsAscending (of d)) where
  beyond_each : (i j : ℕ) (ds : List Data) → i < j → IsBeyond (index i) (each_faults of j ds)
  beyond_each i j [] less = beyond_none (index i)
  beyond_each i j (d ∷ ds) less =
      beyond_append (index i) (under (index j) (of d)) _ (beyond_under (index i) (index j) (of d) (sym (nat_cmp_is i j Less less))) (beyond_each i (j + 1) ds (omega arith))

  pub ascending_each : (i : ℕ) (ds : List Data) → IsAscending (each_faults of i ds)
  ascending_each i [] = ascending_none
  ascending_each i (d ∷ ds) = ascending_more (index i) (of d) _ (each d) (beyond_each i (i + 1) ds (omega arith)) (ascending_each (i + 1) ds)

  pub ascending_list : (d : Data) → IsAscending (list_faults of d)
  ascending_list d = go (as_array d)
    where
      go : (o : Option Items) → IsAscending (array_faults (each_faults of 0) o)
      go None = ascending_here kind.WrongKind
      go (Some ds) = ascending_each 0 (list_of ds)

  pub ascending_member : (n : List ℕ) (d : Data) → IsAscending (member_faults n of d)
  ascending_member n d = ascending_under (name n) (there of (get n d)) (go (get n d))
    where
      go : (o : Option Data) → IsAscending (there of o)
      go None = ascending_here kind.Missing
      go (Some e) = each e

  pub ascending_if : (o : Option Data) → IsAscending (if_there of o)
  ascending_if None = ascending_none
  ascending_if (Some e) = each e

  pub ascending_option : (n : List ℕ) (d : Data) → IsAscending (option_faults n of d)
  ascending_option n d = ascending_under (name n) (if_there of (get n d)) (ascending_if (get n d))

  pub ascending_unless_null : (d : Data) → IsAscending (unless_null of d)
  ascending_unless_null d = go (is_some (as_null d))
    where
      go : (b : Bool) → IsAscending (if b then [] else of d)
      go true = ascending_none
      go false = each d

module _ {S : Type 0} (of : S → Data → List Pair) (next : S → Data → S) (each : (s : S) (d : Data) → IsAscending (of s d)) where
  beyond_scan : (s : S) (i j : ℕ) (ds : List Data) → i < j → IsBeyond (index i) (scan_faults of next s j ds)
  beyond_scan s i j [] less = beyond_none (index i)
  beyond_scan s i j (d ∷ ds) less =
      beyond_append (index i) (under (index j) (of s d)) _ (beyond_under (index i) (index j) (of s d) (sym (nat_cmp_is i j Less less))) (beyond_scan (next s d) i (j + 1) ds (omega arith))

  pub ascending_scan : (s : S) (i : ℕ) (ds : List Data) → IsAscending (scan_faults of next s i ds)
  ascending_scan s i [] = ascending_none
  ascending_scan s i (d ∷ ds) = ascending_more (index i) (of s d) _ (each s d) (beyond_scan (next s d) i (i + 1) ds (omega arith)) (ascending_scan (next s d) (i + 1) ds)

pub ascending_pair : (first second : Data → List Pair) → ((d : Data) → IsAscending (first d)) → ((d : Data) → IsAscending (second d)) → (d : Data) → IsAscending (pair_faults first second d)
ascending_pair first second a b d = go (as_array d)
  where
    two : (ds : List Data) → IsAscending (two_faults first second ds)
    two [] = ascending_here kind.NotTwo
    two (x ∷ []) = ascending_here kind.NotTwo
    two (x ∷ y ∷ []) = ascending_more (index 0) (first x) _ (a x) (beyond_under (index 0) (index 1) (second y) refl) (ascending_under (index 1) (second y) (b y))
    two (x ∷ y ∷ z ∷ ds) = ascending_here kind.NotTwo

    go : (o : Option Items) → IsAscending (array_faults (two_faults first second) o)
    go None = ascending_here kind.WrongKind
    go (Some ds) = two (list_of ds)

pub ascending_unless : (ps qs : List Pair) → IsAscending ps → IsAscending qs → IsAscending (unless_faulty ps qs)
ascending_unless [] qs a b = b
ascending_unless (p ∷ ps) qs a b = a

pub ascending_object : (ps : List Pair) (o : Option Members) → IsAscending ps → IsAscending (object_faults ps o)
ascending_object ps None a = ascending_here kind.WrongKind
ascending_object ps (Some ms) a = a

pub ascending_typed : {K : Type 0} (rest : K → List Pair) (r : Result K FaultKind) → ((k : K) → IsAscending (rest k)) → IsAscending (typed_faults rest r)
ascending_typed rest (Err k) a = ascending_under (name (codes "type")) (here k) (ascending_here k)
ascending_typed rest (Ok k) a = a k

pub ascending_element : (more : ℤ → List Pair) → ((n : ℤ) → IsAscending (more n)) → (d : Data) → IsAscending (element_faults more d)
ascending_element more a d = go (as_number d)
  where
    whole : (o : Option ℤ) → IsAscending (whole_faults more o)
    whole None = ascending_here kind.NotWhole
    whole (Some n) = a n

    go : (o : Option Num) → IsAscending (number_faults more o)
    go None = ascending_here kind.WrongKind
    go (Some n) = whole (as_i64 n)

pub ascending_outline : (o : Option ShapeFault) → IsAscending (outline_faults o)
ascending_outline None = ascending_none
ascending_outline (Some f) = ascending_here _

pub ascending_shape : (at line_at ring_at : Data → List Pair) → ((d : Data) → IsAscending (at d)) → ((d : Data) → IsAscending (line_at d)) → ((d : Data) → IsAscending (ring_at d))
    → (k : GeometryType) (d : Data) → IsAscending (shape_faults at line_at ring_at k d)
ascending_shape at line_at ring_at a b c Point d = a d
ascending_shape at line_at ring_at a b c MultiPoint d = ascending_list at a d
ascending_shape at line_at ring_at a b c LineString d = b d
ascending_shape at line_at ring_at a b c MultiLineString d = ascending_list line_at b d
ascending_shape at line_at ring_at a b c Polygon d = ascending_list ring_at c d
ascending_shape at line_at ring_at a b c MultiPolygon d = ascending_list (list_faults ring_at) (λ e. ascending_list ring_at c e) d

-- ---- ids and properties

unless_one : (b : Bool) (k : FaultKind) → IsAscending (if b then [] else here k)
unless_one true k = ascending_none
unless_one false k = ascending_here k

ascending_id : (d : Data) → IsAscending (id_faults d)
ascending_id null = ascending_none
ascending_id (boolean b) = ascending_here kind.WrongKind
ascending_id (number n) = unless_one (is_some (as_i64 n)) kind.NotWhole
ascending_id (string s) = ascending_none
ascending_id (array ds) = ascending_here kind.WrongKind
ascending_id (object ms) = ascending_here kind.WrongKind

both : (b c : Bool) → IsAscending ((if b then here kind.PropertyNumber else []) ++ (if c then here kind.PropertyDepth else []))
unfolding IsStrictlySortedBy
both true true = record { sorted = ((refl, tt), (tt, tt)) }
both true false = ascending_here kind.PropertyNumber
both false true = ascending_here kind.PropertyDepth
both false false = ascending_none

ascending_properties : (d : Data) → IsAscending (properties_faults d)
ascending_properties null = ascending_none
ascending_properties (boolean b) = ascending_here kind.WrongKind
ascending_properties (number n) = ascending_here kind.WrongKind
ascending_properties (string s) = ascending_here kind.WrongKind
ascending_properties (array ds) = ascending_here kind.WrongKind
ascending_properties (object ms) = both (has_float (object ms)) (not (nat_le (depth (object ms)) GREATEST_PROPERTY_DEPTH))

beyond_option : (t : Turn) (n : List ℕ) (of : Data → List Pair) (d : Data) → turn_cmp t (name n) ≡ Less → IsBeyond t (option_faults n of d)
beyond_option t n of d less = beyond_under t (name n) (if_there of (get n d)) less

pub ascending_info : (d : Data) → IsAscending (info_faults d)
ascending_info d =
    ascending_more (name (codes "id")) (if_there id_faults (get (codes "id") d)) (option_faults (codes "properties") properties_faults d)
    (ascending_if id_faults ascending_id (get (codes "id") d)) (beyond_option (name (codes "id")) (codes "properties") properties_faults d refl)
    (ascending_option properties_faults ascending_properties (codes "properties") d)

-- the members id and properties come after a member whose name comes before both
pub beyond_info : (n : List ℕ) (d : Data) → turn_cmp (name n) (name (codes "id")) ≡ Less → turn_cmp (name n) (name (codes "properties")) ≡ Less → IsBeyond (name n) (info_faults d)
beyond_info n d i p = beyond_append (name n) (option_faults (codes "id") id_faults d) _ (beyond_option (name n) (codes "id") id_faults d i) (beyond_option (name n) (codes "properties") properties_faults d p)

pub ascending_text : (of : Data → List Pair) (o : Option Data) → ((d : Data) → IsAscending (of d)) → IsAscending (text_faults of o)
ascending_text of None a = ascending_here kind.NotJson
ascending_text of (Some d) a = a d

-- ---- the first that is found

-- where the first alone was wanted, the one that was found is the least
pub first_means : (ps : List Pair) (f : Fault) (fs : List Fault) → IsAscending ps → AreFound First ps (pair_of f ∷ map pair_of fs) → LeastOrWant ps f
first_means ps f fs a h = record { least = λ real. go ps a h.are }
  where
    go : (ps : List Pair) → IsAscending ps → (pair_of f ∷ map pair_of fs) ≡ kept First ps → IsLeast ps (pair_of f)
    go [] a e = absurd cc
    go (p ∷ qs) a e = let same : pair_of f ≡ p = cc in subst (IsLeast (p ∷ qs)) (sym same) (first_least p qs a)
