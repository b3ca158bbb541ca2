-- From plain data that fits a grid to features and sets of features that fit it.
use Rattle.std.proofs.Common.{inl, inr, List, [], ◌∷◌, ◌++◌, Bool, true, false, cond, map, sym, subst}
use Rattle.std.specs.List.{AllByRecursion, dedup, dedup_from}
use Rattle.std.specs.declared.cmp.Ordering.{Ordering}
use Rattle.std.specs.declared.cmp.Ordering.TheVariants.{Less, Equal, Greater}
use Rattle.theory.specs.Lists.{Has, front_of}
use Rattle.theory.specs.TopologyFunction.{rotations_from, lesser, least_from, least_list}
use Rattle.grid.specs.Place.{Transform}
use Rattle.grid.specs.Fits.{Fits}
use Rattle.grid.specs.declared.pos.Pos.{Pos}
use Rattle.lines.specs.Seen.{positions_of, vertices_of}
use Rattle.lines.specs.Reading.{opened, ring_of as ring_by}
use Rattle.shapes.specs.Fitting.{ShapeFits}
use Rattle.shapes.specs.Maps.{Features}
use Rattle.shapes.specs.Shapes.{Shape}
use Rattle.shapes.specs.declared.form.Form.TheVariants.{Null, Point, MultiPoint, Line, MultiLine, Polygon, MultiPolygon}
use Rattle.reading.specs.Plain.{Plain, plain, plain_form}
use Rattle.reading.specs.Outlines.{line_of, ring_of}
use Rattle.reading.specs.Meant.{AreFeatures}
use Rattle.reading.specs.Fitting.{FormFits, PlainFits, SetFits}

-- ---- lists

pub all_has : {X : Type 0} (P : X → Type 0) (xs : List X) (x : X) → AllByRecursion P xs → Has x xs → P x
all_has P [] x all h = absurd h
all_has P (y ∷ ys) x all (inl e) = subst P (sym e) all.0
all_has P (y ∷ ys) x all (inr h) = all_has P ys x all.1 h

pub all_append : {X : Type 0} (P : X → Type 0) (xs ys : List X) → AllByRecursion P xs → AllByRecursion P ys → AllByRecursion P (xs ++ ys)
all_append P [] ys h k = k
all_append P (x ∷ xs) ys h k = (h.0, all_append P xs ys h.1 k)

-- of each element, by what is seen of it
pub all_map : {X Y : Type 0} (P : Y → Type 0) (f : X → Y) (xs : List X) → AllByRecursion (λ x. P (f x)) xs → AllByRecursion P (map f xs)
all_map P f [] h = tt
all_map P f (x ∷ xs) h = (h.0, all_map P f xs h.1)

pub map_all : {X Y : Type 0} (P : Y → Type 0) (f : X → Y) (xs : List X) → AllByRecursion P (map f xs) → AllByRecursion (λ x. P (f x)) xs
map_all P f [] h = tt
map_all P f (x ∷ xs) h = (h.0, map_all P f xs h.1)

pub all_weaker : {X : Type 0} (P Q : X → Type 0) (xs : List X) → ((x : X) → P x → Q x) → AllByRecursion P xs → AllByRecursion Q xs
all_weaker P Q [] f h = tt
all_weaker P Q (x ∷ xs) f h = (f x h.0, all_weaker P Q xs f h.1)

-- ---- lines and rings

module _ {X : Type 0} (P : X → Type 0) where
  dedup_all_from : (same : X → X → Bool) (k : X) (xs : List X) → P k → AllByRecursion P xs → AllByRecursion P (dedup_from same k xs)
  dedup_all_from same k [] h all = (h, tt)
  dedup_all_from same k (x ∷ xs) h all =
      elim (same x k) as (λ b. AllByRecursion P (cond b (dedup_from same k xs) (k ∷ dedup_from same x xs))) [
        | true ↦ dedup_all_from same k xs h all.1
        | false ↦ (h, dedup_all_from same x xs all.0 all.1)
      ]

  dedup_all : (same : X → X → Bool) (xs : List X) → AllByRecursion P xs → AllByRecursion P (dedup same xs)
  dedup_all same [] all = tt
  dedup_all same (x ∷ xs) all = dedup_all_from same x xs all.0 all.1

  front_all : (x : X) (xs : List X) → P x → AllByRecursion P xs → AllByRecursion P (front_of x xs)
  front_all x [] h all = tt
  front_all x (y ∷ ys) h all = (h, front_all y ys all.0 all.1)

  opened_all : (xs : List X) → AllByRecursion P xs → AllByRecursion P (opened xs)
  opened_all [] all = tt
  opened_all (x ∷ xs) all = front_all x xs all.0 all.1

  rotations_all : (s t : List X) → AllByRecursion P s → AllByRecursion P t → AllByRecursion (AllByRecursion P) (rotations_from s t)
  rotations_all s [] h all = tt
  rotations_all s (x ∷ t) h all = (all_append P (x ∷ t) s all h, rotations_all (s ++ (x ∷ [])) t (all_append P s (x ∷ []) h (all.0, tt)) all.1)

module _ {A : Type 0} (P : A → Type 0) (R : A → A → Ordering) where
  lesser_has : (o : Ordering) (a b : A) → P a → P b → P (lesser o a b)
  lesser_has Less a b h k = h
  lesser_has Equal a b h k = h
  lesser_has Greater a b h k = k

  least_all : (d : A) (ls : List A) → P d → AllByRecursion P ls → P (least_from R d ls)
  least_all d [] h all = h
  least_all d (x ∷ ls) h all = least_all (lesser (R d x) d x) ls (lesser_has (R d x) d x h all.0) all.1

least_list_all : {X : Type 0} (P : X → Type 0) (R : List X → List X → Ordering) (ls : List (List X)) → AllByRecursion (AllByRecursion P) ls → AllByRecursion P (least_list R ls)
least_list_all P R [] all = tt
least_list_all P R (l ∷ ls) all = least_all (AllByRecursion P) R l ls all.0 all.1

-- what is read as a line has the list's positions
pub line_of_fits : (P : Pos → Type 0) (ps : List Pos) → AllByRecursion P ps → AllByRecursion P (line_of ps)
line_of_fits P ps all = dedup_all P _ ps all

-- what is read as a ring has the list's positions
pub ring_of_fits : (P : Pos → Type 0) (ps : List Pos) → AllByRecursion P ps → AllByRecursion P (ring_of ps)
unfolding ring_by
ring_of_fits P ps all =
    let vs = opened_all P _ (dedup_all P _ ps all) in
    least_list_all P _ _ (rotations_all P [] _ tt vs)

-- ---- features

pub shape_fits : (g : Transform) (s : Shape) → FormFits g (plain_form s) → ShapeFits g s
shape_fits g Null h = tt
shape_fits g (Point p) h = h
shape_fits g (MultiPoint ps) h = h
shape_fits g (Line l) h = h
shape_fits g (MultiLine ls) h = map_all (AllByRecursion (Fits g)) positions_of ls h
shape_fits g (Polygon rs) h = map_all (AllByRecursion (Fits g)) vertices_of rs h
shape_fits g (MultiPolygon ps) h =
    all_weaker _ _ ps (λ rs k. map_all (AllByRecursion (Fits g)) vertices_of rs k) (map_all (AllByRecursion (AllByRecursion (Fits g))) (map vertices_of) ps h)

-- a set whose features fit as plain data fits
pub set_fits : (g : Transform) (made : Features) (meant : List Plain) → AreFeatures made meant → AllByRecursion (PlainFits g) meant → SetFits g made
set_fits g made meant are all f is = shape_fits g f.shape (all_has (PlainFits g) meant (plain f) all (are.only f is))
