-- Plans' leaves, and unions over them.
use Rattle.std.proofs.Common.{◌≡◌, ◌↔◌, ℕ, ℤ, pos, ◌<◌, Bool, true, false, cond, List, [], ◌∷◌, ◌++◌, length, get_or, Option, Some, None, is_some, refl, sym, ◌∙◌, ap, arith}
use Rattle.std.specs.Prelude.{All, map as map_list, nat_lt, slice_get, unwrap_or, option_map}
use Rattle.std.proofs.lemmas.Option.{slice_get-map, slice_get-get_or}
use Rattle.std.proofs.lemmas.List.{map-append}
use Rattle.std.specs.FinMap as map
use Rattle.grid.specs.Place.{Scaling, Transform}
use Rattle.shapes.specs.Maps.{Layers}
use Rattle.shapes.specs.Union.{union}
use Rattle.std.specs.Ordering.{int_eq}
use Rattle.merging.specs.Laws.{union_commutes, union_associates, union_empty}
use Rattle.merging.specs.Meaning.{same_grid, same_scaling}
use Rattle.merging.specs.declared.plan.Plan.{Plan}
use Rattle.merging.specs.declared.plan.Plan.TheVariants.{Leaf, Node'}
use Rattle.merging.specs.Leaves.{HasIndexes}
use Rattle.merging.specs.Plans.{AreOnOneGrid, union_all, union_at, off_grid, first_other}
use Rattle.std.specs.Prelude.{not, ◌&&◌}
use Rattle.std.specs.List.{position_or_len}
use Rattle.std.proofs.lemmas.List.Sums.{fails_before_first, position_or_len_is}
use Rattle.std.proofs.lemmas.List.Elements.{All-head, All-nil}
use Rattle.std.proofs.Common.{◌≤◌}
use Rattle.std.proofs.lemmas.Bool.{le-ltb, ltb-false}
use Rattle.std.proofs.lemmas.Bool.Decides.{Decides-int_eq}
use Rattle.merging.specs.Plans.{other_than}

pub union_all-append : (ms ns : List Layers) → union_all (ms ++ ns) ≡ union (union_all ms) (union_all ns)
union_all-append [] ns = sym (union_empty (union_all ns)) ∙ union_commutes (union_all ns) map.empty
union_all-append (m ∷ ms) ns = ap (union m) (union_all-append ms ns) ∙ sym (union_associates m (union_all ms) (union_all ns))

pub union_at-append : (ms : List Layers) (xs ys : List ℕ) → union_at ms (xs ++ ys) ≡ union (union_at ms xs) (union_at ms ys)
union_at-append ms xs ys = ap union_all (map-append _ xs ys) ∙ union_all-append _ _

pub no_indexes : (p : Plan) → ¬ HasIndexes 0 p
no_indexes (Leaf i) h = omega arith
no_indexes (Node' p left q right) h = no_indexes left h.0

both_true : (a b : Bool) → (a && b) ≡ true → (a ≡ true) × (b ≡ true)
both_true true true e = (refl, refl)
both_true true false e = cc
both_true false b e = cc

not_false : (b : Bool) → not b ≡ false → b ≡ true
not_false true e = refl
not_false false e = cc

int_eq_true : (a b : ℤ) → int_eq a b ≡ true → a ≡ b
int_eq_true a b e = (Decides-int_eq a b).0 e

same_scaling_true : (a b : Scaling) → same_scaling a b ≡ true → a ≡ b
same_scaling_true a b e =
    let t = both_true (int_eq a.scale b.scale) (int_eq a.translate b.translate) e in
    λ i. record { scale = int_eq_true a.scale b.scale t.0 i; translate = int_eq_true a.translate b.translate t.1 i }

pub same_grid_true : (g h : Transform) → same_grid g h ≡ true → g ≡ h
same_grid_true g h e =
    let t = both_true (same_scaling g.x h.x) (same_scaling g.y h.y) e in
    λ i. record { x = same_scaling_true g.x h.x t.0 i; y = same_scaling_true g.y h.y t.1 i }

int_eq_same : (a b : ℤ) → a ≡ b → int_eq a b ≡ true
int_eq_same a b e = (Decides-int_eq a b).1 e

pub same_grid_same : (g h : Transform) → g ≡ h → same_grid g h ≡ true
same_grid_same g h e = λ i.
    (int_eq_same g.x.scale h.x.scale (ap (λ t. t.x.scale) e) i && int_eq_same g.x.translate h.x.translate (ap (λ t. t.x.translate) e) i)
    && (int_eq_same g.y.scale h.y.scale (ap (λ t. t.y.scale) e) i && int_eq_same g.y.translate h.y.translate (ap (λ t. t.y.translate) e) i)

all_before : (i n : ℕ) → cond (nat_lt i n) (Some i) None ≡ None → n ≤ i
all_before i n e = ltb-false i n (go (nat_lt i n) e)
  where
    go : (b : Bool) → cond b (Some i) None ≡ None → b ≡ false
    go true e = cc
    go false e = refl

pub off_grid_none : {S : Type 0} (f : S → Transform) (g : Transform) (ss : List S) → off_grid f g ss ≡ None → All (λ s. f s ≡ g) ss
off_grid_none f g ss e k d lt =
    let le : length ss ≤ position_or_len (λ t. not (same_grid (f t) g)) ss = all_before _ _ e in
    same_grid_true (f (get_or ss k d)) g (not_false _ (fails_before_first (λ t. not (same_grid (f t) g)) ss k d (omega arith)))

-- the map at an index
pub map_at : {S : Type 0} (f : S → Layers) (ss : List S) (i : ℕ) (s : S) → i < length ss → s ≡ get_or ss i s →
    unwrap_or (slice_get (map_list f ss) i) map.empty ≡ f s
map_at f ss i s lt e =
    ap (λ o. unwrap_or o map.empty) (slice_get-map f ss i ∙ ap (option_map f) (slice_get-get_or ss i s lt)) ∙ ap f (sym e)

pub union_at_one : {S : Type 0} (f : S → Layers) (ss : List S) (i : ℕ) (s : S) → i < length ss → s ≡ get_or ss i s →
    f s ≡ union_at (map_list f ss) (i ∷ [])
union_at_one f ss i s lt e = sym (union_empty _ ∙ map_at f ss i s lt e)

pub no_first : {S : Type 0} (ss : List S) → None ≡ slice_get ss 0 → length ss ≡ 0
no_first [] e = refl
no_first (s ∷ ss) e = cc

pub one_grid : {S : Type 0} (f : S → Transform) (ss : List S) (s : S) → Some s ≡ slice_get ss 0 → None ≡ first_other f ss → All (λ t. f t ≡ f s) ss
one_grid f ss s e n = off_grid_none f (f s) ss (ap (λ o. other_than f o ss) e ∙ sym n)

module _ {S : Type 0} (f : S → Transform) where
  none_is : (o : Option ℕ) → is_some o ≡ false → None ≡ o
  none_is None e = refl
  none_is (Some i) e = cc

  grid_of_all : (ss : List S) → None ≡ first_other f ss → AreOnOneGrid f ss
  grid_of_all [] n = (record { x = record { scale = pos 0; translate = pos 0 }; y = record { scale = pos 0; translate = pos 0 } }, All-nil _)
  grid_of_all (s ∷ ss) n = (f s, one_grid f (s ∷ ss) s refl n)

  none_off : (ss : List S) → AreOnOneGrid f ss → is_some (first_other f ss) ≡ false
  none_off [] h = refl
  none_off (s ∷ ss) h =
      let n = length (s ∷ ss) in
      let first : f s ≡ h.0 = All-head (λ t. f t ≡ h.0) s ss h.1 in
      let past : position_or_len (λ t. not (same_grid (f t) (f s))) (s ∷ ss) ≡ n =
      position_or_len_is (λ t. not (same_grid (f t) (f s))) (s ∷ ss) n s (omega arith) (λ k lt. ap not (same_grid_same (f (get_or (s ∷ ss) k s)) (f s) (h.1 k s lt ∙ sym first)))
      (λ lt. absurd (omega (arith, lt))) in
      ap (λ i. is_some (cond (nat_lt i n) (Some i) None)) past ∙ ap (λ b. is_some (cond b (Some n) None)) (le-ltb n n (omega arith))

  -- there is no item on another grid than the first one's where all are on one grid
  pub on_one_grid : (ss : List S) (b : Bool) → is_some (first_other f ss) ≡ not b → (b ≡ true) ↔ AreOnOneGrid f ss
  on_one_grid ss b e = (λ is. grid_of_all ss (none_is (first_other f ss) (e ∙ ap not is)), λ h. not_false b (sym e ∙ none_off ss h))
