-- Merging a merged text with others, and the one plan over all texts.
use Rattle.std.proofs.Common.{◌≡◌, ℕ, zero, suc, ◌<◌, ◌+◌, List, [], ◌∷◌, ◌++◌, length, Bool, true, false, cond, Option, Some, None, refl, sym, ◌∙◌, ap, subst, arith}
use Rattle.std.specs.Prelude.{nat_lt, slice_get, unwrap_or}
use Rattle.std.specs.Option.{option_or}
use Rattle.std.specs.FinMap as map
use Rattle.std.proofs.lemmas.Bool.{ltb-true, lt-ltb}
use Rattle.std.proofs.lemmas.List.{length-append}
use Rattle.grid.specs.Place.{Transform}
use Rattle.shapes.specs.Fitting.{MapFits}
use Rattle.shapes.specs.Maps.{Layers}
use Rattle.shapes.specs.Union.{union}
use Rattle.topo_io.specs.Canon.{canon}
use Rattle.topo_io.specs.Means.{Means}
use Rattle.merging.specs.Leaves.{leaves, first_outside}
use Rattle.merging.specs.Plans.{union_at}
use Rattle.merging.specs.Laws.{union_empty}
use Rattle.merging.specs.declared.plan.Plan.{Plan}
use Rattle.merging.specs.Merge.{AreMeant, IsMergeOf, MeansUnion}
use Rattle.merging.specs.MergeLaws.{instead, through, MergesThroughTexts}
use Rattle.merging.proofs.UnionFits.{union_at_fits}
use Rattle.merging.proofs.LeafLemmas.{first_outside-append}
use Rattle.merging.proofs.PlanLemmas.{union_at-append}
use Rattle.merging.proofs.MergedTexts.{same_grids, same_maps, meant_length}

-- ---- indexes

get_left : {A : Type 0} (xs ys : List A) (i : ℕ) → i < length xs → slice_get (xs ++ ys) i ≡ slice_get xs i
get_left [] ys i lt = absurd (omega arith)
get_left (x ∷ xs) ys zero lt = refl
get_left (x ∷ xs) ys (suc i) lt = get_left xs ys i (omega arith)

get_right : {A : Type 0} (xs ys : List A) (i : ℕ) → slice_get (xs ++ ys) (length xs + i) ≡ slice_get ys i
get_right [] ys i = let e : 0 + i ≡ i = omega arith in ap (slice_get ys) e
get_right (x ∷ xs) ys i =
    let e : length (x ∷ xs) + i ≡ suc (length xs + i) = omega arith in
    ap (slice_get (x ∷ (xs ++ ys))) e ∙ get_right xs ys i

first_is_index : (n i : ℕ) (is : List ℕ) → first_outside n (i ∷ is) ≡ None → (i < n) × (first_outside n is ≡ None)
first_is_index n i is none = go (nat_lt i n) refl none
  where
    go : (b : Bool) → nat_lt i n ≡ b → cond b (first_outside n is) (Some i) ≡ None → (i < n) × (first_outside n is ≡ None)
    go true low e = (ltb-true i n low, e)
    go false low e = absurd cc

one_index : (n i : ℕ) (o : Option ℕ) → i < n → cond (nat_lt i n) o (Some i) ≡ o
one_index n i o lt = ap (λ b. cond b o (Some i)) (lt-ltb i n lt)

more_indexes : (n k : ℕ) (is : List ℕ) → first_outside n is ≡ None → first_outside (n + k) is ≡ None
more_indexes n k [] none = refl
more_indexes n k (i ∷ is) none =
    let (lt, rest) = first_is_index n i is none in
    one_index (n + k) i (first_outside (n + k) is) (omega (arith, lt)) ∙ more_indexes n k is rest

instead_indexes : (n k : ℕ) (ps : List ℕ) (i : ℕ) → first_outside n ps ≡ None → i < suc k → first_outside (n + k) (instead n ps i) ≡ None
instead_indexes n k ps zero none lt = more_indexes n k ps none
instead_indexes n k ps (suc i) none lt = one_index (n + k) (n + i) None (omega arith)

pub through_indexes : (n k : ℕ) (ps is : List ℕ) → first_outside n ps ≡ None → first_outside (suc k) is ≡ None → first_outside (n + k) (through n ps is) ≡ None
through_indexes n k ps [] none indexes = refl
through_indexes n k ps (i ∷ is) none indexes =
    let (lt, rest) = first_is_index (suc k) i is indexes in
    first_outside-append (n + k) (instead n ps i) (through n ps is)
    ∙ (λ j. option_or (instead_indexes n k ps i none lt j) (through_indexes n k ps is none rest j))

-- ---- unions

abbrev at : List Layers → ℕ → Layers
at ms i = unwrap_or (slice_get ms i) map.empty

union_left : (ms ns : List Layers) (is : List ℕ) → first_outside (length ms) is ≡ None → union_at ms is ≡ union_at (ms ++ ns) is
union_left ms ns [] none = refl
union_left ms ns (i ∷ is) none =
    let (lt, rest) = first_is_index (length ms) i is none in
    (λ j. union (unwrap_or (sym (get_left ms ns i lt) j) map.empty) (union_left ms ns is rest j))

at_instead : (ms ns : List Layers) (ps : List ℕ) (i : ℕ) → first_outside (length ms) ps ≡ None → at (union_at ms ps ∷ ns) i ≡ union_at (ms ++ ns) (instead (length ms) ps i)
at_instead ms ns ps zero none = union_left ms ns ps none
at_instead ms ns ps (suc i) none =
    ap (λ o. unwrap_or o map.empty) (sym (get_right ms ns i)) ∙ sym (union_empty (at (ms ++ ns) (length ms + i)))

pub union_through : (ms ns : List Layers) (ps is : List ℕ) → first_outside (length ms) ps ≡ None → union_at (union_at ms ps ∷ ns) is ≡ union_at (ms ++ ns) (through (length ms) ps is)
union_through ms ns ps [] none = refl
union_through ms ns ps (i ∷ is) none =
    (λ j. union (at_instead ms ns ps i none j) (union_through ms ns ps is none j))
    ∙ sym (union_at-append (ms ++ ns) (instead (length ms) ps i) (through (length ms) ps is))

-- ---- texts

meant_append : (g : Transform) (ts us : List (List ℕ)) (ms ns : List Layers) → AreMeant ts g ms → AreMeant us g ns → AreMeant (ts ++ us) g (ms ++ ns)
meant_append g [] us [] ns a b = b
meant_append g [] us (m ∷ ms) ns a b = absurd a
meant_append g (t ∷ ts) us [] ns a b = absurd a
meant_append g (t ∷ ts) us (m ∷ ms) ns a b = (a.0, meant_append g ts us ms ns a.1 b)

-- where a merged text is read back as what was merged, its merge with others is the merge of all
pub merged_through : (ts us : List (List ℕ)) (ps is t a : List ℕ) (x : IsMergeOf ts ps t) → Means t x.grid (union_at x.maps ps) → IsMergeOf (t ∷ us) is a
    → IsMergeOf (ts ++ us) (through (length ts) ps is) a
merged_through ts us ps is t a x back y = go y.grid y.maps y.meant y.text
  where
    long : length ts ≡ length x.maps
    long = meant_length x.grid ts x.maps x.meant

    inside : first_outside (length x.maps) ps ≡ None
    inside = ap (λ n. first_outside n ps) (sym long) ∙ x.indexes

    indexes : first_outside (length (ts ++ us)) (through (length ts) ps is) ≡ None
    indexes = ap (λ n. first_outside n (through (length ts) ps is)) (length-append ts us) ∙ through_indexes (length ts) (length us) ps is x.indexes y.indexes

    go : (h : Transform) (ms : List Layers) → AreMeant (t ∷ us) h ms → a ≡ canon h (union_at ms is) → IsMergeOf (ts ++ us) (through (length ts) ps is) a
    go h [] meant text = absurd meant
    go h (m ∷ ns) meant text =
        let grid : x.grid ≡ h = same_grids t x.grid h (union_at x.maps ps) m back meant.0 in
        let same : m ≡ union_at x.maps ps = same_maps t h x.grid m (union_at x.maps ps) meant.0 back in
        let whole : union_at (m ∷ ns) is ≡ union_at (x.maps ++ ns) (through (length ts) ps is) =
        ap (λ n. union_at (n ∷ ns) is) same ∙ union_through x.maps ns ps is inside
        ∙ ap (λ n. union_at (x.maps ++ ns) (through n ps is)) (sym long) in
        record {
          indexes = indexes;
          grid = h;
          maps = x.maps ++ ns;
          meant = meant_append h ts us x.maps ns (subst (λ k. AreMeant ts k x.maps) grid x.meant) meant.1;
          text = text ∙ ap (canon h) whole;
        }

pub merges_through_texts : MergesThroughTexts
merges_through_texts texts others p q t u x y = merged_through texts others (leaves p) (leaves q) t u x.merge x.means y

-- the merge whose text is read back as the map that it was written of
pub means_union : (texts : List (List ℕ)) (p : Plan) (t : List ℕ) (x : IsMergeOf texts (leaves p) t) (m : Layers) → m ≡ union_at x.maps (leaves p) → (MapFits x.grid m → Means t x.grid m)
    → MeansUnion texts (leaves p) t
means_union texts p t x m same back = record {
  merge = x;
  means = subst (Means t x.grid) same (back (subst (MapFits x.grid) (sym same) (union_at_fits x.grid texts x.maps x.meant (leaves p))));
}
