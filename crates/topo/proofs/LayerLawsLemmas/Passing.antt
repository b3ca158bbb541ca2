-- Which geometries stay: one pass over the geometries of a layer and the features that are taken out leaves those whose features are none of these.
use Rattle.std.proofs.Common.{◌≡◌, ℕ, zero, suc, ◌<◌, length, get_or, Option, None, option_map, arith, Bool, true, false, cond, not, ◌||◌, List, [], ◌∷◌, refl, sym, ap, ◌∙◌}
use Rattle.std.specs.Prelude.{map as map_list, unwrap_or}
use Rattle.std.specs.Cmp.{IsTotalOrder}
use Rattle.std.specs.Cmp.Lexicographic.{slice_cmp}
use Rattle.std.specs.FinMap as map
use Rattle.std.specs.List.{AllByRecursion, list_any}
use Rattle.std.specs.List.Sorted.{IsStrictlySortedBy}
use Rattle.std.specs.Ordering.{eq_by_cmp, is_eq, is_gt, is_ne, nat_cmp, ordering_reverse, ordering_then}
use Rattle.std.specs.declared.cmp.Ordering.{Ordering}
use Rattle.std.specs.declared.cmp.Ordering.TheVariants.{Less, Equal, Greater}
use Rattle.grid.specs.declared.pos.Pos.{Pos}
use Rattle.shapes.specs.Maps.{Features, Layers, features_at}
use Rattle.shapes.specs.Order.{feature_cmp, id_cmp, shape_cmp}
use Rattle.shapes.specs.OrderLaws.{feature_cmp_total}
use Rattle.shapes.specs.SetLaws.{contains-items, items-from_list}
use Rattle.shapes.specs.Sets as set
use Rattle.shapes.specs.contracts.shape.IdOrd.TheImpl as id
use Rattle.shapes.specs.declared.feature.Feature.{Feature}
use Rattle.chains.specs.Seen.{form_of}
use Rattle.theory.specs.Lists.{Pairwise}
use Rattle.theory.specs.Healing.{marked}
use Rattle.topo.specs.Features.{IsFeatureOf}
use Rattle.topo.specs.OfMap.{IsOf}
use Rattle.topo.specs.Parts.{LayerParts, TopologyParts}
use Rattle.topo.specs.declared.geom.Geom.{Geom}
use Rattle.topo.proofs.Stitched.{IsEntryOf, entries_of}
use Rattle.topo.specs.GeometryOrder.{HaveFeatures, LayersHaveFeatures, body_form, form_cmp}
use Rattle.topo.specs.LayerLaws.Leaving.{from_on, info_to, is_first, layer_less, order_to, others}
use Rattle.topo.specs.LayerLaws.Less.{remaining_layers, marks_at, marks_of}
use Rattle.topo.proofs.LayerLawsLemmas.Ascending.{items_ascend}
use Rattle.topo.proofs.FeatureOrder.{id_derived_is, shape_form, shapes_by_form, then_groups}
use Rattle.topo.proofs.LayerLawsLemmas.MergedSets.{all_weaker}

-- a geometry stands to a feature as the feature that it stitches to
pub order_means : (arcs : List (List Pos)) (f h : Feature) (g : Geom) → IsFeatureOf arcs f g → feature_cmp f h ≡ order_to arcs g h
unfolding feature_cmp order_to
order_means arcs f h g k =
    then_groups (id_cmp f.id h.id) (slice_cmp nat_cmp f.props.text h.props.text) (shape_cmp f.shape h.shape)
    ∙ (λ i. ordering_then (ordering_then (id_cmp (k.id i) h.id) (slice_cmp nat_cmp (k.props i).text h.props.text)) (shapes_by_form f.shape h.shape i))
    ∙ (λ i. ordering_then (info_to g h) (form_cmp (shape_form arcs f.shape g.body k.shape i) (form_of h.shape)))

-- where ids and properties differ, they alone tell
pub info_tells : (arcs : List (List Pos)) (g : Geom) (h : Feature) (r : Ordering) → r ≡ info_to g h → is_ne r ≡ true → r ≡ order_to arcs g h
unfolding order_to
info_tells arcs g h r e n =
    e ∙ decided (info_to g h) (form_cmp (body_form arcs g.body) (form_of h.shape)) (sym (ap is_ne e) ∙ n)
  where
    decided : (x y : Ordering) → is_ne x ≡ true → x ≡ ordering_then x y
    decided Less y k = refl
    decided Equal y k = absurd cc
    decided Greater y k = refl

-- from what the comparisons of ids and of properties answer
pub info_means : (g : Geom) (h : Feature) (r x y : Ordering) → r ≡ ordering_then x y → x ≡ id.cmp-value.it g.id h.id → y ≡ slice_cmp nat_cmp g.props.text h.props.text → r ≡ info_to g h
info_means g h r x y e p q = e ∙ (λ i. ordering_then ((p ∙ id_derived_is g.id h.id) i) (q i))

module _ {K : Type 0} (R : K → K → Ordering) (o : IsTotalOrder R) where
  -- what is below all members of a list is none of them
  none_above : (f : K) (rs : List K) → AllByRecursion (λ z. R f z ≡ Less) rs → list_any (eq_by_cmp R f) rs ≡ false
  none_above f [] h = refl
  none_above f (r ∷ rs) h = ap (λ x. is_eq x || list_any (eq_by_cmp R f) rs) h.0 ∙ none_above f rs h.1

  -- a member is looked for where the list goes on
  first_on : (f : K) (rs : List K) → IsStrictlySortedBy R rs → is_first R f (from_on R f rs) ≡ list_any (eq_by_cmp R f) rs
  unfolding IsStrictlySortedBy
  first_on f [] s = refl
  first_on f (r ∷ rs) s = go (R f r) refl (first_on f rs s.1)
    where
      go : (x : Ordering) → R f r ≡ x → is_first R f (from_on R f rs) ≡ list_any (eq_by_cmp R f) rs →
          is_first R f (cond (is_gt x) (from_on R f rs) (r ∷ rs)) ≡ (is_eq x || list_any (eq_by_cmp R f) rs)
      go Less k ih = ap is_eq k ∙ sym (none_above f rs (all_weaker (λ z. R r z ≡ Less) (λ z. R f z ≡ Less) (λ z. o.trans f r z k) rs s.0))
      go Equal k ih = ap is_eq k
      go Greater k ih = ih

  chosen : (P : List K → Type 0) (b : Bool) (xs ys : List K) → P xs → P ys → P (cond b xs ys)
  chosen P true xs ys h k = h
  chosen P false xs ys h k = k

  from_ascends : (f : K) (rs : List K) → IsStrictlySortedBy R rs → IsStrictlySortedBy R (from_on R f rs)
  unfolding IsStrictlySortedBy
  from_ascends f [] s = tt
  from_ascends f (r ∷ rs) s = chosen (IsStrictlySortedBy R) (is_gt (R f r)) (from_on R f rs) (r ∷ rs) (from_ascends f rs s.1) s

  -- what was passed over is none of the members behind
  later : (f g : K) → R f g ≡ Less → (rs : List K) → list_any (eq_by_cmp R g) (from_on R f rs) ≡ list_any (eq_by_cmp R g) rs
  later f g l [] = refl
  later f g l (r ∷ rs) = go (R f r) refl (later f g l rs)
    where
      above : R f r ≡ Greater → R g r ≡ Greater
      above k = o.antisymm g r ∙ ap ordering_reverse (o.trans r f g (o.antisymm r f ∙ ap ordering_reverse k) l)

      go : (x : Ordering) → R f r ≡ x → list_any (eq_by_cmp R g) (from_on R f rs) ≡ list_any (eq_by_cmp R g) rs →
          list_any (eq_by_cmp R g) (cond (is_gt x) (from_on R f rs) (r ∷ rs)) ≡ (eq_by_cmp R g r || list_any (eq_by_cmp R g) rs)
      go Less k ih = refl
      go Equal k ih = refl
      go Greater k ih = ih ∙ ap (λ x. is_eq x || list_any (eq_by_cmp R g) rs) (sym (above k))

  module _ {A : Type 0} (P : K → A → Type 0) (cmp : A → K → Ordering) (alike : (f : K) (g : A) → P f g → (h : K) → R f h ≡ cmp g h) where
    from_alike : (f : K) (g : A) → P f g → (rs : List K) → from_on cmp g rs ≡ from_on R f rs
    from_alike f g p [] = refl
    from_alike f g p (r ∷ rs) =
        let e = sym (alike f g p r) in
        let more = from_alike f g p rs in
        λ i. cond (is_gt (e i)) (more i) (r ∷ rs)

    first_alike : (f : K) (g : A) → P f g → (rs : List K) → is_first cmp g rs ≡ is_first R f rs
    first_alike f g p [] = refl
    first_alike f g p (r ∷ rs) = ap is_eq (sym (alike f g p r))

    agree_on : (f : K) (rs ss : List K) (fs : List K) → AllByRecursion (λ z. R f z ≡ Less) fs →
        AllByRecursion (λ z. list_any (eq_by_cmp R z) ss ≡ list_any (eq_by_cmp R z) rs) fs →
        AllByRecursion (λ z. list_any (eq_by_cmp R z) (from_on R f ss) ≡ list_any (eq_by_cmp R z) rs) fs
    agree_on f rs ss [] h k = tt
    agree_on f rs ss (g ∷ fs) h k = (later f g h.0 ss ∙ k.0, agree_on f rs ss fs h.1 k.1)

    pass_step : (rs fs : List K) (f : K) (g : A) (gs : List A) (ss : List K) → P f g → IsStrictlySortedBy R ss → list_any (eq_by_cmp R f) ss ≡ list_any (eq_by_cmp R f) rs →
        others cmp gs (from_on R f ss) ≡ marked (map_list (λ z. not (list_any (eq_by_cmp R z) rs)) fs) gs →
        others cmp (g ∷ gs) ss ≡ marked (map_list (λ z. not (list_any (eq_by_cmp R z) rs)) (f ∷ fs)) (g ∷ gs)
    pass_step rs fs f g gs ss p t a more =
        (λ i. cond (is_first cmp g (on i)) (others cmp gs (on i)) (g ∷ others cmp gs (on i)))
        ∙ (λ i. cond (here i) (more i) (g ∷ more i))
        ∙ turned (marked (map_list (λ z. not (list_any (eq_by_cmp R z) rs)) fs) gs) (list_any (eq_by_cmp R f) rs)
      where
        on : from_on cmp g ss ≡ from_on R f ss
        on = from_alike f g p ss

        here : is_first cmp g (from_on R f ss) ≡ list_any (eq_by_cmp R f) rs
        here = first_alike f g p (from_on R f ss) ∙ first_on f ss t ∙ a

        turned : (xs : List A) (b : Bool) → cond b xs (g ∷ xs) ≡ cond (not b) (g ∷ xs) xs
        turned xs true = refl
        turned xs false = refl

    -- the pass leaves those that are none of the list
    pass_leaves : (rs : List K) (fs : List K) (gs : List A) (ss : List K) → Pairwise P fs gs → IsStrictlySortedBy R fs → IsStrictlySortedBy R ss →
        AllByRecursion (λ z. list_any (eq_by_cmp R z) ss ≡ list_any (eq_by_cmp R z) rs) fs →
        others cmp gs ss ≡ marked (map_list (λ z. not (list_any (eq_by_cmp R z) rs)) fs) gs
    unfolding IsStrictlySortedBy
    pass_leaves rs [] [] ss p s t a = refl
    pass_leaves rs [] (g ∷ gs) ss p s t a = absurd p
    pass_leaves rs (f ∷ fs) [] ss p s t a = absurd p
    pass_leaves rs (f ∷ fs) (g ∷ gs) ss p s t a =
        pass_step rs fs f g gs ss p.0 t a.0 (pass_leaves rs fs gs (from_on R f ss) p.1 s.1 (from_ascends f ss t) (agree_on f rs ss fs s.0 a.1))

agree : {K : Type 0} (R : K → K → Ordering) (rs fs : List K) → AllByRecursion (λ z. list_any (eq_by_cmp R z) rs ≡ list_any (eq_by_cmp R z) rs) fs
agree R rs [] = tt
agree R rs (f ∷ fs) = (refl, agree R rs fs)

same_map : {A B : Type 0} (f g : A → B) → ((x : A) → f x ≡ g x) → (xs : List A) → map_list f xs ≡ map_list g xs
same_map f g e [] = refl
same_map f g e (x ∷ xs) =
    let here = e x in
    let more = same_map f g e xs in
    λ i. here i ∷ more i

module _ (arcs : List (List Pos)) (r : Layers) where
  layer_marked : (e : List ℕ × Features) (l : LayerParts) → IsEntryOf arcs e l →
      layer_less arcs r l ≡ record { name = l.name; geometries = marked (marks_at r e) l.geometries }
  layer_marked e l h =
      ap (λ gs. record { name = l.name; geometries = gs })
      (ap (λ n. others (order_to arcs) l.geometries (set.items (features_at r n))) (sym h.name)
      ∙ pass_leaves feature_cmp feature_cmp_total (IsFeatureOf arcs) (order_to arcs) (λ f g p k. order_means arcs f k g p)
      (set.items (features_at r e.0)) (set.items e.1) l.geometries (set.items (features_at r e.0))
      h.items (items_ascend e.1) (items_ascend (features_at r e.0)) (agree feature_cmp (set.items (features_at r e.0)) (set.items e.1))
      ∙ ap (λ ms. marked ms l.geometries)
      (same_map (λ f. not (list_any (eq_by_cmp feature_cmp f) (set.items (features_at r e.0)))) (λ f. not (set.contains (features_at r e.0) f))
      (λ f. ap not (sym (contains-items (features_at r e.0) f))) (set.items e.1)))

  layers_marked : (es : List (List ℕ × Features)) (ls : List LayerParts) → Pairwise (IsEntryOf arcs) es ls →
      map_list (layer_less arcs r) ls ≡ remaining_layers (map_list (marks_at r) es) ls
  layers_marked [] [] h = refl
  layers_marked [] (l ∷ ls) h = absurd h
  layers_marked (e ∷ es) [] h = absurd h
  layers_marked (e ∷ es) (l ∷ ls) h =
      let here = layer_marked e l h.0 in
      let more = layers_marked es ls h.1 in
      λ i. here i ∷ more i

-- the layers that the pass leaves are those that the marks leave
pub pass_marks : (m r : Layers) (t : TopologyParts) → IsOf m t → map_list (layer_less t.arcs.arcs r) t.layers ≡ remaining_layers (marks_of m r) t.layers
pass_marks m r t h = layers_marked t.arcs.arcs r (map.entries m) t.layers (entries_of m t h)

module _ (arcs : List (List Pos)) where
  geometries_have : (fs : List Feature) (gs : List Geom) → Pairwise (IsFeatureOf arcs) fs gs → HaveFeatures arcs gs
  geometries_have [] [] h = tt
  geometries_have [] (g ∷ gs) h = absurd h
  geometries_have (f ∷ fs) [] h = absurd h
  geometries_have (f ∷ fs) (g ∷ gs) h = ((f, h.0), geometries_have fs gs h.1)

  layers_have : (es : List (List ℕ × Features)) (ls : List LayerParts) → Pairwise (IsEntryOf arcs) es ls → LayersHaveFeatures arcs ls
  layers_have [] [] h = tt
  layers_have [] (l ∷ ls) h = absurd h
  layers_have (e ∷ es) [] h = absurd h
  layers_have (e ∷ es) (l ∷ ls) h = (geometries_have (set.items e.1) l.geometries h.0.items, layers_have es ls h.1)

-- each geometry of a map's topology stitches to a feature
pub all_have : (m : Layers) (t : TopologyParts) → IsOf m t → LayersHaveFeatures t.arcs.arcs t.layers
all_have m t h = layers_have t.arcs.arcs (map.entries m) t.layers (entries_of m t h)

-- a map has nothing under a name that is no layer
pub none_under : {X : Type 0} (f : X → Features) (o : Option X) (m : Layers) (name : List ℕ) → option_map f o ≡ map.get m name → o ≡ None → [] ≡ set.items (features_at m name)
unfolding IsStrictlySortedBy
none_under f o m name e n = sym (items-from_list feature_cmp_total [] tt) ∙ ap (λ w. set.items (unwrap_or w set.empty)) (sym (ap (option_map f) n) ∙ e)

pub at_place : {X : Type 0} (P : X → Type 0) (xs : List X) (i : ℕ) (d : X) → AllByRecursion P xs → i < length xs → P (get_or xs i d)
at_place P [] i d h lt = absurd (omega (arith, lt))
at_place P (x ∷ xs) zero d h lt = h.0
at_place P (x ∷ xs) (suc i) d h lt = at_place P xs i d h.1 (omega (arith, lt))
