-- The entries of a map: its layers, and what it holds as plain data.
use Rattle.std.proofs.Common.{◌≡◌, ℕ, IsTrue, T, Bool, true, false, ◌&&◌, ◌||◌, List, [], ◌∷◌, map as map_list, is_some, inl, inr, refl, sym, ap, ◌∙◌, subst}
use Rattle.std.proofs.lemmas.Bool.{or_cases, or_right}
use Rattle.std.specs.Cmp.{IsTotalOrder, Equal-is, tied_itself}
use Rattle.std.specs.Cmp.Lexicographic.{slice_cmp, nat_list_cmp_total}
use Rattle.std.specs.FinMap as map
use Rattle.std.specs.FinMap.{IsAntisymmetric}
use Rattle.std.specs.List.{list_any}
use Rattle.std.specs.Ordering.{is_eq, is_lt, nat_cmp, eq_by_cmp}
use Rattle.std.specs.declared.cmp.Ordering.{Ordering}
use Rattle.std.specs.declared.cmp.Ordering.TheVariants.{Less, Equal, Greater}
use Rattle.theory.specs.Arcs.{Ascends}
use Rattle.theory.specs.Lists.{Has}
use Rattle.theory.proofs.ListsOfLists.{Has-map, map_has}
use Rattle.shapes.specs.Sets as set
use Rattle.shapes.specs.SetLaws.{contains-items}
use Rattle.shapes.specs.Maps.{Layers, Features, features_at}
use Rattle.shapes.specs.Order.{feature_cmp}
use Rattle.shapes.specs.OrderLaws.{feature_cmp_total, same_feature, same_text}
use Rattle.shapes.specs.declared.feature.Feature.{Feature}
use Rattle.reading.specs.Meant.{AreFeatures, AreLayers}
use Rattle.reading.specs.Plain.{Plain, plain}
use Rattle.shapes.proofs.Entries.{found, at_entry}

-- ---- members by their order

module _ {K : Type 0} (R : K → K → Ordering) (o : IsTotalOrder R) (same : IsAntisymmetric R) where
  pub any_has : (q : K) (ks : List K) → list_any (eq_by_cmp R q) ks ≡ true → Has q ks
  any_has q [] e = cc
  any_has q (k ∷ ks) e =
      elim (or_cases (eq_by_cmp R q k) (list_any (eq_by_cmp R q) ks) e) [
        | inl h ↦ inl (same q k ((Equal-is (R q k)).0 h))
        | inr h ↦ inr (any_has q ks h)
      ]

  has_any : (q : K) (ks : List K) → Has q ks → list_any (eq_by_cmp R q) ks ≡ true
  has_any q [] h = absurd h
  has_any q (k ∷ ks) (inl e) =
      subst (λ w. list_any (eq_by_cmp R w) (k ∷ ks) ≡ true) (sym e) (ap (λ r. is_eq r || list_any (eq_by_cmp R k) ks) (tied_itself o k))
  has_any q (k ∷ ks) (inr h) = or_right (eq_by_cmp R q k) (list_any (eq_by_cmp R q) ks) (has_any q ks h)

pub holds_item : (s : Features) (f : Feature) → Has f (set.items s) → set.contains s f ≡ true
holds_item s f h = contains-items s f ∙ has_any feature_cmp feature_cmp_total same_feature f (set.items s) h

pub item_held : (s : Features) (f : Feature) → set.contains s f ≡ true → Has f (set.items s)
item_held s f h = any_has feature_cmp feature_cmp_total same_feature f (set.items s) (sym (contains-items s f) ∙ h)

-- ---- names

pub has_name : (m : Layers) (e : List ℕ × Features) → Has e (map.entries m) → IsTrue (map.contains_key m e.0)
has_name m e h = ap is_some (map.get-entries m e.0 ∙ found (slice_cmp nat_cmp) nat_list_cmp_total (map.entries m) (map.entries_sorted m) e h)

left : (a b : Bool) → T (a && b) → T a
left true b h = tt
left false b h = absurd h

right : (a b : Bool) → T (a && b) → T b
right true b h = h
right false b h = absurd h

is_less : (r : Ordering) → T (is_lt r) → r ≡ Less
is_less Less h = refl
is_less Equal h = absurd h
is_less Greater h = absurd h

module _ {X : Type 0} where
  below : (k : List ℕ) (es : List (List ℕ × X)) → T (map.Entries.below_all (slice_cmp nat_cmp) k es) → (y : List ℕ) → Has y (map_list (λ e. e.0) es) → slice_cmp nat_cmp k y ≡ Less
  below k [] b y h = absurd h
  below k (e ∷ es) b y (inl p) =
      subst (λ w. slice_cmp nat_cmp k w ≡ Less) (sym p) (is_less (slice_cmp nat_cmp k e.0) (left (is_lt (slice_cmp nat_cmp k e.0)) (map.Entries.below_all (slice_cmp nat_cmp) k es) b))
  below k (e ∷ es) b y (inr h) = below k es (right (is_lt (slice_cmp nat_cmp k e.0)) (map.Entries.below_all (slice_cmp nat_cmp) k es) b) y h

  sorted_ascends : (es : List (List ℕ × X)) → T (map.is_sorted (slice_cmp nat_cmp) es) → Ascends (slice_cmp nat_cmp) (map_list (λ e. e.0) es)
  sorted_ascends [] s = tt
  sorted_ascends (e ∷ es) s =
      (below e.0 es (left (map.Entries.below_all (slice_cmp nat_cmp) e.0 es) (map.is_sorted (slice_cmp nat_cmp) es) s), sorted_ascends es (right (map.Entries.below_all (slice_cmp nat_cmp) e.0 es) (map.is_sorted (slice_cmp nat_cmp) es) s))

-- the names of the layers ascend
pub names_ascend : (m : Layers) → Ascends (slice_cmp nat_cmp) (map_list (λ e. e.0) (map.entries m))
names_ascend m = sorted_ascends (map.entries m) (map.entries_sorted m)

-- ---- plain data

-- a layer as plain data, in its order
abbrev pub meant : List ℕ × Features → List ℕ × List Plain
meant e = (e.0, map_list plain (set.items e.1))

holds : (s : Features) → AreFeatures s (map_list plain (set.items s))
holds s = record {
  only = λ f h. Has-map plain (set.items s) f (item_held s f h);
  all = λ p h. let (f, there, e) = map_has plain (set.items s) p h in (f, holds_item s f there, sym e);
}

module _ (m : Layers) where
  named : (n : List ℕ) → IsTrue (map.contains_key m n) → Has n (map_list (λ l. l.0) (map_list meant (map.entries m)))
  named n h =
      let (e, there, is) = map_has (λ (e : List ℕ × Features). e.0) (map.entries m) n (any_has (slice_cmp nat_cmp) nat_list_cmp_total same_text n (map.keys m) (sym (map.contains_key-keys m n) ∙ h)) in
      subst (λ w. Has w (map_list (λ l. l.0) (map_list meant (map.entries m)))) (sym is) (Has-map (λ l. l.0) (map_list meant (map.entries m)) (meant e) (Has-map meant (map.entries m) e there))

  name_held : (n : List ℕ) → Has n (map_list (λ l. l.0) (map_list meant (map.entries m))) → IsTrue (map.contains_key m n)
  name_held n h =
      let (l, there, is) = map_has (λ (l : List ℕ × List Plain). l.0) (map_list meant (map.entries m)) n h in
      let (e, at, same) = map_has meant (map.entries m) l there in
      subst (λ w. IsTrue (map.contains_key m w)) (sym (is ∙ ap (λ l. l.0) same)) (has_name m e at)

  -- the map holds the features of its layers
  pub holds_layers : AreLayers m (map_list meant (map.entries m))
  holds_layers = record {
    names = λ n. (named n, name_held n);
    features = λ n ps h.
        let (e, there, is) = map_has meant (map.entries m) (n, ps) h in
        let at : features_at m n ≡ e.1 = ap (features_at m) (ap (λ l. l.0) is) ∙ at_entry m e there in
        subst (λ (s : Features). AreFeatures s ps) (sym at) (subst (AreFeatures e.1) (sym (ap (λ l. l.1) is)) (holds e.1));
  }
