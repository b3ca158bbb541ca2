-- Two maps are alike exactly where nothing is told to differ between them.
use Rattle.std.proofs.Common.{◌≡◌, ◌+◌, ◌<◌, ◌≤◌, ◌⊎◌, ◌++◌, ◌==◌, ◌&&◌, ℕ, suc, Bool, true, false, List, [], ◌∷◌, inl, inr, refl, sym, ap, ◌∙◌, subst, arith, length, Option, Some, None, IsSome, is_some, slice_get, get_or, vec_len, take}
use Rattle.std.specs.Borrow.{Bor}
use Rattle.std.specs.Prelude.{◌↔◌, IfNone, IfSome, IsTrue, not, unwrap_or, map as map_list}
use Rattle.std.specs.Cmp.{unsigned_Decides}
use Rattle.std.specs.Cmp.Lexicographic.{nat_list_cmp_total, slice_cmp}
use Rattle.std.specs.FinMap as map
use Rattle.std.specs.List.{list_all}
use Rattle.std.specs.List.Sorted.{IsStrictlySortedBy}
use Rattle.std.specs.Option.{option_map}
use Rattle.std.specs.Ordering.{nat_cmp}
use Rattle.std.proofs.Math.Seq.{take-suc}
use Rattle.std.proofs.lemmas.List.{take_all}
use Rattle.std.proofs.lemmas.Option.{slice_get-map}
use Rattle.chains.specs.Seen.{geometry_of}
use Rattle.shapes.specs.Maps.{Features, Layers, features_at}
use Rattle.shapes.specs.OrderLaws.{feature_cmp_total, same_feature, same_text}
use Rattle.shapes.specs.SetLaws.{same_set}
use Rattle.shapes.specs.Sets as set
use Rattle.shapes.specs.Union.{union}
use Rattle.shapes.specs.declared.feature.Feature.{Feature}
use Rattle.shapes.specs.declared.shape.Id.TheVariants as ids
use Rattle.theory.specs.Lists.{Has, Pairwise}
use Rattle.theory.proofs.ListsOfLists.{get_has, has_get, map_has}
use Rattle.shapes.specs.Parts.{spelled_text}
use Rattle.topo.specs.OfMap.{IsOf}
use Rattle.topo.specs.Parts.{IsOfLayerNamed, LayerParts, TopologyParts}
use Rattle.topo.specs.declared.geom.Geom.{Geom}
use Rattle.query.proofs.LayerFeatures.{named_features, not_named}
use Rattle.topo_io.proofs.Entries.{any_has, has_name, holds_item, item_held}
use Rattle.compare.specs.Compared.{IsComparisonOf, IsNumberOf, IsPairOf, feature_id, name_of}
use Rattle.compare.specs.Differences.{ArePartnersBy, IsDifferenceBy}
use Rattle.compare.specs.Keyed.{feature_key}
use Rattle.compare.specs.Pairing.{IsPairing}
use Rattle.compare.specs.declared.comparison.Comparison.{Comparison}
use Rattle.compare.specs.declared.difference.Changed.{Changed}
use Rattle.compare.specs.declared.difference.LayerDifference.{LayerDifference}
use Rattle.compare.specs.declared.pairs.LayerPair.{LayerPair}
use Rattle.compare.proofs.Alike.{from_a, from_b}
use Rattle.compare.proofs.Recutting.{same_names}
use Rattle.difference_text.specs.DifferenceText.{AgreeAt, AreAllChanges, AreChanges, AreChangesOf, ArePairsAsked, IsDifferenceAsked, IsNamed, IsPlaceAmong, LackLayer, is_same_layer, single_number, changed_numbers}
use Rattle.difference_text.specs.declared.difference.LayerChanges.{LayerChanges}

-- ---- lists between which nothing differs

nobody : {A : Type 0} {xs : List A} → xs ≡ [] → (x : A) → ¬ Has x xs
nobody e x h = absurd (subst (Has x) e h)

empty_list : {A : Type 0} (xs : List A) → ((x : A) → ¬ Has x xs) → xs ≡ []
empty_list [] none = refl
empty_list (x ∷ xs) none = absurd (none x (inl refl))

no_map : {A B : Type 0} (f : A → B) (xs : List A) → map_list f xs ≡ [] → xs ≡ []
no_map f [] e = refl
no_map f (x ∷ xs) e = absurd cc

one_there : {A : Type 0} (xs : List A) (i k : ℕ) (x y : A) → slice_get xs i ≡ Some x → slice_get xs k ≡ Some y → k ≡ i → x ≡ y
one_there xs i k x y a b e = let t : Some x ≡ Some y = sym a ∙ ap (slice_get xs) (sym e) ∙ b in cc

-- the three lists are empty
record IsNone (d : LayerDifference) : Type 0 where
  removed : d.removed.items ≡ []
  added : d.added.items ≡ []
  changed : d.changed.items ≡ []

module _ {A K : Type 0} (no_key : K) (key : A → K) where
  flipped : (xs us : List A) (i j : ℕ) → ArePartnersBy no_key key xs us i j → ArePartnersBy no_key key us xs j i
  flipped xs us i j p = record { old = p.new; new = p.old; of_old = p.of_new; of_new = p.of_old; same = sym p.same; differ = λ e. p.differ (sym e) }

  module _ (olds news : List A) (d : LayerDifference) (is : IsDifferenceBy no_key key olds news d) (none : IsNone d) where
    no_partners : (i j : ℕ) → ¬ ArePartnersBy no_key key olds news i j
    no_partners i j p = let c : Changed = record { old = i; new = j } in nobody none.changed c ((is.changed c).1 p)

    stays : (x : A) → Has x olds → ¬ (¬ Has x news)
    stays x there not =
        let (i, at) = has_get olds x there in
        nobody none.removed i ((is.removed i).1 (record { member = x; at = at; none = not; alone = λ j p. no_partners i j p }))

    was : (x : A) → Has x news → ¬ (¬ Has x olds)
    was x there not =
        let (j, at) = has_get news x there in
        nobody none.added j ((is.added j).1 (record { member = x; at = at; none = not; alone = λ i p. no_partners i j (flipped news olds j i p) }))

  same_lists : (xs : List A) (d : LayerDifference) → IsDifferenceBy no_key key xs xs d → IsNone d
  same_lists xs d is = record {
    removed = empty_list d.removed.items (λ i h. let g = (is.removed i).0 h in g.none (get_has xs i g.member g.at));
    added = empty_list d.added.items (λ j h. let g = (is.added j).0 h in g.none (get_has xs j g.member g.at));
    changed =
        empty_list d.changed.items (λ c h.
        let p = (is.changed c).0 h in
        p.differ (one_there xs c.old c.new p.old p.new p.of_old.at p.of_new.at (p.of_old.only c.new p.new p.of_new.at (sym p.same))));
  }

same_features : (s t : Features) → ((f : Feature) → Has f (set.items s) → ¬ (¬ Has f (set.items t))) → ((f : Feature) → Has f (set.items t) → ¬ (¬ Has f (set.items s))) → s ≡ t
same_features s t there back = same_set feature_cmp_total same_feature s t (λ f. go f (set.contains s f) (set.contains t f) refl refl)
  where
    go : (f : Feature) (a b : Bool) → set.contains s f ≡ a → set.contains t f ≡ b → set.contains s f ≡ set.contains t f
    go f true true e h = e ∙ sym h
    go f false false e h = e ∙ sym h
    go f true false e h = absurd (there f (item_held s f e) (λ k. let z : true ≡ false = sym (holds_item t f k) ∙ h in cc))
    go f false true e h = absurd (back f (item_held t f h) (λ k. let z : true ≡ false = sym (holds_item s f k) ∙ e in cc))

none_differs : (key : Option (List ℕ)) (s t : Features) (d : LayerDifference) → IsDifferenceAsked key (set.items s) (set.items t) d → IsNone d → s ≡ t
none_differs None s t d is none =
    same_features s t (stays ids.None feature_id (set.items s) (set.items t) d is none) (was ids.None feature_id (set.items s) (set.items t) d is none)
none_differs (Some property) s t d is none =
    same_features s t (stays None (feature_key property) (set.items s) (set.items t) d is none) (was None (feature_key property) (set.items s) (set.items t) d is none)

differs_none : (key : Option (List ℕ)) (fs : List Feature) (d : LayerDifference) → IsDifferenceAsked key fs fs d → IsNone d
differs_none None fs d is = same_lists ids.None feature_id fs d is
differs_none (Some property) fs d is = same_lists None (feature_key property) fs d is

-- ---- the layers of a name

-- both layers are there, and nothing differs between them
record IsSame (l : LayerChanges) : Type 0 where
  old : IsSome l.layers.old
  new : IsSome l.layers.new
  removed : l.removed.items ≡ []
  added : l.added.items ≡ []
  changed : l.changed.items ≡ []

name_there : (m : Layers) (q : List ℕ) → Has q (map.keys m) → is_some (map.get m q) ≡ true
name_there m q h =
    let (e, there, named) = map_has (λ e. e.0) (map.entries m) q h in
    subst (λ w. is_some (map.get m w) ≡ true) (sym named) (has_name m e there)

there_name : (m : Layers) (q : List ℕ) → is_some (map.get m q) ≡ true → Has q (map.keys m)
there_name m q h = any_has (slice_cmp nat_cmp) nat_list_cmp_total same_text q (map.keys m) (sym (map.contains_key-keys m q) ∙ h)

placed_some : (names : List (List ℕ)) (q : List ℕ) (o : Option ℕ) → IsPlaceAmong names q o → IsSome o → Has q names
placed_some names q None p h = absurd cc
placed_some names q (Some k) p h = get_has names k q p

some_placed : (names : List (List ℕ)) (q : List ℕ) (o : Option ℕ) → IsPlaceAmong names q o → Has q names → IsSome o
some_placed names q None p h = absurd (p h)
some_placed names q (Some k) p h = refl

got_some : (m : Layers) (q : List ℕ) → Has q (map.keys m) → map.get m q ≡ Some (features_at m q)
got_some m q h = go (map.get m q) (name_there m q h)
  where
    go : (o : Option Features) → is_some o ≡ true → o ≡ Some (unwrap_or o set.empty)
    go None e = absurd cc
    go (Some s) e = refl

module _ (key : Option (List ℕ)) (m n : Layers) (q : List ℕ) (l : LayerChanges) (h : AreChangesOf key m n q l) where
  same_alike : IsSame l → map.get m q ≡ map.get n q
  same_alike s =
      let none : IsNone h.changes.difference = record {
        removed = sym h.changes.removed ∙ ap (map_list single_number) s.removed;
        added = sym h.changes.added ∙ ap (map_list single_number) s.added;
        changed = sym h.changes.changed ∙ ap (map_list changed_numbers) s.changed;
      } in
      got_some m q (placed_some (map.keys m) q l.layers.old h.old s.old)
      ∙ ap Some (none_differs key (features_at m q) (features_at n q) h.changes.difference h.changes.is none)
      ∙ sym (got_some n q (placed_some (map.keys n) q l.layers.new h.new s.new))

  alike_same : Has q (map.keys m) ⊎ Has q (map.keys n) → map.get m q ≡ map.get n q → IsSame l
  alike_same there e =
      let old : Has q (map.keys m) = elim there [ inl o ↦ o | inr o ↦ there_name m q (ap is_some e ∙ name_there n q o) ] in
      let new : Has q (map.keys n) = elim there [ inl o ↦ there_name n q (sym (ap is_some e) ∙ name_there m q o) | inr o ↦ o ] in
      let same : features_at m q ≡ features_at n q = ap (λ o. unwrap_or o set.empty) e in
      let none : IsNone h.changes.difference =
      differs_none key (set.items (features_at m q)) h.changes.difference
      (subst (λ s. IsDifferenceAsked key (set.items (features_at m q)) (set.items s) h.changes.difference) (sym same) h.changes.is) in
      record {
        old = some_placed (map.keys m) q l.layers.old h.old old;
        new = some_placed (map.keys n) q l.layers.new h.new new;
        removed = no_map single_number l.removed.items (h.changes.removed ∙ none.removed);
        added = no_map single_number l.added.items (h.changes.added ∙ none.added);
        changed = no_map changed_numbers l.changed.items (h.changes.changed ∙ none.changed);
      }

-- ---- all layers

module _ (layer key : Option (List ℕ)) (m n : Layers) (ls : List LayerChanges) (h : AreAllChanges layer key m n ls) where
  alike_at : ((l : LayerChanges) → Has l ls → IsSame l) → (q : List ℕ) → IsNamed layer q → map.get m q ≡ map.get n q
  alike_at all q named = go (map.get m q) (map.get n q) refl refl
    where
      asked : Has q (map.keys m) ⊎ Has q (map.keys n) → map.get m q ≡ map.get n q
      asked there =
          let (i, at) = has_get h.names q ((h.asked.exact q).1 (named, there)) in
          let (l, place, of) = from_a (AreChangesOf key m n) h.names ls h.changes i q at in
          same_alike key m n q l of (all l (get_has ls i l place))

      go : (a b : Option Features) → map.get m q ≡ a → map.get n q ≡ b → map.get m q ≡ map.get n q
      go None None e f = e ∙ sym f
      go (Some s) b e f = asked (inl (there_name m q (ap is_some e)))
      go None (Some t) e f = asked (inr (there_name n q (ap is_some f)))

  all_alike : (o : Option (List ℕ)) → o ≡ layer → ((l : LayerChanges) → Has l ls → IsSame l) → AgreeAt o m n
  all_alike None e all = map.same_map nat_list_cmp_total same_text m n (λ q. alike_at all q (subst (λ w. IsNamed w q) e tt))
  all_alike (Some name) e all = alike_at all name (subst (λ w. IsNamed w name) e refl)

  at_name : (o : Option (List ℕ)) → o ≡ layer → AgreeAt o m n → (q : List ℕ) → IsNamed o q → map.get m q ≡ map.get n q
  at_name None e alike q named = ap (λ w. map.get w q) alike
  at_name (Some name) e alike q named = subst (λ w. map.get m w ≡ map.get n w) (sym named) alike

  alike_all : AgreeAt layer m n → (l : LayerChanges) → Has l ls → IsSame l
  alike_all alike l there =
      let (i, at) = has_get ls l there in
      let (q, place, of) = from_b (AreChangesOf key m n) h.names ls h.changes i l at in
      let asked = (h.asked.exact q).0 (get_has h.names i q place) in
      alike_same key m n q l of asked.1 (at_name layer refl alike q asked.0)

-- ---- as the code tells it

both : (a b : Bool) → (a && b) ≡ true → (a ≡ true) × (b ≡ true)
both true b e = (refl, e)
both false b e = absurd cc

and_both : (a b : Bool) → a ≡ true → b ≡ true → (a && b) ≡ true
and_both true b e f = f
and_both false b e f = absurd cc

no_length : {A : Type 0} (xs : List A) (n : ℕ) → n ≡ length xs → (n == 0) ≡ true → xs ≡ []
no_length [] n e f = refl
no_length (x ∷ xs) n e f = let z : n ≡ 0 = (unsigned_Decides n 0).0 f in absurd (omega arith)

length_none : {A : Type 0} (xs : List A) (n : ℕ) → n ≡ length xs → xs ≡ [] → (n == 0) ≡ true
length_none xs n e f = (unsigned_Decides n 0).1 (e ∙ ap length f)

if_same : (l : LayerChanges) → is_same_layer l ≡ true → IsSame l
if_same l e =
    let a = both (is_some l.layers.old) _ e in
    let b = both (is_some l.layers.new) _ a.1 in
    let c = both (vec_len l.removed == 0) _ b.1 in
    let d = both (vec_len l.added == 0) (vec_len l.changed == 0) c.1 in
    record {
      old = a.0;
      new = b.0;
      removed = no_length l.removed.items (vec_len l.removed) (omega (arith, l.removed.ok.0)) c.0;
      added = no_length l.added.items (vec_len l.added) (omega (arith, l.added.ok.0)) d.0;
      changed = no_length l.changed.items (vec_len l.changed) (omega (arith, l.changed.ok.0)) d.1;
    }

same_means : (l : LayerChanges) → IsSame l → is_same_layer l ≡ true
same_means l s =
    and_both (is_some l.layers.old) _ s.old
    (and_both (is_some l.layers.new) _ s.new
    (and_both (vec_len l.removed == 0) _ (length_none l.removed.items (vec_len l.removed) (omega (arith, l.removed.ok.0)) s.removed)
    (and_both (vec_len l.added == 0) (vec_len l.changed == 0) (length_none l.added.items (vec_len l.added) (omega (arith, l.added.ok.0)) s.added)
    (length_none l.changed.items (vec_len l.changed) (omega (arith, l.changed.ok.0)) s.changed))))

all_pass : {A : Type 0} (p : A → Bool) (xs : List A) → list_all p xs ≡ true → (x : A) → Has x xs → p x ≡ true
all_pass p [] e x h = absurd h
all_pass p (y ∷ xs) e x (inl f) = ap p f ∙ (both (p y) (list_all p xs) e).0
all_pass p (y ∷ xs) e x (inr h) = all_pass p xs (both (p y) (list_all p xs) e).1 x h

pass_all : {A : Type 0} (p : A → Bool) (xs : List A) → ((x : A) → Has x xs → p x ≡ true) → list_all p xs ≡ true
pass_all p [] f = refl
pass_all p (x ∷ xs) f = and_both (p x) (list_all p xs) (f x (inl refl)) (pass_all p xs (λ y h. f y (inr h)))

-- nothing is told exactly where the maps are alike
pub if_alike : (layer key : Option (List ℕ)) (m n : Layers) (ls : List LayerChanges) → AreAllChanges layer key m n ls → (list_all is_same_layer ls ≡ true) ↔ AgreeAt layer m n
if_alike layer key m n ls h = (
  (λ e. all_alike layer key m n ls h layer refl (λ l there. if_same l (all_pass is_same_layer ls e l there))),
  (λ alike. pass_all is_same_layer ls (λ l there. same_means l (alike_all layer key m n ls h alike l there))),
)

turned : (e : Bool) → not e ≡ false → e ≡ true
turned true h = refl
turned false h = absurd cc

-- the answer whether anything differs
pub answer_alike : {P : Type 0} (a e : Bool) → e ≡ a → (a ≡ true) ↔ P → (not e ≡ false) ↔ P
answer_alike a e is h = ((λ f. h.0 (sym is ∙ turned e f)), (λ p. ap not (is ∙ h.1 p)))

-- ---- the layers that are asked for

-- a topology has a layer of the name exactly where its map has
pub layer_there : (t : TopologyParts) (m : Layers) → IsOf m t → (name : List ℕ) (r : Option (Bor (List Geom))) → IfSome r (λ gs. IsOfLayerNamed t.layers name gs.now) →
    IfNone r ((l : LayerParts) → Has l t.layers → ¬ (spelled_text l.name ≡ name)) → (b : Bool) → b ≡ is_some r → IsTrue b ↔ IsTrue (map.contains_key m name)
layer_there t m of name (Some gs) found none b e = ((λ f. (named_features m t of name gs.now found).0), (λ h. e))
layer_there t m of name None found none b e = ((λ f. let z : true ≡ false = sym f ∙ e in cc), (λ h. absurd (not_named m t of name none h)))

-- a name that one of the maps has
pub known_name : (m n : Layers) (name : List ℕ) → ¬ LackLayer (Some name) m n → Has name (map.keys m) ⊎ Has name (map.keys n)
known_name m n name asked = go (map.contains_key m name) (map.contains_key n name) refl refl
  where
    go : (a b : Bool) → map.contains_key m name ≡ a → map.contains_key n name ≡ b → Has name (map.keys m) ⊎ Has name (map.keys n)
    go true b e f = inl (there_name m name e)
    go false true e f = inr (there_name n name f)
    go false false e f = absurd (asked ((λ h. let z : true ≡ false = sym h ∙ e in cc), (λ h. let z : true ≡ false = sym h ∙ f in cc)))

-- ---- the pairs of layers that are asked for

module _ (m n : Layers) (c : Comparison) (h : IsComparisonOf m n c) where
  old_names : map.keys m ≡ map_list name_of c.old.items
  old_names = same_names (geometry_of (union m n)) c.arcs.arcs (map.entries m) c.old.items h.old

  new_names : map.keys n ≡ map_list name_of c.new.items
  new_names = same_names (geometry_of (union m n)) c.arcs.arcs (map.entries n) c.new.items h.new

  pub all_asked : (ps : List LayerPair) → IsPairing c.old.items c.new.items ps → ArePairsAsked None m n c ps
  all_asked ps p = record {
    names = p.names;
    asked = record {
      ascend = p.ascend;
      exact = λ q. (
        (λ k. (tt, elim ((p.exact q).0 k) [ inl o ↦ inl (subst (Has q) (sym old_names) o) | inr o ↦ inr (subst (Has q) (sym new_names) o) ])),
        (λ k. (p.exact q).1 (elim k.1 [ inl o ↦ inl (subst (Has q) old_names o) | inr o ↦ inr (subst (Has q) new_names o) ])),
      );
    };
    pairs = p.pairs;
  }

  numbered : (ls : List LayerParts) (q : List ℕ) (o : Option ℕ) → IsNumberOf ls q o → IsPlaceAmong (map_list name_of ls) q o
  numbered ls q None is = λ k. let (l, there, e) = map_has name_of ls q k in is l there (sym e)
  numbered ls q (Some k) (l, at, named) = slice_get-map name_of ls k ∙ ap (option_map name_of) at ∙ ap Some named

  old_place : (q : List ℕ) (p : LayerPair) → IsPairOf c q p → IsPlaceAmong (map.keys m) q p.old
  old_place q p is = subst (λ w. IsPlaceAmong w q p.old) (sym old_names) (numbered c.old.items q p.old is.old)

  new_place : (q : List ℕ) (p : LayerPair) → IsPairOf c q p → IsPlaceAmong (map.keys n) q p.new
  new_place q p is = subst (λ w. IsPlaceAmong w q p.new) (sym new_names) (numbered c.new.items q p.new is.new)

  pub one_asked : (name : List ℕ) (p : LayerPair) (ps : List LayerPair) → IsPairOf c name p → Has name (map.keys m) ⊎ Has name (map.keys n) → ps ≡ p ∷ [] → ArePairsAsked (Some name) m n c ps
  unfolding IsStrictlySortedBy
  one_asked name p ps is known e =
      record {
        names = name ∷ [];
        asked = record {
          ascend = (tt, tt);
          exact = λ q. (
            (λ k. elim k [ inl f ↦ (f, subst (λ w. Has w (map.keys m) ⊎ Has w (map.keys n)) (sym f) known) | inr f ↦ absurd f ]),
            (λ k. inl k.0),
          );
        };
        pairs = subst (Pairwise (IsPairOf c) (name ∷ [])) (sym e) (is, tt);
      }

-- ---- what is told of each pair

pub record IsMeantOf (c : Comparison) (key : Option (List ℕ)) (p : LayerPair) (l : LayerChanges) : Type 0 where
  pub pair : l.layers ≡ p
  pub changes : (m n : Layers) (q : List ℕ) → IsComparisonOf m n c → IsPairOf c q p → AreChanges key (set.items (features_at m q)) (set.items (features_at n q)) l

pub all_means : (layer key : Option (List ℕ)) (m n : Layers) (c : Comparison) → IsComparisonOf m n c → (ps : List LayerPair) (ls : List LayerChanges) → ArePairsAsked layer m n c ps →
    Pairwise (IsMeantOf c key) ps ls → AreAllChanges layer key m n ls
all_means layer key m n c h ps ls a t = record { names = a.names; asked = a.asked; changes = go a.names ps ls a.pairs t }
  where
    go : (qs : List (List ℕ)) (ps : List LayerPair) (ls : List LayerChanges) → Pairwise (IsPairOf c) qs ps → Pairwise (IsMeantOf c key) ps ls → Pairwise (AreChangesOf key m n) qs ls
    go [] [] [] p t = tt
    go [] [] (l ∷ ls) p t = absurd t
    go [] (x ∷ ps) ls p t = absurd p
    go (q ∷ qs) [] ls p t = absurd p
    go (q ∷ qs) (x ∷ ps) [] p t = absurd t
    go (q ∷ qs) (x ∷ ps) (l ∷ ls) p t = (
      record {
        old = subst (λ w. IsPlaceAmong (map.keys m) q w.old) (sym t.0.pair) (old_place m n c h q x p.0);
        new = subst (λ w. IsPlaceAmong (map.keys n) q w.new) (sym t.0.pair) (new_place m n c h q x p.0);
        changes = t.0.changes m n q h p.0;
      },
      go qs ps ls p.1 t.1,
    )

-- one more of each
pub one_means : {A B : Type 0} (T : A → B → Type 0) (xs : List A) (ys : List B) (x : A) (y : B) → Pairwise T xs ys → T x y → Pairwise T (xs ++ (x ∷ [])) (ys ++ (y ∷ []))
one_means T [] [] x y p t = (t, tt)
one_means T [] (w ∷ ys) x y p t = absurd p
one_means T (v ∷ xs) [] x y p t = absurd p
one_means T (v ∷ xs) (w ∷ ys) x y p t = (p.0, one_means T xs ys x y p.1 t)

-- what differs between the features of two layers, wherever they are a pair of a name
abbrev pub TellsBy : Comparison → LayerPair → Option (List ℕ) → LayerDifference → Type 0
TellsBy c p key d = (m n : Layers) (q : List ℕ) → IsComparisonOf m n c → IsPairOf c q p → IsDifferenceAsked key (set.items (features_at m q)) (set.items (features_at n q)) d

pub made_of : (c : Comparison) (p : LayerPair) (key : Option (List ℕ)) (d : LayerDifference) (l : LayerChanges) → TellsBy c p key d → map_list single_number l.removed.items ≡ d.removed.items →
    map_list single_number l.added.items ≡ d.added.items → map_list changed_numbers l.changed.items ≡ d.changed.items →
    (m n : Layers) (q : List ℕ) → IsComparisonOf m n c → IsPairOf c q p → AreChanges key (set.items (features_at m q)) (set.items (features_at n q)) l
made_of c p key d l is r a h m n q compared pair = record { difference = d; is = is m n q compared pair; removed = r; added = a; changed = h }

pub one_more_means : {A B : Type 0} (T : A → B → Type 0) (xs : List A) (ys zs : List B) (i : ℕ) (d : A) (y : B) → Pairwise T (take i xs) ys → i < length xs → zs ≡ ys ++ (y ∷ []) → T (get_or xs i d) y →
    Pairwise T (take (i + 1) xs) zs
one_more_means T xs ys zs i d y told less grown t =
    let e : i + 1 ≡ suc i = omega arith in
    subst (Pairwise T (take (i + 1) xs)) (sym grown)
    (subst (λ l. Pairwise T l (ys ++ (y ∷ []))) (sym (ap (λ k. take k xs) e ∙ take-suc xs i d less)) (one_means T (take i xs) ys (get_or xs i d) y told t))

pub all_taken : {A B : Type 0} (T : A → B → Type 0) (xs us : List A) (ys : List B) (i : ℕ) → length xs ≤ i → xs ≡ us → Pairwise T (take i xs) ys → Pairwise T us ys
all_taken T xs us ys i most e told = subst (λ l. Pairwise T l ys) (take_all i xs most ∙ e) told
