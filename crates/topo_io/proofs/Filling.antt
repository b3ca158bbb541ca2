-- The map of the layers that were read.
use Rattle.std.proofs.Common.{◌≡◌, ◌⊎◌, inl, inr, ℕ, true, false, cond, ◌||◌, List, [], ◌∷◌, Some, is_some, IsTrue, Vec, String, Global, string_bytes, map as map_list, refl, sym, ap, ◌∙◌, subst}
use Rattle.std.specs.Prelude.{unwrap_or}
use Rattle.std.specs.Cmp.{tied_itself}
use Rattle.std.specs.Cmp.Lexicographic.{slice_cmp, nat_list_cmp_total}
use Rattle.std.specs.FinMap as map
use Rattle.std.specs.Ordering.{nat_cmp, is_eq}
use Rattle.std.specs.declared.cmp.Ordering.TheVariants.{Less, Equal, Greater}
use Rattle.theory.specs.Lists.{Has, Distinct}
use Rattle.shapes.specs.Sets as set
use Rattle.shapes.specs.SetLaws.{contains-empty, contains-union}
use Rattle.shapes.specs.Maps.{Layers, Features, features_at, with_features}
use Rattle.shapes.specs.Order.{feature_cmp}
use Rattle.shapes.specs.OrderLaws.{feature_cmp_total, same_text}
use Rattle.shapes.specs.declared.feature.Feature.{Feature}
use Rattle.reading.specs.Meant.{AreLayers}
use Rattle.reading.specs.Plain.{Plain, plain}
use Rattle.reading.proofs.Plains.{has_plain, plain_has}
use Rattle.shapes.proofs.Members.{either, has_listed, left_true, right_true}
use Rattle.topo_io.specs.Layers.{plain_layer, layer_read, names_read, with_layers}

-- ---- one more entry

-- the entry is looked up, or another one
abbrev Found : Layers → List ℕ → Features → List ℕ → Type 0
Found m n s q = ((q ≡ n) × (map.get (map.insert m n s) q ≡ Some s)) ⊎ ((q ≡ n → ⊥) × (map.get (map.insert m n s) q ≡ map.get m q))

found : (m : Layers) (n : List ℕ) (s : Features) (q : List ℕ) → Found m n s q
found m n s q =
    let get = map.get-insert nat_list_cmp_total m n s q in
    elim (slice_cmp nat_cmp q n) as (λ o. slice_cmp nat_cmp q n ≡ o → map.get (map.insert m n s) q ≡ cond (is_eq o) (Some s) (map.get m q) → Found m n s q) [
      | Less ↦ λ e is. inr (λ same. less (sym (tied q n same) ∙ e), is)
      | Equal ↦ λ e is. inl (same_text q n e, is)
      | Greater ↦ λ e is. inr (λ same. greater (sym (tied q n same) ∙ e), is)
    ] refl get
  where
    less : Equal ≡ Less → ⊥
    less e = cc

    greater : Equal ≡ Greater → ⊥
    greater e = cc

    tied : (a b : List ℕ) → a ≡ b → slice_cmp nat_cmp a b ≡ Equal
    tied a b e = subst (λ x. slice_cmp nat_cmp a x ≡ Equal) e (tied_itself nat_list_cmp_total a)

-- the feature stands under the name
abbrev In : Layers → List ℕ → Feature → Type 0
In m q f = IsTrue (set.contains (features_at m q) f)

-- the name is that of a layer
abbrev Names : Layers → List ℕ → Type 0
Names m q = IsTrue (map.contains_key m q)

names_insert : (m : Layers) (n : List ℕ) (s : Features) (q : List ℕ) → Names (map.insert m n s) q → (q ≡ n) ⊎ Names m q
names_insert m n s q h = elim (found m n s q) [ inl k ↦ inl k.0 | inr k ↦ inr (sym (ap is_some k.1) ∙ h) ]

insert_names : (m : Layers) (n : List ℕ) (s : Features) (q : List ℕ) → (q ≡ n) ⊎ Names m q → Names (map.insert m n s) q
insert_names m n s q (inl e) = elim (found m n s q) [ inl k ↦ ap is_some k.1 | inr k ↦ absurd (k.0 e) ]
insert_names m n s q (inr h) = elim (found m n s q) [ inl k ↦ ap is_some k.1 | inr k ↦ ap is_some k.1 ∙ h ]

-- ---- more features under a name

-- the features that then stand under the name
abbrev whole : Layers → List ℕ → List Feature → Features
whole m n fs = set.union (set.from_list {R = feature_cmp} fs) (features_at m n)

at_whole : (m : Layers) (n : List ℕ) (fs : List Feature) (f : Feature) → set.contains (whole m n fs) f ≡ (set.contains (set.from_list {R = feature_cmp} fs) f || set.contains (features_at m n) f)
at_whole m n fs f = contains-union feature_cmp_total (set.from_list fs) (features_at m n) f

features_in : (m : Layers) (n : List ℕ) (fs : List Feature) (q : List ℕ) (f : Feature) → In (with_features m n (set.from_list fs)) q f → ((q ≡ n) × Has f fs) ⊎ In m q f
features_in m n fs q f h =
    elim (found m n (whole m n fs) q) [
      | inl k ↦ elim (either (set.contains (set.from_list fs) f) (set.contains (features_at m n) f) (sym (ap (λ o. set.contains (unwrap_or o set.empty) f) k.1 ∙ at_whole m n fs f) ∙ h)) [
        | inl e ↦ inl (k.0, (has_listed fs f).0 e)
        | inr j ↦ inr (ap (λ x. set.contains (features_at m x) f) k.0 ∙ j)
      ]
      | inr k ↦ inr (sym (ap (λ o. set.contains (unwrap_or o set.empty) f) k.1) ∙ h)
    ]

in_features : (m : Layers) (n : List ℕ) (fs : List Feature) (q : List ℕ) (f : Feature) → ((q ≡ n) × Has f fs) ⊎ In m q f → In (with_features m n (set.from_list fs)) q f
in_features m n fs q f (inl h) =
    elim (found m n (whole m n fs) q) [
      | inl k ↦ ap (λ o. set.contains (unwrap_or o set.empty) f) k.1 ∙ at_whole m n fs f
          ∙ left_true (set.contains (set.from_list fs) f) (set.contains (features_at m n) f) ((has_listed fs f).1 h.1)
      | inr k ↦ absurd (k.0 h.0)
    ]
in_features m n fs q f (inr h) =
    elim (found m n (whole m n fs) q) [
      | inl k ↦ ap (λ o. set.contains (unwrap_or o set.empty) f) k.1 ∙ at_whole m n fs f
          ∙ right_true (set.contains (set.from_list fs) f) (set.contains (features_at m n) f) (sym (ap (λ x. set.contains (features_at m x) f) k.0) ∙ h)
      | inr k ↦ ap (λ o. set.contains (unwrap_or o set.empty) f) k.1 ∙ h
    ]

-- ---- layers

-- a layer of that name has the feature
abbrev AtLayer : List (List ℕ × List Feature) → List ℕ → Feature → Type 0
AtLayer [] q f = ⊥
AtLayer (l ∷ ls) q f = ((q ≡ l.0) × Has f l.1) ⊎ AtLayer ls q f

layers_in : (m : Layers) (ls : List (List ℕ × List Feature)) (q : List ℕ) (f : Feature) → In (with_layers m ls) q f → AtLayer ls q f ⊎ In m q f
layers_in m [] q f h = inr h
layers_in m (l ∷ ls) q f h =
    elim (layers_in (with_features m l.0 (set.from_list l.1)) ls q f h) [
      | inl k ↦ inl (inr k)
      | inr k ↦ elim (features_in m l.0 l.1 q f k) [ inl j ↦ inl (inl j) | inr j ↦ inr j ]
    ]

in_layers : (m : Layers) (ls : List (List ℕ × List Feature)) (q : List ℕ) (f : Feature) → AtLayer ls q f ⊎ In m q f → In (with_layers m ls) q f
in_layers m [] q f (inl h) = absurd h
in_layers m [] q f (inr h) = h
in_layers m (l ∷ ls) q f (inl h) =
    elim h [
      | inl k ↦ in_layers (with_features m l.0 (set.from_list l.1)) ls q f (inr (in_features m l.0 l.1 q f (inl k)))
      | inr k ↦ in_layers (with_features m l.0 (set.from_list l.1)) ls q f (inl k)
    ]
in_layers m (l ∷ ls) q f (inr h) = in_layers (with_features m l.0 (set.from_list l.1)) ls q f (inr (in_features m l.0 l.1 q f (inr h)))

abbrev pub names_of : List (List ℕ × List Feature) → List (List ℕ)
names_of ls = map_list (λ l. l.0) ls

layers_name : (m : Layers) (ls : List (List ℕ × List Feature)) (q : List ℕ) → Names (with_layers m ls) q → Has q (names_of ls) ⊎ Names m q
layers_name m [] q h = inr h
layers_name m (l ∷ ls) q h =
    elim (layers_name (with_features m l.0 (set.from_list l.1)) ls q h) [
      | inl k ↦ inl (inr k)
      | inr k ↦ elim (names_insert m l.0 (whole m l.0 l.1) q k) [ inl e ↦ inl (inl e) | inr j ↦ inr j ]
    ]

name_layers : (m : Layers) (ls : List (List ℕ × List Feature)) (q : List ℕ) → Has q (names_of ls) ⊎ Names m q → Names (with_layers m ls) q
name_layers m [] q (inl h) = absurd h
name_layers m [] q (inr h) = h
name_layers m (l ∷ ls) q (inl h) =
    elim h [
      | inl e ↦ name_layers (with_features m l.0 (set.from_list l.1)) ls q (inr (insert_names m l.0 (whole m l.0 l.1) q (inl e)))
      | inr k ↦ name_layers (with_features m l.0 (set.from_list l.1)) ls q (inl k)
    ]
name_layers m (l ∷ ls) q (inr h) = name_layers (with_features m l.0 (set.from_list l.1)) ls q (inr (insert_names m l.0 (whole m l.0 l.1) q (inr h)))

-- ---- layers as plain data

abbrev pub plain_of : List ℕ × List Feature → List ℕ × List Plain
plain_of l = (l.0, map_list plain l.1)

same_names : (ls : List (List ℕ × List Feature)) → map_list (λ l. l.0) (map_list plain_of ls) ≡ names_of ls
same_names [] = refl
same_names (l ∷ ls) = ap (λ ns. l.0 ∷ ns) (same_names ls)

at_name : (ls : List (List ℕ × List Feature)) (q : List ℕ) (f : Feature) → AtLayer ls q f → Has q (names_of ls)
at_name [] q f h = absurd h
at_name (l ∷ ls) q f (inl h) = inl h.0
at_name (l ∷ ls) q f (inr h) = inr (at_name ls q f h)

layer_name : (ls : List (List ℕ × List Feature)) (q : List ℕ) (fs : List Feature) → Has (q, fs) ls → Has q (names_of ls)
layer_name [] q fs h = absurd h
layer_name (l ∷ ls) q fs (inl e) = inl (ap (λ x. x.0) e)
layer_name (l ∷ ls) q fs (inr h) = inr (layer_name ls q fs h)

at_layer : (ls : List (List ℕ × List Feature)) (q : List ℕ) (fs : List Feature) (f : Feature) → Has (q, fs) ls → Has f fs → AtLayer ls q f
at_layer [] q fs f h k = absurd h
at_layer (l ∷ ls) q fs f (inl e) k = inl (ap (λ x. x.0) e, subst (Has f) (ap (λ x. x.1) e) k)
at_layer (l ∷ ls) q fs f (inr h) k = inr (at_layer ls q fs f h k)

-- one layer has a name
one_layer : (ls : List (List ℕ × List Feature)) → Distinct (names_of ls) → (q : List ℕ) (fs : List Feature) (f : Feature) → Has (q, fs) ls → AtLayer ls q f → Has f fs
one_layer [] d q fs f h k = absurd h
one_layer (l ∷ ls) d q fs f (inl e) (inl k) = subst (Has f) (sym (ap (λ x. x.1) e)) k.1
one_layer (l ∷ ls) d q fs f (inl e) (inr k) = absurd (d.0 (subst (λ x. Has x (names_of ls)) (ap (λ x. x.0) e) (at_name ls q f k)))
one_layer (l ∷ ls) d q fs f (inr h) (inl k) = absurd (d.0 (subst (λ x. Has x (names_of ls)) k.0 (layer_name ls q fs h)))
one_layer (l ∷ ls) d q fs f (inr h) (inr k) = one_layer ls d.1 q fs f h k

layer_meant : (ls : List (List ℕ × List Feature)) (q : List ℕ) (ps : List Plain) → Has (q, ps) (map_list plain_of ls) → (fs : List Feature) × Has (q, fs) ls × (ps ≡ map_list plain fs)
layer_meant [] q ps h = absurd h
layer_meant (l ∷ ls) q ps (inl e) = (l.1, inl (λ i. (ap (λ x. x.0) e i, l.1)), ap (λ x. x.1) e)
layer_meant (l ∷ ls) q ps (inr h) = let (fs, has, is) = layer_meant ls q ps h in (fs, inr has, is)

nothing : false ≡ true → ⊥
nothing e = cc

no_name : (q : List ℕ) → Names map.empty q → ⊥
no_name q h = nothing (sym (ap is_some (map.get-empty {X = Features} (slice_cmp nat_cmp) q)) ∙ h)

no_feature : (q : List ℕ) (f : Feature) → In map.empty q f → ⊥
no_feature q f h =
    let none : features_at map.empty q ≡ set.empty = ap (λ o. unwrap_or o set.empty) (map.get-empty {X = Features} (slice_cmp nat_cmp) q) in
    nothing (sym (ap (λ s. set.contains s f) none ∙ contains-empty feature_cmp f) ∙ h)

-- the map of layers whose names differ has these layers
pub are_layers : (ls : List (List ℕ × List Feature)) → Distinct (names_of ls) → AreLayers (with_layers map.empty ls) (map_list plain_of ls)
are_layers ls distinct = record {
  names = λ n. (
    λ h. subst (Has n) (sym (same_names ls)) (elim (layers_name map.empty ls n h) [ inl k ↦ k | inr k ↦ absurd (no_name n k) ]),
    λ h. name_layers map.empty ls n (inl (subst (Has n) (same_names ls) h)),
  );
  features = λ n ps has.
      let (fs, there, is) = layer_meant ls n ps has in record {
        only = λ f h. subst (Has (plain f)) (sym is) (has_plain f fs (one_layer ls distinct n fs f there (elim (layers_in map.empty ls n f h) [ inl k ↦ k | inr k ↦ absurd (no_feature n f k) ])));
        all = λ p h.
            let (f, among, same) = plain_has p fs (subst (Has p) is h) in
            (f, in_layers map.empty ls n f (inl (at_layer ls n fs f there among)), same);
      };
}

plain_read : (ls : List (String Global × Vec Feature Global)) → map_list plain_of (map_list layer_read ls) ≡ map_list plain_layer ls
plain_read [] = refl
plain_read (l ∷ ls) = ap (λ rest. plain_layer l ∷ rest) (plain_read ls)

same_read : (ls : List (String Global × Vec Feature Global)) → names_of (map_list layer_read ls) ≡ names_read ls
same_read [] = refl
same_read (l ∷ ls) = ap (λ ns. string_bytes l.0 ∷ ns) (same_read ls)

-- the map of layers that were read, by what they mean
pub read_layers : (ls : List (String Global × Vec Feature Global)) (made : Layers) (meant : List (List ℕ × List Plain)) → made ≡ with_layers map.empty (map_list layer_read ls) → Distinct (names_read ls)
    → map_list plain_layer ls ≡ meant → AreLayers made meant
read_layers ls made meant is distinct means =
    subst (λ m. AreLayers m meant) (sym is)
    (subst (AreLayers (with_layers map.empty (map_list layer_read ls))) (plain_read ls ∙ means)
    (are_layers (map_list layer_read ls) (subst Distinct (sym (same_read ls)) distinct)))
