-- Features that are put into a map, text by text.
use Rattle.std.proofs.Common.{◌≡◌, ◌⊎◌, ◌↔◌, inl, inr, ℕ, IsTrue, List, [], ◌∷◌, ◌++◌, Bool, true, false, ◌||◌, cond, map, refl, sym, ap, ◌∙◌, subst, append_assoc, append-nil}
use Rattle.std.specs.Prelude.{Some, None, is_some, unwrap_or}
use Rattle.std.specs.Cmp.{tied_itself, Equal-is}
use Rattle.std.specs.Cmp.Lexicographic.{slice_cmp, nat_list_cmp_total}
use Rattle.std.specs.FinMap as finite
use Rattle.std.specs.Ordering.{nat_cmp, eq_by_cmp, is_eq}
use Rattle.std.specs.Str.{bytes_eq}
use Rattle.std.proofs.lemmas.Bool.{false≢true, false_from_ne_true}
use Rattle.std.proofs.lemmas.List.{map-append}
use Rattle.std.proofs.lemmas.Slice.Eq.{bytes_eq-Decides}
use Rattle.grid.specs.Place.{Transform}
use Rattle.theory.specs.Lists.{Has}
use Rattle.theory.proofs.Lists.{Has-append_left, Has-append_right, Has-append}
use Rattle.shapes.specs.Sets as set
use Rattle.shapes.specs.SetLaws.{contains-empty, contains-union}
use Rattle.shapes.specs.Maps.{Features, Layers, features_at, with_features}
use Rattle.shapes.specs.Order.{feature_cmp}
use Rattle.shapes.specs.OrderLaws.{feature_cmp_total, same_feature, same_text}
use Rattle.shapes.specs.Union.{set_union_commutes}
use Rattle.reading.specs.Meant.{AreFeatures}
use Rattle.reading.specs.Plain.{Plain, plain}
use Rattle.geojson_io.specs.Features.{features_of_text}
use Rattle.outputs.specs.BuiltText.Maps.{features_under, IsMapOfTexts}

-- ---- a name and its features

abbrev tied : List ℕ → List ℕ → Bool
tied q n = eq_by_cmp (slice_cmp nat_cmp) q n

tied_is : (q n : List ℕ) → tied q n ≡ true → q ≡ n
tied_is q n e = same_text q n ((Equal-is (slice_cmp nat_cmp q n)).0 e)

tied_self : (n : List ℕ) → tied n n ≡ true
tied_self n = ap is_eq (tied_itself nat_list_cmp_total n)

get_put : (m : Layers) (n : List ℕ) (s : Features) → finite.get (finite.insert m n s) n ≡ Some s
get_put m n s = finite.get-insert nat_list_cmp_total m n s n ∙ ap (λ b. cond b (Some s) (finite.get m n)) (tied_self n)

features_put : (m : Layers) (n : List ℕ) (s : Features) → features_at (finite.insert m n s) n ≡ s
features_put m n s = ap (λ o. unwrap_or o set.empty) (get_put m n s)

-- ---- texts

-- the map of the texts so far, name by name
pub record Collected (t : Transform) (texts : List (List ℕ × List ℕ)) (m : Layers) : Type 0 where
  pub names : (q : List ℕ) → IsTrue (finite.contains_key m q) ↔ Has q (map (λ s. s.0) texts)
  pub features : (q : List ℕ) → AreFeatures (features_at m q) (features_under t q texts)

no_feature : AreFeatures set.empty []
no_feature = record {
  only = λ f h. absurd (false≢true (sym (contains-empty feature_cmp f) ∙ h));
  all = λ p h. absurd h;
}

no_key : (q : List ℕ) → finite.get (finite.empty {X = Features} {R = slice_cmp nat_cmp}) q ≡ None
no_key q = finite.get-empty (slice_cmp nat_cmp) q

pub collected_none : (t : Transform) → Collected t [] finite.empty
collected_none t = record {
  names = λ q. (λ h. absurd (false≢true (sym (ap is_some (no_key q)) ∙ h)), λ h. absurd h);
  features = λ q. subst (λ s. AreFeatures s []) (sym (ap (λ o. unwrap_or o set.empty) (no_key q))) no_feature;
}

has_more : (texts : List (List ℕ × List ℕ)) (s : List ℕ × List ℕ) (q : List ℕ) → Has q (map (λ x. x.0) texts) ⊎ (q ≡ s.0) → Has q (map (λ x. x.0) (texts ++ s ∷ []))
has_more texts s q (inl h) = subst (Has q) (sym (map-append (λ x. x.0) texts (s ∷ []))) (Has-append_left q (map (λ x. x.0) texts) (s.0 ∷ []) h)
has_more texts s q (inr e) = subst (Has q) (sym (map-append (λ x. x.0) texts (s ∷ []))) (Has-append_right q (map (λ x. x.0) texts) (s.0 ∷ []) (inl e))

one_of : (q n : List ℕ) → Has q (n ∷ []) → q ≡ n
one_of q n (inl e) = e
one_of q n (inr h) = absurd h

more_has : (texts : List (List ℕ × List ℕ)) (s : List ℕ × List ℕ) (q : List ℕ) → Has q (map (λ x. x.0) (texts ++ s ∷ [])) → Has q (map (λ x. x.0) texts) ⊎ (q ≡ s.0)
more_has texts s q h =
    elim (Has-append q (map (λ x. x.0) texts) (s.0 ∷ []) (subst (Has q) (map-append (λ x. x.0) texts (s ∷ [])) h)) [
      | inl k ↦ inl k
      | inr k ↦ inr (one_of q s.0 k)
    ]

-- the features of one more text stand behind the others
under_more : (t : Transform) (q : List ℕ) (texts : List (List ℕ × List ℕ)) (s : List ℕ × List ℕ)
    → features_under t q (texts ++ s ∷ []) ≡ features_under t q texts ++ cond (bytes_eq q s.0) (features_of_text t s.1) []
under_more t q [] s = append-nil _
under_more t q (x ∷ texts) s =
    ap (λ ps. cond (bytes_eq q x.0) (features_of_text t x.1) [] ++ ps) (under_more t q texts s)
    ∙ sym (append_assoc (cond (bytes_eq q x.0) (features_of_text t x.1) []) (features_under t q texts) (cond (bytes_eq q s.0) (features_of_text t s.1) []))

either : (a b : Bool) → (a || b) ≡ true → (a ≡ true) ⊎ (b ≡ true)
either true b e = inl refl
either false b e = inr e

left_true : (a b : Bool) → a ≡ true → (a || b) ≡ true
left_true true b e = refl
left_true false b e = cc

right_true : (a b : Bool) → b ≡ true → (a || b) ≡ true
right_true true b e = refl
right_true false b e = e

-- the features of both sets are those of both lists
are_union : (s u : Features) (ps qs : List Plain) → AreFeatures s ps → AreFeatures u qs → AreFeatures (set.union s u) (ps ++ qs)
are_union s u ps qs a b = record {
  only = λ f h.
      elim (either (set.contains s f) (set.contains u f) (sym (contains-union feature_cmp_total s u f) ∙ h)) [
        | inl k ↦ Has-append_left (plain f) ps qs (a.only f k)
        | inr k ↦ Has-append_right (plain f) ps qs (b.only f k)
      ];
  all = λ p h.
      elim (Has-append p ps qs h) [
        | inl k ↦ let (f, there, is) = a.all p k in (f, contains-union feature_cmp_total s u f ∙ left_true (set.contains s f) (set.contains u f) there, is)
        | inr k ↦ let (f, there, is) = b.all p k in (f, contains-union feature_cmp_total s u f ∙ right_true (set.contains s f) (set.contains u f) there, is)
      ];
}

-- the map of one more text
module _ (t : Transform) (texts : List (List ℕ × List ℕ)) (n bytes : List ℕ) (m : Layers) (s : Features) (old : Collected t texts m) (are : AreFeatures s (features_of_text t bytes)) where
  at_name : AreFeatures (features_at (with_features m n s) n) (features_under t n (texts ++ (n, bytes) ∷ []))
  at_name =
      subst (λ u. AreFeatures u (features_under t n (texts ++ (n, bytes) ∷ []))) (sym (features_put m n (set.union s (features_at m n))))
      (subst (AreFeatures (set.union s (features_at m n))) (sym (under_more t n texts (n, bytes) ∙ ap (λ b. features_under t n texts ++ cond b (features_of_text t bytes) []) ((bytes_eq-Decides n n).1 refl)))
      (subst (λ u. AreFeatures u (features_under t n texts ++ features_of_text t bytes)) (set_union_commutes feature_cmp_total same_feature (features_at m n) s)
      (are_union (features_at m n) s (features_under t n texts) (features_of_text t bytes) (old.features n) are)))

  other_bytes : (q : List ℕ) → tied q n ≡ false → bytes_eq q n ≡ false
  other_bytes q e = false_from_ne_true _ (λ same. false≢true (sym e ∙ ap (λ w. tied w n) ((bytes_eq-Decides q n).0 same) ∙ tied_self n))

  at_other : (q : List ℕ) → tied q n ≡ false → AreFeatures (features_at (with_features m n s) q) (features_under t q (texts ++ (n, bytes) ∷ []))
  at_other q e =
      subst (λ u. AreFeatures u (features_under t q (texts ++ (n, bytes) ∷ [])))
      (sym (ap (λ o. unwrap_or o set.empty) (finite.get-insert nat_list_cmp_total m n (set.union s (features_at m n)) q ∙ ap (λ b. cond b (Some (set.union s (features_at m n))) (finite.get m q)) e)))
      (subst (AreFeatures (features_at m q))
      (sym (under_more t q texts (n, bytes) ∙ ap (λ b. features_under t q texts ++ cond b (features_of_text t bytes) []) (other_bytes q e) ∙ append-nil _))
      (old.features q))

  key_is : (q : List ℕ) → finite.contains_key (with_features m n s) q ≡ is_some (cond (tied q n) (Some (set.union s (features_at m n))) (finite.get m q))
  key_is q = ap is_some (finite.get-insert nat_list_cmp_total m n (set.union s (features_at m n)) q)

  key_there : (q : List ℕ) (b : Bool) → tied q n ≡ b → IsTrue (is_some (cond b (Some (set.union s (features_at m n))) (finite.get m q))) → Has q (map (λ x. x.0) texts) ⊎ (q ≡ n)
  key_there q true e h = inr (tied_is q n e)
  key_there q false e h = inl ((old.names q).0 h)

  there_key : (q : List ℕ) (b : Bool) → tied q n ≡ b → Has q (map (λ x. x.0) texts) ⊎ (q ≡ n) → IsTrue (is_some (cond b (Some (set.union s (features_at m n))) (finite.get m q)))
  there_key q true e h = refl
  there_key q false e (inl h) = (old.names q).1 h
  there_key q false e (inr same) = absurd (false≢true (sym e ∙ ap (λ w. tied w n) same ∙ tied_self n))

  pub collected_more : Collected t (texts ++ (n, bytes) ∷ []) (with_features m n s)
  collected_more = record {
    names = λ q. (
      λ h. has_more texts (n, bytes) q (key_there q (tied q n) refl (sym (key_is q) ∙ h)),
      λ h. key_is q ∙ there_key q (tied q n) refl (more_has texts (n, bytes) q h),
    );
    features = λ q.
        elim (tied q n) as (λ b. tied q n ≡ b → AreFeatures (features_at (with_features m n s) q) (features_under t q (texts ++ (n, bytes) ∷ []))) [
          | true ↦ λ e. subst (λ w. AreFeatures (features_at (with_features m n s) w) (features_under t w (texts ++ (n, bytes) ∷ []))) (sym (tied_is q n e)) at_name
          | false ↦ λ e. at_other q e
        ] refl;
  }

-- the map of all texts

layer_has : (t : Transform) (all texts : List (List ℕ × List ℕ)) (n : List ℕ) (ps : List Plain) → Has {V = List ℕ × List Plain} (n, ps) (map (λ s. (s.0, features_under t s.0 all)) texts) → ps ≡ features_under t n all
layer_has t all [] n ps h = absurd h
layer_has t all (s ∷ texts) n ps (inl e) =
    let name : n ≡ s.0 = ap (λ l. l.0) e in
    ap (λ l. l.1) e ∙ ap (λ q. features_under t q all) (sym name)
layer_has t all (s ∷ texts) n ps (inr h) = layer_has t all texts n ps h

names_are : (t : Transform) (all texts : List (List ℕ × List ℕ)) → map {A = List ℕ × List Plain} (λ l. l.0) (map (λ s. (s.0, features_under t s.0 all)) texts) ≡ map (λ s. s.0) texts
names_are t all [] = refl
names_are t all (s ∷ texts) = ap (λ ns. s.0 ∷ ns) (names_are t all texts)

pub map_of_texts : (t : Transform) (texts : List (List ℕ × List ℕ)) (m : Layers) → Collected t texts m → IsMapOfTexts t texts m
map_of_texts t texts m all = record {
  layers = record {
    names = λ q. (λ h. subst (Has q) (sym (names_are t texts texts)) ((all.names q).0 h), λ h. (all.names q).1 (subst (Has q) (names_are t texts texts) h));
    features = λ q ps h. subst (AreFeatures (features_at m q)) (sym (layer_has t texts texts q ps h)) (all.features q);
  };
}

-- the map of the texts before the place, where these are left
pub record SoFarMap (t : Transform) (texts left : List (List ℕ × List ℕ)) (m : Layers) : Type 0 where
  pub before : List (List ℕ × List ℕ)
  pub parts : before ++ left ≡ texts
  pub collected : Collected t before m

pub map_started : (t : Transform) (texts : List (List ℕ × List ℕ)) → SoFarMap t texts texts finite.empty
map_started t texts = record { before = []; parts = refl; collected = collected_none t }

pub map_more : (t : Transform) (texts left : List (List ℕ × List ℕ)) (n bytes : List ℕ) (after : List (List ℕ × List ℕ)) (m : Layers) (s : Features)
    → SoFarMap t texts left m → left ≡ (n, bytes) ∷ after → AreFeatures s (features_of_text t bytes) → SoFarMap t texts after (with_features m n s)
map_more t texts left n bytes after m s old e are =
    let parts : old.before ++ ((n, bytes) ∷ after) ≡ texts = rw e at old.parts in
    record {
      before = old.before ++ ((n, bytes) ∷ []);
      parts = append_assoc old.before ((n, bytes) ∷ []) after ∙ parts;
      collected = collected_more t old.before n bytes m s old.collected are;
    }

pub map_done : (t : Transform) (texts : List (List ℕ × List ℕ)) (m : Layers) → SoFarMap t texts [] m → IsMapOfTexts t texts m
map_done t texts m all = map_of_texts t texts m (subst (λ ts. Collected t ts m) (sym (append-nil all.before) ∙ all.parts) all.collected)
