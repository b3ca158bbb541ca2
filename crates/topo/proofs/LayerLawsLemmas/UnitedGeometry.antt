-- The lines and the rings of a union of maps are those of both.
use Rattle.std.proofs.Common.{◌≡◌, ℕ, Bool, true, false, ◌||◌, ◌⊎◌, inl, inr, List, [], ◌∷◌, Option, Some, None, refl, sym, ap, ◌∙◌, subst, cond}
use Rattle.std.specs.Prelude.{unwrap_or, map as map_list}
use Rattle.std.specs.List.{list_any}
use Rattle.std.specs.Ordering.{eq_by_cmp, nat_cmp}
use Rattle.std.specs.Cmp.Lexicographic.{slice_cmp, nat_list_cmp_total}
use Rattle.std.specs.FinMap as map
use Rattle.grid.specs.declared.pos.Pos.{Pos}
use Rattle.shapes.specs.Maps.{Features, Layers, features_at}
use Rattle.shapes.specs.Order.{feature_cmp}
use Rattle.shapes.specs.OrderLaws.{feature_cmp_total, feature_tied, same_text}
use Rattle.shapes.specs.Sets as set
use Rattle.shapes.specs.SetLaws.{contains-empty, contains-items, contains-union, or-false}
use Rattle.shapes.specs.Union.{both, union, get-union}
use Rattle.shapes.specs.declared.feature.Feature.{Feature}
use Rattle.shapes.proofs.Entries.{at_entry}
use Rattle.chains.specs.Seen.{form_of, geometry_of, item_of, layer_of, seen}
use Rattle.theory.specs.Lists.{Has, gathered}
use Rattle.theory.specs.Refinement.{IsUnionOf}
use Rattle.theory.specs.Topology.{Shape, forms_of, lines_in, rings_in}
use Rattle.theory.proofs.ListsOfLists.{Has-gathered, Has-map, gathered_from, map_has}

-- the feature stands under the name
abbrev Holds : Layers → List ℕ → Feature → Type 0
Holds m name f = set.contains (features_at m name) f ≡ true

any_member : (f : Feature) (fs : List Feature) → Has f fs → list_any (eq_by_cmp feature_cmp f) fs ≡ true
any_member f [] h = absurd h
any_member f (g ∷ fs) (inl e) = ap (λ b. b || list_any (eq_by_cmp feature_cmp f) fs) ((feature_tied f g).1 e)
any_member f (g ∷ fs) (inr h) = ap (λ b. eq_by_cmp feature_cmp f g || b) (any_member f fs h) ∙ last (eq_by_cmp feature_cmp f g)
  where
    last : (b : Bool) → (b || true) ≡ true
    last true = refl
    last false = refl

member_any : (f : Feature) (fs : List Feature) → list_any (eq_by_cmp feature_cmp f) fs ≡ true → Has f fs
member_any f [] e = absurd cc
member_any f (g ∷ fs) e =
    elim (eq_by_cmp feature_cmp f g) as (λ b. eq_by_cmp feature_cmp f g ≡ b → (b || list_any (eq_by_cmp feature_cmp f) fs) ≡ true → Has f (g ∷ fs)) [
      | true ↦ λ t k. inl ((feature_tied f g).0 t)
      | false ↦ λ t k. inr (member_any f fs k)
    ] refl e

entry_holds : (m : Layers) (e : List ℕ × Features) (f : Feature) → Has e (map.entries m) → Has f (set.items e.1) → Holds m e.0 f
entry_holds m e f there k = ap (λ s. set.contains s f) (at_entry m e there) ∙ contains-items e.1 f ∙ any_member f (set.items e.1) k

entry_found : (q : List ℕ) (s : Features) (es : List (List ℕ × Features)) → map.find (slice_cmp nat_cmp) q es ≡ Some s → (e : List ℕ × Features) × Has e es × (e.1 ≡ s)
entry_found q s [] h = absurd cc
entry_found q s (e ∷ es) h =
    elim (eq_by_cmp (slice_cmp nat_cmp) q e.0) as (λ b. cond b (Some e.1) (map.find (slice_cmp nat_cmp) q es) ≡ Some s → (d : List ℕ × Features) × Has d (e ∷ es) × (d.1 ≡ s)) [
      | true ↦ λ k. (e, inl refl, (let same : e.1 ≡ s = cc in same))
      | false ↦ λ k. (let (d, at, is) = entry_found q s es k in (d, inr at, is))
    ] h

-- what a name holds stands in an entry
holds_entry : (m : Layers) (name : List ℕ) (f : Feature) → Holds m name f → (e : List ℕ × Features) × Has e (map.entries m) × Has f (set.items e.1)
holds_entry m name f h = go (map.get m name) refl h
  where
    go : (o : Option Features) → map.get m name ≡ o → set.contains (unwrap_or o set.empty) f ≡ true → (e : List ℕ × Features) × Has e (map.entries m) × Has f (set.items e.1)
    go None e k = let none : false ≡ true = sym (contains-empty feature_cmp f) ∙ k in absurd cc
    go (Some s) e k =
        let (d, at, is) = entry_found name s (map.entries m) (sym (map.get-entries m name) ∙ e) in
        (d, at, subst (λ w. Has f (set.items w)) (sym is) (member_any f (set.items s) (sym (contains-items s f) ∙ k)))

-- what a union holds
holds_both : (m n : Layers) (name : List ℕ) (f : Feature) →
    set.contains (features_at (union m n) name) f ≡ (set.contains (features_at m name) f || set.contains (features_at n name) f)
holds_both m n name f =
    ap (λ o. set.contains (unwrap_or o set.empty) f) (get-union nat_list_cmp_total same_text m n name)
    ∙ go (map.get m name) (map.get n name)
  where
    go : (s t : Option Features) → set.contains (unwrap_or (both s t) set.empty) f ≡ (set.contains (unwrap_or s set.empty) f || set.contains (unwrap_or t set.empty) f)
    go None t = ap (λ b. b || set.contains (unwrap_or t set.empty) f) (sym (contains-empty feature_cmp f))
    go (Some s) None = or-false (set.contains s f) ∙ ap (λ b. set.contains s f || b) (sym (contains-empty feature_cmp f))
    go (Some s) (Some t) = contains-union feature_cmp_total s t f

-- what f gives of the forms of the map's features
abbrev Gives : (Shape Pos → List (List Pos)) → Layers → List Pos → Type 0
Gives parts m l = Has l (gathered parts (forms_of (seen m)))

module _ (parts : Shape Pos → List (List Pos)) where
  pub gives : (m : Layers) (e : List ℕ × Features) (f : Feature) (l : List Pos) → Has e (map.entries m) → Has f (set.items e.1) → Has l (parts (form_of f.shape)) → Gives parts m l
  gives m e f l there k h =
      Has-gathered parts (forms_of (seen m)) (form_of f.shape) l
      (Has-gathered (λ x. gathered (λ y. y.form ∷ []) x.items) (seen m) (layer_of e) (form_of f.shape) (Has-map layer_of (map.entries m) e there)
      (Has-gathered (λ y. y.form ∷ []) (map_list item_of (set.items e.1)) (item_of f) (form_of f.shape) (Has-map item_of (set.items e.1) f k) (inl refl)))
      h

  given : (m : Layers) (l : List Pos) → Gives parts m l → (name : List ℕ) × (f : Feature) × Holds m name f × Has l (parts (form_of f.shape))
  given m l h =
      let (g, there, k) = gathered_from parts (forms_of (seen m)) l h in
      let (x, a, i) = gathered_from (λ x. gathered (λ y. y.form ∷ []) x.items) (seen m) g there in
      let (e, b, is) = map_has layer_of (map.entries m) x a in
      let (y, c, j) = gathered_from (λ y. y.form ∷ []) x.items g i in
      let (f, d, at) = map_has item_of (set.items e.1) y (subst (λ w. Has y w.items) is c) in
      let form : g ≡ form_of f.shape = elim j [ inl p ↦ p ∙ ap (λ w. w.form) at | inr n ↦ absurd n ] in
      (e.0, f, entry_holds m e f b d, subst (λ w. Has l (parts w)) form k)

  held : (m : Layers) (name : List ℕ) (f : Feature) (l : List Pos) → Holds m name f → Has l (parts (form_of f.shape)) → Gives parts m l
  held m name f l h k = let (e, there, at) = holds_entry m name f h in gives m e f l there at k

  of_left : (m n : Layers) (l : List Pos) → Gives parts m l → Gives parts (union m n) l
  of_left m n l h =
      let (name, f, at, k) = given m l h in
      held (union m n) name f l (holds_both m n name f ∙ ap (λ b. b || set.contains (features_at n name) f) at) k

  of_right : (m n : Layers) (l : List Pos) → Gives parts n l → Gives parts (union m n) l
  of_right m n l h =
      let (name, f, at, k) = given n l h in
      held (union m n) name f l (holds_both m n name f ∙ ap (λ b. set.contains (features_at m name) f || b) at ∙ last (set.contains (features_at m name) f)) k
    where
      last : (b : Bool) → (b || true) ≡ true
      last true = refl
      last false = refl

  of_both : (m n : Layers) (l : List Pos) → Gives parts (union m n) l → Gives parts m l ⊎ Gives parts n l
  of_both m n l h =
      let (name, f, at, k) = given (union m n) l h in
      either (set.contains (features_at m name) f) (set.contains (features_at n name) f) (sym (holds_both m n name f) ∙ at) (λ p. inl (held m name f l p k)) (λ p. inr (held n name f l p k))
    where
      either : {X : Type 0} (p q : Bool) → (p || q) ≡ true → (p ≡ true → X) → (q ≡ true → X) → X
      either true q e f g = f refl
      either false q e f g = g e

-- the union of two maps has the lines and the rings of both
pub geometries_unite : (m n : Layers) → IsUnionOf (geometry_of m) (geometry_of n) (geometry_of (union m n))
geometries_unite m n = record {
  left = record { lines = of_left lines_in m n; rings = of_left rings_in m n };
  right = record { lines = of_right lines_in m n; rings = of_right rings_in m n };
  lines = of_both lines_in m n;
  rings = of_both rings_in m n;
}
