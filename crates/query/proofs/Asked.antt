-- The layer that a question names, found by its name or not there.
use Rattle.std.proofs.Common.{◌≡◌, ◌↔◌, ◌<◌, ℕ, suc, List, [], ◌∷◌, length, inl, inr, refl, sym, subst, arith, Option, Some, None, IfSome, IfNone, Result, Ok, Err, Bor}
use Rattle.std.specs.List.{AllWithin, HoldsAt}
use Rattle.std.specs.Option.{MatchOption, option_map}
use Rattle.lines.proofs.Dropping.{item_at}
use Rattle.shapes.specs.Maps.{Layers}
use Rattle.shapes.specs.Parts.{spelled_text}
use Rattle.theory.specs.Lists.{Has}
use Rattle.theory.proofs.ListsOfLists.{get_has}
use Rattle.topo.specs.OfMap.{IsOf}
use Rattle.topo.specs.Parts.{LayerParts, TopologyParts}
use Rattle.query.specs.Mesh.{IsMissing}
use Rattle.query.specs.declared.fault.QueryFault.{QueryFault}
use Rattle.query.specs.declared.fault.QueryFault.TheVariants.{NoLayer}
use Rattle.query.proofs.LayerFeatures.{layer_found, layer_missing, named_features, not_named}

module _ {A : Type 0} (Yes No : A → Type 0) where
  -- what a search over all items says
  abbrev pub Search : List A → Option (Bor A) → Type 0
  Search l o = MatchOption o (AllWithin No l 0 (length l)) (λ x. Yes x.now × (i : ℕ) × (i < length l) × HoldsAt (λ y. y ≡ x.now) l i × AllWithin No l 0 i)

  pub search_found : (l : List A) (o : Option (Bor A)) → Search l o → IfSome o (λ x. Has x.now l × Yes x.now)
  search_found l None h = tt
  search_found l (Some x) (said, i, k, at, before) = (get_has l i x.now (item_at l i x.now k (sym (at x.now))), said)

  none_has : (l : List A) → AllWithin No l 0 (length l) → (x : A) → Has x l → No x
  none_has [] h x k = absurd k
  none_has (y ∷ l) h x (inl e) = subst No (sym e) (h 0 y (omega arith) (omega arith))
  none_has (y ∷ l) h x (inr k) = none_has l (λ i d a b. h (suc i) d (omega arith) (omega (arith, b))) x k

  pub search_none : (l : List A) (o : Option (Bor A)) → Search l o → IfNone o ((x : A) → Has x l → No x)
  search_none l None h = none_has l h
  search_none l (Some x) h = tt

module _ (m : Layers) (t : TopologyParts) (of : IsOf m t) (o : Option (Bor (List ℕ))) (name : Bor (List ℕ)) (is : o ≡ Some name) {A : Type 0} where
  pub layer_there : (a : A) (l : LayerParts) → Has l t.layers → spelled_text l.name ≡ name.now →
      (◌≡◌ {A = Result A QueryFault} (Ok a) (Err NoLayer)) ↔ IsMissing m (option_map (λ n. n.now) o)
  layer_there a l h named =
      subst (λ w. (◌≡◌ {A = Result A QueryFault} (Ok a) (Err NoLayer)) ↔ IsMissing m (option_map (λ n. n.now) w)) (sym is)
      (layer_found a _ (named_features m t of name.now l.geometries (l, h, named, refl)).0)

  pub layer_nowhere : ((l : LayerParts) → Has l t.layers → ¬ (spelled_text l.name ≡ name.now)) →
      (◌≡◌ {A = Result A QueryFault} (Err NoLayer) (Err NoLayer)) ↔ IsMissing m (option_map (λ n. n.now) o)
  layer_nowhere none =
      subst (λ w. (◌≡◌ {A = Result A QueryFault} (Err NoLayer) (Err NoLayer)) ↔ IsMissing m (option_map (λ n. n.now) w)) (sym is)
      (layer_missing {A = A} _ (not_named m t of name.now none))
