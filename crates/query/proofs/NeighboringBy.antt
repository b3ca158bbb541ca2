-- The lists of the neighbours that differ in a property, from those of two classes that share arcs.
use Rattle.std.proofs.Common.{◌≡◌, ◌↔◌, ◌<◌, ℕ, zero, suc, T, List, [], ◌∷◌, length, get_or, inl, inr, refl, sym, ap, ◌∙◌, subst, Some, slice_get, arith}
use Rattle.std.specs.Prelude.{map as map_list}
use Rattle.std.specs.FinMap as map
use Rattle.std.specs.Ordering.{is_lt}
use Rattle.std.specs.declared.cmp.Ordering.{Ordering}
use Rattle.std.specs.declared.cmp.Ordering.TheVariants.{Less, Equal, Greater}
use Rattle.shapes.specs.Maps.{Layers, features_at}
use Rattle.shapes.specs.Order.{feature_cmp}
use Rattle.shapes.specs.OrderLaws.{feature_cmp_total, same_feature}
use Rattle.shapes.specs.declared.feature.Feature.{Feature}
use Rattle.shapes.proofs.Entries.{left, right}
use Rattle.theory.specs.Arcs.{Ascends}
use Rattle.theory.specs.Lists.{Has}
use Rattle.theory.proofs.Ascending.{get_once, less_self}
use Rattle.topo.specs.OfMap.{IsOf}
use Rattle.topo.specs.Parts.{IsOfLayerNamed, TopologyParts}
use Rattle.topo.specs.declared.geom.Geom.{Geom}
use Rattle.query.specs.ArcUsers.{AreListsBy, class_at}
use Rattle.query.specs.ByProperty.{AreClasses, Differ, ListsNeighborsBy, value_text, values_of}
use Rattle.query.proofs.Meshing.{get_less, get_map}
use Rattle.query.proofs.Neighboring.{features, features_count, from_neighbors, geometry_at, neighbors_from, OfOne}

is_less : (r : Ordering) → T (is_lt r) → r ≡ Less
is_less Less h = refl
is_less Equal h = absurd h
is_less Greater h = absurd h

-- the keys of sorted entries ascend
module _ {K X : Type 0} (R : K → K → Ordering) where
  below : (k : K) (es : List (K × X)) → T (map.Entries.below_all R k es) → (q : K) → Has q (map_list (λ e. e.0) es) → R k q ≡ Less
  below k [] b q h = absurd h
  below k (e ∷ es) b q (inl p) = subst (λ w. R k w ≡ Less) (sym p) (is_less (R k e.0) (left (is_lt (R k e.0)) (map.Entries.below_all R k es) b))
  below k (e ∷ es) b q (inr h) = below k es (right (is_lt (R k e.0)) (map.Entries.below_all R k es) b) q h

  keys_ascend : (es : List (K × X)) → T (map.is_sorted R es) → Ascends R (map_list (λ e. e.0) es)
  keys_ascend [] s = tt
  keys_ascend (e ∷ es) s = (
    below e.0 es (left (map.Entries.below_all R e.0 es) (map.is_sorted R es) s),
    keys_ascend es (right (map.Entries.below_all R e.0 es) (map.is_sorted R es) s),
  )

number_at : (l : List ℕ) (n d : ℕ) → n < length l → slice_get l n ≡ Some (get_or l n d)
number_at [] n d h = absurd (omega (arith, h))
number_at (x ∷ l) zero d h = refl
number_at (x ∷ l) (suc n) d h = number_at l n d (omega (arith, h))

module _ (m : Layers) (t : TopologyParts) (of : IsOf m t) (name : List ℕ) (gs : List Geom) (under : IsOfLayerNamed t.layers name gs) where
  -- a feature has one index in its layer
  one_index : (i j : ℕ) (f : Feature) → slice_get (features m t of name gs under) i ≡ Some f → slice_get (features m t of name gs under) j ≡ Some f → i ≡ j
  one_index i j f =
      get_once feature_cmp (less_self feature_cmp feature_cmp_total same_feature) (features m t of name gs under) i j f
      (keys_ascend feature_cmp (map.entries (features_at m name)) (map.entries_sorted (features_at m name)))

  module _ (property : List ℕ) (cs : List ℕ) (classed : AreClasses (values_of property gs) cs) where
    value_at : (i : ℕ) (g : Geom) → slice_get gs i ≡ Some g → slice_get (values_of property gs) i ≡ Some (value_text property g.props)
    value_at i g at = get_map (λ h. value_text property h.props) gs i g at

    its_class : (i : ℕ) (g : Geom) → slice_get gs i ≡ Some g → slice_get cs i ≡ Some (class_at cs i)
    its_class i g at =
        number_at cs i i (subst (λ n. i < n) (sym classed.each) (get_less (values_of property gs) i (value_text property g.props) (value_at i g at)))

    its_value : (f : Feature) (g : Geom) → OfOne m t of name gs under f g → value_text property g.props ≡ value_text property f.props
    its_value f g h = ap (λ w. value_text property w.1) (sym h.info)

    -- whether features at two indexes differ is told by their classes
    differ : (i j : ℕ) (a b : Feature) → slice_get (features m t of name gs under) i ≡ Some a → slice_get (features m t of name gs under) j ≡ Some b → ¬ (i ≡ j) →
        (¬ (class_at cs i ≡ class_at cs j)) ↔ Differ property a b
    differ i j a b at at' apart =
        let (g, here, of_a) = geometry_at m t of name gs under i a at in
        let (h, there, of_b) = geometry_at m t of name gs under j b at' in
        let meant = classed.exact i j (class_at cs i) (class_at cs j) (value_text property g.props) (value_text property h.props)
        (value_at i g here) (value_at j h there) (its_class i g here) (its_class j h there) in (
          (λ n. record {
            apart = λ q. apart (one_index i j a at (at' ∙ ap Some (sym q)));
            unlike = λ o. n (meant.1 (inr (o.0, its_value a g of_a ∙ o.1, its_value b h of_b ∙ o.2)));
          }),
          (λ d e. elim (meant.0 e) [
            | inl q ↦ apart q
            | inr o ↦ d.unlike (o.0, sym (its_value a g of_a) ∙ o.1, sym (its_value b h of_b) ∙ o.2)
          ]),
        )

    pub lists_neighbors_by : (lists : List (List ℕ)) → AreListsBy gs cs lists → ListsNeighborsBy property (features m t of name gs under) lists
    lists_neighbors_by lists h = record {
      each = h.each ∙ features_count m t of name gs under;
      ascend = h.ascend;
      exact = λ i js e j. (
        (λ k.
            let s = (h.exact i js e j).0 k in
            let near = neighbors_from m t of name gs under i j s.arc s.one s.other (λ q. s.unlike (ap (class_at cs) q)) in
            record { neighbors = near; differ = (differ i j near.one near.other near.at near.beside near.apart).0 s.unlike }),
        (λ r.
            let near = r.neighbors in
            let (k, one, other) = from_neighbors m t of name gs under i j near in
            (h.exact i js e j).1 (record { arc = k; one = one; other = other; unlike = (differ i j near.one near.other near.at near.beside near.apart).1 r.differ })),
      );
    }
