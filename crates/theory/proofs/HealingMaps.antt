-- The topology of what is left of a map, from the topology of the map.
use Rattle.std.proofs.Common.{◌≡◌, ℕ, Bool, true, false, List, [], ◌∷◌, map, inl, inr, refl, sym, ap, subst, ◌↔◌, Option}
use Rattle.std.specs.Cmp.{IsTotalOrder}
use Rattle.std.specs.FinMap.{IsAntisymmetric}
use Rattle.std.specs.declared.cmp.Ordering.{Ordering}
use Rattle.theory.proofs.ListsOfLists.{Has-gathered, gathered_from}
use Rattle.theory.proofs.OneTopology.{ring_list_unique, stitch_unique}
use Rattle.theory.proofs.HealingJoined.{joined_arcs, joined_pieces}
use Rattle.theory.proofs.HealingLists.{new_form}
use Rattle.theory.proofs.UsersOfArcs.{line_partner, line_partner_back, partner, partner_back, ring_partner, ring_partner_back}
use Rattle.theory.specs.ArcNumbers.{ArcRef, StitchTo}
use Rattle.theory.specs.Arcs.{AreArcsOf}
use Rattle.theory.specs.Geometry.{IsSound, JunctionOf}
use Rattle.theory.specs.Lists.{Has, Pairwise, gathered}
use Rattle.theory.specs.Refinement.{IsPartOf}
use Rattle.theory.specs.Healing.{AreJoined, AreStarts, EndsInLayers, IsKept, IsLess, IsLineEnd, Starts, less, marked, healed_layer}
use Rattle.theory.specs.Validity.{InLayers}
use Rattle.theory.specs.Topology.{Body, IsFormOf, IsGeometryOf, IsLayerOf, IsRingList, IsTopologyOf, Item, Layer, Map, Shape, forms_of, geometry_of, lines_in, positions_of, rings_in}

-- a form of a map stands in a layer
form_in : {I V : Type 0} (m : Map I V) (f : Shape V) → Has f (forms_of m) → (l : Layer (Item I (Shape V))) × Has l m × (x : Item I (Shape V)) × Has x l.items × (f ≡ x.form)
form_in m f h =
    let l = gathered_from (λ l. gathered (λ f. f.form ∷ []) l.items) m f h in
    let x = gathered_from (λ f. f.form ∷ []) l.0.items f l.2 in
    (l.0, l.1, x.0, x.1, elim x.2 [ inl e ↦ e | inr z ↦ absurd z ])

in_form : {I V : Type 0} (m : Map I V) (l : Layer (Item I (Shape V))) (x : Item I (Shape V)) → Has l m → Has x l.items → Has x.form (forms_of m)
in_form m l x h k =
    Has-gathered (λ l. gathered (λ f. f.form ∷ []) l.items) m l x.form h (Has-gathered (λ f. f.form ∷ []) l.items x x.form k (inl refl))

-- a map with fewer features has fewer lines and rings
pub less_part : {I V : Type 0} (n m : Map I V) → IsLess n m → IsPartOf (geometry_of n) (geometry_of m)
less_part {I} {V} n m is = record {
  lines = λ l h. let t = gathered_from lines_in (forms_of n) l h in Has-gathered lines_in (forms_of m) t.0 l (form t.0 t.1) t.2;
  rings = λ r h. let t = gathered_from rings_in (forms_of n) r h in Has-gathered rings_in (forms_of m) t.0 r (form t.0 t.1) t.2;
}
  where
    form : (f : Shape V) → Has f (forms_of n) → Has f (forms_of m)
    form f h =
        let t = form_in n f h in
        let k = is t.0 t.1 in
        subst (λ w. Has w (forms_of m)) (sym t.4) (in_form m k.0 t.2 k.1 (k.3 t.2 t.3))

marked_has : {A : Type 0} (marks : List Bool) (l : List A) (x : A) → Has x (marked marks l) → Has x l
marked_has [] l x h = absurd h
marked_has (b ∷ marks) [] x h = absurd h
marked_has (false ∷ marks) (y ∷ l) x h = inr (marked_has marks l x h)
marked_has (true ∷ marks) (y ∷ l) x (inl e) = inl e
marked_has (true ∷ marks) (y ∷ l) x (inr h) = inr (marked_has marks l x h)

marked_pairs : {A B : Type 0} (R : A → B → Type 0) (marks : List Bool) (xs : List A) (ys : List B) → Pairwise R xs ys → Pairwise R (marked marks xs) (marked marks ys)
marked_pairs R [] xs ys p = tt
marked_pairs R (b ∷ marks) [] [] p = tt
marked_pairs R (b ∷ marks) [] (y ∷ ys) p = absurd p
marked_pairs R (b ∷ marks) (x ∷ xs) [] p = absurd p
marked_pairs R (false ∷ marks) (x ∷ xs) (y ∷ ys) p = marked_pairs R marks xs ys p.1
marked_pairs R (true ∷ marks) (x ∷ xs) (y ∷ ys) p = (p.0, marked_pairs R marks xs ys p.1)

-- the marked ones are fewer
pub less_is : {F : Type 0} (marks : List (List Bool)) (m : List (Layer F)) → IsLess (less marks m) m
less_is [] m l h = absurd h
less_is (marks ∷ more) [] l h = absurd h
less_is (marks ∷ more) (k ∷ m) l (inl e) =
    (k, inl refl, ap (λ w. w.name) e, λ f h. marked_has marks k.items f (subst (λ w. Has f w.items) e h))
less_is (marks ∷ more) (k ∷ m) l (inr h) = let t = less_is more m l h in (t.0, inr t.1, t.2, t.3)

-- of features and of their geometries, marked alike, each has its own
pub less_layers : {I V : Type 0} (cmp : V → V → Ordering) (J : V → Type 0) (arcs : List (List V)) (marks : List (List Bool))
    (m : Map I V) (layers : List (Layer (Item I (Body V)))) → Pairwise (IsLayerOf cmp J arcs) m layers → Pairwise (IsLayerOf cmp J arcs) (less marks m) (less marks layers)
less_layers cmp J arcs [] m layers p = tt
less_layers cmp J arcs (marks ∷ more) [] [] p = tt
less_layers cmp J arcs (marks ∷ more) [] (k ∷ layers) p = absurd p
less_layers cmp J arcs (marks ∷ more) (l ∷ m) [] p = absurd p
less_layers cmp J arcs (marks ∷ more) (l ∷ m) (k ∷ layers) p =
    (record { name = p.0.name; items = marked_pairs (IsGeometryOf cmp J arcs) marks l.items k.items p.0.items }, less_layers cmp J arcs more m layers p.1)

pairwise_mapped : {A B C : Type 0} (R : A → B → Type 0) (T : A → C → Type 0) (f : B → C) (xs : List A) (ys : List B) →
    ((x : A) (y : B) → Has x xs → R x y → T x (f y)) → Pairwise R xs ys → Pairwise T xs (map f ys)
pairwise_mapped R T f [] [] k p = tt
pairwise_mapped R T f [] (y ∷ ys) k p = absurd p
pairwise_mapped R T f (x ∷ xs) [] k p = absurd p
pairwise_mapped R T f (x ∷ xs) (y ∷ ys) k p = (k x y (inl refl) p.0, pairwise_mapped R T f xs ys (λ z w h. k z w (inr h)) p.1)

module _ {V : Type 0} (cmp : V → V → Ordering) (o : IsTotalOrder cmp) (same : IsAntisymmetric cmp) (dec : (a b : V) → Dec (a ≡ b)) {I : Type 0}
    (m n : Map I V) (sm : IsSound (geometry_of m)) (part : IsPartOf (geometry_of n) (geometry_of m)) (table : List (List V))
    (all : AreArcsOf cmp (geometry_of m) table) (olds : List (Layer (Item I (Body V))))
    (are : Pairwise (IsLayerOf cmp (JunctionOf (geometry_of m)) table) n olds) where
  abbrev A : List V → List ArcRef → Type 0
  A l used = StitchTo table used l

  abbrev B : List V → List ArcRef → Type 0
  B = IsRingList cmp (JunctionOf (geometry_of m)) table

  -- the geometry of each feature that is left, and the other way round
  body_of : (f : Shape V) → Has f (forms_of n) → (k : Layer (Item I (Body V))) × Has k olds × (h : Item I (Body V)) × Has h k.items × IsFormOf A B f h.form
  body_of f i =
      let t = form_in n f i in
      let y = partner (IsLayerOf cmp (JunctionOf (geometry_of m)) table) n olds are t.0 t.1 in
      let h = partner (IsGeometryOf cmp (JunctionOf (geometry_of m)) table) t.0.items y.0.items y.2.items t.2 t.3 in
      (y.0, y.1, h.0, h.1, subst (λ w. IsFormOf A B w h.0.form) (sym t.4) h.2.form)

  feature_of : (k : Layer (Item I (Body V))) → Has k olds → (h : Item I (Body V)) → Has h k.items → (f : Shape V) × Has f (forms_of n) × IsFormOf A B f h.form
  feature_of k i h s =
      let l = partner_back (IsLayerOf cmp (JunctionOf (geometry_of m)) table) n olds are k i in
      let x = partner_back (IsGeometryOf cmp (JunctionOf (geometry_of m)) table) l.0.items k.items l.2.items h s in
      (x.0.form, in_form n l.0 x.0 l.1 x.1, x.2.form)

  -- the list is in a geometry
  abbrev ListIn : (Body V → List (List ArcRef)) → List ArcRef → Type 0
  ListIn lists used = (k : Layer (Item I (Body V))) × Has k olds × (h : Item I (Body V)) × Has h k.items × Has used (lists h.form)

  -- the list of each line, or of each ring, that is left is in a geometry, and each list there is that of one
  record Listed (of_shape : Shape V → List (List V)) (of_body : Body V → List (List ArcRef)) (R : List V → List ArcRef → Type 0) : Type 0 where
    there : (l : List V) (used : List ArcRef) → Has l (gathered of_shape (forms_of n)) → R l used → ListIn of_body used
    back : (used : List ArcRef) → ListIn of_body used → (l : List V) × Has l (gathered of_shape (forms_of n)) × R l used

  listed : (of_shape : Shape V → List (List V)) (of_body : Body V → List (List ArcRef)) (R : List V → List ArcRef → Type 0) →
      ((f : Shape V) (h : Body V) → IsFormOf A B f h → (l : List V) → Has l (of_shape f) → (used : List ArcRef) × Has used (of_body h) × R l used) →
      ((h : Body V) (f : Shape V) → IsFormOf A B f h → (used : List ArcRef) → Has used (of_body h) → (l : List V) × Has l (of_shape f) × R l used) →
      ((l : List V) (used more : List ArcRef) → R l used → R l more → used ≡ more) → Listed of_shape of_body R
  listed of_shape of_body R list_of of_list one = record {
    there = λ l used i st.
        let f = gathered_from of_shape (forms_of n) l i in
        let b = body_of f.0 f.1 in
        let t = list_of f.0 b.2.form b.4 l f.2 in
        (b.0, b.1, b.2, b.3, subst (λ w. Has w (of_body b.2.form)) (sym (one l used t.0 st t.2)) t.1);
    back = λ used (k, i, h, s, e).
        let f = feature_of k i h s in
        let t = of_list h.form f.0 f.2 used e in
        (t.0, Has-gathered of_shape (forms_of n) f.0 t.0 f.1 t.1, t.2);
  }

  line_lists : Listed lines_in lines_in A
  line_lists = listed lines_in lines_in A (line_partner A B) (line_partner_back A B) (stitch_unique cmp o same dec (geometry_of m) sm table all)

  ring_lists : Listed rings_in rings_in B
  ring_lists = listed rings_in rings_in B (ring_partner A B) (ring_partner_back A B) (ring_list_unique cmp o same dec (geometry_of m) sm table all)

  -- the kept arcs are those that the geometries use
  pub kept_in_layers : (k : ℕ) → IsKept cmp (geometry_of n) (geometry_of m) table k ↔ InLayers olds k
  kept_in_layers k = (to, from)
    where
      to : IsKept cmp (geometry_of n) (geometry_of m) table k → InLayers olds k
      to (inl (l, used, i, st, us)) = let b = line_lists.there l used i st in (b.0, b.1, b.2, b.3, inl (used, b.4, us))
      to (inr (r, used, i, st, us)) = let b = ring_lists.there r used i st in (b.0, b.1, b.2, b.3, inr (used, b.4, us))

      from : InLayers olds k → IsKept cmp (geometry_of n) (geometry_of m) table k
      from (l, i, h, s, us) =
          elim us [
            | inl (used, e, v) ↦ (let t = line_lists.back used (l, i, h, s, e) in inl (t.0, used, t.1, t.2, v))
            | inr (used, e, v) ↦ (let t = ring_lists.back used (l, i, h, s, e) in inr (t.0, used, t.1, t.2, v))
          ]

  -- the ends of lines are those of the lists of the geometries
  pub ends_in_layers : (v : V) → IsLineEnd (geometry_of n) table v ↔ EndsInLayers table olds v
  ends_in_layers v = (
    (λ (l, used, i, st, e). let b = line_lists.there l used i st in (b.0, b.1, b.2, b.3, used, b.4, e)),
    (λ (l, i, h, s, used, e, ends). let t = line_lists.back used (l, i, h, s, e) in (t.0, used, t.1, t.2, ends)),
  )

  -- with the joined arcs, and the lists along them, it is the topology of what is left
  pub removed_topology : {G X : Type 0} (box_of : G → List V → Option X) (on : G) (arcs : List (List V)) (pieces : List (List ArcRef)) (starts : Starts) →
      AreJoined cmp (geometry_of n) (geometry_of m) table arcs pieces → AreStarts pieces starts →
      IsTopologyOf cmp box_of on n (record { grid = on; arcs = arcs; layers = map (healed_layer cmp arcs starts) olds; bbox = box_of on (positions_of n) })
  removed_topology box_of on arcs pieces starts joined st = record {
    grid = refl;
    arcs = joined_arcs cmp o same dec (geometry_of m) sm table all (geometry_of n) part arcs pieces joined;
    layers = pairwise_mapped (IsLayerOf cmp (JunctionOf (geometry_of m)) table) (IsLayerOf cmp (JunctionOf (geometry_of n)) arcs) (healed_layer cmp arcs starts) n olds
        (λ l k h is. record {
          name = is.name;
          items = pairwise_mapped (IsGeometryOf cmp (JunctionOf (geometry_of m)) table) (IsGeometryOf cmp (JunctionOf (geometry_of n)) arcs) _ l.items k.items
              (λ x y i is. record {
                info = is.info;
                form = new_form cmp o same dec (geometry_of m) sm table all (geometry_of n) part arcs pieces
                    (joined_pieces cmp o same dec (geometry_of m) sm table all (geometry_of n) part arcs pieces joined) starts st x.form y.form
                    (λ c j. Has-gathered lines_in (forms_of n) x.form c (in_form n l x h i) j)
                    (λ c j. Has-gathered rings_in (forms_of n) x.form c (in_form n l x h i) j) is.form;
              }) is.items;
        }) are;
    bbox = refl;
  }
