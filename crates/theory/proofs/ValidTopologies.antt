-- A topology that stands is that of the map of the features that it reads as.
use Rattle.std.proofs.Common.{◌≡◌, ℕ, List, [], ◌∷◌, ◌++◌, ◌⊎◌, inl, inr, refl, sym, subst, Option}
use Rattle.std.proofs.lemmas.Cmp.{lists_total}
use Rattle.std.proofs.lemmas.List.{append-nil}
use Rattle.std.specs.Cmp.{IsTotalOrder, on_total}
use Rattle.std.specs.Cmp.Lexicographic.{slice_cmp}
use Rattle.std.specs.FinMap.{IsAntisymmetric}
use Rattle.std.specs.declared.cmp.Ordering.{Ordering}
use Rattle.theory.proofs.ListsOfLists.{Has-gathered, Has-joined, gathered_from}
use Rattle.theory.proofs.ValidMaps.{arcs_of_map, map_sound}
use Rattle.theory.proofs.ValidRings.{ring_turned}
use Rattle.theory.proofs.Turning.{least_list_found, rotation_listed, rotation_of}
use Rattle.theory.proofs.UsersOfArcs.{line_partner, line_partner_back, partner, partner_back, ring_partner, ring_partner_back}
use Rattle.theory.specs.ArcNumbers.{ArcRef, StitchTo, Uses}
use Rattle.theory.specs.Arcs.{AreArcsOf}
use Rattle.theory.specs.Geometry.{Geometry, IsSound, JunctionOf}
use Rattle.theory.specs.Lists.{Has, Pairwise, gathered}
use Rattle.theory.specs.Refinement.{start_of, turned_used}
use Rattle.theory.specs.Validity.{InLayers, IsListOfLine, IsReadGeometry, IsReadLayer, IsReadRing, AreValidFor, IsValidTopology}
use Rattle.theory.specs.Topology.{Body, Form, IsFormOf, IsGeometryOf, IsLayerOf, IsRingList, IsTopologyOf, Item, Layer, Map, Shape, Topology, forms_of, geometry_of, line, lines, lines_in, null, point, points, polygon, polygons, rings_in}
use Rattle.theory.specs.TopologyFunction.{rotations}
use Rattle.theory.specs.Users.{UsesArc}

pub Pairwise-on : {A B : Type 0} (R T : A → B → Type 0) (xs : List A) (ys : List B) → Pairwise R xs ys → ((x : A) (y : B) → Has x xs → R x y → T x y) → Pairwise T xs ys
Pairwise-on R T [] [] p k = tt
Pairwise-on R T [] (y ∷ ys) p k = absurd p
Pairwise-on R T (x ∷ xs) [] p k = absurd p
Pairwise-on R T (x ∷ xs) (y ∷ ys) p k = (k x y (inl refl) p.0, Pairwise-on R T xs ys p.1 (λ z w h. k z w (inr h)))

pub form_on : {V L R M N : Type 0} (A C : L → M → Type 0) (B D : R → N → Type 0) (f : Form V L R) (h : Form V M N) → IsFormOf A B f h →
    ((l : L) (m : M) → Has l (lines_in f) → A l m → C l m) → ((r : R) (n : N) → Has r (rings_in f) → B r n → D r n) → IsFormOf C D f h
form_on A C B D null null p l r = tt
form_on A C B D (point x) (point y) p l r = p
form_on A C B D (points xs) (points ys) p l r = p
form_on A C B D (line x) (line y) p l r = l x y (inl refl) p
form_on A C B D (lines xs) (lines ys) p l r = Pairwise-on A C xs ys p l
form_on A C B D (polygon xs) (polygon ys) p l r = Pairwise-on B D xs ys p r
form_on A C B D (polygons xs) (polygons ys) p l r =
    Pairwise-on (Pairwise B) (Pairwise D) xs ys p (λ x y h q. Pairwise-on B D x y q (λ z w i. r z w (Has-joined xs x z h i)))
form_on A C B D f h p l r = absurd search

Uses-append : (k : ℕ) (s t : List ArcRef) → Uses k (s ++ t) → Uses k s ⊎ Uses k t
Uses-append k [] t h = inr h
Uses-append k (b ∷ s) t (inl e) = inl (inl e)
Uses-append k (b ∷ s) t (inr h) = elim (Uses-append k s t h) [ inl i ↦ inl (inr i) | inr i ↦ inr i ]

Uses-left : (k : ℕ) (s t : List ArcRef) → Uses k s → Uses k (s ++ t)
Uses-left k [] t h = absurd h
Uses-left k (b ∷ s) t (inl e) = inl e
Uses-left k (b ∷ s) t (inr h) = inr (Uses-left k s t h)

Uses-right : (k : ℕ) (s t : List ArcRef) → Uses k t → Uses k (s ++ t)
Uses-right k [] t h = h
Uses-right k (b ∷ s) t h = inr (Uses-right k s t h)

module _ {V : Type 0} (cmp : V → V → Ordering) (o : IsTotalOrder cmp) (arcs : List (List V)) where
  -- what is used in a list that is turned is used in the list
  turned_uses : (us : List ArcRef) (k : ℕ) → Uses k (turned_used cmp arcs us) → Uses k us
  turned_uses [] k h = h
  turned_uses (b ∷ us) k h =
      let there : Has (b ∷ us) (rotations (b ∷ us)) = rotation_listed (b ∷ us) b us ([], b ∷ us, refl, sym (append-nil (b ∷ us))) in
      let best = least_list_found (λ c d. slice_cmp cmp (start_of arcs c) (start_of arcs d)) (on_total (start_of arcs) (lists_total o)) (rotations (b ∷ us)) (b ∷ us) there in
      let t = rotation_of [] (b ∷ us) (turned_used cmp arcs (b ∷ us)) best.0 in
      subst (λ w. Uses k w) (sym t.3) (swap t.0 t.1 t.2 (subst (λ w. Uses k w) t.4 h))
    where
      swap : (c : ArcRef) (s t : List ArcRef) → Uses k (c ∷ (t ++ s)) → Uses k (s ++ (c ∷ t))
      swap c s t (inl e) = Uses-right k s (c ∷ t) (inl e)
      swap c s t (inr i) = elim (Uses-append k t s i) [ inl j ↦ Uses-right k s (c ∷ t) (inr j) | inr j ↦ Uses-left k s (c ∷ t) j ]

module _ {V : Type 0} (cmp : V → V → Ordering) (o : IsTotalOrder cmp) (same : IsAntisymmetric cmp) (dec : (a b : V) → Dec (a ≡ b)) {I G B : Type 0}
    (box_of : G → List V → Option B) (on : G) (m : Map I V) (a : Geometry V) (t : Topology G I V B) (st : IsValidTopology cmp box_of on m a t) where
  g : Geometry V
  g = geometry_of m

  abbrev pub Reads : Shape V → Body V → Type 0
  Reads f h = IsFormOf (IsListOfLine t.arcs a) (IsReadRing cmp t.arcs) f h

  -- each feature's shape has its body
  shape_body : (f : Shape V) → Has f (forms_of m) → (h : Body V) × Reads f h
  shape_body f i =
      let l = gathered_from (λ l. gathered (λ f. f.form ∷ []) l.items) m f i in
      let e = gathered_from (λ f. f.form ∷ []) l.0.items f l.2 in
      let k = partner (IsReadLayer cmp t.arcs a) m t.layers st.layers l.0 l.1 in
      let h = partner (IsReadGeometry cmp t.arcs a) l.0.items k.0.items k.2.items e.0 e.1 in
      (h.0.form, elim e.2 [ inl p ↦ subst (λ w. Reads w h.0.form) (sym p) h.2.form | inr z ↦ absurd z ])

  body_shape : (k : ℕ) → InLayers t.layers k → (f : Shape V) × Has f (forms_of m) × (h : Body V) × Reads f h × UsesArc k h
  body_shape k (l, i, h, j, u) =
      let p = partner_back (IsReadLayer cmp t.arcs a) m t.layers st.layers l i in
      let q = partner_back (IsReadGeometry cmp t.arcs a) p.0.items l.items p.2.items h j in (
        q.0.form,
        Has-gathered (λ l. gathered (λ f. f.form ∷ []) l.items) m p.0 q.0.form p.1 (Has-gathered (λ f. f.form ∷ []) p.0.items q.0 q.0.form q.1 (inl refl)),
        h.form,
        q.2.form,
        u,
      )

  -- its arcs stand
  pub stands : AreValidFor cmp t.arcs a (geometry_of m)
  stands = record {
    alone = st.alone;
    lines = λ l h.
        let f = gathered_from lines_in (forms_of m) l h in
        let b = shape_body f.0 f.1 in
        let k = line_partner (IsListOfLine t.arcs a) (IsReadRing cmp t.arcs) f.0 b.0 b.1 l f.2 in
        (k.0, k.2);
    rings = λ r h.
        let f = gathered_from rings_in (forms_of m) r h in
        let b = shape_body f.0 f.1 in
        let k = ring_partner (IsListOfLine t.arcs a) (IsReadRing cmp t.arcs) f.0 b.0 b.1 r f.2 in
        (k.2.0, k.2.1);
    used = λ k c e.
        let b = body_shape k (st.used k c e) in
        elim b.4 [
          | inl u ↦
              let p = line_partner_back (IsListOfLine t.arcs a) (IsReadRing cmp t.arcs) b.2 b.0 b.3 u.0 u.1 in
              inl (p.0, u.0, Has-gathered lines_in (forms_of m) b.0 p.0 b.1 p.1, p.2, u.2)
          | inr u ↦
              let p = ring_partner_back (IsListOfLine t.arcs a) (IsReadRing cmp t.arcs) b.2 b.0 b.3 u.0 u.1 in
              inr (
                p.0,
                p.2.0,
                Has-gathered rings_in (forms_of m) b.0 p.0 b.1 p.1,
                p.2.1,
                turned_uses cmp o t.arcs p.2.0 k (subst (λ w. Uses k w) p.2.2 u.2),
              )
        ];
    ends = st.ends;
  }

  pub sound_map : IsSound (geometry_of m)
  sound_map = map_sound cmp o same dec t.arcs a (geometry_of m) stands

  all : AreArcsOf cmp (geometry_of m) t.arcs
  all = arcs_of_map cmp o same dec t.arcs a (geometry_of m) stands

  Has-form : (l : Layer (Item I (Shape V))) (f : Item I (Shape V)) → Has l m → Has f l.items → Has f.form (forms_of m)
  Has-form l f h k =
      Has-gathered (λ l. gathered (λ f. f.form ∷ []) l.items) m l f.form h
      (Has-gathered (λ f. f.form ∷ []) l.items f f.form k (inl refl))

  -- it is the topology of the map
  pub standing : IsTopologyOf cmp box_of on m t
  standing = record {
    grid = st.grid;
    arcs = all;
    layers = Pairwise-on (IsReadLayer cmp t.arcs a) (IsLayerOf cmp (JunctionOf (geometry_of m)) t.arcs) m t.layers st.layers (λ l k i h. record {
      name = h.name;
      items = Pairwise-on (IsReadGeometry cmp t.arcs a) (IsGeometryOf cmp (JunctionOf (geometry_of m)) t.arcs) l.items k.items h.items (λ f b j q. record {
        info = q.info;
        form = form_on (IsListOfLine t.arcs a) (λ c used. StitchTo t.arcs used c) (IsReadRing cmp t.arcs) (IsRingList cmp (JunctionOf (geometry_of m)) t.arcs)
            f.form b.form q.form
            (λ c used z y. y.stitch)
            (λ r used z y.
            subst (λ w. IsRingList cmp (JunctionOf (geometry_of m)) t.arcs r w) (sym y.2)
            (ring_turned cmp o same dec (geometry_of m) sound_map t.arcs all r (Has-gathered rings_in (forms_of m) f.form r (Has-form l f i j) z) y.0 y.1));
      });
    });
    bbox = st.bbox;
  }
