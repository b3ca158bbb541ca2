-- The positions of a map's features are those of its arcs and of its points.
use Rattle.std.proofs.Common.{◌≡◌, ◌≤◌, List, [], ◌∷◌, ◌++◌, inl, inr, refl, sym, ap, ◌∙◌, subst, length, arith, append_assoc}
use Rattle.std.specs.Prelude.{map as map_list}
use Rattle.grid.specs.declared.pos.Pos.{Pos}
use Rattle.lines.specs.Turned.{position_cmp}
use Rattle.shapes.specs.Maps.{Layers}
use Rattle.arcs.specs.Arcs.{Arcs}
use Rattle.chains.specs.Seen.{Info, seen, geometry_of}
use Rattle.theory.specs.Geometry.{Geometry, IsSound, IsChainOf, SegmentOf, JunctionOf}
use Rattle.theory.specs.LinesAndRings.{around}
use Rattle.theory.specs.Lists.{Beside, Has, Pairwise, gathered, joined}
use Rattle.theory.specs.Topology.{Form, Shape, Item, Map, IsFormOf, IsGeometryOf, IsLayerOf, forms_of, lines_in, rings_in, points_in, positions_of, null, point, points, line, lines, polygon, polygons}
use Rattle.theory.proofs.Lists.{Beside-left, Has-append, Has-append_left, Has-append_right}
use Rattle.theory.proofs.ListsOfLists.{Has-gathered, gathered_from, Has-joined, get_has}
use Rattle.topo.specs.OfMap.{ArePartsOf, body_of, item_of, layer_of}
use Rattle.topo.specs.Parts.{LayerParts}
use Rattle.topo.specs.Points.{geometry_points, layer_points}
use Rattle.topo.specs.declared.geom.Geom.{Geom}

module _ {A B : Type 0} where
  gathered-append : (f : A → List B) (a b : List A) → gathered f (a ++ b) ≡ gathered f a ++ gathered f b
  gathered-append f [] b = refl
  gathered-append f (x ∷ a) b = ap (λ w. f x ++ w) (gathered-append f a b) ∙ sym (append_assoc (f x) (gathered f a) (gathered f b))

pub gathered_gathered : {A B C : Type 0} (f : B → List C) (g : A → List B) (l : List A) → gathered f (gathered g l) ≡ gathered (λ x. gathered f (g x)) l
gathered_gathered f g [] = refl
gathered_gathered f g (x ∷ l) = gathered-append f (g x) (gathered g l) ∙ ap (λ w. gathered f (g x) ++ w) (gathered_gathered f g l)

joined_from : {A : Type 0} (ls : List (List A)) (x : A) → Has x (joined ls) → (l : List A) × Has l ls × Has x l
joined_from [] x h = absurd h
joined_from (l ∷ ls) x h =
    elim (Has-append x l (joined ls) h) [
      | inl k ↦ (l, inl refl, k)
      | inr k ↦ (let t = joined_from ls x k in (t.0, inr t.1, t.2))
    ]

beside_later : (u v a : Pos) (l : List Pos) → Beside u v l → Beside u v (a ∷ l)
beside_later u v a l (inl s) = inl (inr s)
beside_later u v a l (inr s) = inr (inr s)

-- each vertex of two or more has a neighbour
has_beside : (v : Pos) (l : List Pos) → 2 ≤ length l → Has v l → (y : Pos) × Beside v y l
has_beside v [] long h = absurd h
has_beside v (a ∷ []) long h = absurd (omega arith)
has_beside v (a ∷ (b ∷ l)) long (inl e) = (b, inl (inl (e, refl)))
has_beside v (a ∷ (b ∷ [])) long (inr (inl e)) = (a, inr (inl (refl, e)))
has_beside v (a ∷ (b ∷ [])) long (inr (inr h)) = absurd h
has_beside v (a ∷ (b ∷ (c ∷ l))) long (inr h) =
    let t = has_beside v (b ∷ (c ∷ l)) (omega arith) h in (t.0, beside_later v t.0 a (b ∷ (c ∷ l)) t.1)

around_beside : (v : Pos) (r : List Pos) → 3 ≤ length r → Has v r → (y : Pos) × Beside v y (around r)
around_beside v [] long h = absurd h
around_beside v (a ∷ []) long h = absurd (omega arith)
around_beside v (a ∷ (b ∷ r)) long h =
    has_beside v ((a ∷ (b ∷ r)) ++ (a ∷ (b ∷ []))) (omega arith) (Has-append_left v (a ∷ (b ∷ r)) (a ∷ (b ∷ [])) h)

pub around_has : (v : Pos) (r : List Pos) → Has v (around r) → Has v r
around_has v [] h = absurd h
around_has v (a ∷ []) h = absurd h
around_has v (a ∷ (b ∷ r)) h =
    elim (Has-append v (a ∷ (b ∷ r)) (a ∷ (b ∷ [])) h) [
      | inl k ↦ k
      | inr k ↦ elim k [ inl e ↦ inl e | inr j ↦ elim j [ inl e ↦ inr (inl e) | inr n ↦ absurd n ] ]
    ]

chain_beside : (g : Geometry Pos) (v : Pos) (c : List Pos) → IsChainOf position_cmp g c → Has v c → (y : Pos) × Beside v y c
chain_beside g v [] k h = absurd k
chain_beside g v (x ∷ r) k h = let n = k.long in has_beside v (x ∷ r) (omega arith) h

-- forms of one kind have the same points
pub same_points : {L R M Q : Type 0} (A : L → M → Type 0) (B : R → Q → Type 0) (f : Form Pos L R) (h : Form Pos M Q) → IsFormOf A B f h → points_in f ≡ points_in h
same_points A B null null e = refl
same_points A B (point p) (point q) e = ap (λ w. w ∷ []) e
same_points A B (points ps) (points qs) e = e
same_points A B (line l) (line k) e = refl
same_points A B (lines l) (lines k) e = refl
same_points A B (polygon l) (polygon k) e = refl
same_points A B (polygons l) (polygons k) e = refl
same_points A B f h e = absurd e

abbrev item_forms : List (Item Info (Shape Pos)) → List (Shape Pos)
item_forms items = gathered (λ f. f.form ∷ []) items

module _ (J : Pos → Type 0) (arcs : List (List Pos)) where
  points_of_items : (items : List (Item Info (Shape Pos))) (gs : List Geom) → Pairwise (IsGeometryOf position_cmp J arcs) items (map_list item_of gs) →
      gathered points_in (item_forms items) ≡ gathered geometry_points gs
  points_of_items [] [] h = refl
  points_of_items [] (g ∷ gs) h = absurd h
  points_of_items (f ∷ items) [] h = absurd h
  points_of_items (f ∷ items) (g ∷ gs) h =
      let e : points_in f.form ≡ geometry_points g = same_points _ _ f.form (body_of g.body) h.0.form in
      let k = points_of_items items gs h.1 in
      λ i. e i ++ k i

  points_of_layers : (m : Map Info Pos) (ls : List LayerParts) → Pairwise (IsLayerOf position_cmp J arcs) m (map_list layer_of ls) →
      gathered (λ l. gathered points_in (item_forms l.items)) m ≡ gathered layer_points ls
  points_of_layers [] [] h = refl
  points_of_layers [] (l ∷ ls) h = absurd h
  points_of_layers (k ∷ m) [] h = absurd h
  points_of_layers (k ∷ m) (l ∷ ls) h =
      let e : gathered points_in (item_forms k.items) ≡ layer_points l = points_of_items k.items l.geometries h.0.items in
      let t = points_of_layers m ls h.1 in
      λ i. e i ++ t i

module _ (m : Layers) (t : Arcs) (ls : List LayerParts) (parts : ArePartsOf m t ls) (sound : IsSound (geometry_of m)) where
  same_map_points : gathered points_in (forms_of (seen m)) ≡ gathered layer_points ls
  same_map_points =
      gathered_gathered points_in (λ l. item_forms l.items) (seen m)
      ∙ points_of_layers (JunctionOf (geometry_of m)) t.arcs (seen m) ls parts.layers

  on_arc : (u v : Pos) → SegmentOf (geometry_of m) u v → Has u (joined t.arcs ++ gathered layer_points ls)
  on_arc u v s =
      let a = parts.table.once.in_an_arc u v s in
      Has-append_left u (joined t.arcs) (gathered layer_points ls)
      (Has-joined t.arcs a.1 u (get_has t.arcs a.0 a.1 a.2) (Beside-left u v a.1 a.3))

  -- each vertex of these lists is on a segment
  from_list : (lists_in : Shape Pos → List (List Pos)) (p : Pos) →
      ((l : List Pos) → Has l (gathered lists_in (forms_of (seen m))) → Has p l → (v : Pos) × SegmentOf (geometry_of m) p v) →
      (f : Shape Pos) → Has f (forms_of (seen m)) → Has p (joined (lists_in f)) → Has p (joined t.arcs ++ gathered layer_points ls)
  from_list lists_in p beside f h k =
      let (l, there, on) = joined_from (lists_in f) p k in
      let s = beside l (Has-gathered lists_in (forms_of (seen m)) f l h there) on in
      on_arc p s.0 s.1

  from_line : (p : Pos) (f : Shape Pos) → Has f (forms_of (seen m)) → Has p (joined (lines_in f)) → Has p (joined t.arcs ++ gathered layer_points ls)
  from_line p = from_list lines_in p (λ l is on. let b = has_beside p l (sound.lines l is).long on in (b.0, inl (l, is, b.1)))

  from_ring : (p : Pos) (f : Shape Pos) → Has f (forms_of (seen m)) → Has p (joined (rings_in f)) → Has p (joined t.arcs ++ gathered layer_points ls)
  from_ring p = from_list rings_in p (λ r is on. let b = around_beside p r (sound.rings r is).long on in (b.0, inr (r, is, b.1)))

  pub positions_kept : (p : Pos) → Has p (positions_of (seen m)) → Has p (joined t.arcs ++ gathered layer_points ls)
  positions_kept p h =
      let (f, there, k) = gathered_from (λ f. points_in f ++ (joined (lines_in f) ++ joined (rings_in f))) (forms_of (seen m)) p h in
      elim (Has-append p (points_in f) (joined (lines_in f) ++ joined (rings_in f)) k) [
        | inl a ↦ Has-append_right p (joined t.arcs) (gathered layer_points ls) (subst (λ w. Has p w) same_map_points (Has-gathered points_in (forms_of (seen m)) f p there a))
        | inr a ↦ elim (Has-append p (joined (lines_in f)) (joined (rings_in f)) a) [ inl b ↦ from_line p f there b | inr b ↦ from_ring p f there b ]
      ]

  position_of : (p : Pos) (f : Shape Pos) → Has f (forms_of (seen m)) → Has p (points_in f ++ (joined (lines_in f) ++ joined (rings_in f))) → Has p (positions_of (seen m))
  position_of p f there k = Has-gathered (λ f. points_in f ++ (joined (lines_in f) ++ joined (rings_in f))) (forms_of (seen m)) f p there k

  of_segment : (u v : Pos) → SegmentOf (geometry_of m) u v → Has u (positions_of (seen m))
  of_segment u v (inl (l, is, b)) =
      let (f, there, k) = gathered_from lines_in (forms_of (seen m)) l is in
      position_of u f there
      (Has-append_right u (points_in f) (joined (lines_in f) ++ joined (rings_in f))
      (Has-append_left u (joined (lines_in f)) (joined (rings_in f)) (Has-joined (lines_in f) l u k (Beside-left u v l b))))
  of_segment u v (inr (r, is, b)) =
      let (f, there, k) = gathered_from rings_in (forms_of (seen m)) r is in
      position_of u f there
      (Has-append_right u (points_in f) (joined (lines_in f) ++ joined (rings_in f))
      (Has-append_right u (joined (lines_in f)) (joined (rings_in f)) (Has-joined (rings_in f) r u k (around_has u r (Beside-left u v (around r) b)))))

  pub positions_found : (p : Pos) → Has p (joined t.arcs ++ gathered layer_points ls) → Has p (positions_of (seen m))
  positions_found p h =
      elim (Has-append p (joined t.arcs) (gathered layer_points ls) h) [
        | inl a ↦ (
            let (c, there, on) = joined_from t.arcs p a in
            let b = chain_beside (geometry_of m) p c (parts.table.arcs.arcs_only c there).chain on in
            of_segment p b.0 (parts.table.once.no_other p b.0 c there b.1)
            )
        | inr a ↦ (
            let (f, there, k) = gathered_from points_in (forms_of (seen m)) p (subst (λ w. Has p w) (sym same_map_points) a) in
            position_of p f there (Has-append_left p (points_in f) (joined (lines_in f) ++ joined (rings_in f)) k)
            )
      ]
