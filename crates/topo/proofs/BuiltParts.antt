-- The table of a map's pieces, and the layers built by it, are the parts of the map's topology.
use Rattle.std.proofs.Common.{◌≡◌, ℕ, List, [], ◌∷◌, ◌⊎◌, inl, inr, refl, sym, ap, subst}
use Rattle.std.specs.Prelude.{map as map_list}
use Rattle.std.specs.FinMap as map
use Rattle.grid.specs.declared.pos.Pos.{Pos}
use Rattle.lines.specs.Turned.{position_cmp, list_cmp}
use Rattle.shapes.specs.Maps.{Layers, Features}
use Rattle.shapes.specs.Sets as set
use Rattle.shapes.specs.declared.feature.Feature.{Feature}
use Rattle.shapes.specs.Shapes as shapes
use Rattle.shapes.specs.declared.form.Form.TheVariants as of
use Rattle.lines.specs.declared.line.Line as the_line
use Rattle.lines.specs.declared.ring.Ring as the_ring
use Rattle.arcs.specs.Arcs.{Arcs}
use Rattle.chains.specs.Index.{IsIndexOf}
use Rattle.arcs.specs.Pieces.{chain_of}
use Rattle.chains.specs.Pieces.{line_pieces, ring_pieces}
use Rattle.chains.specs.Seen as seen_by
use Rattle.chains.specs.Seen.{line_of, ring_of, form_of, seen, geometry_of}
use Rattle.arcs.specs.Table.{ArePiecesOfMap, IsTableOf}
use Rattle.arcs.specs.declared.piece.Piece.{Piece}
use Rattle.chains.proofs.TableOfMap.{are_pieces, line_list, ring_list}
use Rattle.theory.specs.ArcNumbers.{ArcRef, StitchTo}
use Rattle.theory.specs.Arcs.{AreSortedOnce}
use Rattle.theory.specs.Geometry.{IsSound, IsLineOf, IsRingOf, JunctionOf}
use Rattle.theory.specs.Lists.{Has, Pairwise, gathered, joined}
use Rattle.theory.specs.Topology as topology
use Rattle.theory.specs.Topology.{Shape, Item, IsFormOf, IsGeometryOf, IsLayerOf, IsRingList, forms_of, lines_in, rings_in}
use Rattle.theory.proofs.Lists.{Has-append, Has-append_left, Has-append_right}
use Rattle.theory.proofs.ListsOfLists.{Has-gathered, gathered_from}
use Rattle.topo.specs.Building.{entry_built, form_pieces, line_used, ring_used, body_built, geometry_built, parts_entry}
use Rattle.topo.specs.OfMap.{ArePartsOf, body_of, item_of, layer_of}
use Rattle.topo.specs.Parts.{LayerParts}
use Rattle.topo.proofs.Sound.{are_sound}

module _ {A : Type 0} (B : A → List Pos) (u : A → List ArcRef) (R : List Pos → List ArcRef → Type 0) where
  pairs : (xs : List A) → ((x : A) → Has x xs → R (B x) (u x)) → Pairwise R (map_list B xs) (map_list u xs)
  pairs [] h = tt
  pairs (x ∷ xs) h = (h x (inl refl), pairs xs (λ y k. h y (inr k)))

  pairs_of : (xs : List (List A)) → ((x : A) → Has x (joined xs) → R (B x) (u x)) → Pairwise (Pairwise R) (map_list (map_list B) xs) (map_list (map_list u) xs)
  pairs_of [] h = tt
  pairs_of (x ∷ xs) h = (pairs x (λ y k. h y (Has-append_left y x (joined xs) k)), pairs_of xs (λ y k. h y (Has-append_right y x (joined xs) k)))

Has-map : {A B : Type 0} (f : A → B) (l : List A) (x : A) → Has x l → Has (f x) (map_list f l)
Has-map f [] x h = absurd h
Has-map f (y ∷ l) x (inl e) = inl (ap f e)
Has-map f (y ∷ l) x (inr h) = inr (Has-map f l x h)

Has-maps : {A B : Type 0} (f : A → B) (ls : List (List A)) (x : A) → Has x (joined ls) → Has (f x) (joined (map_list (map_list f) ls))
Has-maps f [] x h = absurd h
Has-maps f (l ∷ ls) x h =
    elim (Has-append x l (joined ls) h) [
      | inl k ↦ Has-append_left (f x) (map_list f l) (joined (map_list (map_list f) ls)) (Has-map f l x k)
      | inr k ↦ Has-append_right (f x) (map_list f l) (joined (map_list (map_list f) ls)) (Has-maps f ls x k)
    ]

module _ (m : Layers) (i : List Pos) (index : IsIndexOf i (geometry_of m)) (ps : List Piece) (all : ps ≡ gathered (form_pieces i) (forms_of (seen m))) where
  of_lists : (lists_in : Shape Pos → List (List Pos)) (cut : List Pos → List Piece) → ((f : Shape Pos) (p : Piece) → Has p (gathered cut (lists_in f)) → Has p (form_pieces i f)) →
      (l : List Pos) → Has l (gathered lists_in (forms_of (seen m))) → (p : Piece) → Has p (cut l) → Has p ps
  of_lists lists_in cut among l h p k =
      let (f, there, on) = gathered_from lists_in (forms_of (seen m)) l h in
      subst (λ w. Has p w) (sym all) (Has-gathered (form_pieces i) (forms_of (seen m)) f p there (among f p (Has-gathered cut (lists_in f) l p on k)))

  of_lines : (l : List Pos) → IsLineOf (geometry_of m) l → (p : Piece) → Has p (line_pieces i l) → Has p ps
  of_lines = of_lists lines_in (line_pieces i) (λ f p. Has-append_left p (gathered (line_pieces i) (lines_in f)) (gathered (ring_pieces i) (rings_in f)))

  of_rings : (r : List Pos) → IsRingOf (geometry_of m) r → (p : Piece) → Has p (ring_pieces i r) → Has p ps
  of_rings = of_lists rings_in (ring_pieces i) (λ f p. Has-append_right p (gathered (line_pieces i) (lines_in f)) (gathered (ring_pieces i) (rings_in f)))

  from : (p : Piece) → Has p ps →
      ((l : List Pos) × IsLineOf (geometry_of m) l × Has p (line_pieces i l)) ⊎ ((r : List Pos) × IsRingOf (geometry_of m) r × Has p (ring_pieces i r))
  from p h =
      let (f, there, on) = gathered_from (form_pieces i) (forms_of (seen m)) p (subst (λ w. Has p w) all h) in
      elim (Has-append p (gathered (line_pieces i) (lines_in f)) (gathered (ring_pieces i) (rings_in f)) on) [
        | inl k ↦ (let (l, in_form, at) = gathered_from (line_pieces i) (lines_in f) p k in inl (l, Has-gathered lines_in (forms_of (seen m)) f l there in_form, at))
        | inr k ↦ (let (r, in_form, at) = gathered_from (ring_pieces i) (rings_in f) p k in inr (r, Has-gathered rings_in (forms_of (seen m)) f r there in_form, at))
      ]

  map_pieces : ArePiecesOfMap (geometry_of m) ps
  map_pieces = are_pieces (geometry_of m) (are_sound m) i index ps of_lines of_rings from

  module _ (arcs : List (List Pos)) (sorted : AreSortedOnce list_cmp (map_list chain_of ps) arcs) where
    line_good : (l : the_line.Line) → IsLineOf (geometry_of m) (line_of l) → StitchTo arcs (line_used i arcs l) (line_of l)
    line_good l h = line_list (geometry_of m) (are_sound m) i index ps of_lines of_rings arcs sorted (line_of l) h

    ring_good : (r : the_ring.Ring) → IsRingOf (geometry_of m) (ring_of r) → IsRingList position_cmp (JunctionOf (geometry_of m)) arcs (ring_of r) (ring_used i arcs r)
    ring_good r h = ring_list (geometry_of m) (are_sound m) i index ps of_lines of_rings arcs sorted (ring_of r) h

    abbrev Good : Shape Pos → topology.Body Pos → Type 0
    Good = IsFormOf (λ l used. StitchTo arcs used l) (IsRingList position_cmp (JunctionOf (geometry_of m)) arcs)

    form_good : (s : shapes.Shape) → ((l : List Pos) → Has l (lines_in (form_of s)) → IsLineOf (geometry_of m) l) →
        ((r : List Pos) → Has r (rings_in (form_of s)) → IsRingOf (geometry_of m) r) → Good (form_of s) (body_of (body_built i arcs s))
    form_good of.Null h k = tt
    form_good (of.Point p) h k = refl
    form_good (of.MultiPoint p) h k = refl
    form_good (of.Line l) h k = line_good l (h (line_of l) (inl refl))
    form_good (of.MultiLine ls) h k = pairs line_of (line_used i arcs) (λ l used. StitchTo arcs used l) ls (λ l q. line_good l (h (line_of l) (Has-map line_of ls l q)))
    form_good (of.Polygon rs) h k =
        pairs ring_of (ring_used i arcs) (IsRingList position_cmp (JunctionOf (geometry_of m)) arcs) rs (λ r q. ring_good r (k (ring_of r) (Has-map ring_of rs r q)))
    form_good (of.MultiPolygon qs) h k =
        pairs_of ring_of (ring_used i arcs) (IsRingList position_cmp (JunctionOf (geometry_of m)) arcs) qs (λ r q. ring_good r (k (ring_of r) (Has-maps ring_of qs r q)))

    items_good : (fs : List Feature) → ((f : Feature) → Has f fs → Has (form_of f.shape) (forms_of (seen m))) →
        Pairwise (IsGeometryOf position_cmp (JunctionOf (geometry_of m)) arcs) (map_list seen_by.item_of fs) (map_list item_of (map_list (geometry_built i arcs) fs))
    items_good [] h = tt
    items_good (f ∷ fs) h = (
      record {
        info = refl;
        form = form_good f.shape (λ l k. Has-gathered lines_in (forms_of (seen m)) (form_of f.shape) l (h f (inl refl)) k)
            (λ r k. Has-gathered rings_in (forms_of (seen m)) (form_of f.shape) r (h f (inl refl)) k);
      },
      items_good fs (λ g k. h g (inr k)),
    )

    form_there : (e : List ℕ × Features) → Has e (map.entries m) → (f : Feature) → Has f (set.items e.1) → Has (form_of f.shape) (forms_of (seen m))
    form_there e h f k =
        Has-gathered (λ l. gathered (λ x. x.form ∷ []) l.items) (seen m) (seen_by.layer_of e) (form_of f.shape) (Has-map seen_by.layer_of (map.entries m) e h)
        (Has-gathered (λ x. x.form ∷ []) (map_list seen_by.item_of (set.items e.1)) (seen_by.item_of f) (form_of f.shape) (Has-map seen_by.item_of (set.items e.1) f k) (inl refl))

    layers_good : (es : List (List ℕ × Features)) (ls : List LayerParts) → ((e : List ℕ × Features) → Has e es → Has e (map.entries m)) →
        map_list parts_entry ls ≡ map_list (entry_built i arcs) es →
        Pairwise (IsLayerOf position_cmp (JunctionOf (geometry_of m)) arcs) (map_list seen_by.layer_of es) (map_list layer_of ls)
    layers_good [] [] h e = tt
    layers_good [] (l ∷ ls) h e = absurd cc
    layers_good (d ∷ es) [] h e = absurd cc
    layers_good (d ∷ es) (l ∷ ls) h e =
        let both : parts_entry l ∷ map_list parts_entry ls ≡ entry_built i arcs d ∷ map_list (entry_built i arcs) es = e in
        let first : parts_entry l ≡ entry_built i arcs d = cc in
        let rest : map_list parts_entry ls ≡ map_list (entry_built i arcs) es = cc in (
          record {
            name = sym (ap (λ p. p.0) first);
            items = subst (λ gs. Pairwise (IsGeometryOf position_cmp (JunctionOf (geometry_of m)) arcs) (map_list seen_by.item_of (set.items d.1)) (map_list item_of gs))
                (sym (ap (λ p. p.1) first)) (items_good (set.items d.1) (form_there d (h d (inl refl))));
          },
          layers_good es ls (λ k q. h k (inr q)) rest,
        )

pub built_parts : (m : Layers) (i : List Pos) (ps : List Piece) (t : Arcs) (ls : List LayerParts) →
    IsIndexOf i (geometry_of m) →
    ps ≡ gathered (form_pieces i) (forms_of (seen m)) →
    AreSortedOnce list_cmp (map_list chain_of ps) t.arcs →
    (IsSound (geometry_of m) → ArePiecesOfMap (geometry_of m) ps → IsTableOf (geometry_of m) t) →
    map_list parts_entry ls ≡ map_list (entry_built i t.arcs) (map.entries m) →
    ArePartsOf m t ls
built_parts m i ps t ls index pieces sorted table layers = record {
  table = table (are_sound m) (map_pieces m i index ps pieces);
  layers = layers_good m i index ps pieces t.arcs sorted (map.entries m) ls (λ e h. h) layers;
}
