-- What is taken of the lists of a map's lines and rings, one after the other, is what is built of the map.
use Rattle.std.proofs.Common.{◌≡◌, ◌+◌, ℕ, zero, suc, List, [], ◌∷◌, ◌++◌, refl, sym, ap, ◌∙◌, append_assoc, append-nil, length, take, drop, min, arith}
use Rattle.std.specs.Prelude.{map as map_list}
use Rattle.std.specs.FinMap as map
use Rattle.std.proofs.lemmas.List.{length-append, length-map, map-append}
use Rattle.std.proofs.Math.Seq.{drop-append_seam, take-append_seam}
use Rattle.grid.specs.declared.pos.Pos.{Pos}
use Rattle.lines.specs.declared.line.Line as the_line
use Rattle.lines.specs.declared.ring.Ring as the_ring
use Rattle.shapes.specs.Maps.{Layers, Features, layer_entry, set_of}
use Rattle.shapes.specs.Sets as set
use Rattle.shapes.specs.declared.feature.Feature.{Feature}
use Rattle.shapes.specs.declared.layer.FeatureLayer.{FeatureLayer}
use Rattle.shapes.specs.Shapes as shapes
use Rattle.shapes.specs.declared.form.Form.TheVariants as of
use Rattle.chains.specs.Pieces.{line_pieces, ring_pieces}
use Rattle.chains.specs.Seen.{line_of, ring_of, form_of, item_of, layer_of, seen}
use Rattle.arcs.specs.Table.{located}
use Rattle.arcs.specs.declared.piece.Piece.{Piece}
use Rattle.chains.proofs.Layers.{gathered-append}
use Rattle.theory.specs.ArcNumbers.{ArcRef}
use Rattle.theory.specs.Lists.{gathered, joined}
use Rattle.theory.specs.Topology.{Shape, forms_of, lines_in, rings_in}
use Rattle.topo.specs.Building.{form_counts, form_pieces, line_used, ring_used, body_built, geometry_built, entry_built, parts_entry}
use Rattle.topo.specs.Taken.{Left, parted, first_list, taken, polygons_taken, polygons_left, body_taken, shape_left, geometries_taken, features_left, layer_taken, layers_taken, entries_taken}

drop_behind : (n : ℕ) (ls : Left) → drop n (drop 1 ls) ≡ drop (suc n) ls
drop_behind zero ls = refl
drop_behind (suc n) [] = refl
drop_behind (suc n) (l ∷ ls) = refl

-- one list more
drop_more : (n : ℕ) (ls : Left) → drop (suc n) ls ≡ drop 1 (drop n ls)
drop_more zero ls = refl
drop_more (suc n) [] = refl
drop_more (suc n) (l ∷ ls) = drop_more n ls

taken_more : (n : ℕ) (ls : Left) → taken (suc n) ls ≡ taken n ls ++ first_list (drop n ls) ∷ []
taken_more zero ls = refl
taken_more (suc n) ls =
    ap (λ w. first_list ls ∷ w) (taken_more n (drop 1 ls) ∙ ap (λ w. taken n (drop 1 ls) ++ first_list w ∷ []) (drop_behind n ls))

next_is : (n : ℕ) → n + 1 ≡ suc n
next_is n = omega arith

-- lists that were taken, and one more
pub taken_next : (n : ℕ) (ls left : Left) (lists : List (List ArcRef)) (l : List ArcRef) → lists ≡ taken n ls → left ≡ drop n ls → l ≡ first_list left →
    lists ++ l ∷ [] ≡ taken (n + 1) ls
taken_next n ls left lists l e f g =
    (λ i. e i ++ (g ∙ ap first_list f) i ∷ []) ∙ sym (taken_more n ls) ∙ ap (λ k. taken k ls) (sym (next_is n))

pub left_next : (n : ℕ) (ls left : Left) → left ≡ drop n ls → drop 1 left ≡ drop (n + 1) ls
left_next n ls left e = ap (drop 1) e ∙ sym (drop_more n ls) ∙ ap (λ k. drop k ls) (sym (next_is n))

-- what is taken for layers, by their entries
pub layers_entries : (ls : List FeatureLayer) (left : Left) → map_list parts_entry (layers_taken ls left) ≡ entries_taken (map_list layer_entry ls) left
layers_entries [] left = refl
layers_entries (l ∷ ls) left = ap (λ es. parts_entry (layer_taken l left) ∷ es) (layers_entries ls (features_left (set.items (set_of l.features)) left))

joined_append : {A : Type 0} (ks ls : List (List A)) → joined (ks ++ ls) ≡ joined ks ++ joined ls
joined_append [] ls = refl
joined_append (k ∷ ks) ls = ap (λ w. k ++ w) (joined_append ks ls) ∙ sym (append_assoc k (joined ks) (joined ls))

joined_map : {A B : Type 0} (f : A → List B) (l : List A) → joined (map_list f l) ≡ gathered f l
joined_map f [] = refl
joined_map f (x ∷ l) = ap (λ w. f x ++ w) (joined_map f l)

counts_map : {A B : Type 0} (f : A → List B) (l : List A) → gathered (λ x. length (f x) ∷ []) l ≡ map_list length (map_list f l)
counts_map f [] = refl
counts_map f (x ∷ l) = ap (λ w. length (f x) ∷ w) (counts_map f l)

-- lists in one list, parted again
parted_again : {A : Type 0} (f : A → ArcRef) (ls : List (List A)) → parted (map_list length ls) (map_list f (joined ls)) ≡ map_list (map_list f) ls
parted_again f [] = refl
parted_again f (l ∷ ls) =
    let more = map_list f (joined ls) in
    let n : min (length l) (length (map_list f l ++ more)) ≡ length (map_list f l) =
    (let a : length (map_list f l ++ more) ≡ length (map_list f l) + length more = length-append (map_list f l) more in
    let b : length (map_list f l) ≡ length l = length-map l f in omega (arith, a, b)) in
    ap (parted (length l ∷ map_list length ls)) (map-append f l (joined ls))
    ∙ (λ i. take (n i) (map_list f l ++ more) ∷ parted (map_list length ls) (drop (n i) (map_list f l ++ more)))
    ∙ (λ i. take-append_seam (map_list f l) more i ∷ parted (map_list length ls) (drop-append_seam (map_list f l) more i))
    ∙ ap (λ w. map_list f l ∷ w) (parted_again f ls)

-- what is taken of own lists, and what is left behind them
module _ {A : Type 0} (u : A → List ArcRef) where
  taken_own : (xs : List A) (rest : Left) → taken (length xs) (map_list u xs ++ rest) ≡ map_list u xs
  taken_own [] rest = refl
  taken_own (x ∷ xs) rest = ap (λ w. u x ∷ w) (taken_own xs rest)

  left_own : (xs : List A) (rest : Left) → drop (length xs) (map_list u xs ++ rest) ≡ rest
  left_own [] rest = refl
  left_own (x ∷ xs) rest = left_own xs rest

module _ (u : the_ring.Ring → List ArcRef) where
  abbrev of_rings : List (List the_ring.Ring) → Left
  of_rings ps = joined (map_list (map_list u) ps)

  polygons_own : (ps : List (List the_ring.Ring)) (rest : Left) → polygons_taken ps (of_rings ps ++ rest) ≡ map_list (map_list u) ps
  polygons_own [] rest = refl
  polygons_own (p ∷ ps) rest =
      ap (polygons_taken (p ∷ ps)) (append_assoc (map_list u p) (of_rings ps) rest)
      ∙ (λ i. taken_own u p (of_rings ps ++ rest) i ∷ polygons_taken ps (left_own u p (of_rings ps ++ rest) i))
      ∙ ap (λ w. map_list u p ∷ w) (polygons_own ps rest)

  polygons_behind : (ps : List (List the_ring.Ring)) (rest : Left) → polygons_left ps (of_rings ps ++ rest) ≡ rest
  polygons_behind [] rest = refl
  polygons_behind (p ∷ ps) rest =
      ap (polygons_left (p ∷ ps)) (append_assoc (map_list u p) (of_rings ps) rest)
      ∙ ap (polygons_left ps) (left_own u p (of_rings ps ++ rest))
      ∙ polygons_behind ps rest

-- what is gathered of the features of entries, and of their forms
module _ {X : Type 0} (f : Shape Pos → List X) where
  abbrev of_features : List Feature → List X
  of_features fs = gathered (λ (x : Feature). f (form_of x.shape)) fs

  of_items : (fs : List Feature) → of_features fs ≡ gathered f (gathered (λ x. x.form ∷ []) (map_list item_of fs))
  of_items [] = refl
  of_items (x ∷ fs) = ap (λ w. f (form_of x.shape) ++ w) (of_items fs)

  abbrev of_entries : List (List ℕ × Features) → List X
  of_entries es = gathered (λ (e : List ℕ × Features). of_features (set.items e.1)) es

  pub entries_forms : (es : List (List ℕ × Features)) → of_entries es ≡ gathered f (forms_of (map_list layer_of es))
  entries_forms [] = refl
  entries_forms (e ∷ es) =
      let items = gathered (λ x. x.form ∷ []) (map_list item_of (set.items e.1)) in
      (λ i. of_items (set.items e.1) i ++ entries_forms es i)
      ∙ sym (gathered-append f items (forms_of (map_list layer_of es)))

-- the pieces of the lines and rings of forms, as lists of lists
module _ (i : List Pos) where
  abbrev form_lists : Shape Pos → List (List Piece)
  form_lists f = map_list (line_pieces i) (lines_in f) ++ map_list (ring_pieces i) (rings_in f)

  form_joined : (f : Shape Pos) → form_pieces i f ≡ joined (form_lists f)
  form_joined f =
      sym (joined_append (map_list (line_pieces i) (lines_in f)) (map_list (ring_pieces i) (rings_in f))
      ∙ (λ k. joined_map (line_pieces i) (lines_in f) k ++ joined_map (ring_pieces i) (rings_in f) k))

  form_counted : (f : Shape Pos) → form_counts i f ≡ map_list length (form_lists f)
  form_counted f =
      (λ k. counts_map (line_pieces i) (lines_in f) k ++ counts_map (ring_pieces i) (rings_in f) k)
      ∙ sym (map-append length (map_list (line_pieces i) (lines_in f)) (map_list (ring_pieces i) (rings_in f)))

  all_joined : (fs : List (Shape Pos)) → gathered (form_pieces i) fs ≡ joined (gathered form_lists fs)
  all_joined [] = refl
  all_joined (f ∷ fs) = (λ k. form_joined f k ++ all_joined fs k) ∙ sym (joined_append (form_lists f) (gathered form_lists fs))

  all_counted : (fs : List (Shape Pos)) → gathered (form_counts i) fs ≡ map_list length (gathered form_lists fs)
  all_counted [] = refl
  all_counted (f ∷ fs) = (λ k. form_counted f k ++ all_counted fs k) ∙ sym (map-append length (form_lists f) (gathered form_lists fs))

  module _ (arcs : List (List Pos)) where
    abbrev by_number : List (List Piece) → Left
    by_number = map_list (map_list (located arcs))

    -- the used arcs of each line and ring of a form
    abbrev used_in : Shape Pos → Left
    used_in f = by_number (form_lists f)

    all_used : (fs : List (Shape Pos)) → by_number (gathered form_lists fs) ≡ gathered used_in fs
    all_used [] = refl
    all_used (f ∷ fs) = map-append (map_list (located arcs)) (form_lists f) (gathered form_lists fs) ∙ ap (λ w. used_in f ++ w) (all_used fs)

    lines_used : (ls : List the_line.Line) → by_number (map_list (line_pieces i) (map_list line_of ls) ++ []) ≡ map_list (line_used i arcs) ls
    lines_used [] = refl
    lines_used (l ∷ ls) = ap (λ w. line_used i arcs l ∷ w) (lines_used ls)

    rings_used : (rs : List the_ring.Ring) → by_number (map_list (ring_pieces i) (map_list ring_of rs)) ≡ map_list (ring_used i arcs) rs
    rings_used [] = refl
    rings_used (r ∷ rs) = ap (λ w. ring_used i arcs r ∷ w) (rings_used rs)

    polygons_used : (ps : List (List the_ring.Ring)) →
        by_number (map_list (ring_pieces i) (joined (map_list (map_list ring_of) ps))) ≡ joined (map_list (map_list (ring_used i arcs)) ps)
    polygons_used [] = refl
    polygons_used (p ∷ ps) =
        let first = map_list ring_of p in
        let more = joined (map_list (map_list ring_of) ps) in
        ap by_number (map-append (ring_pieces i) first more)
        ∙ map-append (map_list (located arcs)) (map_list (ring_pieces i) first) (map_list (ring_pieces i) more)
        ∙ (λ k. rings_used p k ++ polygons_used ps k)

    body_own : (s : shapes.Shape) (rest : Left) → body_taken s (used_in (form_of s) ++ rest) ≡ body_built i arcs s
    body_own of.Null rest = refl
    body_own (of.Point p) rest = refl
    body_own (of.MultiPoint ps) rest = refl
    body_own (of.Line l) rest = refl
    body_own (of.MultiLine ls) rest = ap (λ w. body_taken (of.MultiLine ls) (w ++ rest)) (lines_used ls) ∙ ap of.MultiLine (taken_own (line_used i arcs) ls rest)
    body_own (of.Polygon rs) rest = ap (λ w. body_taken (of.Polygon rs) (w ++ rest)) (rings_used rs) ∙ ap of.Polygon (taken_own (ring_used i arcs) rs rest)
    body_own (of.MultiPolygon ps) rest =
        ap (λ w. body_taken (of.MultiPolygon ps) (w ++ rest)) (polygons_used ps) ∙ ap of.MultiPolygon (polygons_own (ring_used i arcs) ps rest)

    shape_behind : (s : shapes.Shape) (rest : Left) → shape_left s (used_in (form_of s) ++ rest) ≡ rest
    shape_behind of.Null rest = refl
    shape_behind (of.Point p) rest = refl
    shape_behind (of.MultiPoint ps) rest = refl
    shape_behind (of.Line l) rest = refl
    shape_behind (of.MultiLine ls) rest = ap (λ w. shape_left (of.MultiLine ls) (w ++ rest)) (lines_used ls) ∙ left_own (line_used i arcs) ls rest
    shape_behind (of.Polygon rs) rest = ap (λ w. shape_left (of.Polygon rs) (w ++ rest)) (rings_used rs) ∙ left_own (ring_used i arcs) rs rest
    shape_behind (of.MultiPolygon ps) rest =
        ap (λ w. shape_left (of.MultiPolygon ps) (w ++ rest)) (polygons_used ps) ∙ polygons_behind (ring_used i arcs) ps rest

    geometries_own : (fs : List Feature) (rest : Left) → geometries_taken fs (of_features used_in fs ++ rest) ≡ map_list (geometry_built i arcs) fs
    geometries_own [] rest = refl
    geometries_own (f ∷ fs) rest =
        let more = of_features used_in fs ++ rest in
        ap (geometries_taken (f ∷ fs)) (append_assoc (used_in (form_of f.shape)) (of_features used_in fs) rest)
        ∙ (λ k. record { id = f.id; props = f.props; body = body_own f.shape more k } ∷ geometries_taken fs (shape_behind f.shape more k))
        ∙ ap (λ w. geometry_built i arcs f ∷ w) (geometries_own fs rest)

    features_behind : (fs : List Feature) (rest : Left) → features_left fs (of_features used_in fs ++ rest) ≡ rest
    features_behind [] rest = refl
    features_behind (f ∷ fs) rest =
        let more = of_features used_in fs ++ rest in
        ap (features_left (f ∷ fs)) (append_assoc (used_in (form_of f.shape)) (of_features used_in fs) rest)
        ∙ ap (features_left fs) (shape_behind f.shape more)
        ∙ features_behind fs rest

    entries_own : (es : List (List ℕ × Features)) (rest : Left) → entries_taken es (of_entries used_in es ++ rest) ≡ map_list (entry_built i arcs) es
    entries_own [] rest = refl
    entries_own (e ∷ es) rest =
        let own = of_features used_in (set.items e.1) in
        let more = of_entries used_in es ++ rest in
        ap (entries_taken (e ∷ es)) (append_assoc own (of_entries used_in es) rest)
        ∙ (λ k. (e.0, geometries_own (set.items e.1) more k) ∷ entries_taken es (features_behind (set.items e.1) more k))
        ∙ ap (λ w. entry_built i arcs e ∷ w) (entries_own es rest)

-- the used arcs of all pieces, parted as the lines and rings were cut, are taken as the map is built
pub taken_built : (m : Layers) (i : List Pos) (arcs : List (List Pos)) (ps : List Piece) (counts : List ℕ) (refs : List ArcRef) →
    ps ≡ gathered (form_pieces i) (forms_of (seen m)) →
    counts ≡ gathered (form_counts i) (forms_of (seen m)) →
    refs ≡ map_list (located arcs) ps →
    entries_taken (map.entries m) (parted counts refs) ≡ map_list (entry_built i arcs) (map.entries m)
taken_built m i arcs ps counts refs pieces_are counts_are refs_are =
    let fs = forms_of (seen m) in
    let es = map.entries m in
    let numbers = counts_are ∙ all_counted i fs in
    let used = refs_are ∙ ap (map_list (located arcs)) (pieces_are ∙ all_joined i fs) in
    let lists = (λ k. parted (numbers k) (used k)) ∙ parted_again (located arcs) (gathered (form_lists i) fs) ∙ all_used i arcs fs in
    ap (entries_taken es) (lists ∙ sym (entries_forms (used_in i arcs) es) ∙ sym (append-nil _)) ∙ entries_own i arcs es []
