-- The value of a topology reads back.
use Rattle.std.proofs.Common.{◌≡◌, ℕ, ◌≤◌, ◌^◌, ℤ, subst, List, [], ◌∷◌, length, map, Option, Some, None, Less, inl, inr, refl, sym, arith, option_map}
use Rattle.std.specs.Prelude.{codes}
use Rattle.std.specs.Ordering.{nat_cmp}
use Rattle.std.specs.Cmp.Lexicographic.{slice_cmp}
use Rattle.json.proofs.Printed.Utf8.{IsUtf8-are_ascii}
use Rattle.grid.specs.Place.{Transform, IsTransform}
use Rattle.grid.specs.declared.pos.Pos.{Pos}
use Rattle.shapes.specs.Parts.{properties_text}
use Rattle.theory.specs.Arcs.{Ascends}
use Rattle.theory.specs.ArcNumbers.{ArcRef}
use Rattle.theory.specs.Lists.{Has, Pairwise}
use Rattle.theory.specs.Topology.{Item, Layer, Body, IsFormOf, null, point, points, line, lines, polygon, polygons}
use Rattle.reading.specs.Plain.{Plain, PlainForm}
use Rattle.chains.specs.Seen.{Info}
use Rattle.topo.specs.OfMap.{Seen}
use Rattle.topo.specs.Parts.{Corners}
use Rattle.round_trip.specs.Compact.Good.{Good}
use Rattle.shapes.specs.Ids.{IsI64}
use Rattle.round_trip.specs.Compact.Values.{integer, list_data, id_data, properties_data}
use Rattle.round_trip.proofs.CompactLemmas.GoodParts.{deeper, Good-number, Good-string, Good-null, ComesBefore, GoodMembers, Good-object}
use Rattle.round_trip.proofs.CompactLemmas.Info.{Good-id, Good-properties}
use Rattle.round_trip.proofs.CompactLemmas.Lists.{Good-list, Good-pair}
use Rattle.round_trip.proofs.CompactLemmas.Members.{OptionGood, ComesBefore-given, GoodMembers-given}
use Rattle.round_trip.proofs.CompactLemmas.Numbers.{Fits-IsI64}
use Rattle.round_trip.specs.Values.{position_data, arc_data, index_data, used_data, coordinates_data, type_data, type_member, after_id, after_coordinates, after_arcs, geometry_data, layer_data, layers_data, box_data, transform_data, after_box, topology_data}
use Rattle.round_trip.proofs.Positions.{Good-position, Good-arc, I64-scale, I64-translation}
use Rattle.round_trip.proofs.ValidText.{IsValidLine, IsValidRing, IsValidGeometry, IsValidLayer, IsValidBox, IsValidTopology, right_of}
use Rattle.round_trip.proofs.Stitched.{Good-used}

-- ---- geometries

Good-type : (b : Body Pos) → Good 64 (type_data b)
Good-type null = Good-null 64
Good-type (point p) = Good-string 64 _ (IsUtf8-are_ascii _ refl)
Good-type (points ps) = Good-string 64 _ (IsUtf8-are_ascii _ refl)
Good-type (line used) = Good-string 64 _ (IsUtf8-are_ascii _ refl)
Good-type (lines ls) = Good-string 64 _ (IsUtf8-are_ascii _ refl)
Good-type (polygon rs) = Good-string 64 _ (IsUtf8-are_ascii _ refl)
Good-type (polygons ps) = Good-string 64 _ (IsUtf8-are_ascii _ refl)

module _ (g : Transform) (arcs : List (List Pos)) (few : length arcs ≤ 2 ^ 63) where
  Good-coordinates : (b : Body Pos) → OptionGood 64 (coordinates_data b)
  Good-coordinates null = tt
  Good-coordinates (point p) = deeper 1 64 _ (omega arith) (Good-position g p)
  Good-coordinates (points ps) = deeper 2 64 _ (omega arith) (Good-list position_data 1 ps (λ p _. Good-position g p))
  Good-coordinates (line used) = tt
  Good-coordinates (lines ls) = tt
  Good-coordinates (polygon rs) = tt
  Good-coordinates (polygons ps) = tt

  Good-rings : (rs : List (List Pos)) (us : List (List ArcRef)) → Pairwise (IsValidRing arcs) rs us → Good 2 (list_data (list_data index_data) us)
  Good-rings rs us h = Good-list (list_data index_data) 1 us (λ u k. let r = right_of (IsValidRing arcs) rs us h u k in Good-used arcs few u r.1.list r.1.stitches)

  Good-arcs : (f : PlainForm) (b : Body Pos) → IsFormOf (IsValidLine arcs) (IsValidRing arcs) f b → OptionGood 64 (used_data b)
  Good-arcs null null h = tt
  Good-arcs (point p) (point q) h = tt
  Good-arcs (points ps) (points qs) h = tt
  Good-arcs (line l) (line used) h = deeper 1 64 _ (omega arith) (Good-used arcs few used h.list h.stitches)
  Good-arcs (lines ls) (lines us) h =
      deeper 2 64 _ (omega arith) (Good-list (list_data index_data) 1 us (λ u k. let l = right_of (IsValidLine arcs) ls us h u k in Good-used arcs few u l.1.list l.1.stitches))
  Good-arcs (polygon rs) (polygon us) h = deeper 2 64 _ (omega arith) (Good-rings rs us h)
  Good-arcs (polygons ps) (polygons us) h =
      deeper 3 64 _ (omega arith) (Good-list (list_data (list_data index_data)) 2 us (λ u k. let r = right_of (Pairwise (IsValidRing arcs)) ps us h u k in Good-rings r.0 u r.1))
  Good-arcs f b h = absurd h

  Good-geometry : (p : Plain) (h : Item Info (Body Pos)) → IsValidGeometry g arcs p h → Good 65 (geometry_data h)
  Good-geometry p h s =
      let properties = properties_data (properties_text h.info.1) in
      let good1 : GoodMembers 64 (type_member h.form) = (IsUtf8-are_ascii _ refl, tt, Good-type h.form, tt) in
      let good2 : GoodMembers 64 (after_id h) = GoodMembers-given 64 (codes "properties") properties (type_member h.form) (IsUtf8-are_ascii _ refl) (refl, tt) (Good-properties h.info.1) good1 in
      let good3 : GoodMembers 64 (after_coordinates h) =
      GoodMembers-given 64 (codes "id") (id_data h.info.0) (after_id h) (IsUtf8-are_ascii _ refl) (ComesBefore-given (codes "id") (codes "properties") properties (type_member h.form) refl (refl, tt)) (Good-id 64 h.info.0 s.stored) good2 in
      let good4 : GoodMembers 64 (after_arcs h) =
      GoodMembers-given 64 (codes "coordinates") (coordinates_data h.form) (after_coordinates h) (IsUtf8-are_ascii _ refl)
      (ComesBefore-given (codes "coordinates") (codes "id") (id_data h.info.0) (after_id h) refl (ComesBefore-given (codes "coordinates") (codes "properties") properties (type_member h.form) refl (refl, tt)))
      (Good-coordinates h.form) good3 in
      Good-object 64 _ (GoodMembers-given 64 (codes "arcs") (used_data h.form) (after_arcs h) (IsUtf8-are_ascii _ refl)
      (ComesBefore-given (codes "arcs") (codes "coordinates") (coordinates_data h.form) (after_coordinates h) refl
      (ComesBefore-given (codes "arcs") (codes "id") (id_data h.info.0) (after_id h) refl (ComesBefore-given (codes "arcs") (codes "properties") properties (type_member h.form) refl (refl, tt))))
      (Good-arcs p.form h.form s.form) good4)

  -- ---- layers

  Good-layer : (l : List ℕ × List Plain) (k : Layer (Item Info (Body Pos))) → IsValidLayer g arcs l k → Good 67 (layer_data k)
  Good-layer l k s =
      Good-object 66 _ (
        IsUtf8-are_ascii _ refl,
        (refl, tt),
        Good-list geometry_data 65 k.items (λ h there. let p = right_of (IsValidGeometry g arcs) l.1 k.items s.items h there in Good-geometry p.0 h p.1),
        (IsUtf8-are_ascii _ refl, tt, Good-string 66 _ (IsUtf8-are_ascii _ refl), tt),
      )

  before_all : (n : List ℕ) (ks : List (Layer (Item Info (Body Pos)))) → ((y : List ℕ) → Has y (map (λ l. l.name) ks) → slice_cmp nat_cmp n y ≡ Less) → ComesBefore n (layers_data ks)
  before_all n [] h = tt
  before_all n (k ∷ ks) h = (h k.name (inl refl), before_all n ks (λ y j. h y (inr j)))

  pub Good-layers : (ls : List (List ℕ × List Plain)) (ks : List (Layer (Item Info (Body Pos)))) → Pairwise (IsValidLayer g arcs) ls ks → Ascends (slice_cmp nat_cmp) (map (λ l. l.name) ks) → GoodMembers 67 (layers_data ks)
  Good-layers [] [] h a = tt
  Good-layers [] (k ∷ ks) h a = absurd h
  Good-layers (l ∷ ls) [] h a = absurd h
  Good-layers (l ∷ ls) (k ∷ ks) h a = (h.0.utf8, before_all k.name ks a.0, Good-layer l k h.0, Good-layers ls ks h.1 a.1)

-- ---- the root

corners_fit : (c : Corners) → IsValidBox c → (z : ℤ) → Has z (c.0 ∷ c.1 ∷ c.2 ∷ c.3 ∷ []) → IsI64 z
corners_fit c h z (inl e) = subst IsI64 (sym e) h.west
corners_fit c h z (inr (inl e)) = subst IsI64 (sym e) h.south
corners_fit c h z (inr (inr (inl e))) = subst IsI64 (sym e) h.east
corners_fit c h z (inr (inr (inr (inl e)))) = subst IsI64 (sym e) h.north
corners_fit c h z (inr (inr (inr (inr n)))) = absurd n

Good-corners : (c : Corners) → IsValidBox c → Good 1 (box_data c)
Good-corners c h = Good-list integer 0 (c.0 ∷ c.1 ∷ c.2 ∷ c.3 ∷ []) (λ z k. Good-number 0 z (Fits-IsI64 z (corners_fit c h z k)))

Good-box : (o : Option Corners) → ((c : Corners) → o ≡ Some c → IsValidBox c) → OptionGood 68 (option_map box_data o)
Good-box None h = tt
Good-box (Some c) h = deeper 1 68 _ (omega arith) (Good-corners c (h c refl))

Good-transform : (g : Transform) → IsTransform g → Good 68 (transform_data g)
Good-transform g h =
    Good-object 67 _ (
      IsUtf8-are_ascii _ refl,
      (refl, tt),
      deeper 1 67 _ (omega arith) (Good-pair g.x.scale g.y.scale (I64-scale g.x.scale h.x.scale) (I64-scale g.y.scale h.y.scale)),
      (IsUtf8-are_ascii _ refl, tt, deeper 1 67 _ (omega arith) (Good-pair g.x.translate g.y.translate (I64-translation g.x.translate h.x.translate) (I64-translation g.y.translate h.y.translate)), tt),
    )

pub Good-topology : (t : Seen) (ls : List (List ℕ × List Plain)) → IsValidTopology t ls → Good 69 (topology_data t)
Good-topology t ls s =
    let box = option_map box_data t.bbox in
    let good_last : GoodMembers 68 (after_box t) = (
      IsUtf8-are_ascii _ refl,
      (refl, (refl, tt)),
      Good-object 67 _ (Good-layers t.grid t.arcs s.few ls t.layers s.layers s.ascends),
      (IsUtf8-are_ascii _ refl, (refl, tt), Good-transform t.grid s.limits, (IsUtf8-are_ascii _ refl, tt, Good-string 68 _ (IsUtf8-are_ascii _ refl), tt)),
    ) in
    Good-object 68 _ (
      IsUtf8-are_ascii _ refl,
      ComesBefore-given (codes "arcs") (codes "bbox") box (after_box t) refl (refl, (refl, (refl, tt))),
      deeper 3 68 _ (omega arith) (Good-list arc_data 2 t.arcs (λ c _. Good-arc t.grid c)),
      GoodMembers-given 68 (codes "bbox") box (after_box t) (IsUtf8-are_ascii _ refl) (refl, (refl, (refl, tt))) (Good-box t.bbox s.box) good_last,
    )
