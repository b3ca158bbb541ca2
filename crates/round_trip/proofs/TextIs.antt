-- The canonical text of a topology is the compact text of its value.
use Rattle.std.proofs.Common.{◌≡◌, ℕ, ◌-ℤ◌, List, [], ◌∷◌, ◌++◌, true, false, Option, Some, None, option_map, map, refl, sym, ap, ap₂, ◌∙◌, append_assoc}
use Rattle.std.specs.Prelude.{codes}
use Rattle.json.specs.Print.{quoted, escape_byte}
use Rattle.serde_json.specs.Data.{Data, string, array, object, Members, no_members, member}
use Rattle.serde_json.specs.View.{items_of}
use Rattle.serde_json.specs.Written.{compact_text, items_text, members_text}
use Rattle.grid.specs.Place.{Transform}
use Rattle.grid.specs.declared.pos.Pos.{Pos}
use Rattle.shapes.specs.Parts.{properties_text}
use Rattle.sinks.specs.Texts.{joined, list_text, option_text, pair_text, after_commas}
use Rattle.theory.specs.ArcNumbers.{ArcRef, index_of}
use Rattle.theory.specs.Topology.{Item, Layer, Body, null, point, points, line, lines, polygon, polygons}
use Rattle.chains.specs.Seen.{Info}
use Rattle.topo.specs.OfMap.{Seen}
use Rattle.topo.specs.Parts.{Corners}
use Rattle.shapes.specs.Writing.Members.{id_text}
use Rattle.arcs.specs.ArcTexts.{position_text, differences_text, arc_text, index_text}
use Rattle.shapes.specs.Writing.Members.{properties_member}
use Rattle.topo_io.specs.TopologyText.{content_text, type_text, geometry_text, layer_text, bbox_text, transform_text, topology_text}
use Rattle.round_trip.specs.Compact.Values.{list_data, given, id_data, properties_data}
use Rattle.round_trip.proofs.CompactLemmas.Texts.{number_is, list_is, joined_is, numbers_are, pair_is, HasMember, HasMember-given, given_text, given_is, member_then, id_is, properties_are}
use Rattle.round_trip.specs.Values.{position_data, steps_from, arc_data, index_data, used_data, coordinates_data, type_member, after_id, after_coordinates, after_arcs, geometry_data, layer_data, layers_data, box_data, transform_data, after_box, topology_data}

-- ---- positions, arcs, lists of indexes

position_is : (p : Pos) → position_text p ≡ compact_text (position_data p)
position_is p = pair_is p.x p.y

differences_are : (before : Pos) (ps : List Pos) → differences_text before ps ++ codes "]" ≡ items_text true (items_of (steps_from before ps))
differences_are before [] = refl
differences_are before (p ∷ ps) =
    ap (λ l. 44 ∷ l) (append_assoc (pair_text (p.x -ℤ before.x) (p.y -ℤ before.y)) (differences_text p ps) (codes "]")
    ∙ ap₂ (λ (a b : List ℕ). a ++ b) (pair_is (p.x -ℤ before.x) (p.y -ℤ before.y)) (differences_are p ps))

arc_is : (ps : List Pos) → arc_text ps ≡ compact_text (arc_data ps)
arc_is [] = refl
arc_is (p ∷ ps) =
    ap (λ l. 91 ∷ l) (append_assoc (position_text p) (differences_text p ps) (codes "]")
    ∙ ap₂ (λ (a b : List ℕ). a ++ b) (position_is p) (differences_are p ps))

indexes_are : (used : List ArcRef) → list_text index_text used ≡ compact_text (list_data index_data used)
indexes_are used = list_is index_text index_data used (λ a _. number_is (index_of a))

index_lists_are : (ls : List (List ArcRef)) → list_text (list_text index_text) ls ≡ compact_text (list_data (list_data index_data) ls)
index_lists_are ls = list_is (list_text index_text) (list_data index_data) ls (λ l _. indexes_are l)

polygons_are : (ps : List (List (List ArcRef))) → list_text (list_text (list_text index_text)) ps ≡ compact_text (list_data (list_data (list_data index_data)) ps)
polygons_are ps = list_is (list_text (list_text index_text)) (list_data (list_data index_data)) ps (λ l _. index_lists_are l)

points_are : (ps : List Pos) → list_text position_text ps ≡ compact_text (list_data position_data ps)
points_are ps = list_is position_text position_data ps (λ p _. position_is p)

-- ---- geometries

content_is : (b : Body Pos) (rest : List ℕ)
    → content_text b ++ rest ≡ option_text (given_text (codes "arcs")) (used_data b) ++ (option_text (given_text (codes "coordinates")) (coordinates_data b) ++ rest)
unfolding escape_byte
content_is null rest = refl
content_is (point p) rest = ap (λ s. (codes "\"coordinates\":" ++ (s ++ codes ",")) ++ rest) (position_is p)
content_is (points ps) rest = ap (λ s. (codes "\"coordinates\":" ++ (s ++ codes ",")) ++ rest) (points_are ps)
content_is (line used) rest = ap (λ s. (codes "\"arcs\":" ++ (s ++ codes ",")) ++ rest) (indexes_are used)
content_is (lines ls) rest = ap (λ s. (codes "\"arcs\":" ++ (s ++ codes ",")) ++ rest) (index_lists_are ls)
content_is (polygon rs) rest = ap (λ s. (codes "\"arcs\":" ++ (s ++ codes ",")) ++ rest) (index_lists_are rs)
content_is (polygons ps) rest = ap (λ s. (codes "\"arcs\":" ++ (s ++ codes ",")) ++ rest) (polygons_are ps)

type_is : (b : Body Pos) → codes "\"type\":" ++ (type_text b ++ codes "}") ≡ members_text false (type_member b)
unfolding escape_byte
type_is null = refl
type_is (point p) = refl
type_is (points ps) = refl
type_is (line used) = refl
type_is (lines ls) = refl
type_is (polygon rs) = refl
type_is (polygons ps) = refl

geometry_is : (g : Item Info (Body Pos)) → geometry_text g ≡ compact_text (geometry_data g)
geometry_is g =
    let properties = properties_data (properties_text g.info.1) in
    let has1 : HasMember (after_id g) = HasMember-given (codes "properties") properties (type_member g.form) tt in
    let has2 : HasMember (after_coordinates g) = HasMember-given (codes "id") (id_data g.info.0) (after_id g) has1 in
    let has3 : HasMember (after_arcs g) = HasMember-given (codes "coordinates") (coordinates_data g.form) (after_coordinates g) has2 in
    let e1 : properties_member (properties_text g.info.1) ++ (codes "\"type\":" ++ (type_text g.form ++ codes "}")) ≡ members_text false (after_id g) =
    ap₂ (λ (a b : List ℕ). a ++ b) (properties_are g.info.1) (type_is g.form) ∙ given_is (codes "properties") properties (type_member g.form) tt in
    let e2 : id_text g.info.0 ++ (properties_member (properties_text g.info.1) ++ (codes "\"type\":" ++ (type_text g.form ++ codes "}"))) ≡ members_text false (after_coordinates g) =
    ap₂ (λ (a b : List ℕ). a ++ b) (id_is g.info.0) e1 ∙ given_is (codes "id") (id_data g.info.0) (after_id g) has1 in
    ap (λ l. 123 ∷ l) (
    content_is g.form _
    ∙ ap (λ l. option_text (given_text (codes "arcs")) (used_data g.form) ++ l)
    (ap (λ l. option_text (given_text (codes "coordinates")) (coordinates_data g.form) ++ l) e2 ∙ given_is (codes "coordinates") (coordinates_data g.form) (after_coordinates g) has2)
    ∙ given_is (codes "arcs") (used_data g.form) (after_arcs g) has3)

-- ---- layers

layer_value_is : (gs : List (Item Info (Body Pos)))
    → codes "{\"geometries\":" ++ (list_text geometry_text gs ++ codes ",\"type\":\"GeometryCollection\"}")
    ≡ compact_text (object (member (codes "geometries") (list_data geometry_data gs) (member (codes "type") (string (codes "GeometryCollection")) no_members)))
unfolding escape_byte
layer_value_is gs = ap (λ s. codes "{\"geometries\":" ++ (s ++ codes ",\"type\":\"GeometryCollection\"}")) (list_is geometry_text geometry_data gs (λ g _. geometry_is g))

layer_is : (l : Layer (Item Info (Body Pos))) → layer_text l ≡ quoted l.name ++ (58 ∷ compact_text (layer_data l))
layer_is l = ap (λ s. quoted l.name ++ (58 ∷ s)) (layer_value_is l.items)

regroup : (k d a rest m : List ℕ) → a ≡ m ++ rest → (k ++ (58 ∷ d)) ++ a ≡ (k ++ (58 ∷ (d ++ m))) ++ rest
regroup k d a rest m e =
    append_assoc k (58 ∷ d) a ∙ ap (λ s. k ++ (58 ∷ (d ++ s))) e
    ∙ sym (append_assoc k (58 ∷ (d ++ m)) rest ∙ ap (λ s. k ++ (58 ∷ s)) (append_assoc d m rest))

layers_after : (ls : List (Layer (Item Info (Body Pos)))) (rest : List ℕ) → after_commas layer_text ls ++ (125 ∷ rest) ≡ members_text true (layers_data ls) ++ rest
layers_after [] rest = refl
layers_after (l ∷ ls) rest =
    ap (λ s. 44 ∷ s) (append_assoc (layer_text l) (after_commas layer_text ls) (125 ∷ rest) ∙ ap (λ s. s ++ (after_commas layer_text ls ++ (125 ∷ rest))) (layer_is l)
    ∙ regroup (quoted l.name) (compact_text (layer_data l)) _ rest (members_text true (layers_data ls)) (layers_after ls rest))

layers_are : (ls : List (Layer (Item Info (Body Pos)))) (rest : List ℕ) → joined layer_text ls ++ (125 ∷ rest) ≡ members_text false (layers_data ls) ++ rest
layers_are [] rest = refl
layers_are (l ∷ ls) rest =
    append_assoc (layer_text l) (after_commas layer_text ls) (125 ∷ rest) ∙ ap (λ s. s ++ (after_commas layer_text ls ++ (125 ∷ rest))) (layer_is l)
    ∙ regroup (quoted l.name) (compact_text (layer_data l)) _ rest (members_text true (layers_data ls)) (layers_after ls rest)

-- ---- the root

transform_is : (t : Transform) → codes "{\"scale\":" ++ (pair_text t.x.scale t.y.scale ++ (codes ",\"translate\":" ++ (pair_text t.x.translate t.y.translate ++ codes "}"))) ≡ compact_text (transform_data t)
unfolding escape_byte
transform_is t = ap₂ (λ (a b : List ℕ). codes "{\"scale\":" ++ (a ++ (codes ",\"translate\":" ++ (b ++ codes "}")))) (pair_is t.x.scale t.y.scale) (pair_is t.x.translate t.y.translate)

transform_member : (t : Transform) → codes "," ++ (transform_text t ++ codes ",\"type\":\"Topology\"}") ≡ members_text true (member (codes "transform") (transform_data t) (member (codes "type") (string (codes "Topology")) no_members))
unfolding escape_byte
transform_member t = ap (λ s. codes ",\"transform\":" ++ (s ++ codes ",\"type\":\"Topology\"}")) (transform_is t)

objects_member : (t : Seen)
    → codes "\"objects\":{" ++ (joined layer_text t.layers ++ (codes "}," ++ (transform_text t.grid ++ codes ",\"type\":\"Topology\"}"))) ≡ members_text false (after_box t)
unfolding escape_byte
objects_member t =
    ap (λ s. codes "\"objects\":{" ++ s) (layers_are t.layers (codes "," ++ (transform_text t.grid ++ codes ",\"type\":\"Topology\"}")) ∙ ap (λ s. members_text false (layers_data t.layers) ++ s) (transform_member t.grid))

box_at : (o : Option Corners) → option_text bbox_text o ≡ option_text (given_text (codes "bbox")) (option_map box_data o)
unfolding escape_byte
box_at None = refl
box_at (Some c) = ap (λ s. codes "\"bbox\":" ++ (s ++ codes ",")) (numbers_are (c.0 ∷ c.1 ∷ c.2 ∷ c.3 ∷ []))

arcs_member : (ds : List Data) (ms : Members) → HasMember ms → members_text false (member (codes "arcs") (array (items_of ds)) ms) ≡ codes "\"arcs\":[" ++ (items_text false (items_of ds) ++ (44 ∷ members_text false ms))
unfolding escape_byte
arcs_member ds ms h = member_then (codes "arcs") (array (items_of ds)) ms h

pub topology_is : (t : Seen) → topology_text t ≡ compact_text (topology_data t)
topology_is t =
    let box = option_map box_data t.bbox in
    let more : HasMember (given (codes "bbox") box (after_box t)) = HasMember-given (codes "bbox") box (after_box t) tt in
    let rest : option_text bbox_text t.bbox ++ (codes "\"objects\":{" ++ (joined layer_text t.layers ++ (codes "}," ++ (transform_text t.grid ++ codes ",\"type\":\"Topology\"}")))) ≡ members_text false (given (codes "bbox") box (after_box t)) =
    ap₂ (λ (a b : List ℕ). a ++ b) (box_at t.bbox) (objects_member t) ∙ given_is (codes "bbox") box (after_box t) tt in
    ap (λ s. codes "{\"arcs\":[" ++ s) (
    joined_is arc_text arc_data t.arcs _ (λ c _. arc_is c)
    ∙ ap (λ s. items_text false (items_of (map arc_data t.arcs)) ++ (44 ∷ s)) rest)
    ∙ ap (λ s. 123 ∷ s) (sym (arcs_member (map arc_data t.arcs) (given (codes "bbox") box (after_box t)) more))
