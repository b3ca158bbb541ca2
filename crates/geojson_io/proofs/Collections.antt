-- The texts of rings and of collections, as they are written.
use Rattle.std.proofs.Common.{◌≡◌, ℕ, List, ◌∷◌, ◌++◌, map, sym, ap, ◌∙◌, codes, Bor}
use Rattle.grid.specs.Place.{Transform}
use Rattle.grid.specs.declared.pos.Pos.{Pos}
use Rattle.shapes.specs.declared.feature.Feature.{Feature}
use Rattle.shapes.specs.declared.form.Form.{Form}
use Rattle.shapes.specs.declared.form.Form.TheVariants.{MultiPoint, MultiLine, Polygon, MultiPolygon}
use Rattle.sinks.specs.Texts.{joined, framed, list_text}
use Rattle.sinks.proofs.Items.{one_more_text}
use Rattle.shapes.proofs.WritingLemmas.Joined.{joined_map}
use Rattle.geojson_io.specs.CollectionText.{place_text, closed_text, geometry_text, form_text, feature_text, collection_text}

-- the vertices of a ring, and the first once more
pub closed_is : (t : Transform) (vs : List Pos) (x : Pos) (l : List Pos) → vs ≡ x ∷ l → joined (place_text t) vs ++ (codes "," ++ place_text t x) ≡ closed_text t vs
closed_is t vs x l e =
    ap (λ ws. joined (place_text t) ws ++ (codes "," ++ place_text t x)) e
    ∙ sym (one_more_text (place_text t) (x ∷ l) x)
    ∙ ap (closed_text t) (sym e)

pub collection_is : (t : Transform) (fs : List (Bor Feature)) → framed (λ (f : Bor Feature). feature_text t f.now) (codes "{\"features\":[") fs (codes "],\"type\":\"FeatureCollection\"}") ≡ collection_text t (map (λ f. f.now) fs)
collection_is t fs =
    ap (λ j. codes "{\"features\":[" ++ (j ++ codes "],\"type\":\"FeatureCollection\"}")) (sym (joined_map (feature_text t) (λ (f : Bor Feature). f.now) fs))

-- geometries of several positions, lines or polygons, whose list is written
pub points_text : {L R : Type 0} (place : Pos → List ℕ) (line : L → List ℕ) (ring : R → List ℕ) {ps qs : List Pos} {f : Form L R}
    → ps ≡ qs → f ≡ MultiPoint qs → geometry_text (list_text place ps) (codes "MultiPoint") ≡ form_text place line ring f
points_text place line ring e is = ap (λ ps. geometry_text (list_text place ps) (codes "MultiPoint")) e ∙ sym (ap (form_text place line ring) is)

pub lines_text : {L R : Type 0} (place : Pos → List ℕ) (line : L → List ℕ) (ring : R → List ℕ) {ks ls : List L} {f : Form L R}
    → ks ≡ ls → f ≡ MultiLine ls → geometry_text (list_text line ks) (codes "MultiLineString") ≡ form_text place line ring f
lines_text place line ring e is = ap (λ ls. geometry_text (list_text line ls) (codes "MultiLineString")) e ∙ sym (ap (form_text place line ring) is)

pub rings_text : {L R : Type 0} (place : Pos → List ℕ) (line : L → List ℕ) (ring : R → List ℕ) {qs rs : List R} {f : Form L R}
    → qs ≡ rs → f ≡ Polygon rs → geometry_text (list_text ring qs) (codes "Polygon") ≡ form_text place line ring f
rings_text place line ring e is = ap (λ rs. geometry_text (list_text ring rs) (codes "Polygon")) e ∙ sym (ap (form_text place line ring) is)

pub polygons_text : {L R : Type 0} (place : Pos → List ℕ) (line : L → List ℕ) (ring : R → List ℕ) {ps qs : List (List R)} {f : Form L R}
    → ps ≡ qs → f ≡ MultiPolygon qs → geometry_text (list_text (list_text ring) ps) (codes "MultiPolygon") ≡ form_text place line ring f
polygons_text place line ring e is = ap (λ ps. geometry_text (list_text (list_text ring) ps) (codes "MultiPolygon")) e ∙ sym (ap (form_text place line ring) is)
