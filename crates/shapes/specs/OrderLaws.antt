-- The laws of the order of features.
use Rattle.std.proofs.Common.{◌≡◌, ℕ, ℤ, List, [], ◌∷◌, true, refl, sym, ◌∙◌, ap, subst, rules}
use Rattle.std.specs.Cmp.{IsTotalOrder, then_total, on_total, nat_cmp_total, int_cmp_total, Equal-is, eq_by_cmp_equiv}
use Rattle.std.specs.Ordering.{eq_by_cmp}
use Rattle.std.specs.Prelude.{◌↔◌}
use Rattle.std.specs.FinMap.{IsAntisymmetric, nat_cmp-IsAntisymmetric, int_cmp-IsAntisymmetric, slice_cmp-IsAntisymmetric}
use Rattle.shapes.specs.Order.{id_rank, id_cmp, form_rank, form_cmp, shape_cmp, feature_cmp}
use Rattle.shapes.specs.declared.shape.Id.{Id}
use Rattle.shapes.specs.declared.form.Form.{Form}
use Rattle.shapes.specs.declared.feature.Feature.{Feature}
use Rattle.std.specs.declared.cmp.Ordering.{Ordering}
use Rattle.std.specs.declared.cmp.Ordering.TheVariants.{Less, Equal, Greater}
use Rattle.std.specs.Ordering.{ordering_then, int_cmp, nat_cmp}
use Rattle.std.specs.Cmp.Lexicographic.{slice_cmp, lists_total, nat_list_cmp_total}
use Rattle.lines.specs.Positions.{position_total, then_equal, position_same}
use Rattle.lines.specs.Turned.{position_cmp, list_cmp, IsLeastRotation-prop}
use Rattle.shapes.specs.Forms.{points_in, lines_in}
use Rattle.shapes.specs.Order.{line_cmp, ring_cmp}
use Rattle.lines.specs.declared.line.Line as the_line
use Rattle.lines.specs.declared.ring.Ring as the_ring
use Rattle.shapes.specs.declared.spelled.Spelled.{Spelled}
use Rattle.shapes.specs.declared.props.Props.{Props}
use Rattle.std.specs.Coded.{Coded-set, coded_list, coded_ℕ, coded_bool}
use mathlib.Core.HLevel.{is_prop→PathP}
use Rattle.theory.specs.OneProof.{IsLine-prop, IsRing-prop}
use Rattle.std.specs.Str.{is_utf8}
use Rattle.shapes.specs.Spelling.{spelling_of}
use Rattle.shapes.specs.Ids.{HasI64, HasI64-prop}
use Rattle.shapes.specs.Properties.{is_properties, properties_value}
use Rattle.json.specs.Lex.{tokens}
use Rattle.json.specs.Token.{tokens_code}
use Rattle.json.specs.Tree.{json_tokens}
use Rattle.serde_json.specs.Written.{outline}
use Rattle.shapes.specs.declared.shape.Id.TheVariants.{None, Number, Text}
use Rattle.shapes.specs.declared.form.Form.TheVariants.{Null, Point, MultiPoint, Line, MultiLine, Polygon, MultiPolygon}

-- what ties with nothing behind it
then_nothing : (x : Ordering) → ordering_then x Equal ≡ x
then_nothing Less = refl
then_nothing Equal = refl
then_nothing Greater = refl

-- the number of an id, where it is one, and the bytes of its text
number_in : Id → List ℤ
number_in None = []
number_in (Number n) = n ∷ []
number_in (Text t) = []

text_in : Id → List ℕ
text_in None = []
text_in (Number n) = []
text_in (Text t) = t.text

-- the order of ids goes by rank, number and text in turn
id_by_parts : (a b : Id) → ordering_then (nat_cmp (id_rank a) (id_rank b)) (ordering_then (slice_cmp int_cmp (number_in a) (number_in b)) (slice_cmp nat_cmp (text_in a) (text_in b))) ≡ id_cmp a b
unfolding number_in text_in
id_by_parts None None = refl
id_by_parts None (Number n) = refl
id_by_parts None (Text t) = refl
id_by_parts (Number m) None = refl
id_by_parts (Number m) (Number n) = ap (λ x. ordering_then x Equal) (then_nothing (int_cmp m n)) ∙ then_nothing (int_cmp m n)
id_by_parts (Number m) (Text t) = refl
id_by_parts (Text s) None = refl
id_by_parts (Text s) (Number n) = refl
id_by_parts (Text s) (Text t) = refl

id_cmp_total : IsTotalOrder id_cmp
id_cmp_total =
    subst IsTotalOrder (λ i a b. id_by_parts a b i)
    (then_total (on_total id_rank nat_cmp_total) (then_total (on_total number_in (lists_total int_cmp_total)) (on_total text_in nat_list_cmp_total)))

-- the polygons of a form, one or many
polygons_in : {L R : Type 0} → Form L R → List (List R)
polygons_in (Polygon rs) = rs ∷ []
polygons_in (MultiPolygon ps) = ps
polygons_in s = []

module _ {L R : Type 0} (of_line : L → L → Ordering) (of_ring : R → R → Ordering) where
  -- the order of forms goes by rank, points, lines and polygons in turn
  by_parts : Form L R → Form L R → Ordering
  by_parts a b =
      ordering_then (nat_cmp (form_rank a) (form_rank b))
      (ordering_then (list_cmp (points_in a) (points_in b))
      (ordering_then (slice_cmp of_line (lines_in a) (lines_in b)) (slice_cmp (slice_cmp of_ring) (polygons_in a) (polygons_in b))))

  form_by_parts : (a b : Form L R) → by_parts a b ≡ form_cmp of_line of_ring a b
  unfolding by_parts polygons_in
  form_by_parts (Point p) (Point q) = ap (λ x. ordering_then x Equal) (then_nothing (position_cmp p q)) ∙ then_nothing (position_cmp p q)
  form_by_parts (MultiPoint ps) (MultiPoint qs) = then_nothing (list_cmp ps qs)
  form_by_parts (Line k) (Line l) = ap (λ x. ordering_then x Equal) (then_nothing (of_line k l)) ∙ then_nothing (of_line k l)
  form_by_parts (MultiLine ks) (MultiLine ls) = then_nothing (slice_cmp of_line ks ls)
  form_by_parts (Polygon ps) (Polygon qs) = then_nothing (slice_cmp of_ring ps qs)
  form_by_parts (MultiPolygon ps) (MultiPolygon qs) = refl
  form_by_parts a b = search rules

  -- where the orders of lines and rings are total, that of forms is
  pub form_cmp_total : IsTotalOrder of_line → IsTotalOrder of_ring → IsTotalOrder (form_cmp of_line of_ring)
  unfolding by_parts
  form_cmp_total line ring =
      subst IsTotalOrder (λ i a b. form_by_parts a b i)
      (then_total (on_total form_rank nat_cmp_total)
      (then_total (on_total points_in (lists_total position_total))
      (then_total (on_total lines_in (lists_total line))
      (on_total polygons_in (lists_total (lists_total ring))))))

line_total : IsTotalOrder line_cmp
line_total = on_total (λ (l : the_line.Line). l.positions) (lists_total position_total)

ring_total : IsTotalOrder ring_cmp
ring_total = on_total (λ (r : the_ring.Ring). r.positions) (lists_total position_total)

-- the order of features is total
pub feature_cmp_total : IsTotalOrder feature_cmp
unfolding feature_cmp
feature_cmp_total = then_total (on_total (λ f. f.id) id_cmp_total) (then_total (on_total (λ f. f.props.text) nat_list_cmp_total) (on_total (λ f. f.shape) (form_cmp_total line_cmp ring_cmp line_total ring_total)))

-- lists of positions that tie are equal
pub same_list : IsAntisymmetric list_cmp
same_list = slice_cmp-IsAntisymmetric position_same

pub same_text : IsAntisymmetric (slice_cmp nat_cmp)
same_text = slice_cmp-IsAntisymmetric nat_cmp-IsAntisymmetric

-- equal positions make one line
pub one_line : (k l : the_line.Line) → k.positions ≡ l.positions → k ≡ l
one_line k l e i = record { positions = e i; line = is_prop→PathP _ (λ j. IsLine-prop (e j)) k.line l.line i }

pub one_ring : (k l : the_ring.Ring) → k.positions ≡ l.positions → k ≡ l
one_ring k l e i = record {
  positions = e i;
  ring = is_prop→PathP _ (λ j. IsRing-prop (e j)) k.ring l.ring i;
  least = is_prop→PathP _ (λ j. IsLeastRotation-prop (e j)) k.least l.least i;
}

pub same_line : IsAntisymmetric line_cmp
same_line k l e = one_line k l (same_list k.positions l.positions e)

pub same_ring : IsAntisymmetric ring_cmp
same_ring k l e = one_ring k l (same_list k.positions l.positions e)

pub one_spelled : (s t : Spelled) → s.text ≡ t.text → s ≡ t
one_spelled s t e =
    let f : s.json ≡ t.json = s.spelled ∙ ap spelling_of e ∙ sym t.spelled in
    λ i. record {
      text = e i;
      json = f i;
      spelled = is_prop→PathP (λ j. f j ≡ spelling_of (e j)) (λ j. Coded-set (coded_list coded_ℕ) _ _) s.spelled t.spelled i;
      utf8 = is_prop→PathP (λ j. is_utf8 (e j) ≡ true) (λ j. Coded-set coded_bool _ _) s.utf8 t.utf8 i;
    }

pub one_props : (s t : Props) → s.text ≡ t.text → s ≡ t
one_props s t e i = record {
  text = e i;
  properties = is_prop→PathP (λ j. is_properties (e j) ≡ true) (λ j. Coded-set coded_bool _ _) s.properties t.properties i;
  lexed = is_prop→PathP (λ j. tokens (e j) ≡ json_tokens (outline (properties_value (e j)))) (λ j. Coded-set tokens_code _ _) s.lexed t.lexed i;
}

pub same_id : IsAntisymmetric id_cmp
same_id None None e = refl
same_id (Number m) (Number n) e = ap Number (int_cmp-IsAntisymmetric m n e)
same_id (Text s) (Text t) e = ap Text (one_spelled s t (same_text s.text t.text e))
same_id a b e = cc

-- where lines that tie are equal, and rings, forms are
pub same_form : {L R : Type 0} {of_line : L → L → Ordering} {of_ring : R → R → Ordering} → IsAntisymmetric of_line → IsAntisymmetric of_ring → IsAntisymmetric (form_cmp of_line of_ring)
same_form line ring Null Null e = refl
same_form line ring (Point p) (Point q) e = ap Point (position_same p q e)
same_form line ring (MultiPoint ps) (MultiPoint qs) e = ap MultiPoint (same_list ps qs e)
same_form line ring (Line k) (Line l) e = ap Line (line k l e)
same_form line ring (MultiLine ks) (MultiLine ls) e = ap MultiLine (slice_cmp-IsAntisymmetric line ks ls e)
same_form line ring (Polygon ps) (Polygon qs) e = ap Polygon (slice_cmp-IsAntisymmetric ring ps qs e)
same_form line ring (MultiPolygon ps) (MultiPolygon qs) e = ap MultiPolygon (slice_cmp-IsAntisymmetric (slice_cmp-IsAntisymmetric ring) ps qs e)
same_form line ring a b e = cc

pub same_shape : IsAntisymmetric shape_cmp
same_shape = same_form same_line same_ring

-- features of one id, properties and shape are one
one_feature : (a b : Feature) → a.id ≡ b.id → a.props.text ≡ b.props.text → a.shape ≡ b.shape → a ≡ b
one_feature a b e p s i = record {
  id = e i;
  props = one_props a.props b.props p i;
  shape = s i;
  bits = is_prop→PathP (λ j. HasI64 (e j)) (λ j. HasI64-prop (e j)) a.bits b.bits i;
}

-- features that tie are one
pub same_feature : IsAntisymmetric feature_cmp
unfolding feature_cmp
same_feature a b e =
    let first = then_equal (id_cmp a.id b.id) _ e in
    let rest = then_equal (slice_cmp nat_cmp a.props.text b.props.text) (shape_cmp a.shape b.shape) first.1 in
    one_feature a b (same_id a.id b.id first.0) (same_text a.props.text b.props.text rest.0) (same_shape a.shape b.shape rest.1)

-- features are equal exactly where the order ties them
pub feature_tied : (a b : Feature) → (eq_by_cmp feature_cmp a b ≡ true) ↔ (a ≡ b)
feature_tied a b = (
  λ e. same_feature a b ((Equal-is (feature_cmp a b)).0 e),
  λ e. subst (λ f. eq_by_cmp feature_cmp a f ≡ true) e ((eq_by_cmp_equiv feature_cmp_total).refl a),
)

-- features are equal exactly where id, properties and shape are
pub feature_alike : (a b : Feature) → (a ≡ b) ↔ ((a.id ≡ b.id) × (a.props.text ≡ b.props.text) × (a.shape ≡ b.shape))
feature_alike a b = (
  λ e. (ap (λ f. f.id) e, ap (λ f. f.props.text) e, ap (λ f. f.shape) e),
  λ (i, p, s). one_feature a b i p s,
)
