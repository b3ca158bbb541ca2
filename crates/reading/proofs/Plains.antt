-- Features by their plain data: equal data is one feature, and what the data fits the feature fits.
use Rattle.std.proofs.Common.{◌≡◌, inl, inr, ℕ, IsTrue, List, [], ◌∷◌, Bool, true, false, map, refl, sym, ap, ◌∙◌, subst}
use Rattle.std.specs.Prelude.{Option, Some, None, is_some, unwrap_or}
use Rattle.std.specs.List.{AllByRecursion}
use Rattle.std.specs.Cmp.Lexicographic.{nat_list_cmp_total}
use Rattle.std.specs.FinMap as finite
use Rattle.grid.specs.Place.{Transform}
use Rattle.lines.specs.Seen.{positions_of, vertices_of}
use Rattle.theory.specs.Lists.{Has}
use Rattle.shapes.specs.Sets as set
use Rattle.shapes.specs.SetLaws.{same_set, contains-empty}
use Rattle.shapes.specs.Maps.{Features, Layers, features_at}
use Rattle.shapes.specs.Order.{feature_cmp}
use Rattle.shapes.specs.OrderLaws.{feature_cmp_total, same_feature, feature_alike, one_line, one_ring, one_spelled, same_text}
use Rattle.shapes.specs.Fitting.{MapFits}
use Rattle.shapes.specs.declared.shape.Id as ids
use Rattle.shapes.specs.declared.shape.Id.TheVariants as id
use Rattle.shapes.specs.Shapes as shapes
use Rattle.shapes.specs.declared.form.Form.TheVariants as shape
use Rattle.shapes.specs.declared.feature.Feature.{Feature}
use Rattle.reading.specs.Plain.{Plain, plain, plain_id, plain_form}
use Rattle.reading.specs.Meant.{AreFeatures, AreLayers}
use Rattle.reading.specs.Fitting.{PlainFits}
use Rattle.reading.proofs.Fits.{all_has, set_fits}

-- ---- equal plain data

-- lists of the same images are the same, where images tell
map_once : {X Y : Type 0} (f : X → Y) → ((a b : X) → f a ≡ f b → a ≡ b) → (xs ys : List X) → map f xs ≡ map f ys → xs ≡ ys
map_once f one [] [] e = refl
map_once f one [] (y ∷ ys) e = cc
map_once f one (x ∷ xs) [] e = cc
map_once f one (x ∷ xs) (y ∷ ys) e =
    let first : f x ≡ f y = cc in
    let rest : map f xs ≡ map f ys = cc in
    λ i. one x y first i ∷ map_once f one xs ys rest i

id_once : (a b : ids.Id) → plain_id a ≡ plain_id b → a ≡ b
id_once id.None id.None e = refl
id_once (id.Number m) (id.Number n) e = let same : m ≡ n = cc in ap id.Number same
id_once (id.Text s) (id.Text t) e = let same : s.text ≡ t.text = cc in ap id.Text (one_spelled s t same)
id_once a b e = cc

shape_once : (a b : shapes.Shape) → plain_form a ≡ plain_form b → a ≡ b
shape_once shape.Null shape.Null e = refl
shape_once (shape.Point p) (shape.Point q) e = let same : p ≡ q = cc in ap shape.Point same
shape_once (shape.MultiPoint ps) (shape.MultiPoint qs) e = let same : ps ≡ qs = cc in ap shape.MultiPoint same
shape_once (shape.Line k) (shape.Line l) e = let same : positions_of k ≡ positions_of l = cc in ap shape.Line (one_line k l same)
shape_once (shape.MultiLine ks) (shape.MultiLine ls) e =
    let same : map positions_of ks ≡ map positions_of ls = cc in ap shape.MultiLine (map_once positions_of one_line ks ls same)
shape_once (shape.Polygon rs) (shape.Polygon ss) e =
    let same : map vertices_of rs ≡ map vertices_of ss = cc in ap shape.Polygon (map_once vertices_of one_ring rs ss same)
shape_once (shape.MultiPolygon ps) (shape.MultiPolygon qs) e =
    let same : map (map vertices_of) ps ≡ map (map vertices_of) qs = cc in
    ap shape.MultiPolygon (map_once (map vertices_of) (map_once vertices_of one_ring) ps qs same)
shape_once a b e = cc

-- features that are the same as plain data are one
pub plain_once : (f g : Feature) → plain f ≡ plain g → f ≡ g
plain_once f g e =
    (feature_alike f g).1
    (id_once f.id g.id (ap (λ p. p.id) e), ap (λ p. p.properties) e, shape_once f.shape g.shape (ap (λ p. p.form) e))

both_true : (a b : Bool) → (IsTrue a → IsTrue b) → (IsTrue b → IsTrue a) → a ≡ b
both_true true true f g = refl
both_true true false f g = sym (f refl)
both_true false true f g = g refl
both_true false false f g = refl

-- a member of the one set is a member of the other
among : (made other : Features) (meant : List Plain) → AreFeatures made meant → AreFeatures other meant → (f : Feature) → IsTrue (set.contains made f) → IsTrue (set.contains other f)
among made other meant are also f has =
    let (g, there, same) = also.all (plain f) (are.only f has) in
    subst (λ x. IsTrue (set.contains other x)) (plain_once g f same) there

-- at most one set holds these features
pub features_once : (made other : Features) (meant : List Plain) → AreFeatures made meant → AreFeatures other meant → made ≡ other
features_once made other meant are also =
    same_set feature_cmp_total same_feature made other (λ f. both_true _ _ (among made other meant are also f) (among other made meant also are f))

-- a name of a layer has features
layer_of : (n : List ℕ) (ls : List (List ℕ × List Plain)) → Has n (map (λ l. l.0) ls) → (ps : List Plain) × Has (n, ps) ls
layer_of n [] h = absurd h
layer_of n (l ∷ ls) (inl e) = (l.1, inl (λ i. (e i, l.1)))
layer_of n (l ∷ ls) (inr h) = let rest = layer_of n ls h in (rest.0, inr rest.1)

found_once : (a b : Option Features) → is_some a ≡ is_some b → (IsTrue (is_some a) → unwrap_or a set.empty ≡ unwrap_or b set.empty) → a ≡ b
found_once None None e f = refl
found_once None (Some b) e f = cc
found_once (Some a) None e f = cc
found_once (Some a) (Some b) e f = ap Some (f refl)

-- at most one map has these layers
pub layers_once : (made other : Layers) (meant : List (List ℕ × List Plain)) → AreLayers made meant → AreLayers other meant → made ≡ other
layers_once made other meant are also =
    finite.same_map nat_list_cmp_total same_text made other (λ n.
    found_once (finite.get made n) (finite.get other n)
    (both_true _ _ (λ h. (also.names n).1 ((are.names n).0 h)) (λ h. (are.names n).1 ((also.names n).0 h)))
    (λ there.
    let (ps, has) = layer_of n meant ((are.names n).0 there) in
    features_once (features_at made n) (features_at other n) ps (are.features n ps has) (also.features n ps has)))

-- ---- lists of features

-- a list's features as plain data
pub has_plain : (f : Feature) (fs : List Feature) → Has f fs → Has (plain f) (map plain fs)
has_plain f [] h = absurd h
has_plain f (g ∷ fs) (inl e) = inl (ap plain e)
has_plain f (g ∷ fs) (inr h) = inr (has_plain f fs h)

pub plain_has : (p : Plain) (fs : List Feature) → Has p (map plain fs) → (f : Feature) × Has f fs × (plain f ≡ p)
plain_has p [] h = absurd h
plain_has p (g ∷ fs) (inl e) = (g, inl refl, sym e)
plain_has p (g ∷ fs) (inr h) = let rest = plain_has p fs h in (rest.0, inr rest.1, rest.2)

-- ---- what fits

-- each feature of the map fits where the plain data of its layers does
pub layers_fit : (g : Transform) (made : Layers) (meant : List (List ℕ × List Plain)) → AreLayers made meant → AllByRecursion (λ l. AllByRecursion (PlainFits g) l.1) meant → MapFits g made
layers_fit g made meant are fit n f has =
    let (ps, there) = layer_of n meant ((are.names n).0 (is_layer (finite.get made n) has)) in
    set_fits g (features_at made n) ps (are.features n ps there) (all_has (λ l. AllByRecursion (PlainFits g) l.1) meant (n, ps) fit there) f has
  where
    nothing : false ≡ true → ⊥
    nothing e = cc

    is_layer : (o : Option Features) → set.contains (unwrap_or o set.empty) f ≡ true → IsTrue (is_some o)
    is_layer None h = absurd (nothing (sym (contains-empty feature_cmp f) ∙ h))
    is_layer (Some s) h = refl
