-- What is gathered layer by layer, and what is gathered from the forms of a map.
use Rattle.std.proofs.Common.{◌≡◌, ℕ, List, [], ◌∷◌, ◌++◌, refl, sym, ap, ◌∙◌, append_assoc, None, length, arith}
use Rattle.std.proofs.lemmas.List.{map-append}
use Rattle.std.specs.Prelude.{map as map_list, unwrap_or}
use Rattle.std.specs.FinMap as map
use Rattle.theory.specs.Lists.{gathered, joined}
use Rattle.theory.specs.Topology.{Shape, forms_of, lines_in, rings_in}
use Rattle.grid.specs.declared.pos.Pos.{Pos}
use Rattle.lines.specs.declared.ring.Ring.{Ring}
use Rattle.shapes.specs.Forms as forms
use Rattle.shapes.specs.Maps.{Layers, features_at, layer_entry, set_of}
use Rattle.shapes.specs.Order.{feature_cmp}
use Rattle.shapes.specs.Sets as set
use Rattle.shapes.specs.Shapes as shapes
use Rattle.shapes.specs.declared.form.Form.TheVariants as of
use Rattle.shapes.specs.declared.feature.Feature.{Feature}
use Rattle.shapes.specs.declared.layer.FeatureLayer.{FeatureLayer}
use Rattle.chains.specs.Seen.{form_of, item_of, layer_of, line_of, ring_of, seen}

pub gathered-append : {A B : Type 0} (f : A → List B) (s t : List A) → gathered f (s ++ t) ≡ gathered f s ++ gathered f t
gathered-append f [] t = refl
gathered-append f (x ∷ s) t = ap (λ w. f x ++ w) (gathered-append f s t) ∙ sym (append_assoc (f x) (gathered f s) (gathered f t))

none_entries : {A : Type 0} (es : List A) → length es ≡ 0 → es ≡ []
none_entries [] e = refl
none_entries (x ∷ es) e = absurd (omega (arith, e))

-- no layer, no features
pub no_features : (m : Layers) (name : List ℕ) → None ≡ map.get m name → set.items (features_at m name) ≡ []
no_features m name e =
    ap (λ o. set.items (unwrap_or o set.empty)) (sym e)
    ∙ ap (map_list (λ e. e.0)) (none_entries (map.entries map.empty) (sym (map.len-entries map.empty) ∙ map.len-empty feature_cmp (Unit {0})))

module _ {X : Type 0} (f : Shape Pos → List X) where
  of_features : List Feature → List X
  of_features fs = gathered (λ (x : Feature). f (form_of x.shape)) fs

  of_items : (fs : List Feature) → of_features fs ≡ gathered f (gathered (λ x. x.form ∷ []) (map_list item_of fs))
  unfolding of_features
  of_items [] = refl
  of_items (x ∷ fs) = ap (λ w. f (form_of x.shape) ++ w) (of_items fs)

  of_entries : (ls : List FeatureLayer) → gathered (λ l. of_features (set.items (set_of l.features))) ls ≡ gathered f (forms_of (map_list layer_of (map_list layer_entry ls)))
  of_entries [] = refl
  of_entries (l ∷ ls) =
      let items = gathered (λ x. x.form ∷ []) (map_list item_of (set.items (set_of l.features))) in
      (λ i. of_items (set.items (set_of l.features)) i ++ of_entries ls i)
      ∙ sym (gathered-append f items (forms_of (map_list layer_of (map_list layer_entry ls))))

  -- layer by layer
  pub of_layers : (m : Layers) (ls : List FeatureLayer) → map_list layer_entry ls ≡ map.entries m →
      gathered (λ l. gathered (λ (x : Feature). f (form_of x.shape)) (set.items (set_of l.features))) ls ≡ gathered f (forms_of (seen m))
  unfolding of_features
  of_layers m ls e = of_entries ls ∙ ap (λ es. gathered f (forms_of (map_list layer_of es))) e

-- the lines of a shape, as they are seen
pub lines_seen : (s : shapes.Shape) → lines_in (form_of s) ≡ map_list line_of (forms.lines_in s)
lines_seen of.Null = refl
lines_seen (of.Point p) = refl
lines_seen (of.MultiPoint ps) = refl
lines_seen (of.Line l) = refl
lines_seen (of.MultiLine ls) = refl
lines_seen (of.Polygon rs) = refl
lines_seen (of.MultiPolygon ps) = refl

joined_seen : (ps : List (List Ring)) → joined (map_list (map_list ring_of) ps) ≡ map_list ring_of (joined ps)
joined_seen [] = refl
joined_seen (rs ∷ ps) = ap (λ w. map_list ring_of rs ++ w) (joined_seen ps) ∙ sym (map-append ring_of rs (joined ps))

-- the rings of a shape, as they are seen
pub rings_seen : (s : shapes.Shape) → rings_in (form_of s) ≡ map_list ring_of (forms.rings_in s)
rings_seen of.Null = refl
rings_seen (of.Point p) = refl
rings_seen (of.MultiPoint ps) = refl
rings_seen (of.Line l) = refl
rings_seen (of.MultiLine ls) = refl
rings_seen (of.Polygon rs) = refl
rings_seen (of.MultiPolygon ps) = joined_seen ps
