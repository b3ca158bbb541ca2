-- What the rules leave something of.
use Rattle.std.proofs.Common.{◌≡◌, ◌↔◌, Bool, true, false, cond, List, [], ◌∷◌, ◌++◌, map, refl, Option, Some, None, option_and_then, IsSome}
use Rattle.std.specs.List.{AllByRecursion}
use Rattle.std.specs.Option.{option_map}
use Rattle.grid.specs.declared.pos.Pos.{Pos}
use Rattle.lines.specs.Reading.{collapsed, line_fault, ring_fault, ring_of}
use Rattle.lines.specs.Turned.{position_cmp}
use Rattle.lines.specs.declared.shape_fault.ShapeFault.{ShapeFault}
use Rattle.lines.specs.declared.shape_fault.ShapeFault.TheVariants as fault
use Rattle.shapes.specs.declared.form.Form.TheVariants.{Null as null, Point as point, MultiPoint as points, Line as line, MultiLine as lines, Polygon as polygon, MultiPolygon as polygons}
use Rattle.fixing.specs.Fixable.{FixableGeometriesAreLeft, FixableLinesAreLeft, FixableRingsAreLeft, IsFixable, IsFixableGeometry, IsFixableLine, IsFixableRing}
use Rattle.fixing.specs.Forms.{RawShape, PlainGeometry, one, collection}
use Rattle.fixing.specs.Geometries.{form_left, forms_left, geometry_left, is_null, line_form, or_lost, polygon_form, shown_left}
use Rattle.fixing.specs.Left.{all_left, closed_list, is_refusing, left_by, line_left, lines_left, need_of, ring_left, unfixed}
use Rattle.fixing.specs.Loops.{loops_of}
use Rattle.fixing.specs.Measures.{turns_left}
use Rattle.fixing.specs.Polygons.{polygon_kept, polygon_left, polygons_left, polygons_of_loops, put_holes, rewound_polygon, with_holes}
use Rattle.fixing.specs.Runs.{runs_of}
use Rattle.fixing.specs.declared.linework.Fix.TheVariants as need
use Rattle.fixing.specs.declared.rules.FixingRules.{FixingRules}

mapped : {A B P : Type 0} (f : A → B) (o : Option A) → IsSome o ↔ P → IsSome (option_map f o) ↔ P
mapped f None is = is
mapped f (Some x) is = is

chained : {A B P Q : Type 0} (f : A → Option B) (o : Option A) → IsSome o ↔ P → ((x : A) → IsSome (f x) ↔ Q) → IsSome (option_and_then f o) ↔ (P × Q)
chained f None is of = ((λ h. absurd cc), (λ h. absurd (let k : false ≡ true = is.1 h.0 in cc)))
chained f (Some x) is of = ((λ h. (is.0 refl, (of x).0 h)), (λ h. (of x).1 h.1))

pub all_are_left : {A B : Type 0} (left : A → Option (List B)) (P : A → Type 0) → ((x : A) → IsSome (left x) ↔ P x) →
    (xs : List A) → IsSome (all_left left xs) ↔ AllByRecursion P xs
all_are_left left P is [] = ((λ h. tt), (λ h. refl))
all_are_left left P is (x ∷ xs) =
    chained (λ parts. option_map (λ more. parts ++ more) (all_left left xs)) (left x) (is x)
    (λ parts. mapped (λ more. parts ++ more) (all_left left xs) (all_are_left left P is xs))

module _ (rules : FixingRules) where
  need_is : (f : Option ShapeFault) → IsSome (need_of rules f) ↔ (unfixed rules f ≡ None)
  need_is None = ((λ h. refl), (λ h. refl))
  need_is (Some fault.TooShort) = go (is_refusing rules.collapsed)
    where
      go : (b : Bool) → IsSome (cond b None (Some need.Drop)) ↔ (cond b (Some fault.TooShort) None ≡ None)
      go true = ((λ h. absurd cc), (λ h. absurd cc))
      go false = ((λ h. refl), (λ h. refl))
  need_is (Some fault.Revisit) = go rules.splits_folded
    where
      go : (b : Bool) → IsSome (cond b (Some need.Split) None) ↔ (cond b None (Some fault.Revisit) ≡ None)
      go true = ((λ h. refl), (λ h. refl))
      go false = ((λ h. absurd cc), (λ h. absurd cc))
  need_is (Some fault.NotClosed) = ((λ h. absurd cc), (λ h. absurd cc))
  need_is (Some fault.OutOfMemory) = ((λ h. absurd cc), (λ h. absurd cc))

  pub line_is_left : (l : List Pos) → IsSome (line_left rules l) ↔ IsFixableLine rules l
  line_is_left l =
      mapped (λ need. left_by need l (runs_of (collapsed position_cmp l))) (need_of rules (line_fault position_cmp l)) (need_is (line_fault position_cmp l))

  pub ring_is_left : (l : List Pos) → IsSome (ring_left rules l) ↔ IsFixableRing rules l
  ring_is_left ring =
      let l = closed_list rules ring in mapped (λ need. left_by need l (loops_of l)) (need_of rules (ring_fault position_cmp l)) (need_is (ring_fault position_cmp l))

  lines_are_left : (l : List Pos) → IsSome (lines_left rules l) ↔ IsFixableLine rules l
  lines_are_left l = mapped (map (collapsed position_cmp)) (line_left rules l) (line_is_left l)

  holes_are_left : (holes : List (List Pos)) (ps : List (List (List Pos))) → IsSome (with_holes rules holes ps) ↔ AllByRecursion (IsFixableRing rules) holes
  holes_are_left [] ps = ((λ h. tt), (λ h. refl))
  holes_are_left (hole ∷ holes) ps =
      chained (λ left. with_holes rules holes (put_holes left ps)) (ring_left rules hole) (ring_is_left hole) (λ left. holes_are_left holes (put_holes left ps))

  rings_are_left : (rs : List (List Pos)) → IsSome (polygon_kept rules rs) ↔ AllByRecursion (IsFixableRing rules) rs
  rings_are_left [] = ((λ h. tt), (λ h. refl))
  rings_are_left (outer ∷ holes) =
      chained (λ loops. with_holes rules holes (polygons_of_loops (turns_left (closed_list rules outer)) loops)) (ring_left rules outer) (ring_is_left outer)
      (λ loops. holes_are_left holes (polygons_of_loops (turns_left (closed_list rules outer)) loops))

  polygons_are_left : (rs : List (List Pos)) → IsSome (polygons_left rules rs) ↔ AllByRecursion (IsFixableRing rules) rs
  polygons_are_left rs =
      mapped (map (map (ring_of position_cmp))) (polygon_left rules rs) (mapped (map (rewound_polygon rules.rewind)) (polygon_kept rules rs) (rings_are_left rs))

  pub form_is_left : (form : RawShape) → IsSome (form_left rules form) ↔ IsFixable rules form
  form_is_left null = ((λ h. tt), (λ h. refl))
  form_is_left (point p) = ((λ h. tt), (λ h. refl))
  form_is_left (points ps) = ((λ h. tt), (λ h. refl))
  form_is_left (line l) = mapped (line_form false) (lines_left rules l) (lines_are_left l)
  form_is_left (lines []) = ((λ h. tt), (λ h. refl))
  form_is_left (lines (l ∷ ls)) =
      mapped (line_form true) (all_left (lines_left rules) (l ∷ ls)) (all_are_left (lines_left rules) (IsFixableLine rules) lines_are_left (l ∷ ls))
  form_is_left (polygon rs) = mapped (polygon_form false) (polygons_left rules rs) (polygons_are_left rs)
  form_is_left (polygons []) = ((λ h. tt), (λ h. refl))
  form_is_left (polygons (p ∷ ps)) =
      mapped (polygon_form true) (all_left (polygons_left rules) (p ∷ ps))
      (all_are_left (polygons_left rules) (AllByRecursion (IsFixableRing rules)) polygons_are_left (p ∷ ps))

  forms_are_left : (forms : List RawShape) → IsSome (forms_left rules forms) ↔ AllByRecursion (IsFixable rules) forms
  forms_are_left forms =
      mapped (or_lost rules) (all_left (shown_left rules) forms)
      (all_are_left (shown_left rules) (IsFixable rules) (λ form. mapped (λ left. cond (is_null left) [] (left ∷ [])) (form_left rules form) (form_is_left form)) forms)

  one_is_left : (b : Bool) (form : RawShape) → (b ≡ true → IsFixable rules form) → IsSome (cond b (Some (null ∷ [])) (forms_left rules (form ∷ []))) ↔ IsFixable rules form
  one_is_left true form h = ((λ k. h refl), (λ k. refl))
  one_is_left false form h = let is = forms_are_left (form ∷ []) in ((λ k. (is.0 k).0), (λ k. is.1 (k, tt)))

  null_is_left : (form : RawShape) → is_null form ≡ true → IsFixable rules form
  null_is_left null e = tt
  null_is_left (point p) e = tt
  null_is_left (points ps) e = tt
  null_is_left (line l) e = absurd cc
  null_is_left (lines ls) e = absurd cc
  null_is_left (polygon rs) e = absurd cc
  null_is_left (polygons ps) e = absurd cc

  split_is_left : (b : Bool) (forms : List RawShape) → IsSome (cond b (forms_left rules forms) None) ↔ ((b ≡ true) × AllByRecursion (IsFixable rules) forms)
  split_is_left true forms = let is = forms_are_left forms in ((λ k. (refl, is.0 k)), (λ k. is.1 k.1))
  split_is_left false forms = ((λ k. absurd cc), (λ k. absurd (let e : false ≡ true = k.0 in cc)))

  pub geometry_is_left : (geometry : PlainGeometry) → IsSome (geometry_left rules geometry) ↔ IsFixableGeometry rules geometry
  geometry_is_left (one form) = one_is_left (is_null form) form (null_is_left form)
  geometry_is_left (collection forms) = split_is_left rules.splits_collections forms

pub fixable_lines_are_left : FixableLinesAreLeft
fixable_lines_are_left rules l = line_is_left rules l

pub fixable_rings_are_left : FixableRingsAreLeft
fixable_rings_are_left rules l = ring_is_left rules l

pub fixable_geometries_are_left : FixableGeometriesAreLeft
fixable_geometries_are_left rules geometry = geometry_is_left rules geometry
