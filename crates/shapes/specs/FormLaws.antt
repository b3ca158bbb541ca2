-- Laws of geometries whose lines and rings become others.
use Rattle.std.specs.Prelude.{◌≡◌, List, [], ◌∷◌, map, refl}
use Rattle.std.proofs.Common.{ap}
use Rattle.shapes.specs.Forms.{form_map}
use Rattle.shapes.specs.declared.form.Form.{Form}
use Rattle.shapes.specs.declared.form.Form.TheVariants.{Null, Point, MultiPoint, Line, MultiLine, Polygon, MultiPolygon}

each_itself : {A : Type 0} (f : A → A) → ((x : A) → f x ≡ x) → (xs : List A) → map f xs ≡ xs
each_itself f same [] = refl
each_itself f same (x ∷ xs) = λ i. same x i ∷ each_itself f same xs i

-- where lines and rings stay, the geometry does
pub form_map_itself : {L R : Type 0} (f : Form L R) → form_map (λ l. l) (λ r. r) f ≡ f
form_map_itself Null = refl
form_map_itself (Point p) = refl
form_map_itself (MultiPoint ps) = refl
form_map_itself (Line l) = refl
form_map_itself (MultiLine ls) = ap MultiLine (each_itself _ (λ l. refl) ls)
form_map_itself (Polygon rs) = ap Polygon (each_itself _ (λ r. refl) rs)
form_map_itself (MultiPolygon ps) = ap MultiPolygon (each_itself _ (each_itself _ (λ r. refl)) ps)
