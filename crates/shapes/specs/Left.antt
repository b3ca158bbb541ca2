-- What is left of the lines or rings of a geometry.
use Rattle.std.specs.Prelude.{List, [], ◌∷◌, ◌++◌, Option, Some, None}
use Rattle.std.specs.Borrow.{Bor}
use Rattle.theory.specs.Lists.{joined}
use Rattle.shapes.specs.declared.form_parts.FormParts.TheInside as of_form

-- what an option that lends has, as a list
abbrev pub borrowed : {T : Type 0} → Option (Bor T) → List T
borrowed None = []
borrowed (Some x) = x.now ∷ []

-- the parts that are left, from the front
abbrev pub parts_left : {T : Type 0} → of_form.Inside T → List T
parts_left p = borrowed p.first ++ (p.parts.now ++ joined p.groups.now)
