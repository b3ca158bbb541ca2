use Rattle.std.proofs.Common.{◌≡◌, ◌++◌, map}
use Rattle.std.specs.Option.{option_map}
use Rattle.fixing.specs.Forms.{plain_shape}
use Rattle.fixing.specs.Geometries.{form_counted, shown_left}
use Rattle.fixing.specs.Left.{all_counted, all_left}
use Rattle.fixing.proofs.geometry.fix_shapes.Given as goal

-- what was left so far and what is left of the others are what is left of all
abbrev pub invariant-loop-shape : goal.invariant-loop-shape
invariant-loop-shape l = record {
  left : all_left (shown_left l.rules) l.fn.shapes.items
      ≡ option_map (λ more. map plain_shape l.made.items ++ more) (all_left (shown_left l.rules) l.shape-iterator.rest.items);
  counted : all_counted (form_counted l.rules) l.shape-iterator.rest.items l.fixes ≡ all_counted (form_counted l.rules) l.fn.shapes.items l.fn.fixes;
}
