-- What is wrong with a value that stands for properties.
use Rattle.std.specs.Prelude.{not, is_some, nat_le, Option, Some, None, if◌then◌else◌}
use Rattle.serde_json.specs.Data.{Data, depth}
use Rattle.serde_json.specs.Find.{as_object}
use Rattle.serde_json.specs.Written.{has_float}
use Rattle.shapes.specs.declared.nesting.TheConstants.{GREATEST_PROPERTY_DEPTH}
use Rattle.shapes.specs.declared.props.PropFault.{PropFault}
use Rattle.shapes.specs.declared.props.PropFault.TheVariants.{WrongKind, PropertyNumber, PropertyDepth}

-- first that it is no object, then a number that is neither i64 nor u64, then containers that nest too deep
-- [RFC 7946, 3.2; limits own]
abbrev pub property_fault : Data → Option PropFault
property_fault d =
    if not (is_some (as_object d)) then Some WrongKind
    else (if has_float d then Some PropertyNumber
    else (if not (nat_le (depth d) GREATEST_PROPERTY_DEPTH) then Some PropertyDepth else None))
