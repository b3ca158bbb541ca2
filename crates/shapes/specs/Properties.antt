-- Texts of properties.
use Rattle.std.specs.Prelude.{ℕ, List, Bool, not, ◌&&◌, nat_le, is_some, unwrap_or}
use Rattle.std.specs.Str.{bytes_eq, is_utf8}
use Rattle.serde_json.specs.Data.{Data, depth, object, no_members}
use Rattle.serde_json.specs.Find.{as_object}
use Rattle.serde_json.specs.Read.{read}
use Rattle.serde_json.specs.Written.{has_float, compact_text}
use Rattle.shapes.specs.declared.nesting.TheConstants.{GREATEST_PROPERTY_DEPTH}

-- the value that a text of properties reads as, an empty object where it reads as none
abbrev pub properties_value : List ℕ → Data
properties_value t = unwrap_or (read t) (object no_members)

-- the compact text of an object that nests no deeper than properties may and has no float, which reads back as that object
abbrev pub is_properties : List ℕ → Bool
is_properties t =
    is_some (read t) && (is_some (as_object (properties_value t)) && (bytes_eq t (compact_text (properties_value t)) && (is_utf8 t && (not (has_float (properties_value t)) && nat_le (depth (properties_value t)) GREATEST_PROPERTY_DEPTH))))
