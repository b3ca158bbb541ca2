-- Types of geometries by their names.
use Rattle.std.specs.Prelude.{ℕ, List, Result, Ok, Err, codes, if◌then◌else◌}
use Rattle.std.specs.Str.{bytes_eq}
use Rattle.serde_json.specs.Data.{Data}
use Rattle.faults.specs.declared.fault.FaultKind.{FaultKind}
use Rattle.faults.specs.declared.fault.FaultKind.TheVariants.{UnknownType}
use Rattle.reading.specs.Parts.{named, type_text}
use Rattle.reading.specs.declared.geometry.GeometryType.{GeometryType}
use Rattle.reading.specs.declared.geometry.GeometryType.TheVariants.{Point, MultiPoint, LineString, MultiLineString, Polygon, MultiPolygon}

-- the geometry type of that name [RFC 7946, 1.4]
abbrev pub geometry_named : List ℕ → Result GeometryType FaultKind
geometry_named s =
    if bytes_eq s (codes "Point") then Ok Point
    else (if bytes_eq s (codes "MultiPoint") then Ok MultiPoint
    else (if bytes_eq s (codes "LineString") then Ok LineString
    else (if bytes_eq s (codes "MultiLineString") then Ok MultiLineString
    else (if bytes_eq s (codes "Polygon") then Ok Polygon
    else (if bytes_eq s (codes "MultiPolygon") then Ok MultiPolygon else Err UnknownType)))))

-- the geometry type that an object's member `type` names [RFC 7946, 1.4]
abbrev pub geometry_type : Data → Result GeometryType FaultKind
geometry_type d = named geometry_named (type_text d)
