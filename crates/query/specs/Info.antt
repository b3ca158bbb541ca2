-- What a topology is made of, in numbers.
use Rattle.std.specs.Prelude.{ℕ, ◌+◌, Bool, true, false, List, [], ◌∷◌}
use Rattle.std.specs.List.{sum_by}
use Rattle.arcs.specs.Arcs.{Arcs}
use Rattle.arcs.specs.Table.{with_loops}
use Rattle.topo.specs.Bodies.{Body}
use Rattle.shapes.specs.declared.form.Form.TheVariants as of
use Rattle.topo.specs.declared.geom.Geom.{Geom}
use Rattle.query.specs.declared.info.Kinds.{Kinds}

-- 1 for yes
abbrev pub one_if : Bool → ℕ
one_if true = 1
one_if false = 0

-- how many arcs are marked as free loops
abbrev pub free_count : Arcs → ℕ
free_count t = sum_by (λ a. one_if a.1) (with_loops t)

-- no geometries
abbrev pub no_kinds : Kinds
no_kinds = record { nulls = 0; points = 0; multi_points = 0; lines = 0; multi_lines = 0; polygons = 0; multi_polygons = 0 }

-- the counts with one more geometry of the body's kind
abbrev pub one_more : Kinds → Body → Kinds
one_more k of.Null = record k { nulls = k.nulls + 1 }
one_more k (of.Point p) = record k { points = k.points + 1 }
one_more k (of.MultiPoint ps) = record k { multi_points = k.multi_points + 1 }
one_more k (of.Line used) = record k { lines = k.lines + 1 }
one_more k (of.MultiLine ls) = record k { multi_lines = k.multi_lines + 1 }
one_more k (of.Polygon rs) = record k { polygons = k.polygons + 1 }
one_more k (of.MultiPolygon ps) = record k { multi_polygons = k.multi_polygons + 1 }

-- and with one more for each geometry in turn
abbrev pub with_each : Kinds → List Geom → Kinds
with_each k [] = k
with_each k (g ∷ gs) = with_each (one_more k g.body) gs

-- how many of the geometries are of each kind
abbrev pub kinds_of : List Geom → Kinds
kinds_of gs = with_each no_kinds gs

-- all that are counted
abbrev pub total : Kinds → ℕ
total k = k.nulls + (k.points + (k.multi_points + (k.lines + (k.multi_lines + (k.polygons + k.multi_polygons)))))
