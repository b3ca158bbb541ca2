-- The uses of a body of lines or rings are those of its lists.
use Rattle.std.proofs.Common.{◌≡◌, ℕ, List, append-nil, refl}
use Rattle.grid.specs.declared.pos.Pos.{Pos}
use Rattle.theory.specs.Lists.{gathered}
use Rattle.topo.proofs.Gathered.{gathered_joined}
use Rattle.topo.specs.BodyLists.{body_lists}
use Rattle.topo.specs.Bodies.{Body}
use Rattle.shapes.specs.declared.form.Form.TheVariants.{Null, Point, MultiPoint, Line, MultiLine, Polygon, MultiPolygon}
use Rattle.compare.specs.Quality.Uses.{body_uses, line_uses}

pub uses_of_lists : (arcs : List (List Pos)) (n : ℕ) (b : Body) → ((p : Pos) → b ≡ Point p → ⊥) → ((ps : List Pos) → b ≡ MultiPoint ps → ⊥) → gathered (line_uses arcs n) (body_lists b) ≡ body_uses arcs n b
uses_of_lists arcs n Null point points = refl
uses_of_lists arcs n (Point p) point points = absurd (point p refl)
uses_of_lists arcs n (MultiPoint ps) point points = absurd (points ps refl)
uses_of_lists arcs n (Line used) point points = append-nil (line_uses arcs n used)
uses_of_lists arcs n (MultiLine lists) point points = refl
uses_of_lists arcs n (Polygon lists) point points = refl
uses_of_lists arcs n (MultiPolygon ps) point points = gathered_joined (line_uses arcs n) ps
