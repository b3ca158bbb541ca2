-- The uses of a body are those of its lists.
use Rattle.std.proofs.Common.{◌≡◌, ℕ, append-nil, refl}
use Rattle.theory.specs.Lists.{gathered}
use Rattle.topo.proofs.Gathered.{gathered_joined}
use Rattle.topo.specs.BodyLists.{body_lists}
use Rattle.topo.specs.OfMap.{body_of}
use Rattle.topo.specs.Bodies.{Body}
use Rattle.shapes.specs.declared.form.Form.TheVariants.{Null, Point, MultiPoint, Line, MultiLine, Polygon, MultiPolygon}
use Rattle.query.specs.Uses.{body_uses, refs_uses}

pub uses_of_lists : (n : ℕ) (b : Body) → gathered (refs_uses n) (body_lists b) ≡ body_uses n (body_of b)
uses_of_lists n Null = refl
uses_of_lists n (Point p) = refl
uses_of_lists n (MultiPoint ps) = refl
uses_of_lists n (Line used) = append-nil (refs_uses n used)
uses_of_lists n (MultiLine lists) = refl
uses_of_lists n (Polygon lists) = refl
uses_of_lists n (MultiPolygon ps) = gathered_joined (refs_uses n) ps
