-- The points, lines and rings that walks give, in the words of `theory`.
use Rattle.std.proofs.Common.{◌≡◌, List, [], ◌∷◌, ◌++◌, append_assoc, refl, ap, ◌∙◌}
use Rattle.std.proofs.lemmas.List.{map-append}
use Rattle.std.specs.Prelude.{map as map_list}
use Rattle.grid.specs.declared.pos.Pos.{Pos}
use Rattle.lines.specs.declared.line.Line as the_line
use Rattle.lines.specs.declared.ring.Ring as the_ring
use Rattle.shapes.specs.Forms.{lines_in, points_in, rings_in}
use Rattle.shapes.specs.Shapes as shapes
use Rattle.shapes.specs.declared.form.Form.TheVariants as of
use Rattle.chains.specs.Seen.{line_of, ring_of, form_of}
use Rattle.theory.specs.Lists.{gathered, joined}
use Rattle.theory.specs.Topology as topology
use Rattle.topo.specs.Bodies as bodies
use Rattle.topo.specs.OfMap.{body_of}

mapped_joined : {A B : Type 0} (f : A → B) (ls : List (List A)) → map_list f (joined ls) ≡ joined (map_list (map_list f) ls)
mapped_joined f [] = refl
mapped_joined f (l ∷ ls) = map-append f l (joined ls) ∙ ap (λ w. map_list f l ++ w) (mapped_joined f ls)

pub lines_seen : (s : shapes.Shape) → map_list line_of (lines_in s) ≡ topology.lines_in (form_of s)
lines_seen of.Null = refl
lines_seen s = refl

pub rings_seen : (s : shapes.Shape) → map_list ring_of (rings_in s) ≡ topology.rings_in (form_of s)
rings_seen (of.MultiPolygon ps) = mapped_joined ring_of ps
rings_seen s = refl

pub points_seen : (b : bodies.Body) → points_in b ≡ topology.points_in (body_of b)
points_seen of.Null = refl
points_seen b = refl

-- what is put last for the lines of a shape, and then for its rings
pub both_seen : {X : Type 0} (f g : List Pos → List X) (s : shapes.Shape) (before between after : List X) (ls : List the_line.Line) (rs : List the_ring.Ring) →
    ls ≡ lines_in s → rs ≡ rings_in s → between ≡ before ++ gathered f (map_list line_of ls) → after ≡ between ++ gathered g (map_list ring_of rs) →
    after ≡ before ++ (gathered f (topology.lines_in (form_of s)) ++ gathered g (topology.rings_in (form_of s)))
both_seen f g s before between after ls rs l r m w =
    w ∙ (λ i. m i ++ gathered g (map_list ring_of rs))
    ∙ append_assoc before (gathered f (map_list line_of ls)) (gathered g (map_list ring_of rs))
    ∙ (λ i. before ++ (gathered f ((ap (map_list line_of) l ∙ lines_seen s) i) ++ gathered g ((ap (map_list ring_of) r ∙ rings_seen s) i)))
