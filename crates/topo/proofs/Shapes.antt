-- The lines and rings of a shape that a body stitches to.
use Rattle.std.proofs.Common.{◌≡◌, List, refl, sym, ap, ◌∙◌, subst}
use Rattle.grid.specs.declared.pos.Pos.{Pos}
use Rattle.lines.specs.declared.line.Line as the_line
use Rattle.lines.specs.declared.ring.Ring as the_ring
use Rattle.shapes.specs.Shapes as shapes
use Rattle.shapes.specs.declared.form.Form.TheVariants as of
use Rattle.theory.specs.ArcNumbers.{ArcRef}
use Rattle.theory.specs.Lists.{Pairwise}
use Rattle.topo.specs.Features.{IsLineOf, IsRingOf, IsShapeOf}
use Rattle.topo.specs.Bodies as bodies

module _ (arcs : List (List Pos)) where
  of_line : (s : shapes.Shape) (used : List ArcRef) → IsShapeOf arcs s (of.Line used) → (l : the_line.Line) × IsLineOf arcs l used
  of_line (of.Line l) used h = (l, h)
  of_line s used h = absurd h

  pub line_within : (s : shapes.Shape) (b : bodies.Body) (used : List ArcRef) → IsShapeOf arcs s b → b ≡ of.Line used → (l : the_line.Line) × IsLineOf arcs l used
  line_within s b used h e = of_line s used (subst (IsShapeOf arcs s) e h)

  of_polygons : (s : shapes.Shape) (lists : List (List (List ArcRef))) → IsShapeOf arcs s (of.MultiPolygon lists) →
      (ps : List (List the_ring.Ring)) × (s ≡ of.MultiPolygon ps) × Pairwise (Pairwise (IsRingOf arcs)) ps lists
  of_polygons (of.MultiPolygon ps) lists h = (ps, refl, h)
  of_polygons s lists h = absurd h

  pub polygons_within : (s : shapes.Shape) (b : bodies.Body) (lists : List (List (List ArcRef))) → IsShapeOf arcs s b → b ≡ of.MultiPolygon lists →
      (ps : List (List the_ring.Ring)) × Pairwise (Pairwise (IsRingOf arcs)) ps lists
  polygons_within s b lists h e = let (ps, _, k) = of_polygons s lists (subst (IsShapeOf arcs s) e h) in (ps, k)

  pub polygons_made : (s : shapes.Shape) (b : bodies.Body) (lists : List (List (List ArcRef))) (made : List (List the_ring.Ring)) → IsShapeOf arcs s b → b ≡ of.MultiPolygon lists →
      ((ps : List (List the_ring.Ring)) → Pairwise (Pairwise (IsRingOf arcs)) ps lists → made ≡ ps) → of.MultiPolygon made ≡ s
  polygons_made s b lists made h e all =
      let (ps, is, k) = of_polygons s lists (subst (IsShapeOf arcs s) e h) in
      ap of.MultiPolygon (all ps k) ∙ sym is
