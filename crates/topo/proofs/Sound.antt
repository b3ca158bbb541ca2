-- The lines of a map's features are lines, its rings are rings: each value carries the fact.
use Rattle.std.proofs.Common.{◌≡◌, inl, inr, List, [], ◌∷◌, ap, ◌∙◌, sym, subst}
use Rattle.std.specs.Prelude.{map as map_list}
use Rattle.grid.specs.declared.pos.Pos.{Pos}
use Rattle.shapes.specs.Maps.{Layers}
use Rattle.shapes.specs.Forms as walked
use Rattle.shapes.specs.Shapes as shapes
use Rattle.chains.specs.Seen.{line_of, ring_of, form_of, item_of, layer_of, seen, geometry_of}
use Rattle.theory.specs.Geometry.{IsSound}
use Rattle.theory.specs.LinesAndRings.{IsLine, IsRing}
use Rattle.theory.specs.Lists.{Has, gathered}
use Rattle.theory.specs.Topology.{Shape, lines_in, rings_in, forms_of}
use Rattle.theory.proofs.ListsOfLists.{gathered_from, map_has}
use Rattle.topo.proofs.SeenForms.{lines_seen, rings_seen}
use Rattle.shapes.specs.Sets as set
use Rattle.std.specs.FinMap as map

-- each form of a map is that of a shape
from_shape : (m : Layers) (g : Shape Pos) → Has g (forms_of (seen m)) → (s : shapes.Shape) × (g ≡ form_of s)
from_shape m g h =
    let (l, a, k) = gathered_from (λ l. gathered (λ f. f.form ∷ []) l.items) (seen m) g h in
    let (e, b, is) = map_has layer_of (map.entries m) l a in
    let (f, c, j) = gathered_from (λ f. f.form ∷ []) l.items g k in
    let (x, d, at) = map_has item_of (set.items e.1) f (subst (λ w. Has f w.items) is c) in
    (x.shape, elim j [ inl same ↦ subst (λ w. g ≡ w.form) at same | inr n ↦ absurd n ])

mapped_all : {A B : Type 0} (P : B → Type 0) (f : A → B) → ((x : A) → P (f x)) → (l : List A) (y : B) → Has y (map_list f l) → P y
mapped_all P f h l y k = let (x, there, e) = map_has f l y k in subst P (sym e) (h x)

pub are_sound : (m : Layers) → IsSound (geometry_of m)
are_sound m = record {
  lines = λ l h.
      let (f, there, k) = gathered_from lines_in (forms_of (seen m)) l h in
      let (s, e) = from_shape m f there in
      mapped_all IsLine line_of (λ x. x.line) (walked.lines_in s) l (subst (Has l) (ap lines_in e ∙ sym (lines_seen s)) k);
  rings = λ r h.
      let (f, there, k) = gathered_from rings_in (forms_of (seen m)) r h in
      let (s, e) = from_shape m f there in
      mapped_all IsRing ring_of (λ x. x.ring) (walked.rings_in s) r (subst (Has r) (ap rings_in e ∙ sym (rings_seen s)) k);
}
