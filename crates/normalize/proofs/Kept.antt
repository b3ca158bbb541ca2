-- Layers by the healed arcs stitch only to what they stitched to.
use Rattle.std.proofs.Common.{◌≡◌, Bool, true, false, ◌&&◌, List, [], ◌∷◌, drop, take, length, map, nat_eq, slice_get, option_map, None, refl, sym, ap, subst}
use Rattle.std.proofs.lemmas.Bool.{eqb-true}
use Rattle.std.proofs.lemmas.List.{append-nil, take-append-drop}
use Rattle.std.specs.List.{AllByRecursion}
use Rattle.grid.specs.declared.pos.Pos.{Pos}
use Rattle.lines.proofs.Positions.{both_true}
use Rattle.lines.specs.Seen.{positions_of, vertices_of}
use Rattle.lines.specs.declared.line.Line as the_line
use Rattle.lines.specs.declared.ring.Ring as the_ring
use Rattle.shapes.specs.Ids.{HasI64}
use Rattle.shapes.specs.Shapes as shapes
use Rattle.shapes.specs.declared.form.Form.TheVariants as of
use Rattle.theory.proofs.Rotations.{rotation_trans}
use Rattle.theory.specs.ArcNumbers.{ArcRef, StitchTo, along}
use Rattle.theory.specs.LinesAndRings.{IsRotation, closed}
use Rattle.theory.specs.Lists.{Pairwise}
use Rattle.theory.specs.Refinement.{replaced}
use Rattle.split_heal.specs.HealedParts.{HealedParts}
use Rattle.topo.specs.Features.{IsLineOf, IsRingOf, IsShapeOf}
use Rattle.topo.specs.Parts.{LayerParts}
use Rattle.topo.specs.Bodies as bodies
use Rattle.topo.specs.declared.geom.Geom.{Geom}
use Rattle.validate.specs.Accept.Kept.{KeepLayers, KeepsFeature, KeepsLayer}
use Rattle.validate.specs.Accept.Laws.{HaveI64}
use Rattle.normalize.specs.Lists.{all_have_pieces, starts_as, geometry_healed, layer_healed, line_healed, line_joined, listed_if, nowhere, place_of, ring_healed, ring_joined, same_ref, same_refs}
use Rattle.normalize.specs.Pieces.{AreJoinedOf, AreSplit}
use Rattle.normalize.proofs.Replaced.{replaced_stitch, unreplaced_stitch}
use Rattle.normalize.proofs.Turning.{elsewhere}
use Rattle.topo.specs.Rewritten.{body_rewritten}
use mathlib.Core.Bool.{beq}

-- one by one, where what f gives stands for each member
mapped_pairs : {A B : Type 0} (R S : A → B → Type 0) (f : B → B) → ((x : A) (y : B) → R x (f y) → S x y) →
    (xs : List A) (ys : List B) → Pairwise R xs (map f ys) → Pairwise S xs ys
mapped_pairs R S f k [] [] p = tt
mapped_pairs R S f k [] (y ∷ ys) p = absurd p
mapped_pairs R S f k (x ∷ xs) [] p = absurd p
mapped_pairs R S f k (x ∷ xs) (y ∷ ys) p = (k x y p.0, mapped_pairs R S f k xs ys p.1)

mapped_each : {A : Type 0} (R : A → A → Type 0) (f : A → A) → ((x : A) → R x (f x)) → (xs : List A) → Pairwise R xs (map f xs)
mapped_each R f k [] = tt
mapped_each R f k (x ∷ xs) = (k x, mapped_each R f k xs)

-- lists that the derived test finds equal are equal
flags_same : (s t : Bool) → beq s t ≡ true → s ≡ t
flags_same true true e = refl
flags_same true false e = absurd cc
flags_same false true e = absurd cc
flags_same false false e = refl

ref_same : (a b : ArcRef) → same_ref a b ≡ true → a ≡ b
ref_same a b e =
    let t = both_true (nat_eq a.arc b.arc) (beq a.reversed b.reversed) e in
    let number = eqb-true a.arc b.arc t.0 in
    let flag = flags_same a.reversed b.reversed t.1 in
    λ i. record { arc = number i; reversed = flag i }

refs_same : (us vs : List ArcRef) → same_refs us vs ≡ true → us ≡ vs
refs_same [] [] e = refl
refs_same [] (b ∷ vs) e = absurd cc
refs_same (a ∷ us) [] e = absurd cc
refs_same (a ∷ us) (b ∷ vs) e =
    let t = both_true (same_ref a b) (same_refs us vs) e in
    let first = ref_same a b t.0 in
    let rest = refs_same us vs t.1 in
    λ i. first i ∷ rest i

-- an arc that is not there
past : {A : Type 0} (l : List A) → slice_get l (length l) ≡ None
past [] = refl
past (x ∷ l) = past l

nowhere_none : (arcs : List (List Pos)) (l : List Pos) → ¬ StitchTo arcs (nowhere arcs) l
nowhere_none arcs [] h = h
nowhere_none arcs (x ∷ r) (q, s, e, f, more) =
    let k : along arcs (record { arc = length arcs; reversed = false }) ≡ None = ap (λ w. option_map (λ c. c) w) (past arcs) in
    absurd cc

-- a list that stitches is the one that was compared
listed_kept : (b : Bool) (arcs : List (List Pos)) (used : List ArcRef) (l : List Pos) → StitchTo arcs (listed_if b arcs used) l → (b ≡ true) × StitchTo arcs used l
listed_kept true arcs used l h = (refl, h)
listed_kept false arcs used l h = absurd (nowhere_none arcs l h)

module _ (table : List (List Pos)) where
  -- what a list stitches to that is begun elsewhere
  turned_stitch : (refs others : List ArcRef) (q : List Pos) → StitchTo table (starts_as refs others) (closed q) → (p : List Pos) × IsRotation q p × StitchTo table others (closed p)
  turned_stitch [] others q h = (q, ([], q, refl, sym (append-nil q)), h)
  turned_stitch (a ∷ refs) others q h =
      let t = elsewhere table (take (place_of a others) others) (drop (place_of a others) others) q h in
      (t.0, t.1, subst (λ w. StitchTo table w (closed t.0)) (take-append-drop (place_of a others) others) t.2)

  module _ (arcs : List (List Pos)) (pieces : List (List ArcRef)) (r : HealedParts) (split : AreSplit table arcs pieces) (joined : AreJoinedOf table r.arcs.arcs r.pieces) where
    line_kept : (l : the_line.Line) (used : List ArcRef) → IsLineOf r.arcs.arcs l (line_healed pieces r used) → IsLineOf arcs l used
    line_kept l used h =
        let list = line_joined pieces r used in
        let k = listed_kept (all_have_pieces pieces used && same_refs (replaced r.pieces list) (replaced pieces used)) r.arcs.arcs list (positions_of l) h in
        let b = both_true (all_have_pieces pieces used) (same_refs (replaced r.pieces list) (replaced pieces used)) k.0 in
        unreplaced_stitch table arcs pieces split used (positions_of l) b.0
        (subst (λ w. StitchTo table w (positions_of l)) (refs_same (replaced r.pieces list) (replaced pieces used) b.1)
        (replaced_stitch table r.arcs.arcs r.pieces joined list (positions_of l) k.1))

    ring_kept : (v : the_ring.Ring) (used : List ArcRef) → IsRingOf r.arcs.arcs v (ring_healed pieces r used) → IsRingOf arcs v used
    ring_kept v used (q, ro, h) =
        let list = ring_joined pieces r used in
        let back = replaced r.pieces list in
        let k = listed_kept (all_have_pieces pieces used && same_refs back (starts_as back (replaced pieces used))) r.arcs.arcs list (closed q) h in
        let b = both_true (all_have_pieces pieces used) (same_refs back (starts_as back (replaced pieces used))) k.0 in
        let t = turned_stitch back (replaced pieces used) q
        (subst (λ w. StitchTo table w (closed q)) (refs_same back (starts_as back (replaced pieces used)) b.1)
        (replaced_stitch table r.arcs.arcs r.pieces joined list (closed q) k.1)) in
        (t.0, rotation_trans (vertices_of v) q t.0 ro t.1, unreplaced_stitch table arcs pieces split used (closed t.0) b.0 t.2)

    rings_kept : (rs : List the_ring.Ring) (lists : List (List ArcRef)) → Pairwise (IsRingOf r.arcs.arcs) rs (map (ring_healed pieces r) lists) → Pairwise (IsRingOf arcs) rs lists
    rings_kept rs lists h = mapped_pairs (IsRingOf r.arcs.arcs) (IsRingOf arcs) (ring_healed pieces r) ring_kept rs lists h

    shape_kept : (s : shapes.Shape) (b : bodies.Body) → IsShapeOf r.arcs.arcs s (body_rewritten (line_healed pieces r) (ring_healed pieces r) b) → IsShapeOf arcs s b
    shape_kept of.Null of.Null h = tt
    shape_kept (of.Point p) (of.Point q) h = h
    shape_kept (of.MultiPoint ps) (of.MultiPoint qs) h = h
    shape_kept (of.Line l) (of.Line used) h = line_kept l used h
    shape_kept (of.MultiLine ls) (of.MultiLine lists) h =
        mapped_pairs (IsLineOf r.arcs.arcs) (IsLineOf arcs) (line_healed pieces r) line_kept ls lists h
    shape_kept (of.Polygon rs) (of.Polygon lists) h = rings_kept rs lists h
    shape_kept (of.MultiPolygon ps) (of.MultiPolygon lists) h =
        mapped_pairs (Pairwise (IsRingOf r.arcs.arcs)) (Pairwise (IsRingOf arcs)) (map (ring_healed pieces r)) rings_kept ps lists h
    shape_kept s b h = absurd h

    geometry_kept : (g : Geom) → KeepsFeature arcs r.arcs.arcs g (geometry_healed pieces r g)
    geometry_kept g f h = record { id = h.id; props = h.props; shape = shape_kept f.shape g.body h.shape }

    layer_kept : (l : LayerParts) → KeepsLayer arcs r.arcs.arcs l (layer_healed pieces r l)
    layer_kept l = record {
      name = refl;
      geometries = mapped_each (KeepsFeature arcs r.arcs.arcs) (geometry_healed pieces r) geometry_kept l.geometries;
    }

    pub layers_kept : (ls : List LayerParts) → KeepLayers arcs r.arcs.arcs ls (map (layer_healed pieces r) ls)
    layers_kept ls = mapped_each (KeepsLayer arcs r.arcs.arcs) (layer_healed pieces r) layer_kept ls

-- the ids stay
pub ids_kept : (pieces : List (List ArcRef)) (r : HealedParts) (ls : List LayerParts) → HaveI64 ls → HaveI64 (map (layer_healed pieces r) ls)
ids_kept pieces r [] h = tt
ids_kept pieces r (l ∷ ls) h = (of_layer l.geometries h.0, ids_kept pieces r ls h.1)
  where
    of_layer : (gs : List Geom) → AllByRecursion (λ g. HasI64 g.id) gs → AllByRecursion (λ g. HasI64 g.id) (map (geometry_healed pieces r) gs)
    of_layer [] k = tt
    of_layer (g ∷ gs) k = (k.0, of_layer gs k.1)
