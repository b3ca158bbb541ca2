-- What a join of two topologies makes of their layers: geometries by the arcs that they are cut into, and sorted lists merged.
use Rattle.std.specs.Prelude.{ℕ, List, [], ◌∷◌}
use Rattle.std.specs.Cmp.Lexicographic.{slice_cmp}
use Rattle.std.specs.Ordering.{nat_cmp}
use Rattle.std.specs.declared.cmp.Ordering.{Ordering}
use Rattle.std.specs.declared.cmp.Ordering.TheVariants.{Less, Equal, Greater}
use Rattle.grid.specs.declared.pos.Pos.{Pos}
use Rattle.lines.specs.Turned.{position_cmp}
use Rattle.shapes.specs.Order.{feature_cmp}
use Rattle.shapes.specs.Sets as set
use Rattle.shapes.specs.Maps.{Features}
use Rattle.shapes.specs.declared.feature.Feature.{Feature}
use Rattle.theory.specs.ArcNumbers.{ArcRef}
use Rattle.theory.specs.Refinement.{replaced, turned_used}
use Rattle.topo.specs.declared.geom.Geom.{Geom}
use Rattle.topo.specs.Rewritten.{geometry_rewritten}

-- the first, the second or the third, as the order is
abbrev pub by_order : {A : Type 0} → Ordering → A → A → A → A
by_order Less a b c = a
by_order Equal a b c = b
by_order Greater a b c = c

-- x before what is left of the one list, merged with the other: `rest` merges what is left
abbrev pub merged_into : {A : Type 0} → (A → A → Ordering) → A → (List A → List A) → List A → List A
merged_into cmp x rest [] = x ∷ rest []
merged_into cmp x rest (y ∷ ys) = by_order (cmp x y) (x ∷ rest (y ∷ ys)) (x ∷ rest ys) (y ∷ merged_into cmp x rest ys)

-- two sorted lists as one, in which members that tie occur once: that of the left list
abbrev pub merged : {A : Type 0} → (A → A → Ordering) → List A → List A → List A
merged cmp [] ys = ys
merged cmp (x ∷ xs) ys = merged_into cmp x (merged cmp xs) ys

-- the same, where two members that tie become one by `both`
abbrev pub united_into : {A : Type 0} → (A → A → Ordering) → (A → A → A) → A → (List A → List A) → List A → List A
united_into cmp both x rest [] = x ∷ rest []
united_into cmp both x rest (y ∷ ys) = by_order (cmp x y) (x ∷ rest (y ∷ ys)) (both x y ∷ rest ys) (y ∷ united_into cmp both x rest ys)

-- two sorted lists as one, in which two members that tie become one by `both`
abbrev pub united : {A : Type 0} → (A → A → Ordering) → (A → A → A) → List A → List A → List A
united cmp both [] ys = ys
united cmp both (x ∷ xs) ys = united_into cmp both x (united cmp both xs) ys

-- layers by the bytes of their names, each with what is in it
abbrev pub name_cmp : {X : Type 0} → List ℕ × X → List ℕ × X → Ordering
name_cmp a b = slice_cmp nat_cmp a.0 b.0

-- the layers of both, and under one name what `both` makes of the two
abbrev pub layers_united : {X : Type 0} → (X → X → X) → List (List ℕ × X) → List (List ℕ × X) → List (List ℕ × X)
layers_united both = united name_cmp (λ a b. (a.0, both a.1 b.1))

-- the entries of the union of two maps
abbrev pub entries_united : List (List ℕ × Features) → List (List ℕ × Features) → List (List ℕ × Features)
entries_united = layers_united set.union

-- the features of a layer in order, and those of two layers merged
abbrev pub features_merged : List Feature → List Feature → List Feature
features_merged = merged feature_cmp

-- the used arcs of a line, and of a ring, by the arcs that the old ones are cut into [TopoJSON, 2.1.4; own]
abbrev pub line_recut : List (List ArcRef) → List ArcRef → List ArcRef
line_recut pieces used = replaced pieces used

-- the used arcs of a ring by the arcs that the old ones are cut into, begun where it starts least
-- [TopoJSON, 2.1.4; own]
abbrev pub ring_recut : List (List Pos) → List (List ArcRef) → List ArcRef → List ArcRef
ring_recut table pieces used = turned_used position_cmp table (replaced pieces used)

-- a geometry by the arcs that the old ones are cut into: its id and its properties stay [TopoJSON, 2.1.4; own]
abbrev pub geometry_recut : List (List Pos) → List (List ArcRef) → Geom → Geom
geometry_recut table pieces = geometry_rewritten (line_recut pieces) (ring_recut table pieces)
