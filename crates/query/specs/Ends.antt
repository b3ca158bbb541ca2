-- The ends of arcs.
use Rattle.std.specs.Prelude.{◌≡◌, ◌↔◌, ◌⊎◌, ℕ, List, [], ◌∷◌, Option, Some, None, reverse}
use Rattle.std.specs.declared.cmp.Ordering.{Ordering}
use Rattle.grid.specs.declared.pos.Pos.{Pos}
use Rattle.lines.specs.Turned.{position_cmp}
use Rattle.theory.specs.Lists.{BeginsTwo}
use Rattle.topo.specs.Points.{arc_at}
use Rattle.arcs.specs.declared.step.ArcStep.{ArcStep}

-- the list begins with v, w, or it ends with w, v
abbrev pub EndStep : {V : Type 0} → V → V → List V → Type 0
EndStep v w c = BeginsTwo v w c ⊎ BeginsTwo v w (reverse c)

-- an arc of one of the numbers begins with v, w, or ends with w, v
abbrev pub OnEnds : List (List Pos) → List ℕ → Pos → Pos → Type 0
OnEnds arcs [] v w = ⊥
OnEnds arcs (k ∷ ks) v w = EndStep v w (arc_at arcs k) ⊎ OnEnds arcs ks v w

-- there is an end, of v beside w
abbrev pub IsEnd : Pos → Pos → Option ArcStep → Type 0
IsEnd v w None = ⊥
IsEnd v w (Some e) = (v ≡ e.from) × (w ≡ e.to)

-- v beside w is one of the ends
abbrev pub AmongEnds : Pos → Pos → List ArcStep → Type 0
AmongEnds v w [] = ⊥
AmongEnds v w (e ∷ es) = ((v ≡ e.from) × (w ≡ e.to)) ⊎ AmongEnds v w es

-- the ends are those of the arcs of these numbers
abbrev pub HasEnds : List (List Pos) → List ℕ → List ArcStep → Type 0
HasEnds arcs ks es = (v w : Pos) → AmongEnds v w es ↔ OnEnds arcs ks v w

-- the vertex of an end
abbrev pub vertex_of : ArcStep → Pos
vertex_of e = e.from

-- ends by their vertices
abbrev pub by_vertex : ArcStep → ArcStep → Ordering
by_vertex d e = position_cmp d.from e.from
