-- The vertices at which lines over segments stop.
use Rattle.std.specs.Prelude.{◌≡◌, ℕ, Bool, true, false, cond, List, [], ◌∷◌, ◌⊎◌, ◌↔◌}
use Rattle.std.specs.Ordering.{is_eq}
use Rattle.grid.specs.declared.pos.Pos.{Pos}
use Rattle.lines.specs.Turned.{position_cmp}
use Rattle.lines.specs.Pairs.{position_eq}
use Rattle.arcs.specs.Among.{among}
use Rattle.chains.specs.Joined.{SegmentsOf, StopAt}
use Rattle.chains.specs.declared.segment.Segment.{Segment}
use Rattle.theory.specs.Lists.{Has}
use Rattle.theory.specs.Segments.{TwoSegments}
use Rattle.chains.specs.Along.{OnArcs}
use Rattle.arcs.specs.Steps.{step}
use Rattle.arcs.specs.declared.step.ArcStep.{ArcStep}
use Rattle.query.specs.declared.stops.Sides.{Sides}
use Rattle.query.specs.declared.stops.Sides.TheVariants.{One, Two, More}

-- the other ends noted before, and one more
abbrev pub sided : Sides → Pos → Sides
sided (One a) n = cond (position_eq a n) (One a) (Two a n)
sided (Two a b) n = cond (position_eq a n) (Two a b) (cond (position_eq b n) (Two a b) More)
sided More n = More

-- and those of each of the ends in turn
abbrev pub sided_all : Sides → List ArcStep → Sides
sided_all s [] = s
sided_all s (e ∷ es) = sided_all (sided s e.to) es

-- the sides of the vertex of an end, where these are the others there
abbrev pub sides_at : ArcStep → List ArcStep → Sides
sides_at e es = sided_all (One e.to) es

-- whether lines stop there
abbrev pub halts : Sides → Bool
halts (One a) = true
halts (Two a b) = false
halts More = true

-- whether q is a stop, once the vertex v is looked at, which is one if b
abbrev pub stop_step : Bool → Pos → Bool → Pos → Bool
stop_step b q old v = cond b (cond (is_eq (position_cmp v q)) true old) old

-- the sides are those that have H
abbrev pub Means : Sides → (Pos → Type 0) → Type 0
Means (One a) H = H a × ((p : Pos) → H p → p ≡ a)
Means (Two a b) H = (¬ (a ≡ b)) × H a × H b × ((p : Pos) → H p → (p ≡ a) ⊎ (p ≡ b))
Means More H = (a : Pos) × (b : Pos) × (c : Pos) × H a × H b × H c × (¬ (a ≡ b)) × (¬ (a ≡ c)) × (¬ (b ≡ c))

-- b says of v whether lines stop there: where no end is they don't
abbrev pub IsJudged : List ArcStep → Pos → Bool → Type 0
IsJudged es v b = (((w : Pos) → ¬ Has (step v w) es) × (b ≡ false)) ⊎ ((s : Sides) × Means s (λ w. Has (step v w) es) × (halts s ≡ b))

-- the stops are the vertices of ends at which lines stop
abbrev pub AreJudged : List ArcStep → List Pos → Type 0
AreJudged es stops = (v : Pos) → IsJudged es v (among stops v)

-- v lies on exactly one of the segments
abbrev pub OnOne : (Pos → Pos → Type 0) → Pos → Type 0
OnOne S v = (a : Pos) × S v a × ((p : Pos) → S v p → p ≡ a)

-- v lies on three of the segments or more
abbrev pub OnThreeOf : (Pos → Pos → Type 0) → Pos → Type 0
OnThreeOf S v = (a : Pos) × (b : Pos) × (c : Pos) × S v a × S v b × S v c × (¬ (a ≡ b)) × (¬ (a ≡ c)) × (¬ (b ≡ c))

-- the stops are the vertices on one segment or on three and more
abbrev pub AreStops : List Segment → List Pos → Type 0
AreStops segs stops = (v : Pos) → StopAt stops v ↔ (OnOne (SegmentsOf segs) v ⊎ OnThreeOf (SegmentsOf segs) v)

-- the stops are the vertices that lie on one segment of these arcs, or on three and more; each other lies on two
pub record AreHalts (arcs : List (List Pos)) (ks : List ℕ) (stops : List Pos) : Type 0 where
  pub exact : (v : Pos) → StopAt stops v ↔ (OnOne (OnArcs arcs ks) v ⊎ OnThreeOf (OnArcs arcs ks) v)
  pub meets : TwoSegments (OnArcs arcs ks) (StopAt stops)
