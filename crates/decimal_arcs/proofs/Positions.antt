-- Positions out of two numbers, and their heights.
use Rattle.std.proofs.Common.{◌≡◌, ◌-◌, ◌≤◌, ℤ, length, get_or, List, [], ◌∷◌, Option, Result, refl, ap, ◌∙◌, arith}
use Rattle.std.specs.declared.alloc.Global.{Global}
use Rattle.json.specs.Value.{items_view, value_view}
use Rattle.json.specs.declared.value.Value.{Value}
use Rattle.grid.specs.Fits.{one_position}
use Rattle.grid.specs.declared.pos.Pos.{Pos}
use Rattle.reading.specs.Positions.{clamped, position_at}
use Rattle.faults.specs.declared.fault.FaultKind.{FaultKind}
use Rattle.decimal_arcs.specs.Axes.{x_number, y_number}
use Rattle.decimal_arcs.specs.declared.axes.Reached.{Reached}
use Rattle.decimal_arcs.specs.declared.place.Quantization.{Quantization}
use Rattle.decimal_arcs.specs.declared.places.RunningSums.{RunningSums}
use Rattle.decimal_arcs.specs.Places.{count_of, place_in, place_of_two}

pub count_view : (vs : List (Value Global)) → count_of (items_view vs) ≡ length vs
count_view [] = refl
count_view (v ∷ vs) = let e = count_view vs in omega (arith, e)

pub position_clamped : (q : Pos) (x y : ℤ) → q.x ≡ clamped x → q.y ≡ clamped y → q ≡ position_at x y
unfolding position_at
position_clamped q x y e f = one_position q (position_at x y) e f

pub place_two : (q : Quantization) (s : RunningSums) (vs : List (Value Global)) (v w : Value Global) (x y : Result (Option Reached) FaultKind) → 2 ≤ length vs
    → v ≡ get_or vs 0 v → w ≡ get_or vs 1 w → x ≡ x_number q s.x (value_view v) → y ≡ y_number q s.y (value_view w)
    → place_in (record { x = x; y = y }) (length vs - 2) ≡ place_of_two q s (items_view vs)
place_two q s [] v w x y two iv iw ex ey = absurd (omega (arith, two))
place_two q s (a ∷ []) v w x y two iv iw ex ey = absurd (omega (arith, two))
place_two q s (a ∷ b ∷ vs) v w x y two iv iw ex ey =
    let vx : x ≡ x_number q s.x (value_view a) = ex ∙ ap (λ u. x_number q s.x (value_view u)) iv in
    let vy : y ≡ y_number q s.y (value_view b) = ey ∙ ap (λ u. y_number q s.y (value_view u)) iw in
    let n : length (a ∷ b ∷ vs) - 2 ≡ count_of (items_view vs) = omega (arith, count_view vs) in
    (λ i. place_in (record { x = vx i; y = vy i }) (n i))
