-- The laws of the order of positions.
use Rattle.std.specs.Prelude.{◌≡◌}
use Rattle.std.proofs.Common.{refl}
use Rattle.std.specs.Cmp.{IsTotalOrder, then_total, on_total, int_cmp_total}
use Rattle.std.specs.FinMap.{IsAntisymmetric, int_cmp-IsAntisymmetric}
use Rattle.std.specs.Ordering.{int_cmp, ordering_then}
use Rattle.std.specs.declared.cmp.Ordering.{Ordering}
use Rattle.std.specs.declared.cmp.Ordering.TheVariants.{Less, Equal, Greater}
use Rattle.grid.specs.declared.pos.Pos.{Pos}
use Rattle.grid.specs.Fits.{one_position}
use Rattle.lines.specs.Turned.{position_cmp}

pub position_total : IsTotalOrder position_cmp
position_total = then_total (on_total (λ (p : Pos). p.x) int_cmp_total) (on_total (λ (p : Pos). p.y) int_cmp_total)

pub then_equal : (r s : Ordering) → ordering_then r s ≡ Equal → (r ≡ Equal) × (s ≡ Equal)
then_equal Less s e = cc
then_equal Equal s e = (refl, e)
then_equal Greater s e = cc

-- positions that tie are one
pub position_same : IsAntisymmetric position_cmp
position_same p q e =
    let both = then_equal (int_cmp p.x q.x) (int_cmp p.y q.y) e in
    one_position p q (int_cmp-IsAntisymmetric p.x q.x both.0) (int_cmp-IsAntisymmetric p.y q.y both.1)
