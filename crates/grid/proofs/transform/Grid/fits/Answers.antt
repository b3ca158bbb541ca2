use Rattle.std.proofs.Common.{FitsSigned, w64, rules}
use Rattle.std.proofs.lemmas.Int.{to_z-of_z}
use Rattle.grid.proofs.transform.Grid.fits.Goals as goal

pub returns-then-fits : goal.returns-then-fits
returns-then-fits c =
    let fx : FitsSigned w64 c.x.result = search rules in
    let fy : FitsSigned w64 c.y.result = search rules in
    let a = simp to_z-of_z at c.fits.ensures.exact in
    let b = simp to_z-of_z at c.fits-then-fits.ensures.exact in
    rw (← c.self.view_is)
    (λ h. record { x = rw (← c.x.ensures.value) (a.0 c.if-fits.true); y = rw (← c.y.ensures.value) (b.0 h) }, λ h. b.1 (rw c.y.ensures.value h.y))
