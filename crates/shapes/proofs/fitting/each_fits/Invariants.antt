use Rattle.std.proofs.Common.{◌↔◌, drop}
use Rattle.std.specs.List.{AllByRecursion}
use Rattle.shapes.proofs.fitting.each_fits.Given as goal

abbrev pub invariant-loop-item : goal.invariant-loop-item
invariant-loop-item g l = AllByRecursion (g.T.FitsGrid.fits_on l.grid) l.items ↔ AllByRecursion (g.T.FitsGrid.fits_on l.grid) (drop l.item-index l.items)
