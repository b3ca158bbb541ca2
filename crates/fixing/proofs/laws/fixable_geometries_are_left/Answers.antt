use Rattle.fixing.proofs.Fixable as proved
use Rattle.fixing.proofs.laws.fixable_geometries_are_left.Goals as goal

pub returns-clause-lines : goal.returns-clause-lines
returns-clause-lines c = proved.fixable_lines_are_left

pub returns-clause-rings : goal.returns-clause-rings
returns-clause-rings c = proved.fixable_rings_are_left

pub returns-clause-geometries : goal.returns-clause-geometries
returns-clause-geometries c = proved.fixable_geometries_are_left
