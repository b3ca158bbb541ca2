use Rattle.std.proofs.Common.{◌≡◌, ◌∙◌, ap, ap₂, sym, subst, max, refl, true, false}
use Rattle.grid.specs.Fits.{x_of, y_of}
use Rattle.grid.specs.Place.{IsGridNumber}
use Rattle.json.specs.Json.{number}
use Rattle.decimal_maps.specs.Positions.{IsCoordinate}
use Rattle.decimal_maps.specs.Tally.{with_position}
use Rattle.decimal_maps.proofs.Placing.{number_reads}
use Rattle.decimal_maps.proofs.position.position_of.Goals as goal

pub returns-in_default-clause-refused : goal.returns-in_default-clause-refused
returns-in_default-clause-refused c p b h = c.in_default.not-Some _ ((c.coordinate_of.ensures (x_of p) _).1 (h.0, p.across, refl))

pub returns-in_default-coordinate_of-clause-refused : goal.returns-in_default-coordinate_of-clause-refused
returns-in_default-coordinate_of-clause-refused c p b h = c.in_default-coordinate_of.not-Some _ ((c.coordinate_of-2.ensures (y_of p) _).1 (h.1, p.along, refl))

pub unreachable-requires : goal.unreachable-requires
unreachable-requires c =
    let x = (c.coordinate_of.ensures c.in-Some.across c.in-Some.off_x).0 c.in-Some.is in
    let y = (c.coordinate_of-2.ensures c.in-Some-coordinate_of.along c.in-Some-coordinate_of.off_y).0 c.in-Some-coordinate_of.is in
    let none : false ≡ true =
    c.in-None.ensures.exact.1 (subst IsGridNumber (sym (number_reads c.in-Some.across x.1)) x.1, subst IsGridNumber (sym (number_reads c.in-Some-coordinate_of.along y.1)) y.1) in
    absurd cc

pub returns-clause-made : goal.returns-clause-made
returns-clause-made c =
    let grid = c.args.grid.now in
    let x = (c.coordinate_of.ensures c.in-Some.across c.in-Some.off_x).0 c.in-Some.is in
    let y = (c.coordinate_of-2.ensures c.in-Some-coordinate_of.along c.in-Some-coordinate_of.off_y).0 c.in-Some-coordinate_of.is in
    let given = c.in-Some-new.ensures.given in (
      subst (λ n. IsCoordinate grid grid.greatest_x (number c.args.x.now) n) (sym (given.0 ∙ number_reads c.in-Some.across x.1)) x.0,
      subst (λ n. IsCoordinate grid grid.greatest_y (number c.args.y.now) n) (sym (given.1 ∙ number_reads c.in-Some-coordinate_of.along y.1)) y.0,
      c.add_position.ensures ∙ ap (λ far. with_position far c.args.tally.now) (c.max.ensures ∙ ap₂ max x.2 y.2),
    )
