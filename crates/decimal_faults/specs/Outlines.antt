-- Faults of lines and rings that the fixing rules leave as they are.
use Rattle.std.specs.Prelude.{List, Option}
use Rattle.json.specs.Json.{Json}
use Rattle.faults.specs.Fault.{Pair}
use Rattle.grid.specs.declared.pos.Pos.{Pos}
use Rattle.lines.specs.Reading.{line_fault, ring_fault}
use Rattle.lines.specs.Turned.{position_cmp}
use Rattle.lines.specs.declared.shape_fault.ShapeFault.{ShapeFault}
use Rattle.fixing.specs.Left.{closed_list, unfixed}
use Rattle.fixing.specs.declared.rules.FixingRules.{FixingRules}
use Rattle.reading.specs.Fault.{unless_faulty}
use Rattle.reading.specs.Outlines.{outline_faults}
use Rattle.decimal_faults.specs.Parts.{list_faults}
use Rattle.decimal_faults.specs.Positions.{position_faults, positions_of}
use Rattle.decimal_faults.specs.declared.outline.Outline.{Outline}
use Rattle.decimal_faults.specs.declared.outline.Outline.TheVariants.{Line, Ring}
use Rattle.decimal_maps.specs.declared.rules.DecimalGrid.{DecimalGrid}

-- why a list of positions is no line or no ring, if the rules don't fix it [RFC 7946, 3.1.4 and 3.1.6; own]
abbrev pub unfixed_as : FixingRules → Outline → List Pos → Option ShapeFault
unfixed_as fixing Line ps = unfixed fixing (line_fault position_cmp ps)
unfixed_as fixing Ring ps = unfixed fixing (ring_fault position_cmp (closed_list fixing ps))

-- a list of positions, then what the rules leave of the fault of the line or ring that they are
abbrev pub outline_at_faults : DecimalGrid → FixingRules → Outline → Json → List Pair
outline_at_faults grid fixing outline j =
    unless_faulty (list_faults (position_faults grid) j) (outline_faults (unfixed_as fixing outline (positions_of grid.step j)))
