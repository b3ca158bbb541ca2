use Rattle.std.proofs.Common.{◌≡◌, ◌-◌, List, ◌∷◌, Vec, Global, subst, arith}
use Rattle.std.specs.List.{AllZip}
use Rattle.json.specs.Token.{begin_array, end_array}
use Rattle.serde_json.specs.Data.{Data}
use Rattle.faults.specs.Fault.{Pair}
use Rattle.grid.specs.declared.pos.Pos.{Pos}
use Rattle.reading.specs.Parts.{list_faults, elements}
use Rattle.reading.specs.Tokens.Reads.{ReadsRest}
use Rattle.reading.proofs.TokenPartsLemmas.Listing.{opened_reads}
use Rattle.geojson_io.specs.Positions.{position_faults, position_of}
use Rattle.geojson_io.proofs.TokenCoordinates.{empty_reads}
use Rattle.geojson_io.proofs.token_reader.coordinates.read_behind_empty.Goals as goal

pub returns : goal.returns
returns c =
    let g = c.args.position.now.grid in
    let depth = c.args.depth in
    let old = c.args.reader.now in
    let groups = c.in_ok-groups.groups in
    let F : Data → List Pair = list_faults (position_faults g) in
    let R : Data → Vec Pos Global → Type 0 = λ e ps. AllZip (λ f p. p ≡ position_of g f) (elements e) ps.items in
    let of : Data → Vec (Vec Pos Global) Global → Type 0 = λ d ls. AllZip R (elements d) ls.items in
    let new = c.read_rest.new.reader in
    let first = empty_reads F R (depth - 1) old c.new.result (omega arith) c.new.ensures.items in
    let rest = subst (λ before. ReadsRest (list_faults F) of (depth - 1) old new before groups.items) c.in_ok-begun.ensures c.in_ok-groups.ensures.read in
    let all = opened_reads (list_faults F) of depth (begin_array ∷ end_array ∷ old) old new c.new.result groups.items (omega arith) first rest in
    record { from = all.from; given = all.given; faultless = all.faultless; meant = all.meant }
