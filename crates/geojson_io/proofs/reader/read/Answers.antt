use Rattle.shapes.specs.Maps.{set_of}
use Rattle.reading.proofs.Results.{ok_map}
use Rattle.geojson_io.specs.Features.{features_of_text}
use Rattle.geojson_io.proofs.Fitting.{read_fits}
use Rattle.geojson_io.proofs.Sets.{are_features}
use Rattle.geojson_io.proofs.reader.read.Goals as goal

pub returns-clause-made : goal.returns-clause-made
returns-clause-made c =
    ok_map c.set_of.result _ _ c.set_of.ensures.ok
    (λ fs holds. are_features (set_of fs) c.in_ok-features.features.items (features_of_text c.args.grid.now c.args.bytes.now) holds c.in_ok-features.ensures.made)

pub returns-clause-fits : goal.returns-clause-fits
returns-clause-fits c =
    ok_map c.set_of.result _ _ c.set_of.ensures.ok
    (λ fs holds. read_fits c.args.grid.now c.args.bytes.now (set_of fs) c.in_ok-features.ensures.ok
    (are_features (set_of fs) c.in_ok-features.features.items (features_of_text c.args.grid.now c.args.bytes.now) holds c.in_ok-features.ensures.made))
