use Rattle.reading.specs.Plain.{plain}
use Rattle.reading.proofs.Lists.{zip_map}
use Rattle.reading.proofs.Results.{ok_map}
use Rattle.geojson_io.specs.Features.{feature_of}
use Rattle.geojson_io.proofs.reader.read_features.Goals as goal

pub returns-clause-made : goal.returns-clause-made
returns-clause-made c = ok_map c.read_list_member.result _ _ c.read_list_member.ensures.made (λ fs h. zip_map plain (feature_of c.args.position.now.grid) _ fs.items h)
