use Rattle.round_trip.proofs.GeojsonLemmas.Collections as proved
use Rattle.round_trip.proofs.geojson.written_collections_are_read.Goals as goal

pub returns : goal.returns
returns c = proved.written_collections_are_read
