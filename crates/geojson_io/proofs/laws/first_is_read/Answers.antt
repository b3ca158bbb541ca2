use Rattle.faults.specs.Fault.{pair_of}
use Rattle.reading.proofs.FaultListsLemmas.Order.{least_first}
use Rattle.geojson_io.specs.Features.{faults_of_text}
use Rattle.geojson_io.proofs.Ascending.{ascending_faults}
use Rattle.geojson_io.proofs.laws.first_is_read.Goals as goal

pub returns : goal.returns
returns c = λ t bytes f least real. least_first (faults_of_text t bytes) (pair_of f) (ascending_faults t bytes) (least.least real)
