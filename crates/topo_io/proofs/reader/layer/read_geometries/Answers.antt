use Rattle.reading.specs.Plain.{plain}
use Rattle.reading.proofs.Lists.{zip_map}
use Rattle.reading.proofs.Results.{ok_map}
use Rattle.topo_io.specs.Geometries.{geometry_feature}
use Rattle.topo_io.proofs.reader.layer.read_geometries.Goals as goal

pub returns-clause-made : goal.returns-clause-made
returns-clause-made c = ok_map c.read_list_member.result _ _ c.read_list_member.ensures.made (λ fs h. zip_map plain (geometry_feature c.args.on.now.arcs.now) _ fs.items h)
