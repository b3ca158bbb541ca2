use Rattle.decimal_maps.proofs.Looping.{skipped}
use Rattle.decimal_maps.proofs.object.skip_value.Goals as goal

pub returns-in-Ok : goal.returns-in-Ok
returns-in-Ok c = skipped c.args.depth c.args.reader.now c.skip_value.new.self c.in-Ok.ensures.value
