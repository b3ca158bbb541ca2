use Rattle.std.proofs.lemmas.Result.{on_ok_weaker}
use Rattle.decimal_maps.specs.Reads.{then_member}
use Rattle.decimal_maps.proofs.root.take_part.Goals as goal

pub returns-in_default : goal.returns-in_default
returns-in_default c =
    on_ok_weaker c.skip_value.result (λ read. (read.0, read.1, λ ms known. c.skipped_parts.ensures c.args.grid.now (then_member ms c.args.name.now read.0))) c.skip_value.ensures
