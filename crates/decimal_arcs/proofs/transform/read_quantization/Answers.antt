use Rattle.std.proofs.Common.{refl}
use Rattle.json.specs.Value.{value_view}
use Rattle.decimal_arcs.proofs.Fits.{limits_of}
use Rattle.decimal_arcs.proofs.transform.read_quantization.Goals as goal

pub returns-in-None-transform_of-clause-refused : goal.returns-in-None-transform_of-clause-refused
returns-in-None-transform_of-clause-refused c is none =
    c.in-None-transform_of.ensures.none refl (limits_of (value_view c.args.value.now) (value_view c.in-Some.there.now) c.in-Some.ensures none)
