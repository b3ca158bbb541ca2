use Rattle.attributes.proofs.Scaling.{scaled_by_step}
use Rattle.attributes.proofs.numeral.scale.Goals as goal

pub returns-in-Some : goal.returns-in-Some
returns-in-Some c =
    scaled_by_step c.snap.result c.args.places c.args.text.now c.as_bytes.result.now c.in-Some.step c.as_bytes.ensures.value c.in-Some.ensures.given c.snap.ensures
