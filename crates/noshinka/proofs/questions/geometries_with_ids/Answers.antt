-- The map of the topology has no layer of the name.
use Rattle.std.proofs.Common.{inl, inr, refl}
use Rattle.query.proofs.LayerFeatures.{not_named}
use Rattle.noshinka.proofs.questions.geometries_with_ids.Goals as goal

pub returns-in_default-clause-refused : goal.returns-in_default-clause-refused
returns-in_default-clause-refused c = inr (inl (refl, λ m of. not_named m c.args.topology.now of c.args.layer.now c.in_default.ensures.none))
