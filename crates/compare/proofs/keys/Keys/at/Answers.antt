use Rattle.std.proofs.Common.{ap, length, subst, ◌<◌, ◌∙◌}
use Rattle.std.specs.Prelude.{slice_get}
use Rattle.std.proofs.lemmas.List.{length-map}
use Rattle.compare.specs.Keyed.{id_of, keys_in}
use Rattle.compare.proofs.keys.Keys.at.Goals as goal

pub id_at-requires : goal.id_at-requires
id_at-requires c = subst (λ n. c.args.number < n) (ap (λ w. length (keys_in w)) c.in-Ids.is ∙ length-map c.in-Ids.geometries.now id_of) c.requires

pub value_at-requires : goal.value_at-requires
value_at-requires c = subst (λ n. c.args.number < n) (ap (λ w. length (keys_in w)) c.in-Values.is) c.requires

pub returns-in-Ids : goal.returns-in-Ids
returns-in-Ids c = ap (λ w. slice_get (keys_in w) c.args.number) c.in-Ids.is ∙ c.id_at.ensures

pub returns-in-Values : goal.returns-in-Values
returns-in-Values c = ap (λ w. slice_get (keys_in w) c.args.number) c.in-Values.is ∙ c.value_at.ensures
