use Rattle.std.proofs.Common.{◌≡◌, map, subst}
use Rattle.std.specs.Result.{IfErr, IfOk}
use Rattle.noshinka.specs.BackOptions.{IsPropertyRefusal}
use Rattle.noshinka.proofs.back_options.property_names.Goals as goal

pub returns-clause-names : goal.returns-clause-names
returns-clause-names c = subst (λ l. IfOk c.names_among.result (λ v. map (λ n. n.now) v.items ≡ l)) c.properties_named.ensures c.names_among.ensures.names

pub returns-clause-bad : goal.returns-clause-bad
returns-clause-bad c = subst (λ l. IfErr c.names_among.result (IsPropertyRefusal l)) c.properties_named.ensures c.names_among.ensures.bad
