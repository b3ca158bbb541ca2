use Rattle.std.proofs.Common.{◌≡◌, ◌∙◌, Option, Some, None, option_map, Bor, refl, ap}
use Rattle.std.specs.Prelude.{is_some}
use Rattle.serde_json.specs.View.{view}
use Rattle.serde_json.specs.declared.value.Value.{Value}
use Rattle.serde_json.proofs.Views.{view_of_ref, view-lookup}
use Rattle.attributes.proofs.values.has_member.Goals as goal

seen : (o : Option (Bor Value)) → is_some o ≡ is_some (option_map (λ v. view v.now) o)
seen None = refl
seen (Some v) = refl

pub returns : goal.returns
returns c =
    c.is_some.ensures ∙ seen c.get.result
    ∙ ap is_some (view_of_ref c.get.result ∙ ap (option_map view) c.get.ensures.value ∙ view-lookup c.args.name.now c.args.members.now.entries)
