use Rattle.std.proofs.Common.{◌∙◌, ◌++◌, ◌∷◌, [], ap, append_assoc, string_bytes}
use Rattle.json.specs.Print.{quoted}
use Rattle.serde_json.specs.View.{view}
use Rattle.serde_json.specs.Written.{comma_if}
use Rattle.attributes.specs.Back.{value_back}
use Rattle.attributes.proofs.back.push_member.Goals as goal

pub returns : goal.returns
returns c whole =
    let text = string_bytes c.args.text.now in
    let comma = comma_if c.args.later in
    let name = quoted c.args.name.now in
    let value = value_back c.args.is_numeric c.args.places (view c.args.value.now) in
    c.in_ok-push_str.ensures.bytes
    ∙ ap (λ v. string_bytes c.push_name.new.text ++ v) (c.deref.ensures ∙ c.in_ok-printed.ensures whole)
    ∙ ap (λ t. t ++ value) c.in_ok-push_name.ensures
    ∙ append_assoc text (comma ++ (name ++ 58 ∷ [])) value
    ∙ ap (λ t. text ++ t) (append_assoc comma (name ++ 58 ∷ []) value ∙ ap (λ t. comma ++ t) (append_assoc name (58 ∷ []) value))
