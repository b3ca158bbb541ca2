use Rattle.std.proofs.Common.{◌≡◌, ◌∙◌, ◌++◌, ◌∷◌, [], ap, append_assoc, append-nil, string_bytes, sym}
use Rattle.json.specs.Print.{quoted}
use Rattle.serde_json.specs.Written.{comma_if}
use Rattle.shapes.specs.Spelling.{spelling_of}
use Rattle.attributes.proofs.back.push_name.Goals as goal
use Rattle.attributes.proofs.back.push_name.Goals.{else-later, then-later+in_ok-push_str}

pub returns : goal.returns
returns c =
    let text = string_bytes c.args.text.now in
    let comma = comma_if c.args.later in
    let name = quoted c.args.name.now in
    let first : string_bytes c.if-later.text ≡ text ++ comma =
    elim c.if-later.branch [
      | then-later+in_ok-push_str w ↦ ap string_bytes w.text-is ∙ w.in_ok-push_str.ensures.bytes ∙ ap (λ b. text ++ comma_if b) (sym w.if-later.true)
      | else-later w ↦ ap string_bytes w.text-is ∙ sym (append-nil text) ∙ ap (λ b. text ++ comma_if b) (sym w.if-later.false)
    ] in
    let second : string_bytes c.push_str-2.new.self ≡ (text ++ comma) ++ name =
    c.in_ok-push_str-2.ensures.bytes ∙ ap (λ t. t ++ c.spelling.result.now) first ∙ ap (λ n. (text ++ comma) ++ n) (c.spelling.ensures ∙ ap spelling_of c.in_ok-name.ensures) in
    c.in_ok-push_str-3.ensures.bytes ∙ ap (λ t. t ++ (58 ∷ [])) second ∙ append_assoc (text ++ comma) name (58 ∷ []) ∙ append_assoc text comma (name ++ 58 ∷ [])
