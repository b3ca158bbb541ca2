use Rattle.std.proofs.Common.{◌≡◌, ◌∷◌, ap, ◌∙◌, arith}
use Rattle.json.specs.Token.{string}
use Rattle.decimal_maps.proofs.Looping.{string_gives}
use Rattle.decimal_maps.proofs.kind.take_kind.Goals as goal

pub returns-in-Some : goal.returns-in-Some
returns-in-Some c depth =
    let text = c.in-Some-String.text.now in
    let new = c.next.new.self in
    let is : c.args.reader.now ≡ string text ∷ new = grind arith in
    string_gives depth c.args.reader.now new _ (is ∙ ap (λ s. string s ∷ new) c.in-Some.ensures.named)
