use Rattle.std.proofs.Common.{◌≡◌, ◌∷◌, ap, ◌∙◌, arith}
use Rattle.json.specs.Token.{string}
use Rattle.json.specs.Reads.{token_of}
use Rattle.reading.proofs.TokensLemmas.Lists.{string_gives}
use Rattle.reading.proofs.TokenPartsLemmas.Members.{same_name}
use Rattle.reading.proofs.token_parts.text.take_text.Goals as goal

pub returns-then-eq-clause-read : goal.returns-then-eq-clause-read
returns-then-eq-clause-read c depth =
    let first : c.args.reader.now ≡ token_of c.in-Some.token ∷ c.next.new.self = grind arith in
    let same = same_name c.in-String.text.now c.args.word.now c.if-eq.ensures in
    let is = first ∙ ap (λ k. token_of k ∷ c.next.new.self) c.in-String.is ∙ ap (λ s. string s ∷ c.next.new.self) same in
    string_gives depth c.args.reader.now c.next.new.self c.args.word.now is
