use Rattle.std.proofs.Common.{◌≡◌, ◌∷◌, arith}
use Rattle.json.specs.Token.{string}
use Rattle.reading.proofs.TokensLemmas.Lists.{string_gives}
use Rattle.geojson_io.proofs.token_reader.kind.take_string.Goals as goal

pub returns-in-Some-String-clause-read : goal.returns-in-Some-String-clause-read
returns-in-Some-String-clause-read c depth =
    let text = c.in-Some-String.text.now in
    let is : c.args.reader.now ≡ string text ∷ c.next.new.self = grind arith in
    string_gives depth c.args.reader.now c.next.new.self text is
