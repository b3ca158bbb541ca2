use Rattle.std.proofs.Common.{◌≡◌, ◌∷◌, ap, ◌∙◌, refl, arith}
use Rattle.std.proofs.lemmas.Result.{IfOk-weaker}
use Rattle.json.specs.Reads.{token_of}
use Rattle.serde_json.specs.Data.{object, null}
use Rattle.reading.proofs.TokensLemmas.Lists.{null_gives}
use Rattle.reading.proofs.TokensLemmas.Objects.{object_gone}
use Rattle.geojson_io.proofs.token_reader.geometry.read_geometry.Goals as goal

pub returns-in-Null : goal.returns-in-Null
returns-in-Null c =
    let first : c.args.reader.now ≡ token_of c.in-Some.token ∷ c.next.new.self = grind arith in
    let is = first ∙ ap (λ k. token_of k ∷ c.next.new.self) c.in-Null.is in
    record { from = null; given = null_gives c.args.depth c.args.reader.now c.next.new.self is; faultless = refl; meant = refl }

pub returns-else-depth-eq0 : goal.returns-else-depth-eq0
returns-else-depth-eq0 c =
    let first : c.args.reader.now ≡ token_of c.in-Some.token ∷ c.next.new.self = grind arith in
    let opens = first ∙ ap (λ k. token_of k ∷ c.next.new.self) c.in-BeginObject.is in
    IfOk-weaker c.read_object.result _ _
    (λ s read. record { from = object read.0; given = object_gone c.args.depth c.args.reader.now c.next.new.self c.read_object.new.reader read.0 (omega arith) opens read.1; faultless = read.2; meant = read.3 }) c.read_object.ensures
