use Rattle.std.proofs.Common.{◌≡◌, ◌<◌, ◌∷◌, ap, ◌∙◌, refl, inl, inr, arith}
use Rattle.std.proofs.lemmas.Result.{IfOk-weaker}
use Rattle.json.specs.Reads.{token_of}
use Rattle.json.specs.Json.{object, null}
use Rattle.decimal_maps.proofs.Looping.{null_gives, object_gives}
use Rattle.decimal_maps.proofs.geometry.read_geometry.Goals as goal

pub returns-in-Null : goal.returns-in-Null
returns-in-Null c =
    let new = c.next.new.self in
    let first : c.args.reader.now ≡ token_of c.in-Some.token ∷ new = grind arith in
    let is = first ∙ ap (λ k. token_of k ∷ new) c.in-Null.is in
    (null, null_gives c.args.depth c.args.reader.now new is, inl (refl, refl, c.new.ensures))

pub returns-else-depth-eq0 : goal.returns-else-depth-eq0
returns-else-depth-eq0 c =
    let mid = c.next.new.self in
    let first : c.args.reader.now ≡ token_of c.in-Some.token ∷ mid = grind arith in
    let opens = first ∙ ap (λ k. token_of k ∷ mid) c.in-BeginObject.is in
    let some : 0 < c.args.depth = omega arith in
    IfOk-weaker c.read_started.result _ _ (λ g r. (object r.0, object_gives c.args.depth c.args.reader.now mid c.read_started.new.reader r.0 some opens r.1, inr r.2)) c.read_started.ensures
