use Rattle.std.proofs.Common.{subst}
use Rattle.serde_json.specs.Read.{max_depth}
use Rattle.reading.specs.Tokens.Reads.{Gives}
use Rattle.reading.proofs.TokensLemmas.Reading.{whole_text, nothing_left}
use Rattle.reading.proofs.token_parts.text.read_str.Goals as goal

pub returns : goal.returns
returns g c =
    let r = c.in_ok-made.ensures.read in
    let given = subst (λ ts. Gives max_depth ts r.from c.read.new.reader) c.in-Ok.ensures.ok r.given in
    let end = nothing_left c.next.result _ _ c.if-is_some.ensures c.next.ensures.value in
    (r.from, whole_text c.args.text.now r.from c.read.new.reader given end.0, r.faultless, r.meant)
