use Rattle.std.proofs.Common.{sym, ap, ◌∙◌}
use Rattle.std.proofs.lemmas.Result.{IfOk-weaker}
use Rattle.std.proofs.lemmas.Str.{is_utf8-from_IsUtf8}
use Rattle.serde_json.specs.Read.{read}
use Rattle.reading.proofs.token_parts.text.read_text.Goals as goal

pub returns-in-Ok : goal.returns-in-Ok
returns-in-Ok g c =
    let u = c.in-Ok.ensures.cases in
    IfOk-weaker c.read_str.result _ _ (λ x r. record {
      from = r.0;
      given = rw (is_utf8-from_IsUtf8 c.args.bytes.now u.1) (ap read (sym u.0) ∙ r.1);
      faultless = r.2;
      meant = r.3;
    }) c.read_str.ensures
