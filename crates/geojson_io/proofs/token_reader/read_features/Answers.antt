use Rattle.std.proofs.Common.{◌∙◌}
use Rattle.std.proofs.lemmas.Result.{IfOk-weaker}
use Rattle.geojson_io.proofs.TokenMembers.{text_faultless, text_means}
use Rattle.geojson_io.proofs.token_reader.read_features.Goals as goal

pub returns-clause-ok : goal.returns-clause-ok
returns-clause-ok c = IfOk-weaker c.read_text.result _ _ (λ fs r. text_faultless c.args.grid.now c.args.bytes.now r.from r.given r.faultless) c.read_text.ensures

pub returns-clause-made : goal.returns-clause-made
returns-clause-made c = IfOk-weaker c.read_text.result _ _ (λ fs r. r.meant ∙ text_means c.args.grid.now c.args.bytes.now r.from r.given) c.read_text.ensures
