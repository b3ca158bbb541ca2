use Rattle.std.proofs.Common.{string_bytes}
use Rattle.shapes.proofs.MapLemmas.{layers-update, names-update}
use Rattle.shapes.proofs.feature_map.put_layer.Goals as goal

pub returns-clause-features : goal.returns-clause-features
returns-clause-features c = layers-update c.args.layers.now c.insert.new.self (string_bytes c.args.key) c.args.layer c.in_ok-insert.ensures.updates

pub returns-clause-names : goal.returns-clause-names
returns-clause-names c = λ named old. names-update c.args.layers.now c.insert.new.self (string_bytes c.args.key) c.args.layer c.in_ok-insert.ensures.updates named old
