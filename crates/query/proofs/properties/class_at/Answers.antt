use Rattle.std.proofs.Common.{Some, ap, option_map, string_bytes, sym}
use Rattle.std.proofs.lemmas.Map.Text.{btree_map_updates_text}
use Rattle.std.specs.BTreeMap.{get_by_text}
use Rattle.query.proofs.Classes.{known_new}
use Rattle.query.proofs.properties.class_at.Goals as goal

pub returns-clause-known : goal.returns-clause-known
returns-clause-known c =
    known_new (get_by_text c.args.classes.now) (get_by_text c.insert.new.self) c.args.index (string_bytes c.in-Some.text) (option_map string_bytes c.args.value)
    (ap (option_map string_bytes) c.in-Some.is) (sym c.in_default-get.ensures.value)
    (btree_map_updates_text (string_bytes c.in-Some.text) c.args.classes.now c.insert.new.self (Some c.args.index) c.in_ok-insert.ensures.updates)
