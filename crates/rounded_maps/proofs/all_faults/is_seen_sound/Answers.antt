use Rattle.std.proofs.Common.{◌≡◌, Some, subst}
use Rattle.json.specs.Json.{document}
use Rattle.rounded_maps.proofs.Faultless.{are_left, text_sound}
use Rattle.rounded_maps.proofs.all_faults.is_seen_sound.Goals as goal

pub returns-in-Ok-add_all : goal.returns-in-Ok-add_all
returns-in-Ok-add_all c = λ _.
    let cases = c.in-Ok.ensures.cases in
    let (tree, json, is) = c.in-Ok-read_map.ensures in
    let rules = c.args.rules.now in
    let raws = c.in-Ok-read_map.features.items in
    let more = c.in-Ok-add_all.ensures in
    text_sound rules c.args.bytes.now raws c.size-step.ensures.limits (record { utf8 = cases.1; tree = tree; json = subst (λ t. document t ≡ Some tree) cases.0 json; map = is })
    (are_left rules.fixing rules.numbers _ raws more.more more.fixed)
