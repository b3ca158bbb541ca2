use Rattle.std.proofs.Common.{◌≡◌, ◌∙◌, arith, rules, sym}
use Rattle.std.proofs.lemmas.Grind.{common_steps}
use Rattle.shapes.specs.FormLaws.{form_map_itself}
use Rattle.shapes.specs.Forms.{form_map}
use Rattle.topo.specs.GeometryOrder.Lists.{line_key, ring_key}
use Rattle.topo.proofs.geometry_order.sorting.with_keys.Goals as goal

pub loop-geometry-preserved : goal.loop-geometry-preserved
loop-geometry-preserved c =
    let key : c.in_ok-key.key ≡ form_map (line_key c.args.view.now.arcs.now.arcs) (ring_key c.args.view.now.arcs.now.arcs c.args.view.now.least.now) c.in-Some.geometry.body =
    sym (form_map_itself c.in_ok-key.key) ∙ c.in_ok-key.ensures in
    first_of (search (rules, key), grind (arith, common_steps, key))
