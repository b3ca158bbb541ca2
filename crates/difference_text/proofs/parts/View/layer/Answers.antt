use Rattle.difference_text.proofs.DifferenceWriting.{view_means}
use Rattle.difference_text.proofs.parts.View.layer.Goals as goal

pub returns : goal.returns
returns c =
    view_means c.args.self.now.difference.now.is_keyed c.args.self.now.old.now c.args.self.now.new.now c.args.changes.now c.layers-old.ensures.layers c.layers-new.ensures.layers
    c.layer_at-old_layer.ensures c.layer_at-new_layer.ensures c.name_of.ensures c.geometries_at.ensures c.geometries_at-2.ensures
