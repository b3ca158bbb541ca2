use Rattle.validate.proofs.NodedArcs.{is_table, map_sound}
use Rattle.validate.proofs.laws.apart_arcs_are_their_maps.Goals as goal

pub returns : goal.returns
returns c = λ t apart. (map_sound t apart, is_table t apart)
