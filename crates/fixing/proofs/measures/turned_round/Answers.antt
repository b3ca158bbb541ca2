use Rattle.std.proofs.Common.{◌≡◌, reverse, ap, ◌∙◌, rules}
use Rattle.lines.specs.Reading.{ring_fault}
use Rattle.lines.specs.Turned.{position_cmp}
use Rattle.fixing.proofs.Reversed.{reversed_sound}
use Rattle.fixing.proofs.measures.turned_round.Goals as goal

pub from_sound-requires : goal.from_sound-requires
from_sound-requires c =
    let back : c.reverse.new.self.items ≡ reverse c.args.closed.now = search rules in
    ap (ring_fault position_cmp) back ∙ reversed_sound c.args.closed.now c.requires
