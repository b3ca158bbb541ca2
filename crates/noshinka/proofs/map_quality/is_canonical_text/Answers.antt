use Rattle.noshinka.proofs.Qualities.{canonical_means}
use Rattle.noshinka.proofs.map_quality.is_canonical_text.Goals as goal

pub returns : goal.returns
returns c = λ means. canonical_means c.args.text.now c.args.topology.now _ c.is_text_of.ensures means
