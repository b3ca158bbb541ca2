use Rattle.refine.proofs.MeantTexts.{merged_texts_mean_unions}
use Rattle.refine.proofs.laws.merged_texts_mean_unions.Goals as goal

pub returns : goal.returns
returns c = merged_texts_mean_unions
