use Rattle.outputs.proofs.BuiltTextLemmas.ProvedLaws.{one_text_of_texts}
use Rattle.outputs.proofs.built_text.laws.one_text_of_texts.Goals as goal

pub returns : goal.returns
returns c = one_text_of_texts
