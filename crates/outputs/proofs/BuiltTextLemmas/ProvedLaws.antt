-- The laws of lists of texts.
use Rattle.std.proofs.Common.{sym, ap, ◌∙◌}
use Rattle.reading.proofs.Plains.{layers_once}
use Rattle.topo_io.specs.Canon.{canon}
use Rattle.outputs.specs.BuiltText.Laws as law
use Rattle.outputs.specs.BuiltText.Maps.{layers_of_texts}

pub one_map_of_texts : law.OneMapOfTexts
one_map_of_texts t texts m n a b = layers_once m n (layers_of_texts t texts) a.layers b.layers

pub one_text_of_texts : law.OneTextOfTexts
one_text_of_texts t texts a b h k = h.is ∙ ap (canon t) (one_map_of_texts t texts h.map k.map h.of_texts k.of_texts) ∙ sym k.is
