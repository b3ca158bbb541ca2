use Rattle.rounded_maps.proofs.files.text_maps.Goals as goal

pub returns-in-Ok-content_maps-clause-made : goal.returns-in-Ok-content_maps-clause-made
returns-in-Ok-content_maps-clause-made c = (c.in-Ok.content, (c.in-Ok.ensures.made, c.in-Ok-content_maps.ensures))
