use Rattle.refine.proofs.whole.WholeShard.copy.Goals as goal

pub returns-clause-map : goal.returns-clause-map
returns-clause-map c = c.in_ok-map.ensures
