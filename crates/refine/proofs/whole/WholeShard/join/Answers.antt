use Rattle.refine.proofs.whole.WholeShard.join.Goals as goal

pub returns-clause-joined : goal.returns-clause-joined
returns-clause-joined c = c.in_ok-map.ensures

pub returns-clause-map : goal.returns-clause-map
returns-clause-map c = c.in_ok-map.ensures
