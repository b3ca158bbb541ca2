use Rattle.chains.proofs.Among.{if_among}
use Rattle.chains.proofs.Search.{found}
use Rattle.validate.proofs.end_tests.is_among.Goals as goal

pub returns : goal.returns
returns c =
    if_among c.args.sorted.now c.args.vertex c.is_ok.result
    (found c.args.sorted.now c.args.vertex c.binary_search.result c.is_ok.result c.is_ok.ensures.value c.binary_search.ensures.bound c.binary_search.ensures.position c.requires)
