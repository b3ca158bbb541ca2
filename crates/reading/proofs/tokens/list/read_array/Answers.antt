use Rattle.std.proofs.Common.{◌-◌, subst}
use Rattle.std.proofs.lemmas.Result.{IfOk-weaker}
use Rattle.reading.specs.Tokens.Reads.{ReadsRest}
use Rattle.reading.proofs.TokensLemmas.Lists.{array_read}
use Rattle.reading.proofs.tokens.list.read_array.Goals as goal

pub returns-clause-read : goal.returns-clause-read
returns-clause-read g c =
    let F = g.P.FromTokens.faults c.args.part.now in
    let R = g.P.FromTokens.means c.args.part.now in
    let mid = c.take_begin_array.new.reader in
    let new = c.read_rest.new.reader in
    let opened = c.in_ok-take_begin_array.ensures in
    IfOk-weaker c.read_rest.result _ _
    (λ xs rest. array_read F R c.args.depth c.args.reader.now mid new xs.items opened.nests opened.opens
    (subst (λ before. ReadsRest F R (c.args.depth - 1) mid new before xs.items) c.new.ensures.items rest)) c.read_rest.ensures.read
