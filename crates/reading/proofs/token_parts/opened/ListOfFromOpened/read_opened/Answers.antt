use Rattle.std.proofs.Common.{◌<◌, ◌-◌, ◌∷◌, subst, arith}
use Rattle.std.proofs.lemmas.Result.{IfOk-weaker}
use Rattle.json.specs.Token.{number, begin_array}
use Rattle.std.specs.List.{AllZip}
use Rattle.reading.specs.Parts.{list_faults, elements}
use Rattle.reading.specs.Tokens.Reads.{ReadsRest}
use Rattle.reading.proofs.TokenPartsLemmas.Listing.{opened_reads, reads_of}
use Rattle.reading.proofs.token_parts.opened.ListOfFromOpened.read_opened.Goals as goal

pub returns : goal.returns
returns g c =
    let of = c.args.self.now.of in
    let F = g.P.FromTokens.faults of in
    let R = g.P.FromTokens.means of in
    let opened = g.P.FromOpened.opening of (number c.args.x.now ∷ c.args.reader.now) in
    let mid = c.read_opened.new.reader in
    let new = c.read_rest.new.reader in
    let x = c.in_ok-first.first in
    let some : 0 < c.args.depth = omega arith in
    IfOk-weaker c.read_rest.result _ _
    (λ xs rest. reads_of (list_faults F) (λ d ys. AllZip R (elements d) ys) (λ v. v.items) c.args.depth (begin_array ∷ opened) new xs
    (opened_reads F R c.args.depth opened mid new x xs.items some c.in_ok-first.ensures
    (subst (λ before. ReadsRest F R (c.args.depth - 1) mid new before xs.items) c.in_ok-found.ensures rest))) c.read_rest.ensures.read
