use Rattle.std.proofs.Common.{◌<◌, ◌-◌, ◌∷◌, sym, subst, arith}
use Rattle.json.specs.Token.{number, begin_array}
use Rattle.std.specs.List.{AllZip}
use Rattle.reading.specs.Parts.{list_faults, elements}
use Rattle.reading.specs.Tokens.Reads.{Reads, ReadsRest}
use Rattle.reading.proofs.TokenPartsLemmas.Listing.{opened_reads}
use Rattle.reading.proofs.token_parts.items.ItemsOfFromOpened.read_opened.Goals as goal

pub returns : goal.returns
returns g c =
    let of = c.args.self.now.of in
    let F = g.P.FromTokens.faults of in
    let R = g.P.FromTokens.means of in
    let opened = g.P.FromOpened.opening of (number c.args.x.now ∷ c.args.reader.now) in
    let mid = c.read_opened.new.reader in
    let new = c.read_rest.new.reader in
    let x = c.in_ok-first.first in
    let xs = c.in_ok-found.found.items in
    let some : 0 < c.args.depth = omega arith in
    subst (λ ys. Reads (list_faults F) (λ d zs. AllZip R (elements d) zs) c.args.depth (begin_array ∷ opened) new ys) (sym c.from_vec.ensures)
    (opened_reads F R c.args.depth opened mid new x xs some c.in_ok-first.ensures
    (subst (λ before. ReadsRest F R (c.args.depth - 1) mid new before xs) c.in_ok-begun.ensures c.in_ok-found.ensures.read))
