use Rattle.std.proofs.lemmas.Result.{IfOk-weaker}
use Rattle.reading.proofs.TokenPartsLemmas.Listing.{list_reads}
use Rattle.reading.proofs.token_parts.list.read_list.Goals as goal

pub returns-clause-read : goal.returns-clause-read
returns-clause-read g c =
    IfOk-weaker c.read_array.result _ _ (λ xs read. list_reads (g.P.FromTokens.faults c.args.part.now) (g.P.FromTokens.means c.args.part.now) c.args.depth c.args.reader.now c.read_array.new.reader xs.items read) c.read_array.ensures.read
