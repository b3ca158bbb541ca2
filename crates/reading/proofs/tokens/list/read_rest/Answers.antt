use Rattle.std.proofs.Common.{◌≡◌, ◌<◌, length, None, arith, subst}
use Rattle.json.specs.Json.{after_end_array}
use Rattle.reading.specs.Tokens.Reads.{Reads}
use Rattle.reading.proofs.TokensLemmas.Lists.{passed_none, passed_more, passed_all}
use Rattle.reading.proofs.tokens.list.read_rest.Goals as goal

pub items-init : goal.items-init
items-init g c = record {
  passed = passed_none (g.P.FromTokens.faults c.args.part.now) (g.P.FromTokens.means c.args.part.now) c.args.depth c.args.reader.now c.args.found.items;
  no_longer = omega arith;
}

pub items-preserved : goal.items-preserved
items-preserved g c =
    let F = g.P.FromTokens.faults c.args.part.now in
    let R = g.P.FromTokens.means c.args.part.now in
    let l = c.items in
    let r = c.read.new.reader in
    let going : (after_end_array l.reader ≡ None) × (c.take_end_array.new.self ≡ l.reader) = grind arith in
    let reads = subst (λ ts. Reads F R c.args.depth ts r c.in_ok-made.made) going.1 c.in_ok-made.ensures.read in
    let less : length r < length l.reader = rw (← going.1) c.in_ok-made.ensures.shorter in
    record {
      passed = passed_more F R c.args.depth c.args.reader.now l.reader r c.args.found.items l.found.items c.push.new.self.items c.in_ok-made.made l.invariant.passed reads less c.in-Ok.ensures.items;
      no_longer = omega (arith, l.invariant.no_longer, less);
    }

pub returns-clause-read : goal.returns-clause-read
returns-clause-read g c =
    passed_all (g.P.FromTokens.faults c.args.part.now) (g.P.FromTokens.means c.args.part.now) c.args.depth c.args.reader.now c.items.reader c.take_end_array.new.self c.args.found.items c.items.found.items c.items.invariant.passed (grind arith)
