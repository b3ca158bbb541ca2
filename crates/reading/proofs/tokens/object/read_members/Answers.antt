use Rattle.std.proofs.Common.{◌≡◌, Some, None, arith}
use Rattle.json.specs.Json.{read_key}
use Rattle.json.proofs.Grammar.{read_key-shorter}
use Rattle.reading.proofs.TokensLemmas.Objects.{known_none, known_more, members_known}
use Rattle.reading.proofs.tokens.object.read_members.Goals as goal

pub members-init : goal.members-init
members-init g c = record {
  known = known_none (g.N.TakeMember.knows c.args.on.now c.args.named.now) c.args.depth c.args.reader.now c.requires;
  no_longer = omega arith;
}

pub members-preserved : goal.members-preserved
members-preserved g c =
    let l = c.members in
    let k = c.in-Some.name.now in
    let behind = c.next_key.new.self in
    let new = c.take.new.reader in
    let named : read_key l.reader ≡ Some (Some k, behind) = grind arith in
    let read = c.in_ok-take.ensures.read in
    record {
      known = known_more (g.N.TakeMember.knows c.args.on.now l.named) (g.N.TakeMember.knows c.args.on.now c.take.new.self) c.args.depth c.args.reader.now l.reader behind new k read.0 l.invariant.known named read.1 c.in_ok-take.ensures.shorter read.2;
      no_longer = omega (arith, l.invariant.no_longer, read_key-shorter l.reader (Some k) behind named, c.in_ok-take.ensures.shorter);
    }

pub returns-in_default-clause-read : goal.returns-in_default-clause-read
returns-in_default-clause-read g c =
    let l = c.members in
    let over : read_key l.reader ≡ Some (None, c.next_key.new.self) = grind arith in
    members_known (g.N.TakeMember.knows c.args.on.now l.named) c.args.depth c.args.reader.now l.reader c.next_key.new.self l.invariant.known over
