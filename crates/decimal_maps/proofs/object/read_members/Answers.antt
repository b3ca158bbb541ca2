use Rattle.std.proofs.Common.{◌≡◌, Some, None, arith}
use Rattle.json.specs.Json.{read_key}
use Rattle.json.proofs.Grammar.{read_key-shorter}
use Rattle.decimal_maps.proofs.Looping.{gives_shorter, known_none, known_more, members_known}
use Rattle.decimal_maps.proofs.object.read_members.Goals as goal

pub members-init : goal.members-init
members-init g c = known_none (g.N.TakeMember.knows c.args.on.now c.args.named.now) c.args.depth c.args.reader.now c.requires

pub members-preserved : goal.members-preserved
members-preserved g c =
    let l = c.members in
    let k = c.in-Some.name.now in
    let behind = c.next_key.new.self in
    let new = c.take.new.reader in
    let named : read_key l.reader ≡ Some (Some k, behind) = grind arith in
    let read = c.in_ok-take.ensures in
    known_more (g.N.TakeMember.knows c.args.on.now l.named) (g.N.TakeMember.knows c.args.on.now c.take.new.self) c.args.depth c.args.reader.now l.reader behind new k read.0 l.invariant named read.1 read.2

pub members-smaller : goal.members-smaller
members-smaller g c =
    let l = c.members in
    let behind = c.next_key.new.self in
    let named : read_key l.reader ≡ Some (Some c.in-Some.name.now, behind) = grind arith in
    let read = c.in_ok-take.ensures in
    omega (arith, read_key-shorter l.reader (Some c.in-Some.name.now) behind named, gives_shorter c.args.depth behind c.take.new.reader read.0 read.1)

pub returns-in_default : goal.returns-in_default
returns-in_default g c =
    let l = c.members in
    let over : read_key l.reader ≡ Some (None, c.next_key.new.self) = grind arith in
    members_known (g.N.TakeMember.knows c.args.on.now l.named) c.args.depth c.args.reader.now l.reader c.next_key.new.self l.invariant over
