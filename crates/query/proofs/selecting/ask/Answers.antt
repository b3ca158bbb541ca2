use Rattle.std.proofs.Common.{refl, of_calls}
use Rattle.std.specs.Fn.{FnReturnsAtPair}
use Rattle.query.specs.Mesh.{MayAsk}
use Rattle.query.proofs.Choosing.{asked, may_ask, not_there}
use Rattle.query.proofs.selecting.ask.Goals as goal

pub filter-requires : goal.filter-requires
filter-requires g c =
    let e = c.in-Some-Some.ensures.lookup in
    let f = c.in-Some-Some.ensures'.lookup in
    search (of_calls, may_ask (MayAsk g.F.Fn c.args.filter.now) c.args.members.now c.args.span c.in-Some-Some.least.now c.in-Some-Some.greatest.now e.3.0 e.1 f.3.0 f.1 c.requires)

pub returns-in-Some-Some : goal.returns-in-Some-Some
returns-in-Some-Some g c =
    let e = c.in-Some-Some.ensures.lookup in
    let f = c.in-Some-Some.ensures'.lookup in
    asked (FnReturnsAtPair g.F.Fn c.args.filter.now) c.args.members.now c.args.span c.in-Some-Some.least.now c.in-Some-Some.greatest.now c.filter.result e.3.0 e.1 f.3.0 f.1
    (record { first = _; second = _; shows = (refl, refl); says = record { met = c.filter.ensures } })

pub returns-in_default : goal.returns-in_default
returns-in_default g c = λ p q a b. let f = c.in_default.ensures'.lookup in absurd (not_there c.args.members.now c.args.span.greatest q f.3 b)

pub returns-in_default-2 : goal.returns-in_default-2
returns-in_default-2 g c = λ p q a b. let e = c.in_default.ensures.lookup in absurd (not_there c.args.members.now c.args.span.least p e.3 a)
