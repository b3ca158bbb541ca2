use Rattle.std.proofs.Common.{sym, subst}
use Rattle.std.specs.Fn.{FnReturnsAtPair}
use Rattle.query.specs.Selecting.{Decided}
use Rattle.query.proofs.Choosing.{known_at, known_more}
use Rattle.query.proofs.selecting.is_chosen.Goals as goal

pub returns-in-Some-get : goal.returns-in-Some-get
returns-in-Some-get g c = record {
  decided = subst (λ o. Decided (FnReturnsAtPair g.F.Fn c.args.filter.now) c.args.members.now o c.in-Some-get.says.now) (sym c.in-Some.is)
      (known_at (FnReturnsAtPair g.F.Fn c.args.filter.now) c.args.members.now c.args.known.now c.in-Some.asked c.in-Some-get.says.now c.requires.known (sym c.in-Some-get.ensures.value));
  known = c.requires.known;
}

pub returns : goal.returns
returns g c = record {
  decided = subst (λ o. Decided (FnReturnsAtPair g.F.Fn c.args.filter.now) c.args.members.now o c.ask-says.result) (sym c.in-Some.is) c.ask-says.ensures;
  known = known_more (FnReturnsAtPair g.F.Fn c.args.filter.now) c.args.members.now c.args.known.now c.insert.new.self c.in-Some.asked c.ask-says.result
      (λ q. c.in_ok-insert.ensures.updates.0 q) c.ask-says.ensures c.requires.known;
}
