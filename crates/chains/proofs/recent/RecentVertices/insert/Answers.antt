use Rattle.std.proofs.Common.{◌<◌, sym, ap, ◌∙◌, subst, length, get_or}
use Rattle.std.proofs.lemmas.Bool.{ltb-true}
use Rattle.lines.proofs.Positions.{position_true}
use Rattle.chains.proofs.Same.{same_at}
use Rattle.chains.proofs.recent.RecentVertices.insert.Goals as goal

pub returns-then-eq : goal.returns-then-eq
returns-then-eq c =
    let v = c.in-Some-get.recorded.now in
    let k = c.in-Some.place.now in
    let at = c.in-Some-get.ensures.lookup in
    same_at c.args.position v c.args.self.now.positions.items k
    (subst (λ l. k < length l) c.deref.ensures.value (ltb-true k (length c.deref.result.now) (sym at.0)))
    (at.1 ∙ ap (λ l. get_or l k v) c.deref.ensures.value)
    (position_true v c.args.position (sym c.eq.ensures ∙ c.if-eq.true))
