use Rattle.std.proofs.Common.{◌≡◌, cond, sym, ap, ◌∙◌, rules}
use Rattle.std.specs.Ordering.{is_lt}
use Rattle.lines.specs.Turned.{list_cmp}
use Rattle.lines.specs.Seen.{vertices_of}
use Rattle.lines.specs.declared.ring.Ring.{Ring}
use Rattle.lines.specs.contracts.ring.RingOrd.TheImpl as ring
use Rattle.fixing.proofs.measures.lesser.Goals as goal

derived_is : (a b : Ring) → ring.cmp-value.it a b ≡ list_cmp (vertices_of a) (vertices_of b)
derived_is a b = search rules

pub returns-then-is_lt : goal.returns-then-is_lt
returns-then-is_lt c =
    ap (λ b. cond b c.args.other c.args.ring)
    (sym c.if-is_lt.true ∙ c.is_lt.ensures ∙ ap is_lt (c.cmp.ensures ∙ derived_is c.args.other c.args.ring))

pub returns-else-is_lt : goal.returns-else-is_lt
returns-else-is_lt c =
    ap (λ b. cond b c.args.other c.args.ring)
    (sym c.if-is_lt.false ∙ c.is_lt.ensures ∙ ap is_lt (c.cmp.ensures ∙ derived_is c.args.other c.args.ring))
