use Rattle.std.proofs.Common.{◌++◌, ◌∷◌, [], cond, ap, sym, ◌∙◌, append_assoc}
use Rattle.arcs.specs.Stored.{with_mark, merged_from}
use Rattle.arcs.proofs.Places.{list_true}
use Rattle.arcs.proofs.merging.next_arc.Goals as goal

pub returns-then-is_same-clause-all : goal.returns-then-is_same-clause-all
returns-then-is_same-clause-all c = λ rest.
    let last = c.args.last in
    let next = c.args.next in
    ap (λ b. c.args.arcs.now ++ merged_from (record { positions = last.positions; free = b }) rest) c.either-free.ensures
    ∙ ap (λ b. c.args.arcs.now ++ cond b (merged_from (with_mark last next) rest) (last ∷ merged_from next rest)) (sym c.if-is_same.true ∙ c.is_same.ensures)

pub returns-then-is_same-clause-positions : goal.returns-then-is_same-clause-positions
returns-then-is_same-clause-positions c = sym (list_true c.args.next.positions c.args.last.positions (sym c.is_same.ensures ∙ c.if-is_same.true))

pub returns-clause-all : goal.returns-clause-all
returns-clause-all c = λ rest.
    let last = c.args.last in
    let next = c.args.next in
    ap (λ w. w ++ merged_from next rest) c.in_ok-push.ensures
    ∙ append_assoc c.args.arcs.now (last ∷ []) (merged_from next rest)
    ∙ ap (λ b. c.args.arcs.now ++ cond b (merged_from (with_mark last next) rest) (last ∷ merged_from next rest)) (sym c.if-is_same.false ∙ c.is_same.ensures)
