use Rattle.std.proofs.Common.{◌≡◌, ◌++◌, ◌∙◌, ap, IfOk, List, Result, Ok, Err, subst, Vec}
use Rattle.std.specs.declared.alloc.Global.{Global}
use Rattle.grid.specs.declared.pos.Pos.{Pos}
use Rattle.lines.specs.PositionFilter.{may_hold}
use Rattle.lines.specs.Holding.{Holds}
use Rattle.validate.specs.SharedVertices.{KeepsElsewhere}
use Rattle.validate.proofs.ComingAgain.{keeps_elsewhere}
use Rattle.validate.proofs.shared_vertices.vertices_elsewhere.Goals as goal

meant : {E : Type 0} (r : Result (Vec Pos Global) E) (all inside : List Pos) (arcs : List (List Pos)) → ((l : List Pos) → l ≡ all → KeepsElsewhere l inside arcs) →
    IfOk r (λ v. v.items ≡ all) → IfOk r (λ v. KeepsElsewhere v.items inside arcs)
meant (Ok v) all inside arcs f e = f v.items e
meant (Err x) all inside arcs f e = tt

pub returns : goal.returns
returns c =
    meant c.keep_marked.result _ c.args.inside.now c.args.table.now.arcs
    (λ l. keeps_elsewhere (may_hold c.in_ok-bits.bits) c.in_ok-watched.watched.items c.append.new.self.items c.args.inside.now l c.args.table.now.arcs c.in_ok-watched.ensures
    (c.in_ok-append.ensures.items ∙ ap (λ w. c.in_ok-watched.watched.items ++ w) c.in_ok-ends.ensures)
    (subst (Holds (may_hold c.in_ok-bits.bits)) c.deref.ensures.value c.in_ok-bits.ensures))
    c.keep_marked.ensures
