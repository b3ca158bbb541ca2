use Rattle.std.proofs.Common.{◌≡◌, ◌++◌, ◌∙◌, OnOk, ap, subst, slice_get}
use Rattle.theory.specs.ArcNumbers.{ArcRef}
use Rattle.arcs.proofs.ReplacedArcs.{none_used, used_by_code}
use Rattle.arcs.proofs.new_lists.add_used.Goals as goal

pub returns-in-Some : goal.returns-in-Some
returns-in-Some g c =
    subst (λ w. OnOk c.add_in_direction.result (c.add_in_direction.new.refs.items ≡ c.args.refs.now.items ++ w))
    (used_by_code (g.P.HavePieces.pieces_of c.args.arcs.now) c.args.used.now (record { arc = c.used.inside.arc; reversed = c.used.inside.reversed }) c.in-Some.pieces.now
    c.in-Some.ensures c.used.view_is)
    c.add_in_direction.ensures

pub returns-in-None : goal.returns-in-None
returns-in-None g c =
    none_used (g.P.HavePieces.pieces_of c.args.arcs.now) c.args.used.now c.args.refs.now.items
    (c.in-None.ensures ∙ ap (λ (w : ArcRef). slice_get (g.P.HavePieces.pieces_of c.args.arcs.now) w.arc) c.used.view_is)
