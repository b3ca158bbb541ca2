use Rattle.std.proofs.Common.{◌≡◌, ◌∙◌, subst, sym}
use Rattle.theory.specs.Lists.{Has}
use Rattle.arcs.specs.Extents.{within}
use Rattle.chains.specs.ManyTables.{UnmarkedStayWhole, arcs_of_all}
use Rattle.split_heal.proofs.Held.{arcs_held}
use Rattle.split_heal.proofs.ManyRecut.{all_recut}
use Rattle.split_heal.proofs.split_all.recut_all.Goals as goal

pub cut_all-requires : goal.cut_all-requires
cut_all-requires c = λ p h.
    arcs_held (within c.around_all-extent.result) c.args.tables.items (λ t k. c.around_all-extent.ensures t (subst (Has t) (sym c.deref.ensures.value) k)) p
    (subst (Has p) c.in_ok-arcs.ensures.arcs h)

pub returns : goal.returns
returns c = λ maps u are union.
    let js = c.in_ok-cuts.cuts.index in
    let arcs = c.in_ok-arcs.arcs.items in
    let marks = c.deref-3.result.now in
    let tables = c.args.tables.items in
    let listed : c.deref-2.result.now ≡ arcs_of_all tables = c.deref-2.ensures.value ∙ c.in_ok-arcs.ensures.arcs in
    let stay : UnmarkedStayWhole js arcs marks =
    subst (λ w. UnmarkedStayWhole js w marks) c.deref-2.ensures.value
    (subst (UnmarkedStayWhole js c.deref-2.result.now) (sym c.deref-3.ensures.value) (c.in_ok-cuts.ensures.whole maps tables listed are)) in
    all_recut maps tables are u union js (c.in_ok-cuts.ensures.arcs maps tables listed are) arcs c.in_ok-arcs.ensures.arcs marks stay
    c.in_ok-arcs.begins.items c.in_ok-arcs.ensures.begins c.in_ok-made.made c.in_ok-made.ensures.arcs c.in_ok-made.ensures.of_map c.in_ok-made.ensures.lists
