use Rattle.std.proofs.Common.{◌∙◌, ◌&&◌, ◌+◌, ◌-◌, ap, drop, length, not, sym, take}
use Rattle.std.specs.Result.{is_ok}
use Rattle.arcs.specs.Among.{among}
use Rattle.chains.proofs.Among.{if_among}
use Rattle.chains.proofs.Search.{found}
use Rattle.validate.proofs.Once.{never_once, once_at}
use Rattle.validate.proofs.loops.is_once.Goals as goal

pub returns-then-not-is_among : goal.returns-then-not-is_among
returns-then-not-is_among c =
    let l = c.args.sorted.now in
    let i = c.in-Ok.index in
    let v = c.args.vertex in
    sym (once_at l i v c.in-Ok.ensures.bound c.in-Ok.ensures.position
    ∙ ap (λ w. not w && not (among (take (length l - (i + 1)) (drop (i + 1) l)) v)) (sym c.is_among.ensures ∙ c.if-not-is_among.true)
    ∙ ap not (sym c.is_among-then-not-is_among.ensures))

pub returns-else-not-is_among : goal.returns-else-not-is_among
returns-else-not-is_among c =
    let l = c.args.sorted.now in
    let i = c.in-Ok.index in
    let v = c.args.vertex in
    ap not c.if-not-is_among.false
    ∙ sym (once_at l i v c.in-Ok.ensures.bound c.in-Ok.ensures.position
    ∙ ap (λ w. not w && not (among (take (length l - (i + 1)) (drop (i + 1) l)) v)) (sym c.is_among.ensures ∙ c.if-not-is_among.false))

pub returns-in-Err : goal.returns-in-Err
returns-in-Err c =
    let l = c.args.sorted.now in
    let v = c.args.vertex in
    sym (never_once l v
    (sym (if_among l v _ (found l v c.binary_search.result _ (sym (ap is_ok c.in-Err.is)) c.binary_search.ensures.bound c.binary_search.ensures.position c.requires))))
