use Rattle.std.proofs.Common.{◌∙◌, ap, length, false}
use Rattle.std.proofs.lemmas.List.{length-replicate}
use Rattle.std.proofs.lemmas.Result.{IfOk-weaker}
use Rattle.validate.specs.Accept.Lists.{layers_lines, layers_rings}
use Rattle.validate.proofs.AcceptLemmas.Adding.{all_means, not_used, some_not}
use Rattle.validate.proofs.accept.lists.lists_are_valid.Goals as goal

pub add_layers-requires : goal.add_layers-requires
add_layers-requires c = ap length c.in_ok-used.ensures ∙ length-replicate c.len.result false ∙ c.len.ensures.len

pub returns-then-not-branch : goal.returns-then-not-branch
returns-then-not-branch c =
    some_not c.args.table.now (layers_lines c.args.layers.now) (layers_rings c.args.layers.now) (record { used = c.in_ok-used.used; ends = c.new.result }) c.add_layers.new.self
    c.len.result c.len.ensures.len c.in_ok-used.ensures c.in_ok-add_layers.field-0 c.if-not-branch.true c.in_ok-add_layers.ensures

pub returns-then-not-all : goal.returns-then-not-all
returns-then-not-all c =
    not_used c.args.table.now (layers_lines c.args.layers.now) (layers_rings c.args.layers.now) (record { used = c.in_ok-used.used; ends = c.new.result }) c.add_layers.new.self
    c.len.result c.len.ensures.len c.in_ok-used.ensures c.in_ok-add_layers.field-0 c.all.result c.if-not-branch.false c.in_ok-add_layers.ensures c.all.ensures c.if-not-all.true

pub returns : goal.returns
returns c =
    IfOk-weaker c.ends_meet.result _ _
    (λ meet meant.
    all_means c.args.table.now (layers_lines c.args.layers.now) (layers_rings c.args.layers.now) (record { used = c.in_ok-used.used; ends = c.new.result }) c.add_layers.new.self
    c.len.result c.len.ensures.len c.in_ok-used.ensures c.in_ok-add_layers.field-0 c.all.result meet c.deref.result.now c.if-not-branch.false c.in_ok-add_layers.ensures
    c.new.ensures.items c.all.ensures c.if-not-all.false c.deref.ensures.value meant)
    c.ends_meet.ensures
