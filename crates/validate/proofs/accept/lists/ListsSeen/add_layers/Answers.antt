use Rattle.std.proofs.Common.{◌+◌, drop, refl, subst, ◌∙◌}
use Rattle.std.proofs.lemmas.List.{drop_all}
use Rattle.validate.specs.Accept.Added.{AreAdded}
use Rattle.validate.specs.Accept.Lists.{layer_lines, layer_rings, layers_lines, layers_rings, lines_of, rings_of}
use Rattle.lines.proofs.Dropping.{drop_item}
use Rattle.validate.proofs.AcceptLemmas.Adding.{loop_done, loop_not, loop_on}
use Rattle.validate.proofs.accept.lists.ListsSeen.add_layers.Goals as goal

pub returns-then-not-branch : goal.returns-then-not-branch
returns-then-not-branch c =
    loop_not c.args.table.now layers_lines layers_rings layer_lines layer_rings (λ x xs. refl) (λ x xs. refl) c.args.layers.now (drop c.loop-layer.layer-index c.args.layers.now) c.args.self.now c.loop-layer.self
    c.loop-layer.invariant.rest c.layer-item.result (drop (c.loop-layer.layer-index + 1) c.args.layers.now) c.in_ok-add_geometries.field-0 c.add_geometries.new.self (drop_item c.args.layers.now c.loop-layer.layer-index c.layer-item.result c.loop-layer-test.true c.layer-item.is) c.if-not-branch.true
    (subst (λ w. AreAdded c.args.table.now (lines_of w) (rings_of w) c.in_ok-add_geometries.field-0 c.loop-layer.self c.add_geometries.new.self) c.geometries.ensures c.in_ok-add_geometries.ensures)

pub loop-layer-preserved : goal.loop-layer-preserved
loop-layer-preserved c =
    let added = subst (λ w. AreAdded c.args.table.now (lines_of w) (rings_of w) c.in_ok-add_geometries.field-0 c.loop-layer.self c.add_geometries.new.self) c.geometries.ensures c.in_ok-add_geometries.ensures in
    record {
      len = added.len ∙ c.loop-layer.invariant.len;
      rest = loop_on c.args.table.now layers_lines layers_rings layer_lines layer_rings (λ x xs. refl) (λ x xs. refl) c.args.layers.now (drop c.loop-layer.layer-index c.args.layers.now) c.args.self.now c.loop-layer.self
          c.loop-layer.invariant.rest c.layer-item.result (drop (c.loop-layer.layer-index + 1) c.args.layers.now) c.in_ok-add_geometries.field-0 c.add_geometries.new.self (drop_item c.args.layers.now c.loop-layer.layer-index c.layer-item.result c.loop-layer-test.true c.layer-item.is) c.if-not-branch.false added;
    }

pub returns : goal.returns
returns c =
    loop_done c.args.table.now layers_lines layers_rings layer_lines layer_rings (λ x xs. refl) (λ x xs. refl) c.args.layers.now (drop c.loop-layer.layer-index c.args.layers.now) c.args.self.now c.loop-layer.self
    c.loop-layer.invariant.rest (drop_all c.loop-layer.layer-index c.args.layers.now c.loop-layer-test.false) refl refl
