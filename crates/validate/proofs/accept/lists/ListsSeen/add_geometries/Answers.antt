use Rattle.std.proofs.Common.{◌+◌, drop, refl, ◌∙◌}
use Rattle.std.proofs.lemmas.List.{drop_all}
use Rattle.validate.specs.Accept.Lists.{lines_of, rings_of}
use Rattle.topo.specs.BodyLists.{body_lines, body_rings}
use Rattle.lines.proofs.Dropping.{drop_item}
use Rattle.validate.proofs.AcceptLemmas.Adding.{loop_done, loop_not, loop_on}
use Rattle.validate.proofs.accept.lists.ListsSeen.add_geometries.Goals as goal

pub returns-then-not-branch : goal.returns-then-not-branch
returns-then-not-branch c =
    loop_not c.args.table.now lines_of rings_of (λ g. body_lines g.body) (λ g. body_rings g.body) (λ x xs. refl) (λ x xs. refl) c.args.geometries.now (drop c.loop-geometry.geometry-index c.args.geometries.now) c.args.self.now c.loop-geometry.self
    c.loop-geometry.invariant.rest c.geometry-item.result (drop (c.loop-geometry.geometry-index + 1) c.args.geometries.now) c.in_ok-add_body.field-0 c.add_body.new.self (drop_item c.args.geometries.now c.loop-geometry.geometry-index c.geometry-item.result c.loop-geometry-test.true c.geometry-item.is) c.if-not-branch.true
    (c.in_ok-add_body.ensures)

pub loop-geometry-preserved : goal.loop-geometry-preserved
loop-geometry-preserved c =
    let added = c.in_ok-add_body.ensures in
    record {
      len = added.len ∙ c.loop-geometry.invariant.len;
      rest = loop_on c.args.table.now lines_of rings_of (λ g. body_lines g.body) (λ g. body_rings g.body) (λ x xs. refl) (λ x xs. refl) c.args.geometries.now (drop c.loop-geometry.geometry-index c.args.geometries.now) c.args.self.now c.loop-geometry.self
          c.loop-geometry.invariant.rest c.geometry-item.result (drop (c.loop-geometry.geometry-index + 1) c.args.geometries.now) c.in_ok-add_body.field-0 c.add_body.new.self (drop_item c.args.geometries.now c.loop-geometry.geometry-index c.geometry-item.result c.loop-geometry-test.true c.geometry-item.is) c.if-not-branch.false added;
    }

pub returns : goal.returns
returns c =
    loop_done c.args.table.now lines_of rings_of (λ g. body_lines g.body) (λ g. body_rings g.body) (λ x xs. refl) (λ x xs. refl) c.args.geometries.now (drop c.loop-geometry.geometry-index c.args.geometries.now) c.args.self.now c.loop-geometry.self
    c.loop-geometry.invariant.rest (drop_all c.loop-geometry.geometry-index c.args.geometries.now c.loop-geometry-test.false) refl refl
