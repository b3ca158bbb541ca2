use Rattle.topo.specs.BodyLists.{body_lines, body_rings}
use Rattle.validate.proofs.AcceptLemmas.Adding.{lines_not, rings_behind}
use Rattle.validate.proofs.accept.lists.ListsSeen.add_body.Goals as goal

pub returns-then-not-branch : goal.returns-then-not-branch
returns-then-not-branch c =
    lines_not c.args.table.now (body_lines c.args.body.now) (body_rings c.args.body.now) c.in_ok-add_lines.field-0 c.args.self.now c.add_lines.new.self c.if-not-branch.true c.in_ok-add_lines.ensures

pub returns : goal.returns
returns c =
    rings_behind c.args.table.now (body_lines c.args.body.now) (body_rings c.args.body.now) c.in_ok-add_lines.field-0 c.add_rings.result c.args.self.now c.add_lines.new.self c.add_rings.new.self
    c.if-not-branch.false c.in_ok-add_lines.ensures c.add_rings.ensures
