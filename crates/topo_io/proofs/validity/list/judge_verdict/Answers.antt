use Rattle.std.proofs.Common.{◌∙◌, ap, subst, sym}
use Rattle.faults.specs.declared.fault.FaultKind.TheVariants.{Broken}
use Rattle.reading.specs.Fault.{here}
use Rattle.reading.proofs.Least.{only_of}
use Rattle.normalize.specs.ArcLists.Lists.{IsListVerdict}
use Rattle.topo_io.specs.Validity.{fault_of, used_faults}
use Rattle.topo_io.proofs.JudgedLists.{broken_list, faulty_list, sound_list}
use Rattle.topo_io.proofs.validity.list.judge_verdict.Goals as goal

pub returns-in-Sound-clause-ok : goal.returns-in-Sound-clause-ok
returns-in-Sound-clause-ok c =
    let arcs = c.args.lists.now.arcs.now in
    sound_list arcs c.args.kind c.args.used.now (subst (IsListVerdict (fault_of c.args.kind) arcs c.args.used.now) c.in-Sound.is c.requires)

pub returns-in-Broken-clause-err : goal.returns-in-Broken-clause-err
returns-in-Broken-clause-err c =
    let arcs = c.args.lists.now.arcs.now in
    only_of Broken (used_faults arcs c.args.kind c.args.used.now) c.here.result c.here.ensures
    (broken_list arcs c.args.kind c.args.used.now (subst (IsListVerdict (fault_of c.args.kind) arcs c.args.used.now) c.in-Broken.is c.requires))

pub returns-in-Faulty-clause-err : goal.returns-in-Faulty-clause-err
returns-in-Faulty-clause-err c =
    let arcs = c.args.lists.now.arcs.now in
    only_of c.kind_of.result (used_faults arcs c.args.kind c.args.used.now) c.here-in-Faulty.result c.here-in-Faulty.ensures
    (faulty_list arcs c.args.kind c.args.used.now c.in-Faulty.fault (subst (IsListVerdict (fault_of c.args.kind) arcs c.args.used.now) c.in-Faulty.is c.requires)
    ∙ ap here (sym c.kind_of.ensures))
