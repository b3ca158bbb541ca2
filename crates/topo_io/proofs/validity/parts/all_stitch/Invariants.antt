use Rattle.std.proofs.Common.{◌≡◌, ◌↔◌, []}
use Rattle.std.specs.List.{AllByRecursion}
use Rattle.topo_io.specs.Validity.{used_faults}
use Rattle.topo_io.proofs.validity.parts.all_stitch.Given as goal

abbrev pub invariant-loop-used : goal.invariant-loop-used
invariant-loop-used l =
    AllByRecursion (λ used. used_faults l.fn.lists.arcs.now l.fn.kind used ≡ []) l.used-iterator
    ↔ AllByRecursion (λ used. used_faults l.fn.lists.arcs.now l.fn.kind used ≡ []) l.fn.refs
