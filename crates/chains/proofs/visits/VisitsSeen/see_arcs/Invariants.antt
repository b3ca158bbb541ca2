use Rattle.std.proofs.Common.{◌≡◌, ◌++◌, [], cond, map}
use Rattle.std.specs.List.{list_any}
use Rattle.theory.specs.Lists.{gathered}
use Rattle.arcs.specs.Extents.{within}
use Rattle.chains.specs.OfArcs.{arc_ends}
use Rattle.chains.specs.VertexFilter.{arc_meets, arc_shared, may_hold, meets, met_visits}
use Rattle.chains.specs.Visits.{HaveSame, ends_of}
use Rattle.chains.specs.Noted.{visits_recorded}
use Rattle.chains.proofs.visits.VisitsSeen.see_arcs.Given as goal

abbrev pub invariant-loop-arc : goal.invariant-loop-arc
invariant-loop-arc l = record {
  near : l.left ≡ map (λ a. list_any (within l.fn.other.extent) a.0) l.arc-iterator;
  ends : l.self.ends.items ++ gathered (λ a. cond a.1 [] (ends_of a.0)) l.arc-iterator ≡ l.fn.self.ends.items ++ gathered (arc_ends l.fn.table.loops) l.fn.table.arcs;
  visits :
      HaveSame (visits_recorded l.self ++ gathered (λ a. met_visits (may_hold l.fn.other) a.1 a.0) l.arc-iterator)
      (visits_recorded l.fn.self ++ gathered (arc_shared (may_hold l.fn.other) l.fn.table.loops) l.fn.table.arcs);
  marks :
      l.marks.items ++ map (λ a. meets (may_hold l.fn.other) a.1 a.0) l.arc-iterator
      ≡ map (arc_meets (may_hold l.fn.other) l.fn.table.loops) l.fn.table.arcs;
}
