use Rattle.std.proofs.Common.{◌≡◌, ◌++◌, ◌∷◌, ◌∙◌, [], ap, append_assoc, cond, drop, map, sym, Bool, List}
use Rattle.std.specs.List.{list_any}
use Rattle.std.proofs.lemmas.Simd.{map-map}
use Rattle.theory.specs.Lists.{gathered}
use Rattle.arcs.proofs.Marks.{gathered_map}
use Rattle.grid.specs.declared.pos.Pos.{Pos}
use Rattle.arcs.specs.Extents.{within}
use Rattle.arcs.specs.Stored.{first_of}
use Rattle.arcs.specs.Table.{is_loop}
use Rattle.chains.specs.VertexFilter.{may_hold, meets, met_visits}
use Rattle.chains.specs.Visits.{ends_of}
use Rattle.chains.specs.Noted.{visits_recorded}
use Rattle.chains.proofs.Apart.{if_apart}
use Rattle.chains.proofs.Same.{same_equal, same_step}
use Rattle.chains.proofs.visits.VisitsSeen.see_arcs.Goals as goal

pub loop-arc-init : goal.loop-arc-init
loop-arc-init c =
    let t = c.args.table.now in
    let may = may_hold c.args.other.now in
    let near : List Pos → Bool = list_any (within c.args.other.now.extent) in
    let marked : List Pos → List Pos × Bool = λ d. (d, is_loop t.loops d) in
    let first = c.into_iter-arc-iterator.ensures.into_iter_gives ∙ c.with_loops-arc-items.ensures.arcs in
    record {
      near = c.requires ∙ sym (ap (map (λ a. near a.0)) first ∙ map-map (λ a. near a.0) marked t.arcs);
      ends =
          ap (λ w. c.args.self.now.ends.items ++ gathered (λ a. cond a.1 [] (ends_of a.0)) w) first
          ∙ ap (λ w. c.args.self.now.ends.items ++ w) (gathered_map (λ a. cond a.1 [] (ends_of a.0)) marked t.arcs);
      visits = same_equal (
          ap (λ w. visits_recorded c.args.self.now ++ gathered (λ a. met_visits may a.1 a.0) w) first
          ∙ ap (λ w. visits_recorded c.args.self.now ++ w) (gathered_map (λ a. met_visits may a.1 a.0) marked t.arcs));
      marks =
          ap (λ w. w ++ map (λ a. meets may a.1 a.0) c.into_iter-arc-iterator.result) c.in_ok-marks.ensures.items
          ∙ ap (map (λ a. meets may a.1 a.0)) first ∙ map-map (λ a. meets may a.1 a.0) marked t.arcs;
    }

pub loop-arc-preserved : goal.loop-arc-preserved
loop-arc-preserved c =
    let may = may_hold c.args.other.now in
    let arc = c.in-Some.arc.now in
    let free = c.in-Some.free in
    let rest = c.next.new.self in
    let step = c.in-Some.ensures.steps in
    let recorded = visits_recorded c.loop-arc.self in
    let ends = c.loop-arc.self.ends.items in
    let marks = c.loop-arc.marks.items in
    record {
      near = c.first_mark-is_near.ensures.others ∙ ap (drop 1) (c.loop-arc.invariant.near ∙ ap (map (λ a. list_any (within c.args.other.now.extent) a.0)) step);
      ends =
          ap (λ w. w ++ gathered (λ a. cond a.1 [] (ends_of a.0)) rest) c.in_ok-see_arc.ensures.ends
          ∙ append_assoc ends (cond free [] (ends_of arc)) (gathered (λ a. cond a.1 [] (ends_of a.0)) rest)
          ∙ ap (λ w. ends ++ gathered (λ a. cond a.1 [] (ends_of a.0)) w) (sym step)
          ∙ c.loop-arc.invariant.ends;
      visits =
          same_step _ c.in_ok-see_arc.ensures.visits c.loop-arc.invariant.visits
          (ap (λ w. recorded ++ gathered (λ a. met_visits may a.1 a.0) w) step
          ∙ sym (append_assoc recorded (met_visits may free arc) (gathered (λ a. met_visits may a.1 a.0) rest)));
      marks =
          ap (λ w. w ++ map (λ a. meets may a.1 a.0) rest) (c.in_ok-push.ensures.items ∙ ap (λ b. marks ++ (b ∷ [])) c.in_ok-see_arc.ensures.met)
          ∙ append_assoc marks (meets may free arc ∷ []) (map (λ a. meets may a.1 a.0) rest)
          ∙ ap (λ w. marks ++ map (λ a. meets may a.1 a.0) w) (sym step)
          ∙ c.loop-arc.invariant.marks;
    }

pub see_arc-requires : goal.see_arc-requires
see_arc-requires c =
    if_apart c.args.other.now c.in-Some.arc.now c.first_mark-is_near.result.0
    (c.first_mark-is_near.ensures.first
    ∙ ap first_of (c.loop-arc.invariant.near ∙ ap (map (λ a. list_any (within c.args.other.now.extent) a.0)) c.in-Some.ensures.steps))
