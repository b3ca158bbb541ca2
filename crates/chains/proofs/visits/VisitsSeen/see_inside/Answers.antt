use Rattle.std.proofs.Common.{◌++◌, ◌∙◌, ◌-◌, ap, sym, append_assoc, drop, length, take, arith}
use Rattle.chains.specs.Noted.{visits_recorded}
use Rattle.chains.specs.Visits.{inner_of}
use Rattle.chains.proofs.RecordedIndexes.{inner_step}
use Rattle.chains.proofs.Same.{same_step}
use Rattle.chains.proofs.visits.VisitsSeen.see_inside.Goals as goal

pub loop-window-preserved : goal.loop-window-preserved
loop-window-preserved c =
    let left = c.loop-window.left.now in
    let rest = inner_of (take (length left - 1) (drop 1 left)) in
    record {
      visits =
          same_step rest c.in_ok-insert.ensures.visits c.loop-window.invariant.visits
          (ap (λ l. visits_recorded c.loop-window.self ++ l) (inner_step left c.in-Some.window.now (omega (arith, c.in-Some.ensures.cases.2)) c.in-Some.ensures.cases.0)
          ∙ sym (append_assoc (visits_recorded c.loop-window.self) (inner_of c.in-Some.window.now) rest));
      ends = c.in_ok-insert.ensures.ends ∙ c.loop-window.invariant.ends;
    }
