use Rattle.std.proofs.Common.{arith, ◌≡◌, ◌++◌, ◌∙◌, ap, sym, map}
use Rattle.std.proofs.lemmas.Grind.{common_steps}
use Rattle.theory.specs.Lists.{gathered}
use Rattle.theory.specs.Topology.{lines_in}
use Rattle.chains.specs.Seen.{form_of, line_of}
use Rattle.chains.specs.Visits.{ends_of, inner_of}
use Rattle.chains.specs.Noted.{visits_recorded}
use Rattle.chains.proofs.Layers.{lines_seen}
use Rattle.chains.proofs.Same.{same_equal, same_step}
use Rattle.chains.proofs.visits.VisitsSeen.see_lines.Goals as goal

pub loop-line-init : goal.loop-line-init
loop-line-init c =
    let first : map line_of c.into_iter-line-iterator.result ≡ lines_in (form_of c.args.shape.now) = ap (map line_of) (c.into_iter-line-iterator.ensures.into_iter_gives ∙ c.lines-line-items.ensures) ∙ sym (lines_seen c.args.shape.now) in
    record {
      ends = ap (λ ls. c.args.self.now.ends.items ++ gathered ends_of ls) first;
      visits = same_equal (ap (λ ls. visits_recorded c.args.self.now ++ gathered inner_of ls) first);
    }

pub loop-line-preserved : goal.loop-line-preserved
loop-line-preserved c = record {
  ends = grind (arith, common_steps);
  visits = same_step _ c.in_ok-see_line.ensures.visits c.loop-line.invariant.visits (grind (arith, common_steps));
}
