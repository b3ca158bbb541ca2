use Rattle.std.proofs.Common.{◌++◌, ◌∙◌, ap}
use Rattle.theory.specs.Lists.{gathered}
use Rattle.theory.specs.Topology.{forms_of}
use Rattle.chains.specs.Seen.{geometry_of, seen}
use Rattle.chains.specs.Index.{form_ends, form_visits}
use Rattle.chains.specs.Noted.{visits_recorded}
use Rattle.chains.proofs.Sharing.{keeps_all}
use Rattle.chains.proofs.Gathered.{visits_are}
use Rattle.chains.proofs.Same.{same_equal, same_trans}
use Rattle.chains.proofs.visits.VisitIndex.of.Goals as goal

pub returns : goal.returns
returns c =
    let m = c.args.map.now in
    c.in_ok-index.ensures (geometry_of m) _ (keeps_all (visits_recorded c.see_layers.new.self))
    (visits_are m c.see_layers.new.self.ends.items (visits_recorded c.see_layers.new.self)
    (c.in_ok-see_layers.ensures.ends ∙ ap (λ ends. ends ++ gathered form_ends (forms_of (seen m))) c.in_ok-seen.ensures.ends)
    (same_trans c.in_ok-see_layers.ensures.visits (same_equal (ap (λ visits. visits ++ gathered form_visits (forms_of (seen m))) c.in_ok-seen.ensures.visits))))
