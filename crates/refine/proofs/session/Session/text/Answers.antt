use Rattle.std.proofs.Common.{◌∙◌, ap, sym, subst}
use Rattle.std.proofs.lemmas.Result.{IfOk-weaker}
use Rattle.shapes.specs.Fitting.{MapFits}
use Rattle.topo_io.specs.Canon.{canon}
use Rattle.topo_io.specs.Means.{Means}
use Rattle.refine.proofs.session.Session.text.Goals as goal

pub returns-clause-text : goal.returns-clause-text
returns-clause-text c = IfOk-weaker c.text.result _ _ (λ t is. is ∙ ap (λ s. canon s.grid s.map) c.self.view_is) c.text.ensures.text

pub returns-clause-accepted : goal.returns-clause-accepted
returns-clause-accepted c =
    IfOk-weaker c.text.result _ _
    (λ t is fits. subst (λ s. Means t.items s.grid s.map) c.self.view_is (is (subst (λ s. MapFits s.grid s.map) (sym c.self.view_is) fits)))
    c.text.ensures.accepted
