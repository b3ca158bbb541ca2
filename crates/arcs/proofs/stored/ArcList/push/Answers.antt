use Rattle.std.proofs.Common.{◌≡◌, ◌++◌, ◌∷◌, [], length, nat_eq, ap, sym, ◌∙◌, subst}
use Rattle.std.specs.Map.{keys_of, values_of}
use Rattle.indexmap.specs.IndexMap.{insert_entry}
use Rattle.arcs.specs.Stored.{AreBelow}
use Rattle.arcs.proofs.Numbered.{pushed, values_pushed, below_pushed}
use Rattle.arcs.proofs.stored.ArcList.push.Goals as goal

pub invariant_of-self : goal.invariant_of-self
invariant_of-self c = subst (λ es. AreBelow (keys_of es)) (sym c.in_err-insert.ensures.err) c.self.invariant

pub invariant_of-self-2 : goal.invariant_of-self-2
invariant_of-self-2 c =
    let es = c.self.inside.arcs.entries in
    let e : c.insert.new.self.entries ≡ es ++ ((length es, c.args.arc) ∷ []) =
    c.in_ok-insert.ensures.entries ∙ ap (λ n. insert_entry nat_eq es n c.args.arc) c.len-number.ensures.len ∙ pushed es c.args.arc c.self.invariant in
    subst (λ w. AreBelow (keys_of w)) (sym e) (below_pushed es c.args.arc c.self.invariant)

pub returns : goal.returns
returns c =
    let es = c.self.inside.arcs.entries in
    let e : c.insert.new.self.entries ≡ es ++ ((length es, c.args.arc) ∷ []) =
    c.in_ok-insert.ensures.entries ∙ ap (λ n. insert_entry nat_eq es n c.args.arc) c.len-number.ensures.len ∙ pushed es c.args.arc c.self.invariant in
    ap values_of e ∙ values_pushed es (length es) c.args.arc ∙ ap (λ w. w ++ (c.args.arc ∷ [])) c.self.view_is
