use Rattle.std.proofs.Common.{◌≡◌, ◌∙◌, Bool, List, ap, false, length, replicate, sym, true}
use Rattle.theory.specs.ArcNumbers.{ArcRef}
use Rattle.arcs.specs.ArcMarks.{marks_set}
use Rattle.arcs.proofs.SetMarks.{marks_back, marks_set_long}
use Rattle.validate.proofs.used_arcs.ArcsUsed.add.Goals as goal

-- after a list is added no mark of it is left
added : (used now here one back : List Bool) (us : List ArcRef) → here ≡ replicate (length used) false → now ≡ marks_set true used us →
    one ≡ marks_set true here us → back ≡ marks_set false one us → back ≡ replicate (length now) false
added used now here one back us h n o b =
    b
    ∙ ap (λ w. marks_set false w us) (o ∙ ap (λ w. marks_set true w us) h)
    ∙ marks_back (length used) us
    ∙ sym (ap (λ w. replicate w false) (ap length n ∙ marks_set_long true used us))

pub invariant_of-self : goal.invariant_of-self
invariant_of-self c =
    added c.self.inside.used c.set_each.new.self c.self.inside.here c.set_each-once.new.self c.clear_each.new.self c.args.refs.now
    c.self.invariant c.set_each.ensures.after c.set_each-once.ensures.after c.clear_each.ensures
