use Rattle.std.proofs.Common.{[], ◌↔◌, ◌⊎◌, OnOk, ap, subst, unwrap_or}
use Rattle.grid.specs.declared.pos.Pos.{Pos}
use Rattle.query.specs.Ends.{AmongEnds, EndStep}
use Rattle.query.proofs.ends.add_numbered_arc.Goals as goal

pub returns-in-Some : goal.returns-in-Some
returns-in-Some c =
    subst (λ l. OnOk c.add_ends.result ((v w : Pos) → AmongEnds v w c.add_ends.new.ends.items ↔ (AmongEnds v w c.args.ends.now.items ⊎ EndStep v w l)))
    (ap (λ o. unwrap_or o []) c.in-Some.ensures) c.add_ends.ensures
