use Rattle.std.proofs.Common.{rules, ◌≡◌, ◌∙◌, ap, refl, sym, is_some, inl, true}
use Rattle.theory.specs.ArcNumbers.{flipped}
use Rattle.split_heal.specs.PseudoNodes.{partner_in}
use Rattle.split_heal.proofs.WalkedRuns.{some_there}
use Rattle.split_heal.proofs.walking.Walker.add_single.Goals as goal

pub returns-then-is_some : goal.returns-then-is_some
returns-then-is_some c =
    let e : c.partner.result ≡ partner_in c.args.meeting.now (flipped c.args.from) = c.partner.ensures ∙ ap (partner_in c.args.meeting.now) c.flip.ensures in
    let k : is_some c.partner.result ≡ true = search rules in
    inl (some_there (partner_in c.args.meeting.now (flipped c.args.from)) (ap is_some (sym e) ∙ k), refl, refl)
