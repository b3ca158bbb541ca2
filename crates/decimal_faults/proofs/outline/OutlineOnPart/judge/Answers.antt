use Rattle.std.proofs.Common.{◌≡◌, [], ◌∷◌, List, true, false, IfOk, sym, ◌∙◌, ap, subst, refl}
use Rattle.json.specs.Value.{value_view}
use Rattle.faults.specs.Fault.{Pair}
use Rattle.reading.specs.Fault.{unless_faulty}
use Rattle.reading.specs.FaultLists.Found.{is_full, pairs_of}
use Rattle.reading.specs.declared.fault_lists.found.Wanted.TheVariants.{First}
use Rattle.decimal_faults.proofs.Meant.{outline_is}
use Rattle.decimal_faults.proofs.outline.OutlineOnPart.judge.Goals as goal

no_pairs : (ps : List Pair) → is_full First ps ≡ false → ps ≡ []
no_pairs [] e = refl
no_pairs (p ∷ ps) e = cc

stays : (ps qs fs : List Pair) → fs ≡ ps → is_full First fs ≡ true → fs ≡ unless_faulty ps qs
stays [] qs fs is full = let none = ap (is_full First) is in absurd cc
stays (p ∷ ps) qs fs is full = is

pub returns-then-is_enough : goal.returns-then-is_enough
returns-then-is_enough c =
    let full : is_full First (pairs_of c.in_ok-found.found.items) ≡ true = cc in
    stays _ _ (pairs_of c.in_ok-found.found.items) c.in_ok-found.ensures full

pub returns-in-Ok : goal.returns-in-Ok
returns-in-Ok c =
    let grid = c.args.self.now.grid in
    let j = value_view c.args.value.now in
    let rest : is_full First (pairs_of c.in_ok-found.found.items) ≡ false = cc in
    let none = sym c.in_ok-found.ensures ∙ no_pairs (pairs_of c.in_ok-found.found.items) rest in
    subst (λ ps. IfOk c.judge_outline.result (λ fs. pairs_of fs.items ≡ ps))
    (sym (outline_is grid c.size-size.ensures.limits c.args.fixing.now c.args.self.now.outline j c.in-Ok.made _ _ none c.in-Ok.ensures.made)) c.judge_outline.ensures
