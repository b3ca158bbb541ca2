-- The first fault of a file, by those of its texts.
use Rattle.std.proofs.Common.{◌≡◌, ℕ, zero, suc, ◌+◌, ◌<◌, List, [], ◌∷◌, Bool, true, false, Less, ap, arith, drop, refl, subst, sym, ◌∙◌}
use Rattle.std.specs.Cmp.{nat_cmp_is}
use Rattle.faults.specs.Fault.{Lifted}
use Rattle.faults.specs.Path.{index}
use Rattle.faults.specs.declared.fault.Fault.{Fault}
use Rattle.reading.specs.Fault.{LeastOrWant, under}
use Rattle.reading.proofs.Least.{After, after_append, after_none, after_under, lifted}
use Rattle.rounded_maps.specs.Rounded.{faults_under, text_faults, texts_faults}
use Rattle.rounded_maps.specs.Sequences.{texts_in, without_mark}
use Rattle.rounded_maps.specs.declared.rounding.RoundingRules.{RoundingRules}

later : (rules : RoundingRules) (n m : ℕ) → n < m → (texts : List (List ℕ)) → After (index n) (texts_faults rules m texts)
later rules n m less [] = after_none (index n)
later rules n m less (t ∷ ts) =
    after_append (index n) (under (index m) (text_faults rules t)) _ (after_under (index n) (index m) (text_faults rules t) (sym (nat_cmp_is n m Less less))) (later rules n (m + 1) (omega (arith, less)) ts)

only : (w t : List ℕ) (n : ℕ) (rest : List (List ℕ)) → drop n (w ∷ []) ≡ t ∷ rest → t ≡ w
only w t zero rest e = cc
only w t (suc zero) rest e = cc
only w t (suc (suc n)) rest e = cc

-- the first text with faults is that of the number n
pub placed : (rules : RoundingRules) (is_sequence : Bool) (bytes : List ℕ) (all : List (List ℕ)) (n : ℕ) (t : List ℕ) (rest : List (List ℕ)) (fault new : Fault)
    → all ≡ texts_in is_sequence bytes → drop n all ≡ t ∷ rest → texts_faults rules 0 all ≡ texts_faults rules n (drop n all) → LeastOrWant (text_faults rules t) fault
    → (is_sequence ≡ true → Lifted (index n) fault new) → (is_sequence ≡ false → new ≡ fault) → LeastOrWant (faults_under rules is_sequence bytes) new
placed rules true bytes all n t rest fault new is split clean h up same =
    subst (λ ps. LeastOrWant ps new) (sym (ap (texts_faults rules n) split) ∙ sym clean ∙ ap (texts_faults rules 0) is)
    (lifted (index n) (text_faults rules t) (texts_faults rules (n + 1) rest) fault new h (up refl) (later rules n (n + 1) (omega arith) rest))
placed rules false bytes all n t rest fault new is split clean h up same =
    let one = only (without_mark bytes) t n rest (subst (λ l. drop n l ≡ t ∷ rest) is split) in
    subst (λ f. LeastOrWant (text_faults rules (without_mark bytes)) f) (sym (same refl)) (subst (λ w. LeastOrWant (text_faults rules w) fault) one h)
