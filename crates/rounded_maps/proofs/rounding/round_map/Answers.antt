use Rattle.std.proofs.Common.{◌≡◌, ℕ, ◌+◌, ◌∙◌, List, [], ◌++◌, ap, append_assoc, drop, get_or, refl, subst, sym}
use Rattle.std.specs.Borrow.{Bor}
use Rattle.faults.specs.Path.{index}
use Rattle.reading.specs.Fault.{under}
use Rattle.rounded_maps.specs.Fixed.{AreFixed}
use Rattle.rounded_maps.specs.Rounded.{AreRead, texts_faults}
use Rattle.rounded_maps.specs.Sequences.{texts_in}
use Rattle.rounded_maps.proofs.Faultless.{are_left, no_faults, text_sound}
use Rattle.rounded_maps.proofs.Fixing.{with_more}
use Rattle.rounded_maps.proofs.Placed.{placed}
use Rattle.rounded_maps.proofs.Reading.{next_text, rounded_texts, texts_at}
use Rattle.rounded_maps.proofs.rounding.round_map.Goals as goal

pub loop-number-init : goal.loop-number-init
loop-number-init c =
    let rules = c.args.rules.now in
    record {
      raws = [];
      fixed = record {
        features = subst (AreFixed rules.fixing rules.numbers 1 []) (sym c.new-map.ensures.features) tt;
        tally = c.new-map.ensures.tally;
        reals = c.new-map.ensures.reals;
      };
      read = λ more h. h;
      clean = refl;
    }

pub loop-number-preserved : goal.loop-number-preserved
loop-number-preserved c =
    let rules = c.args.rules.now in
    let n = c.loop-number.number in
    let items = c.deref-text-items.result.now in
    let all = texts_at items in
    let none : Bor (List ℕ) = record { ref_ptr = (0, 0); now = [] } in
    let t = (get_or items n none).now in
    let split = next_text items n (n + 1) none refl c.loop-number-test.true in
    let (raws, read, more) = c.in-Ok-add_text.ensures.more in
    let inv = c.loop-number.invariant in
    record {
      raws = inv.raws ++ raws;
      fixed = with_more rules.fixing rules.numbers inv.raws raws c.loop-number.map c.add_text.new.map inv.fixed more;
      read = λ others h.
          subst (AreRead rules.map all) (sym (append_assoc inv.raws raws others))
          (inv.read (raws ++ others) (subst (λ ts. AreRead rules.map ts (raws ++ others)) (sym split) (raws, (others, (refl, (read, h))))));
      clean = inv.clean ∙ ap (texts_faults rules n) split
          ∙ ap (λ ps. under (index n) ps ++ texts_faults rules (n + 1) (drop (n + 1) all))
          (text_sound rules t raws c.size-step.ensures.limits read (are_left rules.fixing rules.numbers _ raws more.more more.fixed));
    }

pub returns-in-Err-clause-err : goal.returns-in-Err-clause-err
returns-in-Err-clause-err c =
    let n = c.loop-number.number in
    let items = c.deref-text-items.result.now in
    let none : Bor (List ℕ) = record { ref_ptr = (0, 0); now = [] } in
    let is : texts_at items ≡ texts_in c.args.is_sequence c.args.bytes.now = ap texts_at c.deref-text-items.ensures.value ∙ c.in-Ok.ensures in
    placed c.args.rules.now c.args.is_sequence c.args.bytes.now (texts_at items) n (get_or items n none).now (drop (n + 1) (texts_at items)) c.in-Err.fault c.place_fault.result
    is (next_text items n (n + 1) none refl c.loop-number-test.true) c.loop-number.invariant.clean c.in-Err.ensures.err c.place_fault.ensures.sequence c.place_fault.ensures.text

pub returns-clause-made : goal.returns-clause-made
returns-clause-made c =
    let items = c.deref-text-items.result.now in
    let is : texts_at items ≡ texts_in c.args.is_sequence c.args.bytes.now = ap texts_at c.deref-text-items.ensures.value ∙ c.in-Ok.ensures in
    let inv = c.loop-number.invariant in
    rounded_texts c.args.rules.now c.args.is_sequence c.args.bytes.now items c.loop-number.number c.loop-number.map inv.raws is c.loop-number-test.false inv.fixed inv.read

pub returns-clause-ok : goal.returns-clause-ok
returns-clause-ok c =
    let items = c.deref-text-items.result.now in
    let is : texts_at items ≡ texts_in c.args.is_sequence c.args.bytes.now = ap texts_at c.deref-text-items.ensures.value ∙ c.in-Ok.ensures in
    let inv = c.loop-number.invariant in
    no_faults c.args.rules.now c.args.is_sequence c.args.bytes.now c.loop-number.map c.size-step.ensures.limits
    (rounded_texts c.args.rules.now c.args.is_sequence c.args.bytes.now items c.loop-number.number c.loop-number.map inv.raws is c.loop-number-test.false inv.fixed inv.read)
