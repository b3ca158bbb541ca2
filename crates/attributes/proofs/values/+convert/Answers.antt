use Rattle.std.proofs.Common.{◌≡◌, ◌∙◌, ◌+◌, ◌-◌, ◌∷◌, true, false, drop, get_or, sym, ap, subst, arith}
use Rattle.std.proofs.lemmas.List.{drop_all, drop_more}
use Rattle.std.specs.Prelude.{is_some}
use Rattle.json.specs.Value.{items_view as json_items, members_view as json_members, value_view}
use Rattle.serde_json.specs.Find.{get_member}
use Rattle.serde_json.specs.View.{members_view, view}
use Rattle.attributes.specs.Attributes.{counted}
use Rattle.attributes.specs.Values.{items_of, items_reals, members_of, members_reals, reals_of}
use Rattle.attributes.proofs.Loops.{before, before_none, counted_before, item_next, kept, kept_reals, skipped, skipped_reals}
use Rattle.attributes.proofs.values.+convert.Goals as goal

pub convert_items-loop-item-preserved : goal.convert_items-loop-item-preserved
convert_items-loop-item-preserved t c =
    let l = c.loop-item in
    let xs = c.args.items.now.items in
    let i = l.item-index in
    let x = c.item-item.result in
    let v = c.in_ok-convert.field-0 in
    let rest = items_of c.args.rule (json_items (drop (i + 1) xs)) in
    let whole = items_of c.args.rule (json_items xs) in
    let front : drop i xs ≡ x ∷ drop (i + 1) xs = drop_more xs i x (omega arith) ∙ ap (λ y. y ∷ drop (i + 1) xs) (sym (c.item-item.is ∙ ap (λ ys. get_or ys i x) c.deref-item-items.ensures.value)) in
    record {
      made = ap (λ vs. before vs rest) c.in_ok-push.ensures.items ∙ item_next c.args.rule l.made.items v x (drop (i + 1) xs) whole c.in_ok-convert.ensures.made
          (subst (λ ys. before l.made.items (items_of c.args.rule (json_items ys)) ≡ whole) front l.invariant.made);
      reals = counted_before l.reals c.convert.new.reals (items_reals c.args.rule (json_items (drop (i + 1) xs))) (reals_of c.args.rule (value_view x)) c.in_ok-convert.ensures.reals
          ∙ subst (λ ys. counted (l.reals + items_reals c.args.rule (json_items ys)) ≡ counted (c.args.reals.now + items_reals c.args.rule (json_items xs))) front l.invariant.reals;
    }

pub convert_items-returns-clause-made : goal.convert_items-returns-clause-made
convert_items-returns-clause-made t c =
    let l = c.loop-item in
    let xs = c.args.items.now.items in
    sym (before_none l.made.items) ∙ sym (ap (λ ys. before l.made.items (items_of c.args.rule (json_items ys))) (drop_all l.item-index xs (omega arith))) ∙ l.invariant.made

pub convert_members-loop-left-preserved-in-Continue-branch-2 : goal.convert_members-loop-left-preserved-in-Continue-branch-2
convert_members-loop-left-preserved-in-Continue-branch-2 t c =
    let l = c.loop-left in
    let xs = c.args.members.now.items in
    let ss = c.args.scales.now in
    let i = l.left - 1 in
    let m = c.index-member.result.now in
    let next : i + 1 ≡ l.left = omega arith in
    let front : drop i xs ≡ m ∷ drop l.left xs = drop_more xs i m (omega arith) ∙ ap (λ y. y ∷ drop (i + 1) xs) (sym c.index-member.ensures) ∙ ap (λ k. m ∷ drop k xs) next in
    let absent : is_some (get_member m.0.now (members_view l.made.entries)) ≡ false = grind arith in
    let behind = json_members (drop l.left xs) in
    record {
      within = omega (arith, l.invariant.within);
      made = c.in_ok-put.ensures.ok ∙ kept c.args.rule ss m.0.now (value_view m.1) behind (members_view l.made.entries) l.invariant.made (view c.in_ok-value.value) absent c.in_ok-value.ensures.made
          ∙ sym (ap (λ ys. members_of c.args.rule ss (json_members ys)) front);
      reals = kept_reals c.args.rule ss m.0.now (value_view m.1) behind (members_view l.made.entries) l.invariant.made c.args.reals.now l.reals c.convert_member.new.reals absent l.invariant.reals c.in_ok-value.ensures.reals
          ∙ sym (ap (λ ys. counted (c.args.reals.now + members_reals c.args.rule ss (json_members ys))) front);
    }

pub convert_members-loop-left-preserved : goal.convert_members-loop-left-preserved
convert_members-loop-left-preserved t c =
    let l = c.loop-left in
    let xs = c.args.members.now.items in
    let ss = c.args.scales.now in
    let i = l.left - 1 in
    let m = c.index-member.result.now in
    let next : i + 1 ≡ l.left = omega arith in
    let front : drop i xs ≡ m ∷ drop l.left xs = drop_more xs i m (omega arith) ∙ ap (λ y. y ∷ drop (i + 1) xs) (sym c.index-member.ensures) ∙ ap (λ k. m ∷ drop k xs) next in
    let there : is_some (get_member m.0.now (members_view l.made.entries)) ≡ true = grind arith in
    let behind = json_members (drop l.left xs) in
    record {
      within = omega (arith, l.invariant.within);
      made = skipped c.args.rule ss m.0.now (value_view m.1) behind (members_view l.made.entries) l.invariant.made there ∙ sym (ap (λ ys. members_of c.args.rule ss (json_members ys)) front);
      reals = skipped_reals c.args.rule ss m.0.now (value_view m.1) behind (members_view l.made.entries) l.invariant.made c.args.reals.now l.reals there l.invariant.reals
          ∙ sym (ap (λ ys. counted (c.args.reals.now + members_reals c.args.rule ss (json_members ys))) front);
    }
