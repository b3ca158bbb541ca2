use Rattle.std.proofs.Common.{◌≡◌, ℕ, ℤ, ◌+◌, ◌<◌, true, false, length, get_or, drop, List, [], ◌∷◌, ◌++◌, if◌then◌else◌, refl, sym, ap, ◌∙◌, subst, append_assoc, append-nil}
use Rattle.std.proofs.lemmas.List.{drop_more, drop_all}
use Rattle.grid.specs.declared.pos.Pos.{Pos}
use Rattle.decimals.specs.Topology.QuantizedAxis.{AreFew}
use Rattle.decimals.specs.Topology.Quantizing.{are_same, numbers_on, step, steps_from}
use Rattle.decimals.proofs.topology.quantizer.Quantizer.add_steps.Goals.{then-not-are_same+in_ok-push, else-not-are_same}
use Rattle.decimals.proofs.topology.quantizer.Quantizer.add_steps.Goals as goal

abbrev Numbers : Type 0
Numbers = ℤ × ℤ

module _ (f : Pos → Numbers) (os : List Pos) (i : ℕ) (p : Pos) (less : i < length os) (is : p ≡ get_or os i p) (b h : Numbers) (at : h ≡ f p) (ss all : List Numbers) (so_far : ss ++ steps_from f b (drop i os) ≡ all) where
  next : steps_from f b (drop i os) ≡ if are_same b h then steps_from f b (drop (i + 1) os) else (step b h ∷ steps_from f h (drop (i + 1) os))
  next =
      ap (steps_from f b) (drop_more os i p less ∙ ap (λ q. q ∷ drop (i + 1) os) (sym is))
      ∙ ap (λ n. if are_same b n then steps_from f b (drop (i + 1) os) else (step b n ∷ steps_from f n (drop (i + 1) os))) (sym at)

  none_added : true ≡ are_same b h → ss ++ steps_from f b (drop (i + 1) os) ≡ all
  none_added same = ap (λ l. ss ++ l) (sym (next ∙ ap (λ t. if t then steps_from f b (drop (i + 1) os) else (step b h ∷ steps_from f h (drop (i + 1) os))) (sym same))) ∙ so_far

  one_added : (s : Numbers) (now : List Numbers) → false ≡ are_same b h → s ≡ step b h → now ≡ ss ++ s ∷ [] → now ++ steps_from f h (drop (i + 1) os) ≡ all
  one_added s now differ one put =
      ap (λ l. l ++ steps_from f h (drop (i + 1) os)) (put ∙ ap (λ t. ss ++ t ∷ []) one) ∙ append_assoc ss (step b h ∷ []) _
      ∙ ap (λ l. ss ++ l) (sym (next ∙ ap (λ t. if t then steps_from f b (drop (i + 1) os) else (step b h ∷ steps_from f h (drop (i + 1) os))) (sym differ))) ∙ so_far

pub loop-position-init : goal.loop-position-init
loop-position-init c = record { few = c.requires; steps = refl }

pub loop-position-preserved : goal.loop-position-preserved
loop-position-preserved c =
    let f = numbers_on c.args.self.now in
    let os = c.args.others.now in
    let i = c.loop-position.position-index in
    record {
      few = elim c.if-not-are_same.branch [
        | then-not-are_same+in_ok-push w ↦ subst AreFew (sym w.before-is) c.numbers-here.ensures.few
        | else-not-are_same w ↦ subst AreFew (sym w.before-is) c.loop-position.invariant.few
      ];
      steps = elim c.if-not-are_same.branch [
        | then-not-are_same+in_ok-push w ↦
            (λ k. (w.steps-is k).items ++ steps_from f (w.before-is k) (drop (i + 1) os))
            ∙ one_added f os i c.position-item.result c.loop-position-test.true c.position-item.is c.loop-position.before c.numbers-here.result c.numbers-here.ensures.value c.loop-position.steps.items _ c.loop-position.invariant.steps
            w.step.result _ w.if-not-are_same.ensures w.step.ensures w.in_ok-push.ensures.items
        | else-not-are_same w ↦
            (λ k. (w.steps-is k).items ++ steps_from f (w.before-is k) (drop (i + 1) os))
            ∙ none_added f os i c.position-item.result c.loop-position-test.true c.position-item.is c.loop-position.before c.numbers-here.result c.numbers-here.ensures.value c.loop-position.steps.items _ c.loop-position.invariant.steps
            w.if-not-are_same.ensures
      ];
    }

pub returns : goal.returns
returns c =
    let f = numbers_on c.args.self.now in
    sym (append-nil c.loop-position.steps.items) ∙ ap (λ os. c.loop-position.steps.items ++ steps_from f c.loop-position.before os) (sym (drop_all c.loop-position.position-index c.args.others.now c.loop-position-test.false)) ∙ c.loop-position.invariant.steps
