-- What is left of a line or polygon by its lists, as lines and rings.
use Rattle.std.proofs.Common.{◌≡◌, ◌≢◌, List, sym, ap, ◌∙◌, Some, None}
use Rattle.std.specs.Option.{option_map}
use Rattle.grid.specs.declared.pos.Pos.{Pos}
use Rattle.theory.specs.Lists.{Each}
use Rattle.lines.specs.Reading.{collapsed, line_fault}
use Rattle.lines.specs.Turned.{position_cmp}
use Rattle.lines.specs.declared.shape_fault.ShapeFault.{ShapeFault}
use Rattle.lines.specs.declared.shape_fault.ShapeFault.TheVariants as fault
use Rattle.fixing.specs.Left.{left_by, line_left, need_of}
use Rattle.fixing.specs.Runs.{runs_of}
use Rattle.fixing.specs.declared.linework.Fix.{Fix}
use Rattle.fixing.specs.declared.rules.FixingRules.{FixingRules}
use Rattle.fixing.proofs.ProvedLaws.{lines_left_are_sound}

module _ (rules : FixingRules) (l : List Pos) where
  -- what is left of a line that has a fault
  left_of_faulty : (f : ShapeFault) (need : Fix) (lists : List (List Pos)) → (f ≢ fault.OutOfMemory → line_fault position_cmp l ≡ Some f) →
      need_of rules (Some f) ≡ Some need → lists ≡ left_by need l (runs_of (collapsed position_cmp l)) → line_left rules l ≡ Some lists
  left_of_faulty f need lists is n e =
      ap (λ o. option_map (λ need. left_by need l (runs_of (collapsed position_cmp l))) (need_of rules o)) (is (no_want f n))
      ∙ ap (option_map (λ need. left_by need l (runs_of (collapsed position_cmp l)))) n ∙ ap Some (sym e)
    where
      no_want : (f : ShapeFault) → need_of rules (Some f) ≡ Some need → f ≢ fault.OutOfMemory
      no_want fault.TooShort n k = cc
      no_want fault.NotClosed n k = cc
      no_want fault.Revisit n k = cc
      no_want fault.OutOfMemory n k = cc

  pub lists_are_lines : (f : ShapeFault) (need : Fix) (lists : List (List Pos)) → (f ≢ fault.OutOfMemory → line_fault position_cmp l ≡ Some f) →
      need_of rules (Some f) ≡ Some need → lists ≡ left_by need l (runs_of (collapsed position_cmp l)) → Each (λ l. line_fault position_cmp l ≡ None) lists
  lists_are_lines f need lists is n e = lines_left_are_sound rules l lists (left_of_faulty f need lists is n e)
