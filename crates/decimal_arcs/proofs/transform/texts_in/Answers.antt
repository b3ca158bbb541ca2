use Rattle.std.proofs.Common.{ap, ◌∙◌, option_map}
use Rattle.decimal_arcs.proofs.Numerals.{few_texts, no_first, no_second, two_texts}
use Rattle.decimal_arcs.proofs.transform.texts_in.Goals as goal

pub returns-then-values-lt2 : goal.returns-then-values-lt2
returns-then-values-lt2 c = few_texts c.args.values.now c.if-values-lt2.true

pub returns-in_err-as_number : goal.returns-in_err-as_number
returns-in_err-as_number c =
    ap (option_map _) c.from_residual.ensures ∙ no_first c.args.values.now c.index-values-0.result c.if-values-lt2.false c.index-values-0.is c.in_err-as_number.ensures

pub returns-in_err-as_number-2 : goal.returns-in_err-as_number-2
returns-in_err-as_number-2 c =
    ap (option_map _) c.from_residual-in_err-as_number-2.ensures
    ∙ no_second c.args.values.now c.index-values-0.result c.index-values-1.result _ c.if-values-lt2.false c.index-values-0.is c.index-values-1.is c.in_ok-as_number.ensures c.in_err-as_number-2.ensures

pub returns : goal.returns
returns c =
    two_texts c.args.values.now c.index-values-0.result c.index-values-1.result _ _ c.if-values-lt2.false c.index-values-0.is c.index-values-1.is c.in_ok-as_number.ensures c.in_ok-as_number-2.ensures
