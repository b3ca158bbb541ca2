use Rattle.std.proofs.Common.{true≢false, sym}
use Rattle.std.specs.Str.{IsCharBoundary}
use Rattle.attributes.proofs.Cut.{boundary}
use Rattle.attributes.proofs.numeral.spell.Goals as goal

pub returns-in-None : goal.returns-in-None
returns-in-None c =
    let kept : IsCharBoundary c.args.text.now c.without_point-kept.result =
    rw (c.without_point-kept.ensures.value, c.without_zeros.ensures.value, c.as_bytes-bytes.ensures.value) (boundary c.args.text.now) in
    absurd (true≢false (sym (c.in-None.ensures.variant.1 kept)))
