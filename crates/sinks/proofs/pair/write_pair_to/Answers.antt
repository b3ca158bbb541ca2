use Rattle.std.proofs.Common.{◌∷◌, ◌++◌, ap, sym, ◌∙◌, append_assoc, [], drop, to_z-of_z}
use Rattle.std.specs.Fmt.{signed_decimal}
use Rattle.sinks.proofs.pair.write_pair_to.Goals as goal

pub returns-clause-written : goal.returns-clause-written
returns-clause-written c =
    let behind = drop c.args.end c.args.bytes.now in
    rw (
      c.write_byte.ensures.written,
      c.write_number-first.ensures.written,
      c.write_byte-middle.ensures.written,
      c.write_number-comma.ensures.written,
      c.write_byte-last.ensures.written,
      to_z-of_z c.ranges.x,
      to_z-of_z c.ranges.y,
    )
    (ap (λ t. 91 ∷ t) (sym (append_assoc (signed_decimal c.args.x ++ (44 ∷ signed_decimal c.args.y)) (93 ∷ []) behind
    ∙ append_assoc (signed_decimal c.args.x) (44 ∷ signed_decimal c.args.y) (93 ∷ behind))))
