-- Where the first list begins with the second, they are the same as far as the second goes.
use Rattle.std.proofs.Common.{rules, ◌≡◌, ◌++◌, length, take, drop, ap, ◌∙◌, le_refl, arith}
use Rattle.std.proofs.lemmas.Bool.Decides.{Decides-eqb}
use Rattle.std.proofs.lemmas.List.{take-append-le}
use Rattle.std.proofs.lemmas.Slice.Eq.{starts_is}
use Rattle.topo_io.proofs.same.common.Goals as goal

pub returns-then-starts_with : goal.returns-then-starts_with
returns-then-starts_with c =
    let a = c.args.a.now in
    let b = c.args.b.now in
    let whole : a ≡ b ++ drop (length b) a = (starts_is Decides-eqb a b c.starts_with.result c.starts_with.ensures.value).0 c.if-starts_with.true in
    record {
      left = search rules;
      right = le_refl (length b);
      same = ap (take (length b)) whole ∙ take-append-le (length b) b (drop (length b) a) (le_refl (length b));
      other = λ p q. absurd (omega arith);
    }
