use Rattle.std.proofs.Common.{rules}
use Rattle.std.proofs.lemmas.Fn.{always_returns_same}
use Rattle.std.specs.Cmp.Lexicographic.{slice_cmp}
use Rattle.std.specs.Ordering.{nat_cmp}
use Rattle.compare.specs.Compared.{name_of}
use Rattle.compare.proofs.Named.{number_by_code}
use Rattle.compare.proofs.comparison.number_named.Goals as goal

pub returns : goal.returns
returns c = λ s.
    number_by_code c.args.layers.now c.args.name.now _ _ c.ok.ensures.value c.binary_search_by.ensures.bound
    (c.binary_search_by.ensures.position (λ l. slice_cmp nat_cmp (name_of l) c.args.name.now) (always_returns_same _ _ _ (λ a r g h. (search rules, search rules)))) s
