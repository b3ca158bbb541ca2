-- The names so far, with those that are left, are all.
use Rattle.std.proofs.Common.{◌≡◌, ◌++◌, drop, map}
use Rattle.noshinka.proofs.back_options.names_among.Given as goal

abbrev pub invariant-loop-property : goal.invariant-loop-property
invariant-loop-property l = map (λ n. n.now) l.names.items ++ map (λ p. p.now) (drop l.property-index l.fn.properties) ≡ map (λ p. p.now) l.fn.properties
