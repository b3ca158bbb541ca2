use Rattle.std.proofs.Common.{◌≡◌, ℕ, List}
use Rattle.shapes.specs.Inside.{layers_of, united_at, AreNamed}
use Rattle.shapes.proofs.MapLemmas.{AreKeyed}
use Rattle.shapes.proofs.feature_map.unite.Given as goal

abbrev pub invariant-loop-name : goal.invariant-loop-name
invariant-loop-name l = record {
  features : (q : List ℕ) → united_at (layers_of l.others.entries) (layers_of l.united.entries) l.name-iterator q ≡ united_at (layers_of l.others.entries) (layers_of l.initial.united.entries) l.layers.entries q;
  names : AreNamed l.initial.united.entries → AreNamed l.layers.entries → AreNamed l.united.entries;
  keys : AreNamed l.layers.entries → AreKeyed l.name-iterator;
}
