-- The set of a list of features, as plain data.
use Rattle.std.proofs.Common.{◌≡◌, ◌↔◌, IsTrue, List, map, sym, subst}
use Rattle.theory.specs.Lists.{Has}
use Rattle.shapes.specs.Sets as set
use Rattle.shapes.specs.Maps.{Features}
use Rattle.shapes.specs.declared.feature.Feature.{Feature}
use Rattle.reading.specs.Plain.{Plain, plain}
use Rattle.reading.specs.Meant.{AreFeatures}
use Rattle.reading.proofs.Plains.{has_plain, plain_has}

pub are_features : (made : Features) (given : List Feature) (meant : List Plain) → ((f : Feature) → IsTrue (set.contains made f) ↔ Has f given) → map plain given ≡ meant → AreFeatures made meant
are_features made given meant holds same = record {
  only = λ f h. subst (Has (plain f)) same (has_plain f given ((holds f).0 h));
  all = λ p h. let found = plain_has p given (subst (Has p) (sym same) h) in (found.0, (holds found.0).1 found.1, found.2);
}
