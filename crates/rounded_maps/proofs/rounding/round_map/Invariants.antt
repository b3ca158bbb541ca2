use Rattle.std.proofs.Common.{◌≡◌, ◌++◌, List, drop, map}
use Rattle.decimal_maps.specs.declared.feature.RawFeature.{RawFeature}
use Rattle.rounded_maps.specs.Fixed.{IsFixedMap}
use Rattle.rounded_maps.specs.Rounded.{AreRead, texts_faults}
use Rattle.rounded_maps.proofs.rounding.round_map.Given as goal

-- the features so far, with those of the other texts, are all, and the texts so far have no faults
abbrev pub invariant-loop-number : goal.invariant-loop-number
invariant-loop-number l = record {
  raws : List RawFeature;
  fixed : IsFixedMap l.rules.fixing l.rules.numbers raws l.map;
  read : (more : List RawFeature) → AreRead l.rules.map (drop l.number (map (λ t. t.now) l.text-items)) more → AreRead l.rules.map (map (λ t. t.now) l.text-items) (raws ++ more);
  clean : texts_faults l.rules 0 (map (λ t. t.now) l.text-items) ≡ texts_faults l.rules l.number (drop l.number (map (λ t. t.now) l.text-items));
}
