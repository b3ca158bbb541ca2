use Rattle.std.proofs.Common.{List, [], ◌++◌, map, drop, string_bytes}
use Rattle.rounded_maps.specs.Equal.{AreEqual, Holds, Printed}
use Rattle.rounded_maps.specs.declared.equal.EqualFeatures.{EqualFeatures}
use Rattle.rounded_maps.proofs.equal.find_equal_features.Given as goal

-- what was found so far, with what is found in the other maps, is all
abbrev pub invariant-loop-place : goal.invariant-loop-place
invariant-loop-place l = record {
  before : List Printed;
  holds : Holds l.seen before;
  equal : (more : List EqualFeatures) → AreEqual before (map string_bytes (drop l.place l.fn.layers)) (drop l.place l.fn.maps) more → AreEqual [] (map string_bytes l.fn.layers) l.fn.maps (l.equal.items ++ more);
}
