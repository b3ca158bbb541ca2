use Rattle.std.proofs.Common.{◌≡◌, ◌++◌, drop, map, string_bytes}
use Rattle.rounded_maps.specs.Files.{layer_of}
use Rattle.rounded_maps.proofs.building.layer_names.Given as goal

-- the names so far, with those of the other maps, are all
abbrev pub invariant-loop-origin : goal.invariant-loop-origin
invariant-loop-origin l = map string_bytes l.layers.items ++ map (layer_of (map (λ n. n.now) l.fn.names)) (drop l.origin-index l.fn.origins) ≡ map (layer_of (map (λ n. n.now) l.fn.names)) l.fn.origins
