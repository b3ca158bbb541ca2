use Rattle.std.proofs.Common.{◌≡◌, ◌+◌, drop}
use Rattle.std.specs.Option.{option_map}
use Rattle.fixing.specs.Polygons.{home_of}
use Rattle.fixing.specs.Seen.{polygons_in}
use Rattle.fixing.proofs.polygons.home_of.Given as goal

abbrev pub invariant-loop-place : goal.invariant-loop-place
invariant-loop-place l =
    option_map (λ k. l.place + k) (home_of (polygons_in (drop l.place l.polygons)) l.ring) ≡ home_of (polygons_in l.polygons) l.ring
