-- What is answered of arcs and layers as a text has them.
use Rattle.std.specs.Prelude.{List}
use Rattle.grid.specs.declared.pos.Pos.{Pos}
use Rattle.topo.specs.Parts.{LayerParts, TopologyParts}
use Rattle.validate.specs.declared.accept.topology.Accepted.{Accepted}
use Rattle.validate.specs.declared.accept.topology.Accepted.TheVariants.{Whole, Not}

-- they are taken
abbrev pub IsWhole : Accepted → Type 0
IsWhole (Whole t) = Unit {0}
IsWhole (Not arcs layers) = ⊥

-- where they are taken, the topology has the property
abbrev pub IfWhole : Accepted → (TopologyParts → Type 0) → Type 0
IfWhole (Whole t) P = P t
IfWhole (Not arcs layers) P = Unit {0}

-- where they are not, the arcs and the layers that are given back have it
abbrev pub IfNot : Accepted → (List (List Pos) → List LayerParts → Type 0) → Type 0
IfNot (Whole t) P = Unit {0}
IfNot (Not arcs layers) P = P arcs.items layers.items
