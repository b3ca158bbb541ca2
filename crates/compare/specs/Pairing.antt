-- The layers of two topologies in pairs, by their names.
use Rattle.std.specs.Prelude.{◌↔◌, ◌⊎◌, ℕ, List, Option, Some, None, map as map_list}
use Rattle.std.specs.Cmp.Lexicographic.{slice_cmp}
use Rattle.std.specs.List.Sorted.{IsStrictlySortedBy}
use Rattle.std.specs.Ordering.{nat_cmp}
use Rattle.std.specs.declared.cmp.Ordering.{Ordering}
use Rattle.std.specs.declared.cmp.Ordering.TheVariants.{Less, Equal, Greater}
use Rattle.theory.specs.Lists.{Has, Pairwise}
use Rattle.topo.specs.Parts.{LayerParts}
use Rattle.compare.specs.Compared.{IsPairIn, name_of}
use Rattle.compare.specs.declared.pairs.LayerPair.{LayerPair}

-- one pair for each name that either list has, in the order of the names; it has the layers of that name
pub record IsPairing (olds news : List LayerParts) (ps : List LayerPair) : Type 0 where
  pub names : List (List ℕ)
  pub ascend : IsStrictlySortedBy (slice_cmp nat_cmp) names
  pub exact : (q : List ℕ) → Has q names ↔ (Has q (map_list name_of olds) ⊎ Has q (map_list name_of news))
  pub pairs : Pairwise (IsPairIn olds news) names ps

-- which of two layers comes first by its name; one that is there alone does
abbrev pub order_by_name : Option LayerParts → Option LayerParts → Option Ordering
order_by_name None None = None
order_by_name None (Some b) = Some Greater
order_by_name (Some a) None = Some Less
order_by_name (Some a) (Some b) = Some (slice_cmp nat_cmp (name_of a) (name_of b))

-- the pair of the layer that comes first, or of both
abbrev pub pair_by_order : Ordering → ℕ → ℕ → LayerPair
pair_by_order Less i j = record { old = Some i; new = None }
pair_by_order Equal i j = record { old = Some i; new = Some j }
pair_by_order Greater i j = record { old = None; new = Some j }
