-- The laws of merging, from bytes to bytes.
use Rattle.std.specs.Prelude.{◌≡◌, ◌↔◌, ℕ, zero, suc, ◌+◌, List, [], ◌∷◌, ◌++◌, length}
use Rattle.grid.specs.Place.{Transform}
use Rattle.shapes.specs.Maps.{Layers}
use Rattle.chains.specs.Seen.{geometry_of}
use Rattle.theory.specs.Arcs.{EachSegmentOnce}
use Rattle.theory.specs.Lists.{Has}
use Rattle.topo.specs.OfMap.{the_topology}
use Rattle.topo_io.specs.Canon.{canon}
use Rattle.topo_io.specs.Means.{Means}
use Rattle.merging.specs.declared.plan.Plan.{Plan}
use Rattle.merging.specs.Leaves.{leaves}
use Rattle.merging.specs.Alike.{Names, NameTheSame}
use Rattle.merging.specs.Merge.{all_indexes, AreMeant, IsMergeOf, MeansUnion}
use Rattle.merging.specs.Plans.{union_at}

-- whatever grid and maps the texts mean, the merged text is the canonical text of the union of the named maps
abbrev pub MergeOfAllMeanings : Type 0
MergeOfAllMeanings = (texts : List (List ℕ)) (p : Plan) (t : List ℕ) → IsMergeOf texts (leaves p) t → (g : Transform) (maps : List Layers) → AreMeant texts g maps → t ≡ canon g (union_at maps (leaves p))

-- plans that name the same texts, in any order, with repeats and in any grouping, give the same bytes
abbrev pub MergesAlike : Type 0
MergesAlike =
    (texts others : List (List ℕ)) (p q : Plan) (t u : List ℕ) → IsMergeOf texts (leaves p) t → IsMergeOf others (leaves q) u →
    NameTheSame texts (leaves p) others (leaves q) → t ≡ u

-- all texts of a list give the bytes of each plan that names the same texts, in any order, with repeats and in any grouping
abbrev pub MergeOfAllAlike : Type 0
MergeOfAllAlike =
    (texts others : List (List ℕ)) (p : Plan) (t u : List ℕ) → IsMergeOf texts (all_indexes texts) t → IsMergeOf others (leaves p) u →
    ((x : List ℕ) → Has x texts ↔ Names others (leaves p) x) → t ≡ u

-- the text is the canonical text of what the other means
pub record IsCanonOf (text t : List ℕ) : Type 0 where
  pub grid : Transform
  pub map : Layers
  pub means : Means text grid map
  pub text_of : t ≡ canon grid map

-- the canonical text of what a text means is one text
abbrev pub OneCanon : Type 0
OneCanon = (text t u : List ℕ) → IsCanonOf text t → IsCanonOf text u → t ≡ u

-- a plan that names one text alone, once or more than once, gives its canonical text
abbrev pub MergeOfOneText : Type 0
MergeOfOneText =
    (texts : List (List ℕ)) (p : Plan) (text t : List ℕ) → IsMergeOf texts (leaves p) t → ((u : List ℕ) → Names texts (leaves p) u → u ≡ text) → IsCanonOf text t

-- each segment of the map is at one place of one arc of its topology, and arcs have no other segment
abbrev pub SegmentsOfMergeOnce : Type 0
SegmentsOfMergeOnce = (g : Transform) (m : Layers) → EachSegmentOnce (geometry_of m) (the_topology g m).arcs

-- what stands for index i of a text and others, where the text was merged from n texts by a plan with the leaves ps
abbrev pub instead : ℕ → List ℕ → ℕ → List ℕ
instead n ps zero = ps
instead n ps (suc i) = (n + i) ∷ []

-- the leaves of one plan over the n texts and the others
abbrev pub through : ℕ → List ℕ → List ℕ → List ℕ
through n ps [] = []
through n ps (i ∷ is) = instead n ps i ++ through n ps is

-- a merged text merged with others is the merge of all texts by the one plan
abbrev pub MergesThroughTexts : Type 0
MergesThroughTexts =
    (texts others : List (List ℕ)) (p q : Plan) (t u : List ℕ) → MeansUnion texts (leaves p) t →
    IsMergeOf (t ∷ others) (leaves q) u → IsMergeOf (texts ++ others) (through (length texts) (leaves p) (leaves q)) u
