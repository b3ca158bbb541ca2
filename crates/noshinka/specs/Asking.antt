-- What meshes and neighbours are answered as, and why they are not.
use Rattle.std.specs.Prelude.{◌≡◌, ◌<◌, ◌≤◌, ◌⊎◌, ◌&&◌, ℕ, Bool, true, false, List, None, Option, Some, nat_eq, nat_lt, if◌then◌else◌}
use Rattle.arcs.specs.Arcs.{Arcs}
use Rattle.query.specs.AnswerTexts.{mesh_text, neighbor_ids_text, neighbors_text}
use Rattle.query.specs.ByProperty.{AreBordersBy, ListsNeighborsBy}
use Rattle.query.specs.Keyed.{keyed_text}
use Rattle.query.specs.Mesh.{Answers, AreBorders, IsMissing}
use Rattle.query.specs.Neighbors.{ListsNeighbors}
use Rattle.query.specs.declared.edges.Edges.{Edges}
use Rattle.shapes.specs.Maps.{features_at}
use Rattle.shapes.specs.Sets as set
use Rattle.shapes.specs.declared.feature.Feature.{Feature}
use Rattle.topo.specs.ItsMap.{ForItsMap}
use Rattle.topo.specs.Parts.{IsOfLayerNamed, TopologyParts}
use Rattle.topo.specs.declared.geom.Geom.{Geom}
use Rattle.topo_io.specs.Means.{MeansTopology}
use Rattle.noshinka.specs.Answers.{HasLayer, HasScope}
use Rattle.noshinka.specs.Keys.{has_key_twice}
use Rattle.c_calls.specs.Options.{edges_of, lacks_id, name_if, scope_of}
use Rattle.c_calls.specs.Why.{IsBadName, IsBadNameIf, IsQuestionRefusal, IsTextRefusal}
use Rattle.noshinka.specs.declared.questions.MeshOptions.{MeshOptions}
use Rattle.noshinka.specs.declared.questions.NeighborsOptions.{NeighborsOptions}
use Rattle.c_calls.specs.declared.refusal.CallRefusal.{CallRefusal}
use Rattle.c_calls.specs.declared.refusal.CallRefusal.TheVariants.{BadChoice, NoId, NoLayer, OutOfMemory}

-- the lines over the segments of the topology's features in scope: those at which a property differs, where one is named, else those that the edges select
abbrev pub AreAskedBorders : TopologyParts → Option (List ℕ) → Option (List ℕ) → Edges → Arcs → Type 0
AreAskedBorders topology scope None edges lines = AreBorders topology scope (Answers edges) lines
AreAskedBorders topology scope (Some name) edges lines = AreBordersBy topology scope name lines

-- t is the text of these lines; a layer that is named is there
abbrev pub IsBordersText : TopologyParts → Option (List ℕ) → Option (List ℕ) → Edges → List ℕ → Type 0
IsBordersText topology scope by edges t = ForItsMap topology (λ m. HasScope m scope) × (lines : Arcs) × AreAskedBorders topology scope by edges lines × (t ≡ mesh_text topology.grid lines.arcs)

-- the property at which borders are asked for
abbrev pub by_of : MeshOptions → Option (List ℕ)
by_of o = name_if (nat_eq o.edges 3) o.property.now

-- the layer whose borders are asked for
abbrev pub layer_of : MeshOptions → Option (List ℕ)
layer_of o = scope_of o.scope o.layer.now

-- the options have the size of these, and each number stands for a choice
abbrev pub HasMeshOptions : MeshOptions → Type 0
HasMeshOptions o = (o.size ≡ 48) × ((o.scope < 2) × (o.edges < 4))

-- the options are choices, the text is accepted, and t is the text of the borders of its topology that the options ask for
pub record IsMeshText (o : MeshOptions) (text t : List ℕ) : Type 0 where
  pub chosen : HasMeshOptions o
  pub topology : TopologyParts
  pub means : MeansTopology text topology
  pub borders : IsBordersText topology (layer_of o) (by_of o) (edges_of o.edges) t

-- the options have another size, or a number stands for no choice
abbrev pub HasBadMesh : MeshOptions → Type 0
HasBadMesh o = (o.size ≡ 48 → ⊥) ⊎ ((2 ≤ o.scope) ⊎ (4 ≤ o.edges))

-- the property is not UTF-8, or the question is not answered
abbrev pub IsMeshRefusal : MeshOptions → List ℕ → CallRefusal → Type 0
IsMeshRefusal o text r = IsBadNameIf (nat_eq o.edges 3) o.property.now r ⊎ IsQuestionRefusal (HasBadMesh o) text (layer_of o) r

-- the lists of the neighbours of features: of those that differ in a property, where one is named, else of all
abbrev pub AreAskedNeighbors : Option (List ℕ) → List Feature → List (List ℕ) → Type 0
AreAskedNeighbors None fs lists = ListsNeighbors fs lists
AreAskedNeighbors (Some name) fs lists = ListsNeighborsBy name fs lists

-- the text of lists by the ids of the geometries: as an object, or as lists
abbrev pub ids_text : Bool → List Geom → List (List ℕ) → List ℕ
ids_text true gs lists = keyed_text gs lists
ids_text false gs lists = neighbor_ids_text gs lists

-- the same by places for 0, and by ids for 1 and 2
abbrev pub lists_text : ℕ → List Geom → List (List ℕ) → List ℕ
lists_text form gs lists = if nat_eq form 0 then neighbors_text lists else ids_text (nat_eq form 2) gs lists

-- the geometries of the layer of the name, each of which has an id, and where these are names of members, another one than the others
pub record AreWithIds (topology : TopologyParts) (name : List ℕ) (is_keyed : Bool) (geometries : List Geom) : Type 0 where
  pub layer : IsOfLayerNamed topology.layers name geometries
  pub ids : lacks_id geometries ≡ false
  pub keys : (is_keyed && has_key_twice geometries) ≡ false

-- t is the text of the lists of the neighbours of the features that the topology has in the layer of the name, which is there
pub record IsListsText (topology : TopologyParts) (name : List ℕ) (by : Option (List ℕ)) (form : ℕ) (t : List ℕ) : Type 0 where
  pub there : ForItsMap topology (λ m. HasLayer m name)
  pub geometries : List Geom
  pub layer : (form ≡ 0) ⊎ AreWithIds topology name (nat_eq form 2) geometries
  pub lists : List (List ℕ)
  pub neighbors : ForItsMap topology (λ m. AreAskedNeighbors by (set.items (features_at m name)) lists)
  pub is : t ≡ lists_text form geometries lists

-- the options have the size of these, and each number stands for a choice
abbrev pub are_neighbors_options : NeighborsOptions → Bool
are_neighbors_options o = (nat_eq o.size 32 && nat_lt o.kind 2) && nat_lt o.lists 3

-- the options are choices, the text is accepted, and t is the text of the neighbours of each feature in a layer of its topology that they ask for
pub record IsNeighborsAnswer (o : NeighborsOptions) (text name t : List ℕ) : Type 0 where
  pub chosen : are_neighbors_options o ≡ true
  pub topology : TopologyParts
  pub means : MeansTopology text topology
  pub lists : IsListsText topology name (name_if (nat_eq o.kind 1) o.property.now) o.lists t

-- a geometry of the layer of the name has no id
abbrev pub LacksId : TopologyParts → List ℕ → Type 0
LacksId t name = (gs : List Geom) × IsOfLayerNamed t.layers name gs × (lacks_id gs ≡ true)

-- two geometries of the layer of the name have one id as names of members, where these are asked for
abbrev pub HasKeyTwice : TopologyParts → List ℕ → Bool → Type 0
HasKeyTwice t name is_keyed = (gs : List Geom) × IsOfLayerNamed t.layers name gs × ((is_keyed && has_key_twice gs) ≡ true)

-- the topology has no layer of that name, ids of the layer are missing or no names of members, or memory was refused
abbrev pub IsIdsRefusal : TopologyParts → List ℕ → Bool → CallRefusal → Type 0
IsIdsRefusal t name is_keyed r =
    (r ≡ OutOfMemory) ⊎ (((r ≡ NoLayer) × ForItsMap t (λ m. IsMissing m (Some name))) ⊎ ((r ≡ NoId) × (LacksId t name ⊎ HasKeyTwice t name is_keyed)))

-- no layer has the name, or memory was refused; or ids are asked for, and are missing or no names of members
abbrev pub IsListsRefusal : TopologyParts → List ℕ → ℕ → CallRefusal → Type 0
IsListsRefusal t name form r =
    (r ≡ OutOfMemory)
    ⊎ (((r ≡ NoLayer) × ForItsMap t (λ m. IsMissing m (Some name))) ⊎ ((r ≡ NoId) × ((1 ≤ form) × (LacksId t name ⊎ HasKeyTwice t name (nat_eq form 2)))))

-- first the options, then the names, then the text
abbrev pub IsNeighborsRefusal : NeighborsOptions → List ℕ → List ℕ → CallRefusal → Type 0
IsNeighborsRefusal o text name r =
    ((r ≡ BadChoice) × (are_neighbors_options o ≡ false))
    ⊎ (IsBadNameIf (nat_eq o.kind 1) o.property.now r
    ⊎ (IsBadName 0 name r ⊎ (IsTextRefusal 0 text r ⊎ ((t : TopologyParts) × (MeansTopology text t × IsListsRefusal t name o.lists r)))))
