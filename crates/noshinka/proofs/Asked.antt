-- Refusals and answers of the parts of a question, as those of the question.
use Rattle.std.proofs.Common.{◌≡◌, ◌≤◌, ◌↔◌, ◌&&◌, ℕ, Bool, zero, suc, List, Option, Result, Some, Err, ap, arith, if◌then◌else◌, inl, inr, ne_eqb, refl, subst, sym, false, true, nat_eq}
use Rattle.query.specs.Mesh.{IsMissing}
use Rattle.query.specs.declared.edges.Edges.{Edges}
use Rattle.query.specs.declared.fault.QueryFault.{QueryFault}
use Rattle.query.specs.declared.fault.QueryFault.TheVariants as query
use Rattle.topo.specs.ItsMap.{ForItsMap}
use Rattle.query.specs.AnswerTexts.{neighbors_text}
use Rattle.topo.specs.Parts.{IsOfLayerNamed, TopologyParts}
use Rattle.topo.specs.declared.geom.Geom.{Geom}
use Rattle.topo_io.specs.Means.{MeansTopology}
use Rattle.noshinka.proofs.PartRefusals.{choice_question, layer_question, scope_question, text_question}
use Rattle.noshinka.specs.Asking.{AreWithIds, HasMeshOptions, IsBordersText, IsIdsRefusal, IsListsRefusal, IsListsText, IsMeshRefusal, IsMeshText, IsNeighborsAnswer, IsNeighborsRefusal, are_neighbors_options, by_of, ids_text, layer_of, lists_text}
use Rattle.noshinka.specs.Keys.{has_key_twice}
use Rattle.c_calls.specs.Options.{edges_of, lacks_id, name_if}
use Rattle.c_calls.specs.Why.{IsBadName, IsBadNameIf, IsChoiceRefusal, IsLayerRefusal, IsScopeRefusal, IsTextRefusal, of_query}
use Rattle.noshinka.specs.declared.questions.MeshOptions.{MeshOptions}
use Rattle.noshinka.specs.declared.questions.NeighborsOptions.{NeighborsOptions}
use Rattle.c_calls.specs.declared.refusal.CallRefusal.{CallRefusal}
use Rattle.c_calls.specs.declared.refusal.CallRefusal.TheVariants.{BadChoice, NoId, OutOfMemory}

pub mesh_size : (o : MeshOptions) (text : List ℕ) → (o.size ≡ 48 → ⊥) → IsMeshRefusal o text BadChoice
mesh_size o text h = inr (inl h)

pub mesh_edges : (o : MeshOptions) (text : List ℕ) (r : CallRefusal) → IsChoiceRefusal (4 ≤ o.edges) r → IsMeshRefusal o text r
mesh_edges o text r h = inr (choice_question _ _ (λ bad. inr (inr bad)) text (layer_of o) r h)

pub mesh_scope : (o : MeshOptions) (text : List ℕ) (r : CallRefusal) → IsScopeRefusal o.scope o.layer.now r → IsMeshRefusal o text r
mesh_scope o text r h = inr (scope_question _ text o.layer.now o.scope (λ bad. inr (inl bad)) r h)

pub mesh_property : (o : MeshOptions) (text : List ℕ) (r : CallRefusal) → IsBadNameIf (nat_eq o.edges 3) o.property.now r → IsMeshRefusal o text r
mesh_property o text r h = inl h

pub mesh_text_refused : (o : MeshOptions) (text : List ℕ) (r : CallRefusal) → IsTextRefusal 0 text r → IsMeshRefusal o text r
mesh_text_refused o text r h = inr (text_question _ text (layer_of o) r h)

pub mesh_layer : (o : MeshOptions) (text : List ℕ) (t : TopologyParts) → MeansTopology text t → (scope : Option (List ℕ)) → scope ≡ layer_of o → (r : CallRefusal) → IsLayerRefusal t scope r → IsMeshRefusal o text r
mesh_layer o text t means scope e r h = inr (layer_question _ text (layer_of o) t means r (subst (λ s. IsLayerRefusal t s r) e h))

pub mesh_answer : (o : MeshOptions) (text t : List ℕ) (whole : TopologyParts) → HasMeshOptions o → MeansTopology text whole → {scope by : Option (List ℕ)} {edges : Edges} → scope ≡ layer_of o → by ≡ by_of o → edges ≡ edges_of o.edges →
    IsBordersText whole scope by edges t → IsMeshText o text t
mesh_answer o text t whole chosen means {scope} {by} {edges} e f g is = record {
  chosen = chosen;
  topology = whole;
  means = means;
  borders = subst (λ x. IsBordersText whole (layer_of o) (by_of o) x t) g (subst (λ x. IsBordersText whole (layer_of o) x edges t) f (subst (λ x. IsBordersText whole x by edges t) e is));
}

pub lists_not_asked : (t : TopologyParts) (name : List ℕ) (form : ℕ) {T : Type 0} (e : QueryFault) → ForItsMap t (λ m. (◌≡◌ {A = Result T QueryFault} (Err e) (Err query.NoLayer)) ↔ IsMissing m (Some name)) → IsListsRefusal t name form (of_query e)
lists_not_asked t name form query.NoLayer h = inr (inl (refl, λ m of. (h m of).0 refl))
lists_not_asked t name form query.OutOfMemory h = inl refl

pub neighbors_options : (o : NeighborsOptions) (text name : List ℕ) → are_neighbors_options o ≡ false → IsNeighborsRefusal o text name BadChoice
neighbors_options o text name h = inl (refl, h)

pub neighbors_property : (o : NeighborsOptions) (text name : List ℕ) (r : CallRefusal) → IsBadNameIf (nat_eq o.kind 1) o.property.now r → IsNeighborsRefusal o text name r
neighbors_property o text name r h = inr (inl h)

pub neighbors_name : (o : NeighborsOptions) (text name : List ℕ) (r : CallRefusal) → IsBadName 0 name r → IsNeighborsRefusal o text name r
neighbors_name o text name r h = inr (inr (inl h))

pub neighbors_text_refused : (o : NeighborsOptions) (text name : List ℕ) (r : CallRefusal) → IsTextRefusal 0 text r → IsNeighborsRefusal o text name r
neighbors_text_refused o text name r h = inr (inr (inr (inl h)))

pub neighbors_lists : (o : NeighborsOptions) (text name : List ℕ) (t : TopologyParts) → MeansTopology text t → (n : List ℕ) → n ≡ name → (r : CallRefusal) → IsListsRefusal t n o.lists r → IsNeighborsRefusal o text name r
neighbors_lists o text name t means n e r h = inr (inr (inr (inr (t, (means, subst (λ x. IsListsRefusal t x o.lists r) e h)))))

pub neighbors_answer : (o : NeighborsOptions) (text name t : List ℕ) (whole : TopologyParts) → are_neighbors_options o ≡ true → MeansTopology text whole → {n : List ℕ} {by : Option (List ℕ)} → n ≡ name → by ≡ name_if (nat_eq o.kind 1) o.property.now →
    IsListsText whole n by o.lists t → IsNeighborsAnswer o text name t
neighbors_answer o text name t whole chosen means {n} {by} e f is = record {
  chosen = chosen;
  topology = whole;
  means = means;
  lists = subst (λ x. IsListsText whole name x o.lists t) f (subst (λ x. IsListsText whole x by o.lists t) e is);
}

-- geometries whose ids are there, and serve
pub with_ids : (t : TopologyParts) (name : List ℕ) (is_keyed : Bool) (gs : List Geom) → IsOfLayerNamed t.layers name gs → lacks_id gs ≡ false → (is_keyed && has_key_twice gs) ≡ false → AreWithIds t name is_keyed gs
with_ids t name is_keyed gs named ids keys = record { layer = named; ids = ids; keys = keys }

pub ids_memory : (t : TopologyParts) (name : List ℕ) (is_keyed : Bool) → IsIdsRefusal t name is_keyed OutOfMemory
ids_memory t name is_keyed = inl refl

pub id_missing : (t : TopologyParts) (name : List ℕ) (is_keyed : Bool) (gs : List Geom) → IsOfLayerNamed t.layers name gs → lacks_id gs ≡ true → IsIdsRefusal t name is_keyed NoId
id_missing t name is_keyed gs named lacks = inr (inr (refl, inl (gs, named, lacks)))

pub key_twice : (t : TopologyParts) (name : List ℕ) (is_keyed : Bool) (gs : List Geom) → IsOfLayerNamed t.layers name gs → (is_keyed && has_key_twice gs) ≡ true → IsIdsRefusal t name is_keyed NoId
key_twice t name is_keyed gs named twice = inr (inr (refl, inr (gs, named, twice)))

some_form : (n : ℕ) → (n ≡ 0 → ⊥) → 1 ≤ n
some_form zero h = absurd (h refl)
some_form (suc n) h = omega arith

-- why there are no such geometries, where lists by ids are asked for
pub ids_refused : (t : TopologyParts) (name : List ℕ) (form : ℕ) → (form ≡ 0 → ⊥) → (r : CallRefusal) → IsIdsRefusal t name (nat_eq form 2) r → IsListsRefusal t name form r
ids_refused t name form some r (inl e) = inl e
ids_refused t name form some r (inr (inl h)) = inr (inl h)
ids_refused t name form some r (inr (inr (e, h))) = inr (inr (e, (some_form form some, h)))

-- by places for 0
pub by_places : (form : ℕ) (gs : List Geom) (lists : List (List ℕ)) → form ≡ 0 → neighbors_text lists ≡ lists_text form gs lists
by_places zero gs lists e = refl
by_places (suc n) gs lists e = absurd (omega (arith, e))

-- by ids for other numbers
pub by_ids : (form : ℕ) (gs : List Geom) (lists : List (List ℕ)) → (form ≡ 0 → ⊥) → ids_text (nat_eq form 2) gs lists ≡ lists_text form gs lists
by_ids form gs lists h = sym (ap (λ b. if b then neighbors_text lists else ids_text (nat_eq form 2) gs lists) (ne_eqb form 0 h))
