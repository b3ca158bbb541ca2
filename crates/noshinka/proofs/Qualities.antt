-- What tests find, and why they find nothing.
use Rattle.std.proofs.Common.{◌≡◌, ◌↔◌, ◌∙◌, ℕ, Bool, true, false, IsTrue, List, ap, inl, inr, refl, subst, sym}
use Rattle.grid.specs.Place.{Transform}
use Rattle.report_texts.specs.QualityText.{IsQualityText}
use Rattle.report_texts.specs.declared.quality_text.QualityTests.{QualityTests}
use Rattle.shapes.specs.Maps.{Layers}
use Rattle.topo.proofs.TopologyLaws.{is_computed}
use Rattle.topo.specs.OfMap.{seen_parts}
use Rattle.topo.specs.Parts.{TopologyParts}
use Rattle.topo_io.proofs.Once.{means_once}
use Rattle.topo_io.specs.Canon.{canon}
use Rattle.topo_io.specs.Means.{Means, MeansTopology}
use Rattle.topo_io.specs.TopologyText.{topology_text}
use Rattle.noshinka.specs.Answers.{IsCanonical, IsNotCanonical}
use Rattle.c_calls.specs.Ends.{Says}
use Rattle.noshinka.specs.Quality.{IsQualityAnswer, IsQualityRefusal, are_quality_options, tests_of}
use Rattle.c_calls.specs.Why.{IsTextRefusal}
use Rattle.noshinka.specs.declared.map_quality.QualityOptions.{QualityOptions}
use Rattle.c_calls.specs.declared.refusal.CallRefusal.{CallRefusal}
use Rattle.c_calls.specs.declared.refusal.CallRefusal.TheVariants.{BadChoice, OutOfMemory}

-- the text of a topology that a text means is the canonical one of what that means
one_text : (text : List ℕ) (t : TopologyParts) → MeansTopology text t → (g : Transform) (m : Layers) → Means text g m → topology_text (seen_parts t) ≡ canon g m
one_text text t (n, meant, of_map) g m means =
    let one = means_once text t.grid g n m meant means in
    ap topology_text (is_computed t.grid n (seen_parts t) of_map.topology) ∙ (λ i. canon (one.0 i) (one.1 i))

-- a text that is that of its topology is canonical, and else it isn't
pub canonical_means : (text : List ℕ) (t : TopologyParts) (b : Bool) → IsTrue b ↔ (text ≡ topology_text (seen_parts t)) → MeansTopology text t → Says (IsCanonical text) (IsNotCanonical text) b
canonical_means text t true exact (n, meant, of_map) = record {
  accepted = meant.accepted;
  canonical = λ g m means. exact.0 refl ∙ one_text text t (n, meant, of_map) g m means;
}
canonical_means text t false exact (n, meant, of_map) = record {
  accepted = meant.accepted;
  other = λ g m means e. no_true (exact.1 (e ∙ sym (one_text text t (n, meant, of_map) g m means)));
}
  where
    no_true : IsTrue false → ⊥
    no_true e = cc

pub quality_choice : (o : QualityOptions) (text : List ℕ) → are_quality_options o ≡ false → IsQualityRefusal o text BadChoice
quality_choice o text h = inl (refl, h)

pub quality_text : (o : QualityOptions) (text : List ℕ) (r : CallRefusal) → IsTextRefusal 0 text r → IsQualityRefusal o text r
quality_text o text r h = inr (inl h)

pub quality_memory : (o : QualityOptions) (text : List ℕ) → IsQualityRefusal o text OutOfMemory
quality_memory o text = inr (inr refl)

pub quality_made : (o : QualityOptions) (text t : List ℕ) (w : TopologyParts) (b : Bool) → are_quality_options o ≡ true → MeansTopology text w → (MeansTopology text w → Says (IsCanonical text) (IsNotCanonical text) b) →
    {tests : QualityTests} → tests ≡ tests_of o → IsQualityText tests b w t → IsQualityAnswer o text t
quality_made o text t w b chosen means told e is = record {
  chosen = chosen;
  topology = w;
  means = means;
  canonical = b;
  told = told means;
  is = subst (λ x. IsQualityText x b w t) e is;
}
