-- Refusals of the parts of a question, as refusals of the question.
use Rattle.std.proofs.Common.{◌≤◌, ℕ, List}
use Rattle.std.specs.Prelude.{Option, Some}
use Rattle.topo.specs.Parts.{TopologyParts}
use Rattle.topo_io.specs.Means.{MeansTopology}
use Rattle.c_calls.specs.Options.{scope_of}
use Rattle.c_calls.specs.Why.{IsBadName, IsChoiceRefusal, IsLayerRefusal, IsQuestionRefusal, IsScopeRefusal, IsTextRefusal}
use Rattle.c_calls.specs.declared.refusal.CallRefusal.{CallRefusal}
use Rattle.c_calls.specs.declared.refusal.CallRefusal.TheVariants.{BadGrid, BadName, BadChoice, NoId, Text, OtherGrid, NoText, BadPlan, NoLayer, OutOfMemory}

pub choice_question : (Bad Worse : Type 0) → (Bad → Worse) → (text : List ℕ) (scope : Option (List ℕ)) (r : CallRefusal) → IsChoiceRefusal Bad r → IsQuestionRefusal Worse text scope r
choice_question Bad Worse so text scope BadGrid h = absurd h
choice_question Bad Worse so text scope (BadName p) h = absurd h
choice_question Bad Worse so text scope BadChoice h = so h
choice_question Bad Worse so text scope NoId h = absurd h
choice_question Bad Worse so text scope (Text p f) h = absurd h
choice_question Bad Worse so text scope (OtherGrid p) h = absurd h
choice_question Bad Worse so text scope NoText h = absurd h
choice_question Bad Worse so text scope (BadPlan k) h = absurd h
choice_question Bad Worse so text scope NoLayer h = absurd h
choice_question Bad Worse so text scope OutOfMemory h = absurd h

pub name_question : (Bad : Type 0) (text name : List ℕ) (r : CallRefusal) → IsBadName 0 name r → IsQuestionRefusal Bad text (Some name) r
name_question Bad text name BadGrid h = absurd h
name_question Bad text name (BadName p) h = h
name_question Bad text name BadChoice h = absurd h
name_question Bad text name NoId h = absurd h
name_question Bad text name (Text p f) h = absurd h
name_question Bad text name (OtherGrid p) h = absurd h
name_question Bad text name NoText h = absurd h
name_question Bad text name (BadPlan k) h = absurd h
name_question Bad text name NoLayer h = absurd h
name_question Bad text name OutOfMemory h = tt

pub scope_question : (Bad : Type 0) (text name : List ℕ) (n : ℕ) → (2 ≤ n → Bad) → (r : CallRefusal) → IsScopeRefusal n name r → IsQuestionRefusal Bad text (scope_of n name) r
scope_question Bad text name n so BadGrid h = absurd h
scope_question Bad text name n so (BadName p) h = h
scope_question Bad text name n so BadChoice h = so h
scope_question Bad text name n so NoId h = absurd h
scope_question Bad text name n so (Text p f) h = absurd h
scope_question Bad text name n so (OtherGrid p) h = absurd h
scope_question Bad text name n so NoText h = absurd h
scope_question Bad text name n so (BadPlan k) h = absurd h
scope_question Bad text name n so NoLayer h = absurd h
scope_question Bad text name n so OutOfMemory h = tt

pub text_question : (Bad : Type 0) (text : List ℕ) (scope : Option (List ℕ)) (r : CallRefusal) → IsTextRefusal 0 text r → IsQuestionRefusal Bad text scope r
text_question Bad text scope BadGrid h = absurd h
text_question Bad text scope (BadName p) h = absurd h
text_question Bad text scope BadChoice h = absurd h
text_question Bad text scope NoId h = absurd h
text_question Bad text scope (Text p f) h = h
text_question Bad text scope (OtherGrid p) h = absurd h
text_question Bad text scope NoText h = absurd h
text_question Bad text scope (BadPlan k) h = absurd h
text_question Bad text scope NoLayer h = absurd h
text_question Bad text scope OutOfMemory h = tt

pub layer_question : (Bad : Type 0) (text : List ℕ) (scope : Option (List ℕ)) (t : TopologyParts) → MeansTopology text t → (r : CallRefusal) → IsLayerRefusal t scope r → IsQuestionRefusal Bad text scope r
layer_question Bad text scope t m BadGrid h = absurd h
layer_question Bad text scope t m (BadName p) h = absurd h
layer_question Bad text scope t m BadChoice h = absurd h
layer_question Bad text scope t m NoId h = absurd h
layer_question Bad text scope t m (Text p f) h = absurd h
layer_question Bad text scope t m (OtherGrid p) h = absurd h
layer_question Bad text scope t m NoText h = absurd h
layer_question Bad text scope t m (BadPlan k) h = absurd h
layer_question Bad text scope t m NoLayer h = record { grid = t.grid; map = m.0; means = m.1; missing = h m.0 m.2 }
layer_question Bad text scope t m OutOfMemory h = tt
