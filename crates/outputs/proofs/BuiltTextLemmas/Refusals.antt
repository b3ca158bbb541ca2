-- Lists of texts that are read one after the other.
use Rattle.std.proofs.Common.{◌≡◌, ℕ, List, [], ◌∷◌, ◌++◌, ◌+◌, length, refl, arith, append_assoc}
use Rattle.std.proofs.lemmas.List.{length-append}
use Rattle.std.proofs.lemmas.List.Elements.{All-append, All-cons, All-nil}
use Rattle.faults.specs.declared.fault.Fault.{Fault}
use Rattle.grid.specs.Place.{Transform}
use Rattle.reading.specs.Fault.{LeastOrWant}
use Rattle.reading.proofs.FirstRefused.{first_refused}
use Rattle.geojson_io.specs.Features.{faults_of_text}
use Rattle.outputs.specs.BuiltText.Sources.{AreAccepted, IsRefusal, IsFaultAt}
use Rattle.outputs.specs.declared.built_text.building.BuildFault.{BuildFault}
use Rattle.outputs.specs.declared.built_text.building.BuildFault.TheVariants.{Text, OutOfMemory}

-- the texts before the place are accepted, and these are left
pub record SoFar (t : Transform) (texts left : List (List ℕ)) (place : ℕ) : Type 0 where
  pub before : List (List ℕ)
  pub parts : before ++ left ≡ texts
  pub at : length before ≡ place
  pub accepted : AreAccepted t before

pub begun : (t : Transform) (texts : List (List ℕ)) → SoFar t texts texts 0
begun t texts = record { before = []; parts = refl; at = refl; accepted = All-nil _ }

-- one more text is accepted
pub one_more : (t : Transform) (texts left : List (List ℕ)) (text : List ℕ) (after : List (List ℕ)) (place : ℕ)
    → SoFar t texts left place → left ≡ text ∷ after → faults_of_text t text ≡ [] → SoFar t texts after (place + 1)
one_more t texts left text after place old e ok =
    let parts : old.before ++ (text ∷ after) ≡ texts = rw e at old.parts in
    let P : List ℕ → Type 0 = λ bytes. faults_of_text t bytes ≡ [] in
    let here : AreAccepted t (text ∷ []) = All-cons P text [] ok (All-nil P) in
    let at = old.at in
    record {
      before = old.before ++ (text ∷ []);
      parts = rw append_assoc parts;
      at = omega (arith, length-append old.before (text ∷ []), at);
      accepted = All-append (λ bytes. faults_of_text t bytes ≡ []) old.before (text ∷ []) old.accepted here;
    }

-- the next text is refused
pub refusal_at : (t : Transform) (texts left : List (List ℕ)) (text : List ℕ) (after : List (List ℕ)) (place : ℕ) (fault : Fault) (e : BuildFault)
    → SoFar t texts left place → left ≡ text ∷ after → LeastOrWant (faults_of_text t text) fault → IsFaultAt place fault e → IsRefusal t texts e
refusal_at t texts left text after place fault OutOfMemory old _ least is = tt
refusal_at t texts left text after place fault (Text i f) old split least is =
    first_refused (faults_of_text t) texts old.before left text after place i fault f old.parts old.at old.accepted split least is
