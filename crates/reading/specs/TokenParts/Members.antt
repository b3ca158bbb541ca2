-- What is known of the members of an object that are read.
use Rattle.std.specs.Prelude.{◌≡◌, List, [], ℕ, Option, Some, None, codes}
use Rattle.faults.specs.Fault.{Pair}
use Rattle.serde_json.specs.Data.{Data, Members, object}
use Rattle.serde_json.specs.Find.{get}
use Rattle.reading.specs.Info.{IsIdOf, id_faults, properties_faults, properties_of}
use Rattle.shapes.specs.Parts.{properties_text}
use Rattle.shapes.specs.declared.props.Props.{Props}
use Rattle.shapes.specs.declared.shape.Id.{Id}

-- a member that may be missing, of the members that are read
abbrev pub KnowsMember : {X : Type 0} → List ℕ → (Data → List Pair) → (Data → X → Type 0) → Option X → Members → Type 0
KnowsMember n faults means None ms = get n (object ms) ≡ None
KnowsMember n faults means (Some x) ms = (d : Data) × (get n (object ms) ≡ Some d) × (faults d ≡ []) × means d x

-- the member `id`, of the members that are read
abbrev pub KnowsId : Option Id → Members → Type 0
KnowsId = KnowsMember (codes "id") id_faults IsIdOf

-- the member `properties`, of the members that are read
abbrev pub KnowsProps : Option Props → Members → Type 0
KnowsProps = KnowsMember (codes "properties") properties_faults (λ d p. properties_text p ≡ properties_of d)
