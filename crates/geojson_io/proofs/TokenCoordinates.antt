-- Empty lists of tokens.
use Rattle.std.proofs.Common.{◌≡◌, ℕ, ◌-◌, ◌<◌, List, [], ◌∷◌, length, Some, Vec, Global, refl, sym, subst, arith}
use Rattle.std.specs.List.{AllZip}
use Rattle.json.specs.Token.{Token, begin_array, end_array}
use Rattle.json.specs.Json.{value, after_end_array}
use Rattle.serde_json.specs.Data.{Data, array, no_items}
use Rattle.faults.specs.Fault.{Pair}
use Rattle.reading.specs.Parts.{list_faults, elements}
use Rattle.reading.specs.Tokens.Reads.{Gives, Reads}
use Rattle.reading.proofs.TokensLemmas.Lists.{array_gone}
use Rattle.reading.proofs.TokensLemmas.Reading.{items_over}

pub empty_given : (depth : ℕ) (old mid new : List Token) → 0 < depth → old ≡ begin_array ∷ mid → after_end_array mid ≡ Some new → Gives depth old (array no_items) new
empty_given depth old mid new some opens closed =
    array_gone depth old mid new no_items some opens (items_over (value (depth - 1)) (length mid) mid new (omega arith) closed)

-- a list without an element
pub empty_reads : {X : Type 0} (F : Data → List Pair) (R : Data → X → Type 0) (depth : ℕ) (new : List Token) (v : Vec X Global) → 0 < depth → v.items ≡ []
    → Reads (list_faults F) (λ d xs. AllZip R (elements d) xs.items) depth (begin_array ∷ end_array ∷ new) new v
empty_reads F R depth new v some none = record {
  from = array no_items;
  given = empty_given depth (begin_array ∷ end_array ∷ new) (end_array ∷ new) new some refl refl;
  faultless = refl;
  meant = subst (AllZip R []) (sym none) tt;
}
