-- The numerals of arrays of numbers.
use Rattle.std.proofs.Common.{◌≡◌, ◌≢◌, ℕ, ◌<◌, ◌≤◌, length, get_or, List, [], ◌∷◌, Option, Some, None, refl, sym, ap, ◌∙◌, arith}
use Rattle.std.specs.declared.alloc.Global.{Global}
use Rattle.json.specs.Find.{as_number}
use Rattle.json.specs.Value.{items_view, value_view}
use Rattle.json.specs.declared.value.Value.{Value}
use Rattle.faults.specs.declared.fault.FaultKind.TheVariants.{NotTwo}
use Rattle.reading.specs.Fault.{here}
use Rattle.decimal_arcs.specs.Transforms.{texts_in, two_faults}

abbrev Values : Type 0
Values = List (Value Global)

pub not_two : (vs : Values) → length vs ≢ 2 → two_faults (items_view vs) ≡ here NotTwo
not_two [] h = refl
not_two (x ∷ []) h = refl
not_two (x ∷ y ∷ []) h = absurd (h refl)
not_two (x ∷ y ∷ z ∷ vs) h = refl

abbrev pub texts : List ℕ → List ℕ → Option (List ℕ × List ℕ)
texts a b = Some (a, b)

abbrev pub no_texts_in : Option (List ℕ × List ℕ)
no_texts_in = None

pub few_texts : (vs : Values) → length vs < 2 → no_texts_in ≡ texts_in (items_view vs)
few_texts [] h = refl
few_texts (x ∷ []) h = refl
few_texts (x ∷ y ∷ vs) h = absurd (omega (arith, h))

pub no_first : (vs : Values) (v : Value Global) → 2 ≤ length vs → v ≡ get_or vs 0 v → None ≡ as_number (value_view v) → no_texts_in ≡ texts_in (items_view vs)
no_first [] v h iv ev = absurd (omega (arith, h))
no_first (x ∷ []) v h iv ev = absurd (omega (arith, h))
no_first (x ∷ y ∷ vs) v h iv ev =
    let first : as_number (value_view x) ≡ None = sym (ev ∙ ap (λ u. as_number (value_view u)) iv) in
    rw first refl

pub no_second : (vs : Values) (v w : Value Global) (a : List ℕ) → 2 ≤ length vs → v ≡ get_or vs 0 v → w ≡ get_or vs 1 w → Some a ≡ as_number (value_view v) → None ≡ as_number (value_view w)
    → no_texts_in ≡ texts_in (items_view vs)
no_second [] v w a h iv iw ev ew = absurd (omega (arith, h))
no_second (x ∷ []) v w a h iv iw ev ew = absurd (omega (arith, h))
no_second (x ∷ y ∷ vs) v w a h iv iw ev ew =
    let first : as_number (value_view x) ≡ Some a = sym (ev ∙ ap (λ u. as_number (value_view u)) iv) in
    let second : as_number (value_view y) ≡ None = sym (ew ∙ ap (λ u. as_number (value_view u)) iw) in
    rw (first, second) refl

pub two_texts : (vs : Values) (v w : Value Global) (a b : List ℕ) → 2 ≤ length vs → v ≡ get_or vs 0 v → w ≡ get_or vs 1 w → Some a ≡ as_number (value_view v) → Some b ≡ as_number (value_view w)
    → texts a b ≡ texts_in (items_view vs)
two_texts [] v w a b h iv iw ev ew = absurd (omega (arith, h))
two_texts (x ∷ []) v w a b h iv iw ev ew = absurd (omega (arith, h))
two_texts (x ∷ y ∷ vs) v w a b h iv iw ev ew =
    let first : as_number (value_view x) ≡ Some a = sym (ev ∙ ap (λ u. as_number (value_view u)) iv) in
    let second : as_number (value_view y) ≡ Some b = sym (ew ∙ ap (λ u. as_number (value_view u)) iw) in
    rw (first, second) refl
