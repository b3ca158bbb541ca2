-- Whether numbers have few digits over a common power of ten.
use Rattle.std.proofs.Common.{◌≡◌, ◌↔◌, ℕ, ◌^◌, ◌<◌, Bool, true, false, nat_lt, IsTrue, List, [], ◌∷◌, length, Option, Some, None, refl, sym, subst, arith, if◌then◌else◌}
use Rattle.std.proofs.lemmas.Bool.Decides.{nat_tests}
use Rattle.std.specs.Prelude.{◌==◌, ◌&&◌, codes, unsigned_abs}
use Rattle.fast_float.specs.Text.{has_digits}
use Rattle.json.specs.Json.{Json, Members}
use Rattle.json.specs.Find.{as_object, get}
use Rattle.faults.specs.Fault.{Pair}
use Rattle.faults.specs.Path.{name, index}
use Rattle.faults.specs.declared.fault.FaultKind.TheVariants.{OutOfRange}
use Rattle.numerals.specs.Axis.{IsFit, common_numerator, places_of}
use Rattle.numerals.specs.Numeral.{parts_of, unsigned_text}
use Rattle.reading.specs.Fault.{here, under, unless_faulty}
use Rattle.reading.proofs.Faultless.{first_none, second_none, under_none}
use Rattle.decimal_faults.specs.Parts.{if_there, object_faults}
use Rattle.decimal_arcs.specs.Transforms.{faults_of, fit_faults, is_fit, limit_faults, members_faults, numbers_faults, texts_of, transform_faults}

fit_passes : (a b : List ℕ) → IsFit a b → is_fit a b ≡ true
fit_passes a b h = all (has_digits (parts_of a)) (parts_of a).len (length (unsigned_text a)) (places_of a) (unsigned_abs (common_numerator a b)) h.numeral.digits h.numeral.complete h.places h.digits
  where
    all : (d : Bool) (m n p s : ℕ) → IsTrue d → m ≡ n → p < 2 ^ 32 → s < 10 ^ 25 → ((d && m == n) && nat_lt p (2 ^ 32) && nat_lt s (10 ^ 25)) ≡ true
    all d m n p s some same few short = grind (arith, nat_tests)

pub fit_by_test : (a b : List ℕ) → is_fit a b ≡ true → IsFit a b
fit_by_test a b e =
    let parts = all (has_digits (parts_of a)) (parts_of a).len (length (unsigned_text a)) (places_of a) (unsigned_abs (common_numerator a b)) e in
    record { numeral = record { digits = parts.0; complete = parts.1 }; places = parts.2; digits = parts.3 }
  where
    all : (d : Bool) (m n p s : ℕ) → ((d && m == n) && nat_lt p (2 ^ 32) && nat_lt s (10 ^ 25)) ≡ true → IsTrue d × (m ≡ n) × (p < 2 ^ 32) × (s < 10 ^ 25)
    all d m n p s e = grind (arith, nat_tests)

pub fit_is : (a b : List ℕ) (r : Bool) → (IsTrue r ↔ IsFit a b) → r ≡ is_fit a b
fit_is a b true h = sym (fit_passes a b (h.0 refl))
fit_is a b false h = by_test (is_fit a b) refl
  where
    by_test : (t : Bool) → is_fit a b ≡ t → false ≡ is_fit a b
    by_test true e = let off = h.1 (fit_by_test a b e) in absurd cc
    by_test false e = sym e

fit_faultless : (a b : List ℕ) → fit_faults a b ≡ [] → IsFit a b
fit_faultless a b e = fit_by_test a b (by_test (is_fit a b) e)
  where
    by_test : (t : Bool) → (if t then [] else here OutOfRange) ≡ [] → t ≡ true
    by_test true e = refl
    by_test false e = cc

-- four numbers without a fault
pub record AreFit (s t : List ℕ × List ℕ) : Type 0 where
  pub x : IsFit s.0 t.0
  pub y : IsFit s.1 t.1
  pub back_x : IsFit t.0 s.0
  pub back_y : IsFit t.1 s.1

pub limits_faultless : (s t : List ℕ × List ℕ) → limit_faults s t ≡ [] → AreFit s t
limits_faultless s t e =
    let first = under_none (name (codes "scale")) _ (first_none _ _ e) in
    let second = under_none (name (codes "translate")) _ (second_none (under (name (codes "scale")) _) _ e) in
    record {
      x = fit_faultless s.0 t.0 (under_none (index 0) _ (first_none _ _ first));
      y = fit_faultless s.1 t.1 (under_none (index 1) _ (second_none (under (index 0) (fit_faults s.0 t.0)) _ first));
      back_x = fit_faultless t.0 s.0 (under_none (index 0) _ (first_none _ _ second));
      back_y = fit_faultless t.1 s.1 (under_none (index 1) _ (second_none (under (index 0) (fit_faults t.0 s.0)) _ second));
    }

pub no_x : (s t : List ℕ × List ℕ) (a b : List ℕ) → a ≡ s.0 → b ≡ t.0 → (IsFit a b × IsFit b a → ⊥) → limit_faults s t ≡ [] → ⊥
no_x s t a b ea eb none e = let f = limits_faultless s t e in none (rw (ea, eb) (f.x, f.back_x))

pub no_y : (s t : List ℕ × List ℕ) (a b : List ℕ) → a ≡ s.1 → b ≡ t.1 → (IsFit a b × IsFit b a → ⊥) → limit_faults s t ≡ [] → ⊥
no_y s t a b ea eb none e = let f = limits_faultless s t e in none (rw (ea, eb) (f.y, f.back_y))

unless_second : (ps qs : List Pair) → unless_faulty ps qs ≡ [] → qs ≡ []
unless_second [] qs e = e
unless_second (p ∷ ps) qs e = cc

pub limits_of : (root j : Json) → Some j ≡ get (codes "transform") root → transform_faults root ≡ [] → limit_faults (texts_of (codes "scale") j) (texts_of (codes "translate") j) ≡ []
limits_of root j is none =
    let there : faults_of j ≡ [] = under_none (name (codes "transform")) (faults_of j) (subst (λ o. under (name (codes "transform")) (if_there faults_of o) ≡ []) (sym is) none) in
    unless_second (members_faults j) _ (in_object (as_object j) there)
  where
    in_object : (o : Option Members) → object_faults (numbers_faults j) o ≡ [] → numbers_faults j ≡ []
    in_object None e = cc
    in_object (Some ms) e = e
