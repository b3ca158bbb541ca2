-- Texts that are read one after the other.
use Rattle.std.proofs.Common.{◌≡◌, ℕ, zero, suc, ◌+◌, ◌<◌, ◌≤◌, List, [], ◌∷◌, ◌++◌, Bool, append-nil, arith, drop, get_or, length, map, refl, subst, sym}
use Rattle.std.specs.Borrow.{Bor}
use Rattle.std.proofs.lemmas.List.{drop_all, length-map}
use Rattle.decimal_maps.specs.declared.feature.RawFeature.{RawFeature}
use Rattle.rounded_maps.specs.Fixed.{IsFixedMap}
use Rattle.rounded_maps.specs.Rounded.{AreRead, IsRounded}
use Rattle.rounded_maps.specs.Sequences.{texts_in}
use Rattle.rounded_maps.specs.declared.map.RoundedMap.{RoundedMap}
use Rattle.rounded_maps.specs.declared.rounding.RoundingRules.{RoundingRules}

-- what references to texts point to
abbrev pub texts_at : List (Bor (List ℕ)) → List (List ℕ)
texts_at l = map (λ t. t.now) l

-- the next text, and those behind it
pub next_text : (l : List (Bor (List ℕ))) (i j : ℕ) (d : Bor (List ℕ)) → j ≡ i + 1 → i < length l → drop i (texts_at l) ≡ (get_or l i d).now ∷ drop j (texts_at l)
next_text [] i j d is less = absurd (omega (arith, less))
next_text (x ∷ l) zero j d is less = rw is refl
next_text (x ∷ l) (suc i) zero d is less = absurd (omega (arith, is))
next_text (x ∷ l) (suc i) (suc j) d is less = next_text l i j d (omega (arith, is)) (omega (arith, less))

-- the map of all texts that were read
pub rounded_texts : (rules : RoundingRules) (is_sequence : Bool) (bytes : List ℕ) (l : List (Bor (List ℕ))) (n : ℕ) (m : RoundedMap) (raws : List RawFeature)
    → texts_at l ≡ texts_in is_sequence bytes → length l ≤ n → IsFixedMap rules.fixing rules.numbers raws m
    → ((more : List RawFeature) → AreRead rules.map (drop n (texts_at l)) more → AreRead rules.map (texts_at l) (raws ++ more)) → IsRounded rules is_sequence bytes m
rounded_texts rules is_sequence bytes l n m raws is past fixed read =
    let len = length-map l (λ (t : Bor (List ℕ)). t.now) in
    let short : length (texts_at l) ≤ n = omega (arith, past, len) in
    let none : drop n (texts_at l) ≡ [] = drop_all n (texts_at l) short in
    record {
      raws = raws;
      read = subst (λ ts. AreRead rules.map ts raws) is (subst (AreRead rules.map (texts_at l)) (append-nil raws) (read [] (subst (λ ts. AreRead rules.map ts []) (sym none) refl)));
      fixed = fixed;
    }
