-- Two numbers in brackets.
use Rattle.std.proofs.Common.{◌≡◌, ℕ, ◌-◌, ◌<◌, List, ◌∷◌, length, Some, refl, ap, ◌∙◌, arith}
use Rattle.json.specs.Token.{Token, begin_array, end_array}
use Rattle.json.specs.Json.{items, value, parse_map}
use Rattle.json.proofs.Grammar.{value-begin_array}
use Rattle.serde_json.specs.Data as data_of
use Rattle.serde_json.specs.Data.{Num, Data, array, item, no_items}
use Rattle.serde_json.specs.Read.{of_json, converted, number_of}
use Rattle.reading.specs.Tokens.Reads.{Gives}
use Rattle.reading.proofs.TokensLemmas.Reading.{converted-array, item_read, items_over}
use Rattle.reading.proofs.TokensLemmas.Lists.{number_gives}

pub two_numbers : (depth : ℕ) (s t : List ℕ) (m k : Num) (new : List Token) → 0 < depth → number_of s ≡ Some m → number_of t ≡ Some k
    → Gives depth (begin_array ∷ Token.number s ∷ Token.number t ∷ end_array ∷ new) (array (item (data_of.number m) (item (data_of.number k) no_items))) new
two_numbers depth s t m k new some first second =
    let p = value (depth - 1) in
    let last = end_array ∷ new in
    let next = Token.number t ∷ last in
    let all = Token.number s ∷ next in
    let one = item_read p (length all) all next (data_of.number m) (omega arith) refl (number_gives (depth - 1) all next s m refl first) in
    let two = item_read p (length all - 1) next last (data_of.number k) (omega arith) refl (number_gives (depth - 1) next last t k refl second) in
    let over = items_over p (length all - 1 - 1) last new (omega arith) refl in
    ap (converted of_json) (value-begin_array depth all some) ∙ converted-array (items p (length all) all) ∙ ap (parse_map array) (one ∙ ap (parse_map (item (data_of.number m))) (two ∙ ap (parse_map (item (data_of.number k))) over))
