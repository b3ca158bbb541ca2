-- Lemmas on how much differs.
use Rattle.std.proofs.Common.{◌≡◌, ℕ, ◌+◌, ◌-◌, ◌^◌, ◌<◌, Bool, List, [], ◌∷◌, ◌++◌, ap, arith, cond, count_by, Option, None, Some, is_some, not, true, false, is_none, length, length-append, min, sum_by, vec_len}
use mir.Val.{bool_byte}
use Rattle.std.proofs.lemmas.List.Sums.{count_by-le-length, sum_by_push}
use Rattle.difference_text.specs.DifferenceText.{capped, counts_of}
use Rattle.difference_text.specs.declared.difference.ChangeCounts.{ChangeCounts}
use Rattle.difference_text.specs.declared.difference.LayerChanges.{LayerChanges}

-- one more term of a capped sum
one_more : (f : LayerChanges → ℕ) (layers : List LayerChanges) (l : LayerChanges) (n k s : ℕ) → n ≡ capped (sum_by f layers) → k ≡ f l → s ≡ min (n + k) (2 ^ 64 - 1) → s ≡ capped (sum_by f (layers ++ l ∷ []))
one_more f layers l n k s is added e = omega (arith, sum_by_push f layers l)

-- one more element of a count
one_counted : (p : LayerChanges → Bool) (layers : List LayerChanges) (l : LayerChanges) (n k s : ℕ) → length layers + 1 < 2 ^ 64 → n ≡ count_by p layers → k ≡ cond (p l) 1 0 → s ≡ min (n + k) (2 ^ 64 - 1) → s ≡ count_by p (layers ++ l ∷ [])
one_counted p layers l n k s short is counted e = omega (arith, sum_by_push (λ x. cond (p x) 1 0) layers l, count_by-le-length p (layers ++ l ∷ []), length-append layers (l ∷ []))

-- whether there is none, as a number
none_or_some : (o : Option ℕ) (b : Bool) (k : ℕ) → is_some o ≡ not b → k ≡ bool_byte b → k ≡ cond (is_none o) 1 0
none_or_some None true k s e = e
none_or_some None false k s e = cc
none_or_some (Some n) true k s e = cc
none_or_some (Some n) false k s e = e

-- what counts of layers become with one layer more
pub counts_more : (layers : List LayerChanges) (l : LayerChanges) (c : ChangeCounts) (a r d la lr ka kr kd oa or : ℕ) (ba br : Bool) → length layers + 1 < 2 ^ 64 → c ≡ counts_of layers
    → ka ≡ vec_len l.added → a ≡ min (c.added + ka) (2 ^ 64 - 1) → kr ≡ vec_len l.removed → r ≡ min (c.removed + kr) (2 ^ 64 - 1) → kd ≡ vec_len l.changed → d ≡ min (c.changed + kd) (2 ^ 64 - 1)
    → is_some l.layers.old ≡ not ba → oa ≡ bool_byte ba → la ≡ min (c.layers_added + oa) (2 ^ 64 - 1) → is_some l.layers.new ≡ not br → or ≡ bool_byte br → lr ≡ min (c.layers_removed + or) (2 ^ 64 - 1)
    → record { added = a; removed = r; changed = d; layers_added = la; layers_removed = lr } ≡ counts_of (layers ++ l ∷ [])
unfolding counts_of
counts_more layers l c a r d la lr ka kr kd oa or ba br short is la' a' lr' r' ld' d' ob ok oe nb nk ne =
    let added = one_more (λ x. vec_len x.added) layers l c.added ka a (ap (λ (x : ChangeCounts). x.added) is) la' a' in
    let removed = one_more (λ x. vec_len x.removed) layers l c.removed kr r (ap (λ (x : ChangeCounts). x.removed) is) lr' r' in
    let changed = one_more (λ x. vec_len x.changed) layers l c.changed kd d (ap (λ (x : ChangeCounts). x.changed) is) ld' d' in
    let layers_added = one_counted (λ x. is_none x.layers.old) layers l c.layers_added oa la short (ap (λ (x : ChangeCounts). x.layers_added) is) (none_or_some l.layers.old ba oa ob ok) oe in
    let layers_removed = one_counted (λ x. is_none x.layers.new) layers l c.layers_removed or lr short (ap (λ (x : ChangeCounts). x.layers_removed) is) (none_or_some l.layers.new br or nb nk) ne in cc
