-- Lists of positions compared by their first two positions.
use Rattle.std.proofs.Common.{◌≡◌, Bool, true, false, List, [], ◌∷◌, refl, sym, ◌∙◌, subst, Option, Some, None}
use Rattle.std.specs.Option.{option_eq, option_map}
use Rattle.std.specs.Prelude.{IfSome}
use Rattle.std.specs.Ordering.{is_lt, ordering_then}
use Rattle.std.specs.declared.cmp.Ordering.{Ordering}
use Rattle.std.specs.declared.cmp.Ordering.TheVariants.{Less, Equal, Greater}
use Rattle.grid.specs.declared.pos.Pos.{Pos}
use Rattle.lines.proofs.Positions.{both_intro, position_refl}
use Rattle.lines.specs.Pairs.{position_eq}
use Rattle.lines.specs.Turned.{list_cmp, position_cmp}
use Rattle.arcs.specs.Keys.{key_cmp, key_eq, key_of}
use Rattle.arcs.specs.Table.{same_list}
use Rattle.arcs.specs.declared.key.Key.{Key}
use Rattle.arcs.specs.declared.stored.StoredArc.{StoredArc}
use Rattle.arcs.proofs.Places.{list_true}

-- what stands behind the first two is looked at only where they tie
then_both : (a b r s : Ordering) → (is_lt r ≡ false → is_lt (ordering_then a (ordering_then b s)) ≡ false) →
    is_lt (ordering_then (ordering_then a b) r) ≡ false → is_lt (ordering_then a (ordering_then b s)) ≡ false
then_both Less b r s f e = absurd cc
then_both Equal Less r s f e = absurd cc
then_both Equal Equal r s f e = f e
then_both Equal Greater r s f e = refl
then_both Greater b r s f e = refl

-- where an order looks at the keys first, and then does as the order of lists does, no list comes before another that isn't before it
pub keys_first : (c d : List Pos) (r : Ordering) → (is_lt r ≡ false → is_lt (list_cmp c d) ≡ false) →
    is_lt (ordering_then (key_cmp (key_of c) (key_of d)) r) ≡ false → is_lt (list_cmp c d) ≡ false
keys_first [] [] r f e = refl
keys_first [] (y ∷ d) r f e = absurd cc
keys_first (x ∷ c) [] r f e = refl
keys_first (x ∷ []) (y ∷ []) r f e = then_both (position_cmp x y) Equal r Equal f e
keys_first (x ∷ []) (y ∷ (w ∷ d)) r f e = then_both (position_cmp x y) Less r Equal f e
keys_first (x ∷ (v ∷ c)) (y ∷ []) r f e = then_both (position_cmp x y) Greater r Equal f e
keys_first (x ∷ (v ∷ c)) (y ∷ (w ∷ d)) r f e = then_both (position_cmp x y) (position_cmp v w) r (list_cmp c d) f e

found_same : (o : Option Pos) → option_eq position_eq o o ≡ true
found_same None = refl
found_same (Some x) = position_refl x

key_same : (k : Key) → key_eq k k ≡ true
key_same k = both_intro (option_eq position_eq k.first k.first) (option_eq position_eq k.second k.second) (found_same k.first) (found_same k.second)

-- lists with different keys differ
pub apart : (last : Option StoredArc) (key : Option Key) (next : List Pos) → key ≡ option_map (λ a. key_of a.positions) last →
    option_eq key_eq key (Some (key_of next)) ≡ false → IfSome last (λ a. same_list next a.positions ≡ false)
apart None key next k e = tt
apart (Some a) key next k e = go (same_list next a.positions) refl
  where
    go : (t : Bool) → same_list next a.positions ≡ t → same_list next a.positions ≡ false
    go true h =
        let m : next ≡ a.positions = list_true next a.positions h in
        let n : key_eq (key_of a.positions) (key_of next) ≡ false = subst (λ w. option_eq key_eq w (Some (key_of next)) ≡ false) k e in
        let p : key_eq (key_of next) (key_of next) ≡ false = subst (λ w. key_eq (key_of w) (key_of next) ≡ false) (sym m) n in
        let q : true ≡ false = sym (key_same (key_of next)) ∙ p in
        absurd cc
    go false h = h
