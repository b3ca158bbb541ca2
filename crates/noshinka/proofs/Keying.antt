-- Ids as names of members.
use Rattle.std.proofs.Common.{◌≡◌, ◌∙◌, ◌+◌, ◌<◌, ◌≤◌, ◌∷◌, [], ℕ, suc, Bool, true, false, cond, BTreeMap, List, Option, Some, String, ap, arith, bytes_eq, drop, drop-cons, get_or, is_some, length, nat_cmp, refl, string_bytes, sym}
use Rattle.std.proofs.lemmas.Map.Text.{btree_map_updates_text}
use Rattle.std.specs.BTreeMap.{UpdatesBy, get_by_text}
use Rattle.std.specs.Cmp.Lexicographic.{slice_cmp}
use Rattle.std.specs.Prelude.{◌||◌}
use Rattle.std.specs.String.{string_cmp}
use Rattle.std.specs.declared.alloc.Global.{Global}
use Rattle.decimals.proofs.TopologyLemmas.Properties.{no_columns}
use Rattle.topo.specs.declared.geom.Geom.{Geom}
use Rattle.noshinka.proofs.Edits.{none_left}
use Rattle.noshinka.specs.Keys.{comes_again, has_key_twice, is_among, key_of, keys_of}

abbrev pub Seen : Type 0
Seen = BTreeMap (String Global) ℕ

-- names were seen, those of the geometries before i; one of those behind comes again exactly if one of all does
abbrev pub Looking : Seen → ℕ → List Geom → Type 0
Looking seen i gs = (others : List (List ℕ)) × (((q : List ℕ) → is_some (get_by_text seen q) ≡ is_among q others) × (comes_again others (keys_of (drop i gs)) ≡ has_key_twice gs))

pub starts : (seen : Seen) (gs : List Geom) → seen.entries ≡ [] → Looking seen 0 gs
starts seen gs none = ([], (λ q. no_columns seen none q, refl))

key_step : (gs : List Geom) (i : ℕ) (d : Geom) (key : List ℕ) → i < length gs → key ≡ key_of (get_or gs i d).id → keys_of (drop i gs) ≡ key ∷ keys_of (drop (i + 1) gs)
key_step gs i d key within same =
    let step : suc i ≡ i + 1 = omega arith in
    ap keys_of (drop-cons gs i d within) ∙ ap (λ k. key_of (get_or gs i d).id ∷ keys_of (drop k gs)) step ∙ ap (λ k. k ∷ keys_of (drop (i + 1) gs)) (sym same)

-- a name was seen before
pub found : (seen : Seen) (gs : List Geom) (i : ℕ) (d : Geom) (key : List ℕ) → i < length gs → key ≡ key_of (get_or gs i d).id → Looking seen i gs → is_some (get_by_text seen key) ≡ true → has_key_twice gs ≡ true
found seen gs i d key within same (others, (are, again)) is =
    sym again ∙ (ap (comes_again others) (key_step gs i d key within same) ∙ ap (λ b. b || comes_again (key ∷ others) (keys_of (drop (i + 1) gs))) (sym (are key) ∙ is))

told : (v : ℕ) (b : Bool) (o : Option ℕ) (rest : Bool) → is_some o ≡ rest → is_some (cond b (Some v) o) ≡ (b || rest)
told v true o rest h = refl
told v false o rest h = h

-- a name was not, and is noted
pub passed : (old new : Seen) (gs : List Geom) (i : ℕ) (d : Geom) (key : List ℕ) (v : ℕ) → i < length gs → key ≡ key_of (get_or gs i d).id →
    UpdatesBy string_cmp (λ k. slice_cmp nat_cmp key (string_bytes k)) old new (Some v) → Looking old i gs → is_some (get_by_text old key) ≡ false → Looking new (i + 1) gs
passed old new gs i d key v within same updates (others, (are, again)) is =
    let rest = keys_of (drop (i + 1) gs) in (
      key ∷ others,
      (
        λ q. ap is_some (btree_map_updates_text key old new (Some v) updates q) ∙ told v (bytes_eq key q) (get_by_text old q) (is_among q others) (are q),
        sym (ap (λ b. b || comes_again (key ∷ others) rest) (sym (are key) ∙ is)) ∙ (sym (ap (comes_again others) (key_step gs i d key within same)) ∙ again),
      ),
    )

-- none is left
pub ended : (seen : Seen) (gs : List Geom) (i : ℕ) → length gs ≤ i → Looking seen i gs → has_key_twice gs ≡ false
ended seen gs i past (others, (are, again)) = sym again ∙ ap (λ l. comes_again others (keys_of l)) (none_left gs i past)
