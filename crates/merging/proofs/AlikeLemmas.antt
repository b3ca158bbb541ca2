-- A union depends only on which maps are in it.
use Rattle.std.proofs.Common.{◌≡◌, ℕ, Bool, true, false, cond, List, [], ◌∷◌, length, get_or, Option, Some, None, refl, sym, ◌∙◌, ap, inl, inr}
use Rattle.std.specs.Prelude.{map as map_list, slice_get, unwrap_or, nat_lt}
use Rattle.std.specs.FinMap as map
use Rattle.std.proofs.lemmas.Option.{slice_get-get_or}
use Rattle.std.proofs.lemmas.Bool.{ltb-true}
use Rattle.theory.specs.Lists.{Has}
use Rattle.shapes.specs.Maps.{Layers}
use Rattle.shapes.specs.Union.{union}
use Rattle.merging.specs.Laws.{union_commutes, union_associates, union_itself, union_empty}
use Rattle.merging.specs.Leaves.{first_outside}
use Rattle.merging.specs.Plans.{union_all}
use Rattle.merging.specs.Alike.{IsIn, Names, PlansAlike}

-- a map that is among others adds nothing to their union
absorbed : (m : Layers) (ns : List Layers) → Has m ns → union m (union_all ns) ≡ union_all ns
absorbed m [] h = absurd h
absorbed m (n ∷ ns) (inl e) =
    ap (λ x. union x (union n (union_all ns))) e ∙ sym (union_associates n n (union_all ns)) ∙ ap (λ x. union x (union_all ns)) (union_itself n)
absorbed m (n ∷ ns) (inr h) =
    sym (union_associates m n (union_all ns)) ∙ ap (λ x. union x (union_all ns)) (union_commutes m n)
    ∙ union_associates n m (union_all ns) ∙ ap (union n) (absorbed m ns h)

all_absorbed : (ms ns : List Layers) → ((m : Layers) → Has m ms → Has m ns) → union (union_all ms) (union_all ns) ≡ union_all ns
all_absorbed [] ns h = union_commutes map.empty (union_all ns) ∙ union_empty (union_all ns)
all_absorbed (m ∷ ms) ns h =
    union_associates m (union_all ms) (union_all ns) ∙ ap (union m) (all_absorbed ms ns (λ n k. h n (inr k)))
    ∙ absorbed m ns (h m (inl refl))

pub same_union : (ms ns : List Layers) → ((m : Layers) → Has m ms → Has m ns) → ((m : Layers) → Has m ns → Has m ms) → union_all ms ≡ union_all ns
same_union ms ns f g = sym (all_absorbed ns ms g) ∙ union_commutes (union_all ns) (union_all ms) ∙ all_absorbed ms ns f

abbrev pub at : List Layers → ℕ → Layers
at ms i = unwrap_or (slice_get ms i) map.empty

pub named_among : (ms : List Layers) (is : List ℕ) (m : Layers) (i : ℕ) → IsIn i is → slice_get ms i ≡ Some m → Has m (map_list (at ms) is)
named_among ms [] m i h e = absurd h
named_among ms (j ∷ js) m i (inl k) e = inl (sym (ap (at ms) (sym k) ∙ ap (λ o. unwrap_or o map.empty) e))
named_among ms (j ∷ js) m i (inr k) e = inr (named_among ms js m i k e)

lower : (n i : ℕ) (o : Option ℕ) → cond (nat_lt i n) o (Some i) ≡ None → (nat_lt i n ≡ true) × (o ≡ None)
lower n i o = go (nat_lt i n)
  where
    go : (b : Bool) → cond b o (Some i) ≡ None → (b ≡ true) × (o ≡ None)
    go true e = (refl, e)
    go false e = absurd cc

pub among_named : (ms : List Layers) (is : List ℕ) → first_outside (length ms) is ≡ None → (m : Layers) → Has m (map_list (at ms) is) → Names ms is m
among_named ms [] none m h = absurd h
among_named ms (j ∷ js) none m (inl e) =
    let low = lower (length ms) j (first_outside (length ms) js) none in
    let found : slice_get ms j ≡ Some (get_or ms j map.empty) = sometimes low.0 in
    (j, inl refl, found ∙ ap Some (sym (ap (λ o. unwrap_or o map.empty) found) ∙ sym e))
  where
    sometimes : nat_lt j (length ms) ≡ true → slice_get ms j ≡ Some (get_or ms j map.empty)
    sometimes h = slice_get-get_or ms j map.empty (ltb-true j (length ms) h)
among_named ms (j ∷ js) none m (inr h) =
    let low = lower (length ms) j (first_outside (length ms) js) none in
    let rest = among_named ms js low.1 m h in (rest.0, inr rest.1, rest.2)

pub plans_alike : PlansAlike
plans_alike ms ns is js a b same =
    same_union (map_list (at ms) is) (map_list (at ns) js)
    (λ m h. let n = (same m).0 (among_named ms is a m h) in named_among ns js m n.0 n.1 n.2)
    (λ m h. let n = (same m).1 (among_named ns js b m h) in named_among ms is m n.0 n.1 n.2)
