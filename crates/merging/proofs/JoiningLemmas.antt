-- Shards that are joined in pairs, until one is left.
use Rattle.std.proofs.Common.{◌≡◌, ◌+◌, ◌*◌, ◌≤◌, List, [], ◌∷◌, ◌++◌, length, sym, ◌∙◌, ap, subst, arith, append_assoc}
use Rattle.std.specs.Prelude.{map as map_list, All}
use Rattle.std.proofs.lemmas.List.{map-append, length-append}
use Rattle.std.proofs.lemmas.List.Elements.{All-nil, All-head, All-tail, All-push, All-append}
use Rattle.std.proofs.lemmas.List.Sorted.{IsPermutation-map, IsPermutation-sym}
use Rattle.std.specs.List.Sorted.{IsPermutation}
use Rattle.lines.proofs.SortedLists.{Has-permutation}
use Rattle.grid.specs.Place.{Transform}
use Rattle.shapes.specs.Maps.{Layers}
use Rattle.shapes.specs.Union.{union}
use Rattle.merging.specs.Laws.{union_associates, union_empty}
use Rattle.merging.specs.Plans.{union_all}
use Rattle.merging.proofs.AlikeLemmas.{same_union}
use Rattle.merging.proofs.PlanLemmas.{union_all-append}

-- pairs of shards were joined, and these are left
pub record Paired {S : Type 0} (grid : S → Transform) (map_of : S → Layers) (shards joined left : List S) : Type 0 where
  pub count : 2 * length joined + length left ≡ length shards
  pub union_of : union_all (map_list map_of (joined ++ left)) ≡ union_all (map_list map_of shards)
  pub on_grid : (g : Transform) → All (λ s. grid s ≡ g) shards → All (λ s. grid s ≡ g) joined × All (λ s. grid s ≡ g) left

module _ {S : Type 0} (grid : S → Transform) (map_of : S → Layers) where
  union_of-append : (xs ys : List S) → union_all (map_list map_of (xs ++ ys)) ≡ union (union_all (map_list map_of xs)) (union_all (map_list map_of ys))
  union_of-append xs ys = ap union_all (map-append map_of xs ys) ∙ union_all-append (map_list map_of xs) (map_list map_of ys)

  -- shards in another order have the same union
  pub moved_union : (xs ys : List S) → IsPermutation xs ys → union_all (map_list map_of ys) ≡ union_all (map_list map_of xs)
  moved_union xs ys moved =
      let there = IsPermutation-map map_of xs ys moved in
      same_union (map_list map_of ys) (map_list map_of xs)
      (λ m. Has-permutation (map_list map_of ys) (map_list map_of xs) m (IsPermutation-sym _ _ there))
      (λ m. Has-permutation (map_list map_of xs) (map_list map_of ys) m there)

  -- two shards in place of their join
  joined_union : (joined after : List S) (a b s : S) → map_of s ≡ union (map_of a) (map_of b) →
      union_all (map_list map_of ((joined ++ (s ∷ [])) ++ after)) ≡ union_all (map_list map_of (joined ++ (a ∷ (b ∷ after))))
  joined_union joined after a b s is =
      let whole : List S → Layers = λ xs. union_all (map_list map_of xs) in
      ap whole (append_assoc joined (s ∷ []) after) ∙ union_of-append joined (s ∷ after)
      ∙ ap (union (whole joined)) (ap (λ m. union m (whole after)) is ∙ union_associates (map_of a) (map_of b) (whole after))
      ∙ sym (union_of-append joined (a ∷ (b ∷ after)))

  pub pair_joined : (shards joined left mid after more : List S) (a b s : S) → Paired grid map_of shards joined left → left ≡ a ∷ mid → mid ≡ b ∷ after →
      map_of s ≡ union (map_of a) (map_of b) → grid s ≡ grid a → more ≡ joined ++ (s ∷ []) → Paired grid map_of shards more after
  pair_joined shards joined left mid after more a b s old e k is same m =
      let split : left ≡ a ∷ (b ∷ after) = e ∙ ap (λ w. a ∷ w) k in
      record {
        count = omega (arith, old.count, ap length split, ap length m, length-append joined (s ∷ []));
        union_of = ap (λ w. union_all (map_list map_of (w ++ after))) m ∙ joined_union joined after a b s is ∙ ap (λ w. union_all (map_list map_of (joined ++ w))) (sym split) ∙ old.union_of;
        on_grid = λ g h.
            let P : S → Type 0 = λ s. grid s ≡ g in
            let both = old.on_grid g h in
            let two : All P (a ∷ (b ∷ after)) = subst (All P) split both.1 in
            (subst (All P) (sym m) (All-push P joined s both.0 (same ∙ All-head P a (b ∷ after) two)), All-tail P b after (All-tail P a (b ∷ after) two));
      }

  -- the last shard stays as it is
  pub last_alone : (joined left mid more : List S) (a : S) → left ≡ a ∷ mid → length mid ≡ 0 → more ≡ joined ++ (a ∷ []) → more ≡ joined ++ left
  last_alone joined left (b ∷ bs) more a e k m = absurd (omega (arith, k))
  last_alone joined left [] more a e k m = m ∙ ap (λ w. joined ++ w) (sym e)

  pub all_on : (shards joined left : List S) (g : Transform) → Paired grid map_of shards joined left → All (λ s. grid s ≡ g) shards → All (λ s. grid s ≡ g) (joined ++ left)
  all_on shards joined left g old h = let both = old.on_grid g h in All-append (λ s. grid s ≡ g) joined left both.0 both.1

  pub two_on : (shards joined left mid after : List S) (a b : S) (g : Transform) → Paired grid map_of shards joined left → left ≡ a ∷ mid → mid ≡ b ∷ after → All (λ s. grid s ≡ g) shards → grid a ≡ grid b
  two_on shards joined left mid after a b g old e k h =
      let P : S → Type 0 = λ s. grid s ≡ g in
      let two : All P (a ∷ (b ∷ after)) = subst (All P) (e ∙ ap (λ w. a ∷ w) k) (old.on_grid g h).1 in
      All-head P a (b ∷ after) two ∙ sym (All-head P b after (All-tail P a (b ∷ after) two))

  pub one_union : (s : S) (made before : List S) → made ≡ before ++ (s ∷ []) → length made ≤ 1 → map_of s ≡ union_all (map_list map_of made)
  one_union s made [] e le = sym (ap (λ w. union_all (map_list map_of w)) e ∙ union_empty (map_of s))
  one_union s made (b ∷ bs) e le = absurd (omega (arith, ap length e, length-append bs (s ∷ [])))
