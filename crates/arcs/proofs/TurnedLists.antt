-- Lists of used arcs, turned to begin where they start least.
use Rattle.std.proofs.Common.{◌≡◌, ℕ, ◌+◌, ◌≤◌, Bool, true, false, cond, List, [], ◌∷◌, ◌++◌, length, take, drop, refl, sym, ap, ◌∙◌, arith, append_assoc, Option, Some, None}
use Rattle.std.proofs.lemmas.List.{length-append}
use Rattle.std.proofs.Math.Seq.{drop-append_seam, take-append_seam}
use Rattle.std.specs.Cmp.Lexicographic.{slice_cmp}
use Rattle.std.specs.Ordering.{is_gt, ordering_then}
use Rattle.std.specs.declared.cmp.Ordering.{Ordering}
use Rattle.std.specs.declared.cmp.Ordering.TheVariants.{Less, Equal, Greater}
use Rattle.theory.specs.ArcNumbers.{ArcRef, along}
use Rattle.theory.specs.Refinement.{first_two, turned_used}
use Rattle.theory.specs.Refinement as refinement
use Rattle.theory.specs.TopologyFunction.{least_from, lesser, rotations_from}
use Rattle.grid.specs.declared.pos.Pos.{Pos}
use Rattle.lines.specs.Turned.{position_cmp}
use Rattle.arcs.specs.Keys.{key_cmp}
use Rattle.arcs.specs.Turning.{key_if, used_key, least_index, least_index_from}
use Rattle.arcs.specs.declared.key.Key.{Key}

then_equal : (o : Ordering) → ordering_then o Equal ≡ o
then_equal Less = refl
then_equal Equal = refl
then_equal Greater = refl

-- by keys as by the lists of the first two vertices
pub keys_compare : (l k : Option (List Pos)) → slice_cmp position_cmp (first_two l) (first_two k) ≡ key_cmp (key_if l) (key_if k)
keys_compare None None = refl
keys_compare None (Some []) = refl
keys_compare None (Some (x ∷ [])) = refl
keys_compare None (Some (x ∷ (y ∷ r))) = refl
keys_compare (Some []) None = refl
keys_compare (Some []) (Some []) = refl
keys_compare (Some []) (Some (x ∷ [])) = refl
keys_compare (Some []) (Some (x ∷ (y ∷ r))) = refl
keys_compare (Some (a ∷ [])) None = refl
keys_compare (Some (a ∷ [])) (Some []) = refl
keys_compare (Some (a ∷ [])) (Some (x ∷ [])) = refl
keys_compare (Some (a ∷ [])) (Some (x ∷ (y ∷ r))) = refl
keys_compare (Some (a ∷ (b ∷ q))) None = refl
keys_compare (Some (a ∷ (b ∷ q))) (Some []) = refl
keys_compare (Some (a ∷ (b ∷ q))) (Some (x ∷ [])) = refl
keys_compare (Some (a ∷ (b ∷ q))) (Some (x ∷ (y ∷ r))) = ap (ordering_then (position_cmp a x)) (then_equal (position_cmp b y))

module _ (arcs : List (List Pos)) where
  abbrev R : List ArcRef → List ArcRef → Ordering
  R a b = slice_cmp position_cmp (refinement.start_of arcs a) (refinement.start_of arcs b)

  -- the list begun at a place
  abbrev started : List ArcRef → ℕ → List ArcRef
  started l p = drop p l ++ take p l

  -- the least so far is begun at `place`, and begins with `best`
  go : (whole s t : List ArcRef) (best : ArcRef) (index : ℕ) (d tail : List ArcRef) → whole ≡ s ++ t → d ≡ started whole index → d ≡ best ∷ tail →
      least_from R d (rotations_from s t) ≡ started whole (least_index_from arcs index (used_key arcs best) (length s) t)
  go whole s [] best index d tail e f g = f
  go whole s (x ∷ t) best index d tail e f g =
      let same : R d ((x ∷ t) ++ s) ≡ key_cmp (used_key arcs best) (used_key arcs x) =
      ap (λ w. R w ((x ∷ t) ++ s)) g ∙ keys_compare (along arcs best) (along arcs x) in
      let n : length (s ++ (x ∷ [])) ≡ length s + 1 = length-append s (x ∷ []) in
      ap (λ o. least_from R (lesser o d ((x ∷ t) ++ s)) (rotations_from (s ++ (x ∷ [])) t)) same
      ∙ step (λ b p k q i j. go whole (s ++ (x ∷ [])) t b p k q (e ∙ sym (append_assoc s (x ∷ []) t)) i j) (key_cmp (used_key arcs best) (used_key arcs x))
      ∙ ap (λ k. started whole (least_index_from arcs (cond (is_gt (key_cmp (used_key arcs best) (used_key arcs x))) (length s) index)
      (cond (is_gt (key_cmp (used_key arcs best) (used_key arcs x))) (used_key arcs x) (used_key arcs best)) k t)) n
    where
      seam : (x ∷ t) ++ s ≡ started whole (length s)
      seam = (λ i. sym (drop-append_seam s (x ∷ t)) i ++ sym (take-append_seam s (x ∷ t)) i) ∙ ap (λ w. started w (length s)) (sym e)

      step : ((b : ArcRef) (p : ℕ) (k q : List ArcRef) → k ≡ started whole p → k ≡ b ∷ q →
          least_from R k (rotations_from (s ++ (x ∷ [])) t) ≡ started whole (least_index_from arcs p (used_key arcs b) (length (s ++ (x ∷ []))) t)) →
          (o : Ordering) → least_from R (lesser o d ((x ∷ t) ++ s)) (rotations_from (s ++ (x ∷ [])) t)
          ≡ started whole (least_index_from arcs (cond (is_gt o) (length s) index) (cond (is_gt o) (used_key arcs x) (used_key arcs best)) (length (s ++ (x ∷ []))) t)
      step more Less = more best index d tail f g
      step more Equal = more best index d tail f g
      step more Greater = more x (length s) ((x ∷ t) ++ s) (t ++ s) seam refl

  -- the list begun at the place of its least start is the least of its rotations
  pub turned_at : (l : List ArcRef) → turned_used position_cmp arcs l ≡ started l (least_index arcs l)
  turned_at [] = refl
  turned_at (x ∷ l) =
      go (x ∷ l) (x ∷ []) l x 0 ((x ∷ l) ++ []) (l ++ []) refl (refl_started (x ∷ l)) refl
    where
      refl_started : (k : List ArcRef) → k ++ [] ≡ drop 0 k ++ take 0 k
      refl_started k = refl

  -- the place is within the list
  within_from : (t : List ArcRef) (index : ℕ) (least : Key) (i : ℕ) → index ≤ i + length t → least_index_from arcs index least i t ≤ i + length t
  within_from [] index least i h = h
  within_from (x ∷ t) index least i h =
      let k = within_from t (cond (is_gt (key_cmp least (used_key arcs x))) i index) (cond (is_gt (key_cmp least (used_key arcs x))) (used_key arcs x) least) (i + 1)
      (by_case (is_gt (key_cmp least (used_key arcs x)))) in
      omega (arith, k)
    where
      by_case : (b : Bool) → cond b i index ≤ (i + 1) + length t
      by_case true = omega arith
      by_case false = omega (arith, h)

  pub index_within : (l : List ArcRef) → least_index arcs l ≤ length l
  index_within [] = omega arith
  index_within (x ∷ l) = let k = within_from l 0 (used_key arcs x) 1 (omega arith) in omega (arith, k)

-- what the code turns
pub turned_by_code : (arcs : List (List Pos)) (l r new : List ArcRef) (index : ℕ) → index ≡ least_index arcs l → new ≡ drop index l ++ take index l → l ≡ r →
    new ≡ turned_used position_cmp arcs r
turned_by_code arcs l r new index p e f = e ∙ ap (λ w. drop w l ++ take w l) p ∙ sym (turned_at arcs l) ∙ ap (turned_used position_cmp arcs) f
