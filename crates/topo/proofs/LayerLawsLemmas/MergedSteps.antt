-- How lists are merged step by step.
use Rattle.std.proofs.Common.{◌≡◌, ◌<◌, List, [], ◌∷◌, ◌++◌, length, drop, get_or, Some, None, IfSome, refl, sym, ap, ◌∙◌, append_assoc, arith}
use Rattle.std.specs.List.{AllByRecursion}
use Rattle.std.specs.declared.cmp.Ordering.{Ordering}
use Rattle.std.specs.declared.cmp.Ordering.TheVariants.{Less, Equal, Greater}
use Rattle.topo.specs.LayerLaws.Cuts.{by_order, merged, merged_into, united, united_into}
use Rattle.topo.specs.LayerLaws.CutLayers.{before, behind, tied, with_other}
use Rattle.topo.proofs.LayerLawsLemmas.MergedSets.{picked}

module _ {A : Type 0} (cmp : A → A → Ordering) (x : A) where
  -- what is merged, by what stands before x and behind it
  pub into_parts : (rest : List A → List A) (ys : List A) → merged_into cmp x rest ys ≡ before cmp x ys ++ (x ∷ rest (behind cmp x ys))
  into_parts rest [] = refl
  into_parts rest (y ∷ ys) = go (into_parts rest ys) (cmp x y)
    where
      go : merged_into cmp x rest ys ≡ before cmp x ys ++ (x ∷ rest (behind cmp x ys)) →
          (r : Ordering) → by_order r (x ∷ rest (y ∷ ys)) (x ∷ rest ys) (y ∷ merged_into cmp x rest ys) ≡
          by_order r [] [] (y ∷ before cmp x ys) ++ (x ∷ rest (by_order r (y ∷ ys) ys (behind cmp x ys)))
      go more Less = refl
      go more Equal = refl
      go more Greater = ap (λ t. y ∷ t) more

  -- the same, where what ties with x becomes one with it
  pub united_parts : (both : A → A → A) (rest : List A → List A) (ys : List A) →
      united_into cmp both x rest ys ≡ before cmp x ys ++ (with_other both x (tied cmp x ys) ∷ rest (behind cmp x ys))
  united_parts both rest [] = refl
  united_parts both rest (y ∷ ys) = go (united_parts both rest ys) (cmp x y)
    where
      go : united_into cmp both x rest ys ≡ before cmp x ys ++ (with_other both x (tied cmp x ys) ∷ rest (behind cmp x ys)) →
          (r : Ordering) → by_order r (x ∷ rest (y ∷ ys)) (both x y ∷ rest ys) (y ∷ united_into cmp both x rest ys) ≡
          by_order r [] [] (y ∷ before cmp x ys) ++ (with_other both x (by_order r None (Some y) (tied cmp x ys)) ∷ rest (by_order r (y ∷ ys) ys (behind cmp x ys)))
      go more Less = refl
      go more Equal = refl
      go more Greater = ap (λ t. y ∷ t) more

  pub all_behind : (P : A → Type 0) (ys : List A) → AllByRecursion P ys → AllByRecursion P (behind cmp x ys)
  all_behind P [] h = tt
  all_behind P (y ∷ ys) h = picked (AllByRecursion P) (cmp x y) _ _ _ (λ _. h) (λ _. h.1) (λ _. all_behind P ys h.1)

  pub tied_has : (P : A → Type 0) (ys : List A) → AllByRecursion P ys → IfSome (tied cmp x ys) P
  tied_has P [] h = tt
  tied_has P (y ∷ ys) h = picked (λ o. IfSome o P) (cmp x y) _ _ _ (λ _. tt) (λ _. h.0) (λ _. tied_has P ys h.1)

module _ {A : Type 0} where
  -- the first of a list
  pub first_is : (ys : List A) (y : A) → 0 < length ys → y ≡ get_or ys 0 y → ys ≡ y ∷ drop 1 ys
  first_is [] y h e = absurd (omega arith)
  first_is (z ∷ ys) y h e = ap (λ w. w ∷ ys) (sym e)

  -- the next of the left list is put behind what stands before it
  pub next_merged : (cmp : A → A → Ordering) (x : A) (xs ys zs ms ns os all : List A) → ns ≡ ms ++ before cmp x ys → zs ≡ behind cmp x ys → os ≡ ns ++ (x ∷ []) →
      ms ++ merged cmp (x ∷ xs) ys ≡ all → os ++ merged cmp xs zs ≡ all
  next_merged cmp x xs ys zs ms ns os all n z o h =
      (λ i. (o ∙ ap (λ w. w ++ (x ∷ [])) n) i ++ merged cmp xs (z i))
      ∙ append_assoc (ms ++ before cmp x ys) (x ∷ []) (merged cmp xs (behind cmp x ys))
      ∙ append_assoc ms (before cmp x ys) (x ∷ merged cmp xs (behind cmp x ys))
      ∙ ap (λ w. ms ++ w) (sym (into_parts cmp x (merged cmp xs) ys))
      ∙ h

  pub next_united : (cmp : A → A → Ordering) (both : A → A → A) (x w : A) (xs ys zs ms ns os all : List A) → ns ≡ ms ++ before cmp x ys → zs ≡ behind cmp x ys →
      w ≡ with_other both x (tied cmp x ys) → os ≡ ns ++ (w ∷ []) → ms ++ united cmp both (x ∷ xs) ys ≡ all → os ++ united cmp both xs zs ≡ all
  next_united cmp both x w xs ys zs ms ns os all n z v o h =
      (λ i. (o ∙ (λ j. n j ++ (v j ∷ []))) i ++ united cmp both xs (z i))
      ∙ append_assoc (ms ++ before cmp x ys) (with_other both x (tied cmp x ys) ∷ []) (united cmp both xs (behind cmp x ys))
      ∙ append_assoc ms (before cmp x ys) (with_other both x (tied cmp x ys) ∷ united cmp both xs (behind cmp x ys))
      ∙ ap (λ t. ms ++ t) (sym (united_parts cmp x both (united cmp both xs) ys))
      ∙ h
