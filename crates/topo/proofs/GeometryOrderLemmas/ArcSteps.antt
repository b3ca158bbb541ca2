-- Used arcs by their steps, over arcs that are noded: two that have a step in common are one.
use Rattle.std.proofs.Common.{◌≡◌, ◌≤◌, false, true, Bool, cond, List, [], ◌∷◌, ◌++◌, inl, inr, refl, sym, ap, ◌∙◌, subst, length, reverse, arith, Option, Some, None, option_map, slice_get, unwrap_or}
use Rattle.std.proofs.lemmas.Cmp.{tied_itself}
use Rattle.std.proofs.lemmas.List.{length-reverse, reverse-reverse}
use Rattle.std.specs.Cmp.Lexicographic.{slice_cmp}
use Rattle.std.specs.Option.{option_cmp}
use Rattle.std.specs.Ordering.{ordering_then}
use Rattle.std.specs.declared.cmp.Ordering.TheVariants.{Equal}
use Rattle.grid.specs.declared.pos.Pos.{Pos}
use Rattle.theory.proofs.ArcNumbers.{along_get}
use Rattle.theory.proofs.ListsOfLists.{get_has}
use Rattle.theory.proofs.Reversing.{Steps-reverse}
use Rattle.theory.specs.ArcNumbers.{ArcRef, StitchFrom, along}
use Rattle.theory.specs.Lists.{Beside, Has, Steps, gathered, last_of}
use Rattle.topo.specs.Walked.{run_of}
use Rattle.topo.proofs.GeometryOrderLemmas.StepLists.{one_way, step_there, steps_from, steps_join, steps_of, then_same}
use Rattle.topo.specs.GeometryOrder.Noded.{AreNoded}
use Rattle.arcs.proofs.Steps.{step_same, step_total}
use Rattle.arcs.specs.Steps.{first_of, step_along, step_cmp}
use Rattle.topo.specs.GeometryOrder.Lists.{starts_cmp}
use Rattle.arcs.specs.declared.step.ArcStep.{ArcStep}

module _ (arcs : List (List Pos)) where
  abbrev pub steps_along : ArcRef → List ArcStep
  steps_along a = steps_of (run_of arcs a)

  -- the used arc has a first step
  abbrev pub Goes : ArcRef → Type 0
  Goes a = (s : ArcStep) × (l : List ArcStep) × (steps_along a ≡ s ∷ l) × (step_along arcs a ≡ Some s)

  -- the steps of what arcs stitch to are theirs, one after the other
  pub stitched_steps : (x : Pos) (us : List ArcRef) (r : List Pos) → StitchFrom arcs x us r → steps_from x r ≡ gathered steps_along us
  stitched_steps x [] r h = ap (steps_from x) h
  stitched_steps x (a ∷ us) r (q, s, e, f, h) =
      ap (steps_from x) f ∙ steps_join x q s ∙ (λ i. steps_of (unwrap_or (sym e i) []) ++ stitched_steps (last_of x q) us s h i)

  two_go : (c : List Pos) → 2 ≤ length c → (s : ArcStep) × (l : List ArcStep) × (steps_of c ≡ s ∷ l) × (first_of c ≡ Some s)
  two_go [] n = absurd (omega arith)
  two_go (p ∷ []) n = absurd (omega arith)
  two_go (p ∷ (q ∷ l)) n = (record { from = p; to = q }, steps_from q l, refl, refl)

  has_steps : (s : ArcStep) (c : List Pos) → Has s (steps_of c) → Steps s.from s.to c
  has_steps s [] h = absurd h
  has_steps s (p ∷ l) h = step_there s p l h

  -- a step along a used arc is one along the arc, in the direction of its use
  step_in_arc : (a : ArcRef) (s : ArcStep) → Has s (steps_along a) → (d : List Pos) × (slice_get arcs a.arc ≡ Some d) × Steps s.from s.to (cond a.reversed (reverse d) d)
  step_in_arc a s h = go (slice_get arcs a.arc) refl h
    where
      go : (o : Option (List Pos)) → slice_get arcs a.arc ≡ o → Has s (steps_of (unwrap_or (option_map (λ c. cond a.reversed (reverse c) c) o) [])) →
          (d : List Pos) × (slice_get arcs a.arc ≡ Some d) × Steps s.from s.to (cond a.reversed (reverse d) d)
      go None e h = absurd h
      go (Some d) e h = (d, e, has_steps s (cond a.reversed (reverse d) d) h)

  back : (u v : Pos) (d : List Pos) → Steps u v (reverse d) → Steps v u d
  back u v d h = subst (Steps v u) (reverse-reverse d) (Steps-reverse u v (reverse d) h)

  in_either : (u v : Pos) (r : Bool) (d : List Pos) → Steps u v (cond r (reverse d) d) → Beside u v d
  in_either u v false d h = inl h
  in_either u v true d h = inr (back u v d h)

  module _ (noded : AreNoded arcs) where
    pub goes_along : (a : ArcRef) (c : List Pos) → along arcs a ≡ Some c → Goes a
    goes_along a c e =
        let k = along_get arcs a c e in
        let n : 2 ≤ length c = go a.reversed k.0 (noded.long k.0 (get_has arcs a.arc k.0 k.1)) k.2 in
        let m : run_of arcs a ≡ c = ap (λ o. unwrap_or o []) e in
        subst (λ w. (s : ArcStep) × (l : List ArcStep) × (steps_of w ≡ s ∷ l) × (first_of w ≡ Some s)) (sym m) (two_go c n)
      where
        go : (b : Bool) (d : List Pos) → 2 ≤ length d → c ≡ cond b (reverse d) d → 2 ≤ length c
        go false d n f = subst (λ w. 2 ≤ length w) (sym f) n
        go true d n f = subst (λ w. 2 ≤ length w) (sym f) (omega (arith, length-reverse d))

    -- each arc of a list that stitches has a first step
    pub all_go : (x : Pos) (us : List ArcRef) (r : List Pos) → StitchFrom arcs x us r → (a : ArcRef) → Has a us → Goes a
    all_go x [] r h a k = absurd k
    all_go x (b ∷ us) r (q, s, e, f, h) a (inl k) = subst Goes (sym k) (goes_along b (x ∷ q) e)
    all_go x (b ∷ us) r (q, s, e, f, h) a (inr k) = all_go (last_of x q) us s h a k

    -- two used arcs that have a step in common are one
    pub one_ref : (a b : ArcRef) (s : ArcStep) → Has s (steps_along a) → Has s (steps_along b) → a ≡ b
    one_ref a b s h k =
        let (d, e, m) = step_in_arc a s h in
        let (d', e', m') = step_in_arc b s k in
        let f : a.arc ≡ b.arc = noded.one_arc s.from s.to a.arc b.arc d d' e e' (in_either s.from s.to a.reversed d m) (in_either s.from s.to b.reversed d' m') in
        let g : Some d ≡ Some d' = sym e ∙ ap (slice_get arcs) f ∙ e' in
        let same : d ≡ d' = cc in
        let way : a.reversed ≡ b.reversed = go d (get_has arcs a.arc d e) a.reversed b.reversed m (subst (λ w. Steps s.from s.to (cond b.reversed (reverse w) w)) (sym same) m') in
        λ i. record { arc = f i; reversed = way i }
      where
        go : (d : List Pos) → Has d arcs → (x y : Bool) → Steps s.from s.to (cond x (reverse d) d) → Steps s.from s.to (cond y (reverse d) d) → x ≡ y
        go d t false false m n = refl
        go d t true true m n = refl
        go d t false true m n = absurd (one_way s.from s.to d (noded.one_place d t) m (back s.from s.to d n))
        go d t true false m n = absurd (one_way s.from s.to d (noded.one_place d t) n (back s.from s.to d m))

    -- those that begin by one step are one
    begin_alike : (a b : ArcRef) (s t : ArcStep) (l k : List ArcStep) → steps_along a ≡ s ∷ l → steps_along b ≡ t ∷ k → step_cmp s t ≡ Equal → a ≡ b
    begin_alike a b s t l k e f same =
        one_ref a b s (subst (Has s) (sym e) (inl refl)) (subst (Has s) (sym f) (inl (step_same s t same)))

    alike_behind : (a b : ArcRef) (s t : ArcStep) (l k : List ArcStep) → steps_along a ≡ s ∷ l → steps_along b ≡ t ∷ k → step_cmp s t ≡ Equal → l ≡ k
    alike_behind a b s t l k e f same =
        let g : s ∷ l ≡ t ∷ k = sym e ∙ ap steps_along (begin_alike a b s t l k e f same) ∙ f in cc

    -- what two lists begin with alike doesn't count
    pub same_front : (l x y : List ArcStep) → slice_cmp step_cmp (l ++ x) (l ++ y) ≡ slice_cmp step_cmp x y
    same_front [] x y = refl
    same_front (s ∷ l) x y = ap (λ o. ordering_then o (slice_cmp step_cmp (l ++ x) (l ++ y))) (tied_itself step_total s) ∙ same_front l x y

    -- lists of used arcs stand as their steps
    pub steps_by_starts : (us vs : List ArcRef) → ((a : ArcRef) → Has a us → Goes a) → ((a : ArcRef) → Has a vs → Goes a) →
        slice_cmp step_cmp (gathered steps_along us) (gathered steps_along vs) ≡ starts_cmp arcs us vs
    steps_by_starts [] [] f g = refl
    steps_by_starts [] (v ∷ vs) f g =
        let (t, k, e, _) = g v (inl refl) in ap (λ w. slice_cmp step_cmp [] (w ++ gathered steps_along vs)) e
    steps_by_starts (u ∷ us) [] f g =
        let (s, l, e, _) = f u (inl refl) in ap (λ w. slice_cmp step_cmp (w ++ gathered steps_along us) []) e
    steps_by_starts (u ∷ us) (v ∷ vs) f g =
        let (s, l, e, b) = f u (inl refl) in
        let (t, k, e', b') = g v (inl refl) in
        let rest = steps_by_starts us vs (λ a h. f a (inr h)) (λ a h. g a (inr h)) in
        (λ i. slice_cmp step_cmp (e i ++ gathered steps_along us) (e' i ++ gathered steps_along vs))
        ∙ then_same (step_cmp s t) (slice_cmp step_cmp (l ++ gathered steps_along us) (k ++ gathered steps_along vs)) (starts_cmp arcs us vs)
        (λ same.
        ap (λ w. slice_cmp step_cmp (l ++ gathered steps_along us) (w ++ gathered steps_along vs)) (sym (alike_behind u v s t l k e e' same))
        ∙ same_front l (gathered steps_along us) (gathered steps_along vs) ∙ rest)
        ∙ (λ i. ordering_then (option_cmp step_cmp (sym b i) (sym b' i)) (starts_cmp arcs us vs))
