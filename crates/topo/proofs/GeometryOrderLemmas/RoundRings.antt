-- Lists of used arcs round rings, from the step in an arc from which the ring is read.
use Rattle.std.proofs.Common.{◌≡◌, false, List, [], ◌∷◌, ◌++◌, inl, inr, refl, sym, ap, ◌∙◌, subst, append_assoc}
use Rattle.std.proofs.lemmas.Cmp.{lists_total, tied_itself}
use Rattle.std.specs.Cmp.Lexicographic.{slice_cmp}
use Rattle.std.specs.Option.{option_cmp}
use Rattle.std.specs.Ordering.{is_gt, ordering_reverse, ordering_then}
use Rattle.std.specs.declared.cmp.Ordering.{Ordering}
use Rattle.std.specs.declared.cmp.Ordering.TheVariants.{Less, Equal, Greater}
use Rattle.grid.specs.declared.pos.Pos.{Pos}
use Rattle.theory.specs.ArcNumbers.{ArcRef}
use Rattle.theory.specs.Lists.{Has, gathered}
use Rattle.topo.proofs.GeometryOrderLemmas.ArcSteps.{Goes, one_ref, same_front, steps_along}
use Rattle.topo.proofs.GeometryOrderLemmas.StepLists.{then_same}
use Rattle.topo.specs.GeometryOrder.Noded.{AreNoded}
use Rattle.arcs.proofs.Steps.{step_same, step_total}
use Rattle.arcs.specs.Steps.{step_cmp}
use Rattle.topo.specs.GeometryOrder.Lists.{starts_cmp}
use Rattle.arcs.specs.declared.step.ArcStep.{ArcStep}

-- another used arc, none of whose steps comes before the step
pub record Apart (arcs : List (List Pos)) (a : ArcRef) (least : ArcStep) (u : ArcRef) : Type 0 where
  pub goes : Goes arcs u
  pub other : ¬ (u ≡ a)
  pub behind : (s : ArcStep) → Has s (steps_along arcs u) → is_gt (step_cmp least s) ≡ false

first_counts : (a : Ordering) → is_gt a ≡ false → Less ≡ ordering_then a Less
first_counts Less e = refl
first_counts Equal e = refl
first_counts Greater e = absurd cc

greater_counts : (a b : Ordering) → is_gt a ≡ false → b ≡ ordering_reverse a → Greater ≡ ordering_then b Greater
greater_counts Less b e f = ap (λ o. ordering_then o Greater) (sym f)
greater_counts Equal b e f = ap (λ o. ordering_then o Greater) (sym f)
greater_counts Greater b e f = absurd cc

module _ (arcs : List (List Pos)) (noded : AreNoded arcs) (a : ArcRef) (t d : List ArcStep) (least : ArcStep) (whole : steps_along arcs a ≡ t ++ (least ∷ d)) (goes : Goes arcs a) where
  nothing_less : (vs : List ArcRef) → starts_cmp arcs [] (vs ++ (a ∷ [])) ≡ Less
  nothing_less [] = refl
  nothing_less (v ∷ vs) = refl

  something_greater : (us : List ArcRef) → starts_cmp arcs (us ++ (a ∷ [])) [] ≡ Greater
  something_greater [] = refl
  something_greater (u ∷ us) = refl

  -- the first list ends where the arc begins
  ends_first : (v : ArcRef) (more : List ArcStep) (vs : List ArcRef) → Apart arcs a least v → (p : List ArcStep) → p ≡ t →
      slice_cmp step_cmp p ((steps_along arcs v ++ more) ++ t) ≡ starts_cmp arcs (a ∷ []) (v ∷ (vs ++ (a ∷ [])))
  ends_first v more vs n p e = go p e goes n.goes
    where
      go : (p : List ArcStep) → p ≡ t → Goes arcs a → Goes arcs v → slice_cmp step_cmp p ((steps_along arcs v ++ more) ++ t) ≡ starts_cmp arcs (a ∷ []) (v ∷ (vs ++ (a ∷ [])))
      go [] e (s, l, f, b) (s', k, f', b') =
          let g : s ∷ l ≡ least ∷ d = sym f ∙ whole ∙ ap (λ w. w ++ (least ∷ d)) (sym e) in
          let m : least ≡ s = cc in
          let q : is_gt (step_cmp s s') ≡ false = subst (λ w. is_gt (step_cmp w s') ≡ false) m (n.behind s' (subst (Has s') (sym f') (inl refl))) in
          (λ i. slice_cmp step_cmp [] ((f' i ++ more) ++ t))
          ∙ first_counts (step_cmp s s') q
          ∙ (λ i. ordering_then (option_cmp step_cmp (sym b i) (sym b' i)) (sym (nothing_less vs) i))
      go (x ∷ p) e (s, l, f, b) (s', k, f', b') =
          let g : s ∷ l ≡ x ∷ (p ++ (least ∷ d)) = sym f ∙ whole ∙ ap (λ w. w ++ (least ∷ d)) (sym e) in
          let m : x ≡ s = cc in
          (λ i. slice_cmp step_cmp (m i ∷ p) ((f' i ++ more) ++ t))
          ∙ then_same (step_cmp s s') (slice_cmp step_cmp p ((k ++ more) ++ t)) Less
          (λ same. absurd (n.other (one_ref arcs noded v a s' (subst (Has s') (sym f') (inl refl)) (subst (Has s') (sym f) (inl (sym (step_same s s' same)))))))
          ∙ (λ i. ordering_then (option_cmp step_cmp (sym b i) (sym b' i)) (sym (nothing_less vs) i))

  ends_second : (u : ArcRef) (more : List ArcStep) (us : List ArcRef) → Apart arcs a least u → (p : List ArcStep) → p ≡ t →
      slice_cmp step_cmp ((steps_along arcs u ++ more) ++ t) p ≡ starts_cmp arcs (u ∷ (us ++ (a ∷ []))) (a ∷ [])
  ends_second u more us n p e = go p e goes n.goes
    where
      go : (p : List ArcStep) → p ≡ t → Goes arcs a → Goes arcs u → slice_cmp step_cmp ((steps_along arcs u ++ more) ++ t) p ≡ starts_cmp arcs (u ∷ (us ++ (a ∷ []))) (a ∷ [])
      go [] e (s, l, f, b) (s', k, f', b') =
          let g : s ∷ l ≡ least ∷ d = sym f ∙ whole ∙ ap (λ w. w ++ (least ∷ d)) (sym e) in
          let m : least ≡ s = cc in
          let q : is_gt (step_cmp s s') ≡ false = subst (λ w. is_gt (step_cmp w s') ≡ false) m (n.behind s' (subst (Has s') (sym f') (inl refl))) in
          (λ i. slice_cmp step_cmp ((f' i ++ more) ++ t) [])
          ∙ greater_counts (step_cmp s s') (step_cmp s' s) q (step_total.antisymm s' s)
          ∙ (λ i. ordering_then (option_cmp step_cmp (sym b' i) (sym b i)) (sym (something_greater us) i))
      go (x ∷ p) e (s, l, f, b) (s', k, f', b') =
          let g : s ∷ l ≡ x ∷ (p ++ (least ∷ d)) = sym f ∙ whole ∙ ap (λ w. w ++ (least ∷ d)) (sym e) in
          let m : x ≡ s = cc in
          (λ i. slice_cmp step_cmp ((f' i ++ more) ++ t) (m i ∷ p))
          ∙ then_same (step_cmp s' s) (slice_cmp step_cmp ((k ++ more) ++ t) p) Greater
          (λ same. absurd (n.other (one_ref arcs noded u a s' (subst (Has s') (sym f') (inl refl)) (subst (Has s') (sym f) (inl (step_same s' s same))))))
          ∙ (λ i. ordering_then (option_cmp step_cmp (sym b' i) (sym b i)) (sym (something_greater us) i))

  -- lists behind the arc, up to the step in it, stand as the arcs up to its end
  pub round_hold : (us vs : List ArcRef) → ((u : ArcRef) → Has u us → Apart arcs a least u) → ((v : ArcRef) → Has v vs → Apart arcs a least v) →
      slice_cmp step_cmp (gathered (steps_along arcs) us ++ t) (gathered (steps_along arcs) vs ++ t) ≡ starts_cmp arcs (us ++ (a ∷ [])) (vs ++ (a ∷ []))
  round_hold [] [] f g =
      tied_itself (lists_total step_total) t
      ∙ (let (s, l, e, b) = goes in
      sym ((λ i. ordering_then (option_cmp step_cmp (b i) (b i)) Equal) ∙ ap (λ o. ordering_then o Equal) (tied_itself step_total s)))
  round_hold [] (v ∷ vs) f g = ends_first v (gathered (steps_along arcs) vs) vs (g v (inl refl)) t refl
  round_hold (u ∷ us) [] f g = ends_second u (gathered (steps_along arcs) us) us (f u (inl refl)) t refl
  round_hold (u ∷ us) (v ∷ vs) f g =
      let (s, l, e, b) = (f u (inl refl)).goes in
      let (s', k, e', b') = (g v (inl refl)).goes in
      let W = gathered (steps_along arcs) us in
      let X = gathered (steps_along arcs) vs in
      let rest = round_hold us vs (λ w h. f w (inr h)) (λ w h. g w (inr h)) in
      (λ i. slice_cmp step_cmp ((e i ++ W) ++ t) ((e' i ++ X) ++ t))
      ∙ then_same (step_cmp s s') (slice_cmp step_cmp ((l ++ W) ++ t) ((k ++ X) ++ t)) (starts_cmp arcs (us ++ (a ∷ [])) (vs ++ (a ∷ [])))
      (λ same.
      let one : u ≡ v = one_ref arcs noded u v s (subst (Has s) (sym e) (inl refl)) (subst (Has s) (sym e') (inl (step_same s s' same))) in
      let both : s ∷ l ≡ s' ∷ k = sym e ∙ ap (steps_along arcs) one ∙ e' in
      let lk : k ≡ l = cc in
      (λ i. slice_cmp step_cmp (append_assoc l W t i) (append_assoc (lk i) X t i))
      ∙ same_front arcs noded l (W ++ t) (X ++ t) ∙ rest)
      ∙ (λ i. ordering_then (option_cmp step_cmp (sym b i) (sym b' i)) (starts_cmp arcs (us ++ (a ∷ [])) (vs ++ (a ∷ []))))
