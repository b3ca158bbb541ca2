-- Lists of used arcs, judged by the ends of the arcs alone: they stitch, and begin where they start least.
use Rattle.std.proofs.Common.{◌≡◌, ◌≤◌, List, [], ◌∷◌, ◌++◌, length, inl, refl, sym, ap, ◌∙◌, subst, arith, Some}
use Rattle.std.proofs.lemmas.Cmp.{lists_total}
use Rattle.std.proofs.lemmas.List.{append-nil, length-append}
use Rattle.std.specs.Cmp.{IsTotalOrder, on_total}
use Rattle.std.specs.Cmp.Lexicographic.{slice_cmp}
use Rattle.std.specs.FinMap.{IsAntisymmetric}
use Rattle.std.specs.declared.cmp.Ordering.{Ordering}
use Rattle.theory.proofs.Ascending.{at_most_same, head_most}
use Rattle.theory.proofs.Lists.{Has-append_right, front_last, last_join}
use Rattle.theory.proofs.OneTopology.{along_chain}
use Rattle.theory.proofs.RingListStart.{Has-Uses, one_start, runs, tail_most}
use Rattle.theory.proofs.Turning.{least_list_found, rotation_listed, rotation_of}
use Rattle.theory.specs.ArcNumbers.{ArcRef, StitchFrom, StitchTo, UsesOnce, along}
use Rattle.theory.specs.Arcs.{AreArcsOf}
use Rattle.theory.specs.Geometry.{AtMost, Geometry, IsChainOf, IsSound}
use Rattle.theory.specs.LinesAndRings.{closed}
use Rattle.theory.specs.Lists.{Has, front_of, last_of}
use Rattle.theory.specs.Refinement.{first_two, start_of, turned_used}
use Rattle.theory.specs.Validity.{BeginsLeast, IsListOfRing, IsReadRing, Runs}
use Rattle.theory.specs.TopologyFunction.{rotations}

-- used arcs that run from v to w stitch to a list from v to w
pub runs_stitch : {V : Type 0} (arcs : List (List V)) (v : V) (used : List ArcRef) (w : V) → Runs arcs v used w →
    (r : List V) × StitchFrom arcs v used r × (last_of v r ≡ w)
runs_stitch arcs v [] w h = ([], refl, h)
runs_stitch arcs v (b ∷ used) w h =
    let t = runs_stitch arcs (last_of v h.0) used w h.2 in
    (h.0 ++ t.0, (h.0, t.0, h.1, refl, t.1), last_join v h.0 t.0 ∙ t.2)

module _ {V : Type 0} (cmp : V → V → Ordering) (o : IsTotalOrder cmp) (same : IsAntisymmetric cmp) (dec : (a b : V) → Dec (a ≡ b))
    (a : Geometry V) (sa : IsSound a) (arcs : List (List V)) (all : AreArcsOf cmp a arcs) where
  -- so they stitch to a list
  pub runs_line : (v : V) (used : List ArcRef) (w : V) → ¬ (used ≡ []) → Runs arcs v used w → (l : List V) × StitchTo arcs used l
  runs_line v [] w n h = absurd (n refl)
  runs_line v (b ∷ used) w n h = let t = runs_stitch arcs v (b ∷ used) w h in (v ∷ t.0, t.1)

  -- and to a closed one, where they end as they begin
  pub runs_ring : (v : V) (used : List ArcRef) → ¬ (used ≡ []) → Runs arcs v used v → (q : List V) × StitchTo arcs used (closed q)
  runs_ring v [] n h = absurd (n refl)
  runs_ring v (b ∷ used) n h =
      let t = runs_stitch arcs v (b ∷ used) v h in
      let k : IsChainOf cmp a (v ∷ t.1.0) = along_chain cmp o same dec a sa arcs all b (v ∷ t.1.0) t.1.2 in
      let m : 1 ≤ length t.1.0 = k.long in
      let e : length t.0 ≡ length (t.1.0 ++ t.1.1) = ap length t.1.3 in
      go t.0 t.1 t.2 (omega (arith, m, e, length-append t.1.0 t.1.1))
    where
      go : (r : List V) → StitchFrom arcs v (b ∷ used) r → last_of v r ≡ v → 1 ≤ length r → (q : List V) × StitchTo arcs (b ∷ used) (closed q)
      go [] st e m = absurd (omega (arith, m))
      go (y ∷ r) st e m = (
        v ∷ front_of y r,
        subst (λ w. StitchFrom arcs v (b ∷ used) w) (front_last y r ∙ ap (λ w. front_of y r ++ (w ∷ [])) e) st,
      )

  -- a list that begins where it starts least is turned
  pub least_turned : (used : List ArcRef) (q : List V) → StitchTo arcs used (closed q) → UsesOnce used → BeginsLeast cmp arcs used →
      turned_used cmp arcs used ≡ used
  least_turned [] q st u h = absurd h
  least_turned (b ∷ used) [] st u h = absurd st
  least_turned (b ∷ used) (x ∷ l) st u (y, z, k, e, least) =
      let us : List ArcRef = b ∷ used in
      let here : Has (b ∷ used) (rotations (b ∷ used)) = rotation_listed (b ∷ used) b used ([], b ∷ used, refl, sym (append-nil (b ∷ used))) in
      let best = least_list_found (λ c d. slice_cmp cmp (start_of arcs c) (start_of arcs d)) (on_total (start_of arcs) (lists_total o)) (rotations (b ∷ used)) (b ∷ used) here in
      let t = rotation_of [] (b ∷ used) (turned_used cmp arcs (b ∷ used)) best.0 in
      let c : ArcRef = t.0 in
      let there : Has c (b ∷ used) = subst (λ w. Has c w) (sym t.3) (Has-append_right c t.1 (c ∷ t.2) (inl refl)) in
      let run = runs cmp o same dec a sa arcs all (b ∷ used) x (l ++ (x ∷ [])) st c there in
      let m : AtMost (slice_cmp cmp) (first_two (along arcs c)) (first_two (along arcs b)) =
      subst (λ w. AtMost (slice_cmp cmp) (start_of arcs w) (first_two (along arcs b))) t.4 best.1 in
      let m' : AtMost (slice_cmp cmp) (run.0 ∷ (run.1 ∷ [])) (y ∷ (z ∷ [])) =
      subst (λ w. AtMost (slice_cmp cmp) (first_two w) (y ∷ (z ∷ []))) run.3
      (subst (λ w. AtMost (slice_cmp cmp) (first_two (along arcs c)) (first_two w)) e m) in
      let vy : run.0 ≡ y = at_most_same cmp o same run.0 y (head_most cmp run.0 y (run.1 ∷ []) (z ∷ []) m') (least.first c run.0 run.1 run.2 there run.3) in
      let m'' : AtMost (slice_cmp cmp) (y ∷ (run.1 ∷ [])) (y ∷ (z ∷ [])) = subst (λ w. AtMost (slice_cmp cmp) (w ∷ (run.1 ∷ [])) (y ∷ (z ∷ []))) vy m' in
      let wz : run.1 ≡ z =
      at_most_same cmp o same run.1 z (head_most cmp run.1 z [] [] (tail_most cmp o same dec a sa arcs all y (run.1 ∷ []) (z ∷ []) m''))
      (least.second c run.0 run.1 run.2 there run.3 vy) in
      let f : along arcs c ≡ Some (y ∷ (z ∷ run.2)) = run.3 ∙ ap (λ w. Some (w ∷ (run.1 ∷ run.2))) vy ∙ ap (λ w. Some (y ∷ (w ∷ run.2))) wz in
      let cb : c ≡ b = one_start cmp o same dec a sa arcs all c b y z run.2 k f e in
      go c t.1 t.2 t.3 t.4 cb
    where
      go : (c : ArcRef) (p s : List ArcRef) → b ∷ used ≡ p ++ (c ∷ s) → turned_used cmp arcs (b ∷ used) ≡ c ∷ (s ++ p) → c ≡ b →
          turned_used cmp arcs (b ∷ used) ≡ b ∷ used
      go c [] s e f cb = f ∙ ap (λ w. c ∷ w) (append-nil s) ∙ sym e
      go c (d ∷ p) s e f cb =
          let g : used ≡ p ++ (c ∷ s) = cc in
          absurd (u.0 (Has-Uses b used (subst (λ w. Has w used) cb (subst (λ w. Has c w) (sym g) (Has-append_right c p (c ∷ s) (inl refl))))))

  -- so it is read as it stands
  pub ring_as_read : (r : List V) (used : List ArcRef) → IsListOfRing arcs r used → BeginsLeast cmp arcs used → IsReadRing cmp arcs r used
  ring_as_read r used st h = (used, st, sym (least_turned used st.around.0 st.around.2 st.once h))
