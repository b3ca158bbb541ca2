-- The arcs of what is left, with their pieces, are such as are joined.
use Rattle.std.proofs.Common.{◌≡◌, ℕ, zero, suc, List, [], ◌∷◌, ◌++◌, ◌⊎◌, inl, inr, refl, sym, ap, ◌∙◌, subst, Some, slice_get}
use Rattle.std.proofs.lemmas.List.{append-nil}
use Rattle.std.specs.Cmp.{IsTotalOrder}
use Rattle.std.specs.FinMap.{IsAntisymmetric}
use Rattle.std.specs.declared.cmp.Ordering.{Ordering}
use Rattle.theory.proofs.ArcNumbers.{taken_of, uses_along}
use Rattle.theory.proofs.ArcsAsMap.{alike_back, turned_alike}
use Rattle.theory.proofs.Lists.{Has-append, Has-append_left, Has-append_right}
use Rattle.theory.proofs.ListsOfLists.{get_has}
use Rattle.theory.proofs.RefinementLaws.{chain_side}
use Rattle.theory.proofs.Healed.{removal_laws}
use Rattle.theory.proofs.HealingCut.{a, alike, all_a, as_map, sa}
use Rattle.theory.proofs.HealingKept.{kept_laws, kept_stays, part_sound}
use Rattle.theory.proofs.RingListStart.{second, turned_used_is}
use Rattle.theory.proofs.Rotations.{rotation_back, rotation_has}
use Rattle.theory.specs.ArcNumbers.{ArcRef, StitchFrom, StitchTo, Uses, UsesOnce, along}
use Rattle.theory.specs.Arcs.{AreArcsOf}
use Rattle.theory.specs.Geometry.{Geometry, IsChainOf, IsSound, JunctionOf}
use Rattle.theory.specs.LinesAndRings.{closed}
use Rattle.theory.specs.Lists.{Beside, Has, Pairwise, Passes, last_of}
use Rattle.theory.specs.Refinement.{ArePiecesOfArc, IsPartOf, IsRefinementOf, LoopArc, RemovalLaws, pieces_at}
use Rattle.theory.specs.Healing.{AreJoined, IsKept, IsLoopRun, IsOpenRun}
use Rattle.theory.specs.Validity.{BeginsAt}
use Rattle.theory.specs.Topology.{IsRingList}

pairwise_by : {A : Type 0} (R T : A → List ArcRef → Type 0) (xs : List A) (ys : List (List ArcRef)) →
    ((i : ℕ) (x : A) → slice_get xs i ≡ Some x → R x (pieces_at ys i) → T x (pieces_at ys i)) → Pairwise R xs ys → Pairwise T xs ys
pairwise_by R T [] [] f p = tt
pairwise_by R T [] (y ∷ ys) f p = absurd p
pairwise_by R T (x ∷ xs) [] f p = absurd p
pairwise_by R T (x ∷ xs) (y ∷ ys) f p = (f zero x refl p.0, pairwise_by R T xs ys (λ i. f (suc i)) p.1)

-- where a list of two parts meets
passes_joint : {V : Type 0} (x y : V) (q : List V) (z : V) (s : List V) → (p : V) × Passes p (last_of y q) z (x ∷ (y ∷ (q ++ (z ∷ s))))
passes_joint x y [] z s = (x, inl (refl, (refl, refl)))
passes_joint x y (y' ∷ q) z s = let t = passes_joint y y' q z s in (t.0, inr t.1)

passes_far : {V : Type 0} (p v w x : V) (q s : List V) → Passes p v w (last_of x q ∷ s) → Passes p v w (x ∷ (q ++ s))
passes_far p v w x [] s h = h
passes_far p v w x (y ∷ q) s h = inr (passes_far p v w y q s h)

module _ {V : Type 0} (cmp : V → V → Ordering) (o : IsTotalOrder cmp) (same : IsAntisymmetric cmp) (dec : (a b : V) → Dec (a ≡ b))
    (u : Geometry V) (su : IsSound u) (table : List (List V)) (all : AreArcsOf cmp u table)
    (g : Geometry V) (part : IsPartOf g u) (arcs : List (List V)) (pieces : List (List ArcRef)) (ref : IsRefinementOf cmp g u arcs table pieces) where
  abbrev Kept : ℕ → Type 0
  Kept = IsKept cmp g u table

  sg : IsSound g
  sg = part_sound g u su part

  laws : RemovalLaws g u table pieces
  laws = removal_laws cmp o same dec u su table all g sg part arcs pieces ref

  -- a used arc is one of the table
  there : (used : List ArcRef) (l : List V) → StitchTo table used l → (k : ℕ) → Uses k used → (d : List V) × (slice_get table k ≡ Some d)
  there [] l st k h = absurd h
  there (b ∷ used) [] st k h = absurd st
  there (b ∷ used) (x ∷ r) st k h =
      let t = taken_of table x (b ∷ used) r st in
      let w = uses_along table (b ∷ used) t.0 t.1 k h in
      (w.2, w.3)

  one_side : (k : ℕ) (d : List V) → slice_get table k ≡ Some d → (p : V) × (q : V) × Beside p q d
  one_side k d e = chain_side cmp o same dec u su table all d (all.arcs_only d (get_has table k d e)).chain

  stays : (i : ℕ) (l : List V) → StitchTo table (pieces_at pieces i) l → (k : ℕ) → Uses k (pieces_at pieces i) → Kept k
  stays i l st k h =
      let d = there (pieces_at pieces i) l st k h in
      let s = one_side k d.0 d.1 in
      (kept_laws cmp o same dec u su table all g part).whole k d.0 s.0 s.1 d.1 s.2 (laws.whole k i d.0 d.1 h s.0 s.1 s.2)

  kept_there : (k : ℕ) → Kept k → (d : List V) × (slice_get table k ≡ Some d)
  kept_there k (inl (l, used, i, st, us)) = there used l st k us
  kept_there k (inr (r, used, i, st, us)) = there used (closed (st.0 ∷ st.1)) st.3 k us

  -- where an arc behind the first begins
  behind_passes : (b : ArcRef) (more : List ArcRef) (x : V) (r : List V) → StitchFrom table x (b ∷ more) r → (c : ArcRef) (v : V) → Has c more → BeginsAt table v c →
      (p : V) × (q : V) × Passes p v q (x ∷ r)
  behind_passes b [] x r st c v h e = absurd h
  behind_passes b (b' ∷ more) x r st c v (inr h) e =
      let t = behind_passes b' more (last_of x st.0) st.1 st.4 c v h e in
      (t.0, t.1, subst (λ w. Passes t.0 v t.1 (x ∷ w)) (sym st.3) (passes_far t.0 v t.1 x st.0 st.1 t.2))
  behind_passes b (b' ∷ more) x r st c v (inl h) e =
      let f = second cmp o same dec u su table all b x st.0 st.2 in
      let n = second cmp o same dec u su table all b' (last_of x st.0) st.4.0 st.4.2 in
      let k : Some (v ∷ e.0) ≡ Some (last_of x st.0 ∷ st.4.0) = sym e.1 ∙ ap (along table) h ∙ st.4.2 in
      let vl : v ≡ last_of x st.0 = cc in
      let t = passes_joint x f.0 f.1 n.0 (n.1 ++ st.4.1) in
      let s : r ≡ f.0 ∷ (f.1 ++ (n.0 ∷ (n.1 ++ st.4.1))) = st.3 ∙ ap (λ w. st.0 ++ w) (st.4.3 ∙ ap (λ w. w ++ st.4.1) n.2) ∙ ap (λ w. w ++ (n.0 ∷ (n.1 ++ st.4.1))) f.2 in
      let v' : last_of f.0 f.1 ≡ v = ap (λ w. last_of x w) (sym f.2) ∙ sym vl in
      (t.0, n.0, subst (λ w. Passes t.0 v n.0 (x ∷ w)) (sym s) (subst (λ w. Passes t.0 w n.0 (x ∷ (f.0 ∷ (f.1 ++ (n.0 ∷ (n.1 ++ st.4.1)))))) v' t.1))

  -- where an arc begins
  begin_has : (used : List ArcRef) (x : V) (r : List V) → StitchFrom table x used r → (c : ArcRef) (v : V) → Has c used → BeginsAt table v c → Has v (x ∷ r)
  begin_has [] x r st c v h e = absurd h
  begin_has (b ∷ used) x r st c v (inl h) e =
      let k : Some (v ∷ e.0) ≡ Some (x ∷ st.0) = sym e.1 ∙ ap (along table) h ∙ st.2 in inl (let m : v ≡ x = cc in m)
  begin_has (b ∷ used) x r st c v (inr h) e =
      elim (begin_has used (last_of x st.0) st.1 st.4 c v h e) [
        | inl k ↦ subst (λ w. Has w (x ∷ r)) (sym k) (subst (λ w. Has (last_of x st.0) (x ∷ w)) (sym st.3) (last_has x st.0))
        | inr k ↦ inr (subst (λ w. Has v w) (sym st.3) (Has-append_right v st.0 st.1 k))
      ]
    where
      last_has : (x : V) (q : List V) → Has (last_of x q) (x ∷ (q ++ st.1))
      last_has x [] = inl refl
      last_has x (y ∷ q) = inr (last_has y q)

  open_run : (i : ℕ) (c : List V) → IsChainOf cmp g c → ¬ ((v : V) → Has v c → ¬ JunctionOf g v) → (used : List ArcRef) → pieces_at pieces i ≡ used → StitchTo table used c →
      IsOpenRun Kept (JunctionOf g) table c used
  open_run i [] k n used e st = absurd k
  open_run i (x ∷ r) k n [] e st = absurd (let z : x ∷ r ≡ [] = st in cc)
  open_run i (x ∷ r) k n (b ∷ more) e st = record {
    run = record {
      some = λ z. absurd cc;
      stitch = st;
      once = subst UsesOnce e (laws.one_place i);
      stays = λ m h. stays i (x ∷ r) (subst (λ w. StitchTo table w (x ∷ r)) (sym e) st) m (subst (Uses m) (sym e) h);
    };
    ends = elim k.ends [
      | inl j ↦ λ v h. elim h [ inl f ↦ subst (JunctionOf g) (sym f) j.0 | inr f ↦ subst (JunctionOf g) (sym f) j.1 ]
      | inr f ↦ absurd (n f.1)
    ];
    meets = λ c v h f. let t = behind_passes b more x r st c v h f in k.inner_free t.0 v t.1 t.2;
  }

  loop_run : (i : ℕ) (c loop : List V) → Has c arcs → IsChainOf cmp g c → c ≡ closed loop → ((v : V) → Has v c → ¬ JunctionOf g v) → (used : List ArcRef) → pieces_at pieces i ≡ used →
      IsRingList cmp (JunctionOf u) table loop used → IsLoopRun cmp Kept (JunctionOf g) table c used
  loop_run i c [] h k e free used f list = absurd (subst (IsChainOf cmp g) e k)
  loop_run i c (p ∷ q) h k e free [] f list = absurd (let z : closed (list.0 ∷ list.1) ≡ [] = list.3 in cc)
  loop_run i c (p ∷ q) h k e free (b ∷ more) f list =
      let ck : IsChainOf cmp g (closed (p ∷ q)) = subst (IsChainOf cmp g) e k in
      let back = rotation_back (p ∷ q) (list.0 ∷ list.1) list.2.rotation in
      let la : LoopArc g arcs (p ∷ q) = (subst (λ w. Has w arcs) e h, (λ v m. free v (subst (λ w. Has v w) (sym e) m))) in
      let alist : IsRingList cmp (JunctionOf (a cmp o same dec u su table all g part arcs ref.old)) table (p ∷ q) (b ∷ more) = (
        list.0,
        list.1,
        turned_alike cmp o same dec u (a cmp o same dec u su table all g part arcs ref.old)
            (alike_back cmp o same dec (a cmp o same dec u su table all g part arcs ref.old) u (alike cmp o same dec u su table all g part arcs ref.old))
            (p ∷ q) list.0 list.1 list.2,
        list.3,
      ) in
      record {
        from = b ∷ more;
        round = list.0 ∷ list.1;
        first = p;
        rest = q;
        run = record {
          some = λ z. absurd cc;
          stitch = list.3;
          once = subst UsesOnce f (laws.one_place i);
          stays = λ m n. stays i (closed (list.0 ∷ list.1)) (subst (λ w. StitchTo table w (closed (list.0 ∷ list.1))) (sym f) list.3) m (subst (Uses m) (sym f) n);
        };
        meets = λ c' v m n.
            let z = begin_has (b ∷ more) list.0 (list.1 ++ (list.0 ∷ [])) list.3 c' v m n in
            free v (subst (λ w. Has v w) (sym e) (wider p q v (rotation_has (list.0 ∷ list.1) (p ∷ q) back v (narrow list.0 list.1 v z))));
        turned = back;
        least = elim ck.ends [
          | inl j ↦ absurd (free p (subst (λ w. Has p w) (sym e) (inl refl)) j.0)
          | inr t ↦ λ v m. t.2 v (wider p q v (rotation_has (list.0 ∷ list.1) (p ∷ q) back v m))
        ];
        arc = e;
        list = sym (turned_used_is cmp o same dec (a cmp o same dec u su table all g part arcs ref.old) (sa cmp o same dec u su table all g part arcs ref.old)
            table (all_a cmp o same dec u su table all g part arcs ref.old) (p ∷ q)
            ((as_map cmp o same dec u su table all g part arcs ref.old).loop_left (p ∷ q) la) [] (b ∷ more)
            (subst (IsRingList cmp (JunctionOf (a cmp o same dec u su table all g part arcs ref.old)) table (p ∷ q)) (sym (append-nil (b ∷ more))) alist)
            ∙ append-nil (b ∷ more));
      }
    where
      wider : (x : V) (l : List V) (v : V) → Has v (x ∷ l) → Has v (closed (x ∷ l))
      wider x l v (inl e) = inl e
      wider x l v (inr h) = inr (Has-append_left v l (x ∷ []) h)

      narrow : (x : V) (l : List V) (v : V) → Has v (closed (x ∷ l)) → Has v (x ∷ l)
      narrow x l v (inl e) = inl e
      narrow x l v (inr h) = elim (Has-append v l (x ∷ []) h) [ inl k ↦ inr k | inr (inl e) ↦ inl e | inr (inr z) ↦ absurd z ]

  -- so nothing else is joined
  pub are_joined : AreJoined cmp g u table arcs pieces
  are_joined = record {
    sorted = ref.old.sorted;
    forward = λ c h. (ref.old.arcs_only c h).forward;
    each = pairwise_by (ArePiecesOfArc cmp (JunctionOf g) (JunctionOf u) table)
        (λ c used. IsOpenRun Kept (JunctionOf g) table c used ⊎ IsLoopRun cmp Kept (JunctionOf g) table c used) arcs pieces
        (λ i c e h.
        let k : IsChainOf cmp g c = (ref.old.arcs_only c (get_has arcs i c e)).chain in
        elim h [
          | inl m ↦ inl (open_run i c k m.0 (pieces_at pieces i) refl m.1)
          | inr m ↦ inr (loop_run i c m.0 (get_has arcs i c e) k m.1 m.2 (pieces_at pieces i) refl m.3)
        ]) ref.cut;
    all = λ k h.
        let d = kept_there k h in
        let s = one_side k d.0 d.1 in
        laws.kept k d.0 s.0 s.1 d.1 s.2 (kept_stays cmp o same dec u su table all g part k d.0 h d.1 s.0 s.1 s.2);
  }
