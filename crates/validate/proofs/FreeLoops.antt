-- The arcs that go free are the free loops of each map whose arcs they are, and whose lines end at the given ends.
use Rattle.std.proofs.Common.{◌≡◌, suc, ◌+◌, ◌≤◌, Bool, true, false, cond, not, List, [], ◌∷◌, ◌++◌, map, inl, inr, refl, sym, ap, ◌∙◌, subst, arith, Some, slice_get}
use Rattle.std.proofs.lemmas.Cmp.{lists_total}
use Rattle.std.specs.Cmp.Lexicographic.{slice_cmp}
use Rattle.std.specs.FinMap.{slice_cmp-IsAntisymmetric}
use Rattle.std.specs.declared.cmp.Ordering.{Ordering}
use Rattle.std.specs.declared.cmp.Ordering.TheVariants.{Less}
use Rattle.grid.specs.declared.pos.Pos.{Pos}
use Rattle.lines.specs.Pairs.{position_eq}
use Rattle.lines.specs.Positions.{position_same, position_total}
use Rattle.lines.specs.Reading.{is_closed}
use Rattle.lines.specs.Turned.{position_cmp}
use Rattle.lines.proofs.Positions.{both_intro, both_true, position_dec, true_position}
use Rattle.theory.proofs.ArcsAsMap.{kind}
use Rattle.theory.proofs.Ascending.{at_most_same, less_self}
use Rattle.theory.proofs.Chains.{saturated}
use Rattle.theory.proofs.JunctionTest.{same_vertex-equal}
use Rattle.theory.proofs.ListsOfLists.{Has-gathered, gathered_from, get_has, has_get}
use Rattle.theory.proofs.Pieces.{SegmentOf-flip, two_segments_of}
use Rattle.theory.proofs.PiecesExist.{as_map_alone}
use Rattle.theory.proofs.SegmentsOnce.{segments_once}
use Rattle.theory.proofs.ValidityHolds.{ends}
use Rattle.theory.specs.Arcs.{AreArcsOf, Ascends}
use Rattle.theory.specs.Chain.{Free}
use Rattle.theory.specs.Geometry.{AtMost, Geometry, IsChainOf, IsLineOf, IsSound, JunctionOf, SegmentOf}
use Rattle.theory.specs.LinesAndRings.{closed}
use Rattle.theory.specs.Lists.{Beside, Distinct, EndOf, Has, gathered, last_of}
use Rattle.theory.specs.Refinement.{OpenArc, arcs_as_map}
use Rattle.arcs.specs.Among.{Tells, among}
use Rattle.arcs.specs.Table.{IsTableOf, is_loop, is_loop_if, marked}
use Rattle.chains.proofs.Among.{among_has, has_among}
use Rattle.arcs.proofs.Places.{any_has, has_any}
use Rattle.validate.specs.Noding.{table_read}
use Rattle.validate.specs.ArcEnds.{both_ends}
use Rattle.validate.specs.FreeLoops.{AreLineEnds, ends_once, goes_free, occurs_once}
use Rattle.validate.proofs.NodedArcs.{closed_closes}
use Rattle.validate.proofs.Threes.{count, count-append, count_none, has_count, three_means}

-- what stands once is counted once
absent : (v : Pos) (l : List Pos) → not (among l v) ≡ true → count v l ≡ 0
absent v l e = count_none v l (λ h. let k : false ≡ true = sym (ap not (has_among l v h)) ∙ e in cc)

once_count : (v : Pos) (l : List Pos) → occurs_once l v ≡ true → count v l ≡ 1
once_count v [] e = absurd cc
once_count v (x ∷ l) e = go (position_eq v x) e (once_count v l)
  where
    go : (b : Bool) → cond b (not (among l v)) (occurs_once l v) ≡ true → (occurs_once l v ≡ true → count v l ≡ 1) → cond b (suc (count v l)) (count v l) ≡ 1
    go true e ih = let n : count v l ≡ 0 = absent v l e in omega (arith, n)
    go false e ih = ih e

count_once : (v : Pos) (l : List Pos) → count v l ≡ 1 → occurs_once l v ≡ true
count_once v [] e = absurd (omega (arith, e))
count_once v (x ∷ l) e = go (position_eq v x) e (count_once v l)
  where
    none : count v l ≡ 0 → (b : Bool) → among l v ≡ b → not b ≡ true
    none n true p = absurd (let h : 1 ≤ count v l = has_count v l (among_has l v p) in omega (arith, n, h))
    none n false p = refl

    go : (b : Bool) → cond b (suc (count v l)) (count v l) ≡ 1 → (count v l ≡ 1 → occurs_once l v ≡ true) → cond b (not (among l v)) (occurs_once l v) ≡ true
    go true e ih = let n : count v l ≡ 0 = omega (arith, e) in none n (among l v) refl
    go false e ih = ih e

-- an arc has at most twice as many ends as it notes
twice_once : (v : Pos) (c : List Pos) → count v (both_ends c) ≤ count v (ends_once c) + count v (ends_once c)
twice_once v [] = omega arith
twice_once v (x ∷ r) = go (is_closed position_cmp (x ∷ r)) refl
  where
    wide : (d e : Bool) → cond d (suc (cond e 1 0)) (cond e 1 0) ≤ cond d (suc (cond e 1 0)) (cond e 1 0) + cond d (suc (cond e 1 0)) (cond e 1 0)
    wide true true = omega arith
    wide true false = omega arith
    wide false true = omega arith
    wide false false = omega arith

    shut : (d : Bool) → cond d (suc (cond d 1 0)) (cond d 1 0) ≤ cond d 1 0 + cond d 1 0
    shut true = omega arith
    shut false = omega arith

    go : (b : Bool) → is_closed position_cmp (x ∷ r) ≡ b →
        cond (position_eq v x) (suc (cond (position_eq v (last_of x r)) 1 0)) (cond (position_eq v (last_of x r)) 1 0)
        ≤ count v (x ∷ cond b [] (last_of x r ∷ [])) + count v (x ∷ cond b [] (last_of x r ∷ []))
    go true p =
        let e : x ≡ last_of x r = same_vertex-equal position_cmp position_total position_same x (last_of x r) p in
        subst (λ w. cond (position_eq v x) (suc (cond (position_eq v w) 1 0)) (cond (position_eq v w) 1 0) ≤ cond (position_eq v x) 1 0 + cond (position_eq v x) 1 0) e
        (shut (position_eq v x))
    go false p = wide (position_eq v x) (position_eq v (last_of x r))

all_twice : (v : Pos) (arcs : List (List Pos)) → count v (gathered both_ends arcs) ≤ count v (gathered ends_once arcs) + count v (gathered ends_once arcs)
all_twice v [] = omega arith
all_twice v (c ∷ arcs) =
    omega (arith, twice_once v c, all_twice v arcs, count-append v (both_ends c) (gathered both_ends arcs), count-append v (ends_once c) (gathered ends_once arcs))

once_end : (v : Pos) (c : List Pos) → Has v (ends_once c) → EndOf v c
once_end v [] h = absurd h
once_end v (x ∷ r) (inl e) = inl e
once_end v (x ∷ r) (inr h) = go (is_closed position_cmp (x ∷ r)) h
  where
    go : (b : Bool) → Has v (cond b [] (last_of x r ∷ [])) → EndOf v (x ∷ r)
    go true h = absurd h
    go false (inl e) = inr e
    go false (inr h) = absurd h

end_has : (v x : Pos) (r : List Pos) → EndOf v (x ∷ r) → Has v (x ∷ r)
end_has v x r (inl e) = inl e
end_has v x [] (inr e) = inl e
end_has v x (y ∷ r) (inr e) = inr (end_has v y r (inr e))

-- a vertex that is an end of one arc alone, and there once
only_one : (v : Pos) (c : List Pos) (arcs : List (List Pos)) → Distinct arcs → Has c arcs → count v (ends_once c) ≡ 1 →
    ((d : List Pos) → Has d arcs → Has v (ends_once d) → d ≡ c) → count v (gathered ends_once arcs) ≡ 1
only_one v c [] dis h n u = absurd h
only_one v c (d ∷ arcs) dis (inl e) n u =
    let none : count v (gathered ends_once arcs) ≡ 0 = count_none v (gathered ends_once arcs) (λ h.
    let t = gathered_from ends_once arcs v h in
    dis.0 (subst (λ w. Has w arcs) (u t.0 (inr t.1) t.2 ∙ e) t.1)) in
    let m : count v (ends_once d) ≡ 1 = ap (λ w. count v (ends_once w)) (sym e) ∙ n in
    omega (arith, none, m, count-append v (ends_once d) (gathered ends_once arcs))
only_one v c (d ∷ arcs) dis (inr h) n u =
    let none : count v (ends_once d) ≡ 0 = count_none v (ends_once d) (λ k. dis.0 (subst (λ w. Has w arcs) (sym (u d (inl refl) k)) h)) in
    let rest : count v (gathered ends_once arcs) ≡ 1 = only_one v c arcs dis.1 h n (λ w k i. u w (inr k) i) in
    omega (arith, none, rest, count-append v (ends_once d) (gathered ends_once arcs))

ascends_distinct : {A : Type 0} (R : A → A → Ordering) → ((x : A) → ¬ (R x x ≡ Less)) → (l : List A) → Ascends R l → Distinct l
ascends_distinct R n [] h = tt
ascends_distinct R n (x ∷ l) h = ((λ k. n x (h.0 x k)), ascends_distinct R n l h.1)

-- the arcs that are marked by a test
marks_yes : (f : List Pos → Bool) (c : List Pos) (arcs : List (List Pos)) → Has c arcs → f c ≡ true → Has c (marked arcs (map f arcs))
marks_yes f c [] h e = absurd h
marks_yes f c (d ∷ arcs) (inl p) e = subst (λ b. Has c (cond b (d ∷ marked arcs (map f arcs)) (marked arcs (map f arcs)))) (sym (sym (ap f p) ∙ e)) (inl p)
marks_yes f c (d ∷ arcs) (inr h) e = go (f d) (marks_yes f c arcs h e)
  where
    go : (b : Bool) → Has c (marked arcs (map f arcs)) → Has c (cond b (d ∷ marked arcs (map f arcs)) (marked arcs (map f arcs)))
    go true k = inr k
    go false k = k

yes_marks : (f : List Pos → Bool) (c : List Pos) (arcs : List (List Pos)) → Has c (marked arcs (map f arcs)) → f c ≡ true
yes_marks f c [] h = absurd h
yes_marks f c (d ∷ arcs) h = go (f d) refl h (yes_marks f c arcs)
  where
    go : (b : Bool) → f d ≡ b → Has c (cond b (d ∷ marked arcs (map f arcs)) (marked arcs (map f arcs))) → (Has c (marked arcs (map f arcs)) → f c ≡ true) → f c ≡ true
    go true p (inl e) ih = ap f e ∙ p
    go true p (inr k) ih = ih k
    go false p k ih = ih k

module _ (g : Geometry Pos) (sg : IsSound g) (arcs : List (List Pos)) (all : AreArcsOf position_cmp g arcs) (line_ends : List Pos) (are : AreLineEnds line_ends g) where
  abbrev recorded : List Pos
  recorded = line_ends ++ gathered ends_once arcs

  -- an arc that comes to a free loop's seam is the loop
  seam_of : (x : Pos) (w : List Pos) → Has (x ∷ w) arcs → ¬ JunctionOf g x → (d : List Pos) → Has d arcs → Has x d → d ≡ x ∷ w
  seam_of x [] h nj d i k =
      let c : IsChainOf position_cmp g (x ∷ []) = (all.arcs_only (x ∷ []) h).chain in
      let n : 1 ≤ 0 = c.long in absurd (omega (arith, n))
  seam_of x (z ∷ q) h nj d i k =
      let c : IsChainOf position_cmp g (x ∷ (z ∷ q)) = (all.arcs_only (x ∷ (z ∷ q)) h).chain in
      let b : Beside x z d = touches d (all.arcs_only d i).chain k (c.along x z (inl (refl, refl))) in
      let ci = has_get arcs (x ∷ (z ∷ q)) h in
      let di = has_get arcs d i in
      let e : ci.0 ≡ di.0 =
      (segments_once position_cmp position_total position_same position_dec g sg arcs all).one_arc x z ci.0 di.0 (x ∷ (z ∷ q)) d ci.1 di.1 (inl (inl (refl, refl))) b in
      let f : Some d ≡ Some (x ∷ (z ∷ q)) = sym di.1 ∙ ap (slice_get arcs) (sym e) ∙ ci.1 in
      let p : d ≡ x ∷ (z ∷ q) = cc in p
    where
      touches : (d : List Pos) → IsChainOf position_cmp g d → Has x d → SegmentOf g x z → Beside x z d
      touches [] c k s = absurd c
      touches (y ∷ s) c k m =
          saturated (SegmentOf g) (JunctionOf g) (AtMost position_cmp) (SegmentOf-flip g sg position_dec) (two_segments_of g sg position_dec)
          (at_most_same position_cmp position_total position_same) y s c x z k nj m

  free_yes : (c : List Pos) → Has c arcs → goes_free recorded c ≡ true → Free (JunctionOf g) c
  free_yes [] h e = absurd cc
  free_yes (x ∷ r) h e =
      let t = both_true (is_closed position_cmp (x ∷ r)) (occurs_once recorded x) e in
      let n : count x recorded ≡ 1 = once_count x recorded t.1 in
      let m : count x recorded ≡ count x line_ends + count x (gathered ends_once arcs) = count-append x line_ends (gathered ends_once arcs) in
      let own : 1 ≤ count x (gathered ends_once arcs) = has_count x (gathered ends_once arcs) (Has-gathered ends_once arcs (x ∷ r) x h (inl refl)) in
      elim (kind position_cmp position_total position_same position_dec g sg arcs all (x ∷ r) h) [
        | inl o ↦ absurd (not_open o n m own)
        | inr q ↦ subst (Free (JunctionOf g)) (sym q.1) q.2.1
      ]
    where
      not_open : OpenArc g arcs (x ∷ r) → count x recorded ≡ 1 → count x recorded ≡ count x line_ends + count x (gathered ends_once arcs) → 1 ≤ count x (gathered ends_once arcs) → ⊥
      not_open o n m own =
          let line : IsLineOf (arcs_as_map position_cmp g arcs) (x ∷ r) =
          (as_map_alone position_cmp position_total position_same position_dec g sg arcs all).open_left (x ∷ r) o in
          elim (ends position_cmp position_total position_same position_dec g sg arcs all (x ∷ r) line x (inl refl)) [
            | inl k ↦ (let h : 1 ≤ count x line_ends = has_count x line_ends ((are x).1 k) in omega (arith, n, m, own, h))
            | inr k ↦ (let h : 3 ≤ count x (gathered both_ends arcs) = (three_means x arcs).1 k in omega (arith, n, m, h, all_twice x arcs))
          ]

  free_back : (c : List Pos) → Has c arcs → Free (JunctionOf g) c → goes_free recorded c ≡ true
  free_back c h f = elim (kind position_cmp position_total position_same position_dec g sg arcs all c h) [
    | inl o ↦ absurd (o.1 f)
    | inr q ↦ subst (λ w. goes_free recorded w ≡ true) (sym q.1) (loop q.0 q.2.0 q.2.1)
  ]
    where
      loop : (q : List Pos) → Has (closed q) arcs → Free (JunctionOf g) (closed q) → goes_free recorded (closed q) ≡ true
      loop [] h f = absurd (all.arcs_only [] h).chain
      loop (x ∷ l) h f =
          let none : count x line_ends ≡ 0 = count_none x line_ends (λ k. f x (inl refl) (inl ((are x).0 k))) in
          let shut : is_closed position_cmp (closed (x ∷ l)) ≡ true = closed_closes (x ∷ l) in
          let once : count x (x ∷ []) ≡ 1 = ap (λ b. cond b (suc (count x [])) (count x [])) (true_position x x refl) in
          let own : count x (ends_once (closed (x ∷ l))) ≡ 1 = ap (λ b. count x (x ∷ cond b [] (last_of x (l ++ (x ∷ [])) ∷ []))) shut ∙ once in
          let one : count x (gathered ends_once arcs) ≡ 1 =
          only_one x (closed (x ∷ l)) arcs
          (ascends_distinct (slice_cmp position_cmp) (less_self (slice_cmp position_cmp) (lists_total position_total) (slice_cmp-IsAntisymmetric position_same)) arcs all.sorted)
          h own (λ d i k. seam_of x (l ++ (x ∷ [])) h (f x (inl refl)) d i (has_end d (once_end x d k))) in
          both_intro (is_closed position_cmp (closed (x ∷ l))) (occurs_once recorded x) shut
          (count_once x recorded (count-append x line_ends (gathered ends_once arcs) ∙ (let s : count x line_ends + count x (gathered ends_once arcs) ≡ 1 = omega (arith, none, one) in s)))
        where
          has_end : (d : List Pos) → EndOf x d → Has x d
          has_end [] e = absurd e
          has_end (y ∷ s) e = end_has x y s e

  meant : (c : List Pos) → Has c arcs → Tells (is_loop (marked arcs (map (goes_free recorded) arcs)) c) (Free (JunctionOf g) c)
  meant c h = record {
    yes = λ e. free_yes c h (yes_marks (goes_free recorded) c arcs (any_has c (marked arcs (map (goes_free recorded) arcs)) e));
    no = λ e f.
        let k : is_loop (marked arcs (map (goes_free recorded) arcs)) c ≡ true =
        has_any c (marked arcs (map (goes_free recorded) arcs)) (marks_yes (goes_free recorded) c arcs h (free_back c h f)) in
        let m : true ≡ false = sym k ∙ e in cc;
  }

  -- so the marks make the map's table
  pub marks_table : (marks : List Bool) → marks ≡ map (goes_free (line_ends ++ gathered ends_once arcs)) arcs → IsTableOf g (table_read arcs marks)
  marks_table marks same = subst (λ w. IsTableOf g (table_read arcs w)) (sym same) (record {
    arcs = all;
    free = λ n c e. subst (λ w. Tells (is_loop_if (marked arcs (map (goes_free recorded) arcs)) w) (Free (JunctionOf g) c)) (sym e) (meant c (get_has arcs n c e));
    once = segments_once position_cmp position_total position_same position_dec g sg arcs all;
  })
