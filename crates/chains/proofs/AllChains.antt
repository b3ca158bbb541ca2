-- From all chains to the table of them.
use Rattle.std.proofs.Common.{◌≡◌, ◌≤◌, Bool, true, false, cond, List, [], ◌∷◌, map, reverse, inl, inr, refl, sym, ap, ◌∙◌, subst, arith}
use Rattle.std.proofs.lemmas.List.{reverse-reverse}
use Rattle.std.specs.declared.cmp.Ordering.{Ordering}
use Rattle.std.specs.declared.cmp.Ordering.TheVariants.{Less, Equal, Greater}
use Rattle.std.specs.Ordering.{is_lt, ordering_reverse}
use Rattle.std.specs.FinMap.{slice_cmp-IsAntisymmetric}
use Rattle.std.specs.Cmp.Lexicographic.{lists_total}
use Rattle.theory.specs.Lists.{Has}
use Rattle.theory.specs.Chain.{Free}
use Rattle.theory.specs.Geometry.{AtMost}
use Rattle.theory.specs.Arcs.{AreSortedOnce}
use Rattle.theory.proofs.Reversing.{IsChain-reverse}
use Rattle.theory.proofs.Chains.{not_own_reverse}
use Rattle.theory.proofs.ListsOfLists.{Has-map, map_has}
use Rattle.grid.specs.declared.pos.Pos.{Pos}
use Rattle.lines.specs.Turned.{position_cmp, list_cmp}
use Rattle.arcs.specs.Among.{among, Tells}
use Rattle.arcs.specs.Pieces.{is_backwards_less, least_direction, chain_of}
use Rattle.chains.specs.Pieces.{oriented}
use Rattle.arcs.specs.Arcs.{Arcs}
use Rattle.arcs.specs.Table.{AreLoopsOf}
use Rattle.chains.specs.Joined.{SegmentsOf, StopAt, MeetsTwo, IsChainOver, AreAllChains, AreMaximal}
use Rattle.chains.specs.declared.segment.Segment.{Segment}
use Rattle.arcs.specs.declared.piece.Piece.{Piece}
use Rattle.lines.specs.Positions.{position_total, position_same}
use Rattle.lines.proofs.Positions.{position_most, true_false}
use Rattle.chains.proofs.Oriented.{marked}
use Rattle.arcs.proofs.Marks.{all_marked}
use Rattle.chains.proofs.Found.{Among-turn}

lists_same : (xs ys : List Pos) → list_cmp xs ys ≡ Equal → xs ≡ ys
lists_same = slice_cmp-IsAntisymmetric position_same

pub is_less : (r : Ordering) → is_lt r ≡ true → r ≡ Less
is_less Less e = refl
is_less Equal e = cc
is_less Greater e = cc

-- of two lists that differ one comes first
first_or : (r s : Ordering) → r ≡ ordering_reverse s → (s ≡ Equal → ⊥) → is_lt s ≡ false → is_lt r ≡ true
first_or Less s e n f = refl
first_or Equal Less e n f = cc
first_or Equal Equal e n f = absurd (n refl)
first_or Equal Greater e n f = absurd cc
first_or Greater Less e n f = cc
first_or Greater Equal e n f = absurd (n refl)
first_or Greater Greater e n f = absurd cc

not_both : (r s : Ordering) → r ≡ ordering_reverse s → is_lt r ≡ true → is_lt s ≡ false
not_both Less Less e f = absurd cc
not_both Less Equal e f = refl
not_both Less Greater e f = refl
not_both Equal s e f = cc
not_both Greater s e f = cc

backward : (d : List Pos) → list_cmp d (reverse d) ≡ ordering_reverse (list_cmp (reverse d) d)
backward d = (lists_total position_total).antisymm d (reverse d)

pub least_first : (d : List Pos) → ¬ (d ≡ reverse d) → is_lt (list_cmp (least_direction d) (reverse (least_direction d))) ≡ true
least_first d n = go (is_backwards_less d) refl
  where
    go : (b : Bool) → is_backwards_less d ≡ b → is_lt (list_cmp (cond b (reverse d) d) (reverse (cond b (reverse d) d))) ≡ true
    go true e = subst (λ w. is_lt (list_cmp (reverse d) w) ≡ true) (sym (reverse-reverse d)) e
    go false e = first_or (list_cmp d (reverse d)) (list_cmp (reverse d) d) (backward d) (λ f. n (sym (lists_same (reverse d) d f))) e

least_own : (c : List Pos) → is_lt (list_cmp c (reverse c)) ≡ true → c ≡ least_direction c
least_own c e = go (is_backwards_less c) (not_both (list_cmp c (reverse c)) (list_cmp (reverse c) c) (backward c) e)
  where
    go : (b : Bool) → b ≡ false → c ≡ cond b (reverse c) c
    go true f = absurd cc
    go false f = refl

least_other : (c : List Pos) → is_lt (list_cmp c (reverse c)) ≡ true → c ≡ least_direction (reverse c)
least_other c e =
    go (is_backwards_less (reverse c)) (subst (λ w. is_lt (list_cmp w (reverse c)) ≡ true) (sym (reverse-reverse c)) e)
  where
    go : (b : Bool) → b ≡ true → c ≡ cond b (reverse (reverse c)) (reverse c)
    go true f = sym (reverse-reverse c)
    go false f = absurd cc

module _ (segs : List Segment) (keys : List Pos) (ok : MeetsTwo segs keys) where
  one_way : (d : List Pos) → IsChainOver segs keys d → ¬ (d ≡ reverse d)
  one_way [] k = absurd k
  one_way (x ∷ []) k = let h : 1 ≤ 0 = k.long in absurd (omega arith)
  one_way (x ∷ (y ∷ r)) k = not_own_reverse (SegmentsOf segs) (StopAt keys) (AtMost position_cmp) (λ u v. Among-turn segs u v) ok position_most x y r k

  least_chain : (d : List Pos) → IsChainOver segs keys d → IsChainOver segs keys (least_direction d)
  least_chain d k = go (is_backwards_less d)
    where
      go : (b : Bool) → IsChainOver segs keys (cond b (reverse d) d)
      go true = IsChain-reverse (SegmentsOf segs) (StopAt keys) (AtMost position_cmp) (λ u v. Among-turn segs u v) d k
      go false = k

  -- the table of all chains
  pub all_maximal : (ds : List (List Pos)) (ps : List Piece) (t : Arcs) → AreAllChains segs keys ds → ps ≡ map (oriented (among keys)) ds →
      AreSortedOnce list_cmp (map chain_of ps) t.arcs → AreLoopsOf ps t.loops → AreMaximal segs keys t
  all_maximal ds ps t a e s m = record {
    ascends = s.ascends;
    only = λ c h.
        let d = origin c (s.only c h) in
        let k = a.chains d.0 d.1 in (
          subst (IsChainOver segs keys) (sym d.2) (least_chain d.0 k),
          subst (λ w. list_cmp w (reverse w) ≡ Less) (sym d.2) (is_less (list_cmp (least_direction d.0) (reverse (least_direction d.0))) (least_first d.0 (one_way d.0 k))),
        );
    all = λ c k l.
        let d = a.each c k in
        let l' : is_lt (list_cmp c (reverse c)) ≡ true = ap is_lt l in
        let n : c ≡ least_direction d.0 = elim d.2 [
          | inl f ↦ least_own c l' ∙ ap least_direction (sym f)
          | inr f ↦ least_other c l' ∙ ap least_direction (sym f)
        ] in
        s.there c (subst (λ w. Has c (map chain_of w)) (sym e) (subst (λ w. Has w (map chain_of (map (oriented (among keys)) ds))) (sym n)
        (Has-map chain_of (map (oriented (among keys)) ds) (oriented (among keys) d.0) (Has-map (oriented (among keys)) ds d.0 d.1))));
    free = all_marked (StopAt keys) ps t good m s.only;
  }
    where
      origin : (c : List Pos) → Has c (map chain_of ps) → (d : List Pos) × Has d ds × (c ≡ least_direction d)
      origin c h =
          let p = map_has chain_of ps c h in
          let d = map_has (oriented (among keys)) ds p.0 (subst (Has p.0) e p.1) in
          (d.0, d.1, p.2 ∙ ap chain_of d.2)

      good : (p : Piece) → Has p ps → Tells p.free (Free (StopAt keys) p.chain)
      good p h =
          let d = map_has (oriented (among keys)) ds p (subst (Has p) e h) in
          subst (λ w. Tells w.free (Free (StopAt keys) w.chain)) (sym d.2)
          (marked (SegmentsOf segs) (StopAt keys) (AtMost position_cmp) (among keys) (λ v f. f) (λ v f g. true_false (among keys v) g f) d.0 (a.chains d.0 d.1))
