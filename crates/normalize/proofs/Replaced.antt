-- A list of used arcs and the list of their pieces stitch to the same.
use Rattle.std.proofs.Common.{◌≡◌, ℕ, zero, suc, Bool, true, false, cond, List, [], ◌∷◌, ◌++◌, reverse, map, slice_get, option_map, Some, inl, inr, refl, sym, ap, ◌∙◌, subst}
use Rattle.grid.specs.declared.pos.Pos.{Pos}
use Rattle.lines.proofs.Positions.{both_true}
use Rattle.theory.proofs.ArcNumbers.{along_get, taken_back, taken_join, taken_of, taken_stitch, to_from}
use Rattle.theory.proofs.Reversing.{reverse-last, reverse-snoc}
use Rattle.theory.proofs.RingListStart.{stitch_parts}
use Rattle.theory.proofs.Stitching.{stitched_join, stitched_reverse}
use Rattle.theory.specs.ArcNumbers.{ArcRef, StitchFrom, StitchTo, along, backwards, flipped}
use Rattle.theory.specs.Lists.{front_of, last_of}
use Rattle.theory.specs.Refinement.{pieces_at, pieces_of_used, replaced}
use Rattle.topo.proofs.Walks.{walked_stitched}
use Rattle.normalize.specs.Lists.{all_have_pieces, has_pieces, some_piece}
use Rattle.normalize.specs.Pieces.{AreJoinedOf, AreSplit}

-- lists that are not empty
IsSome : {A : Type 0} → List A → Type 0
IsSome {A} l = (x : A) × (r : List A) × (l ≡ x ∷ r)

snoc_some : {A : Type 0} (l : List A) (x : A) → IsSome (l ++ (x ∷ []))
unfolding IsSome
snoc_some [] x = (x, [], refl)
snoc_some (y ∷ l) x = (y, l ++ (x ∷ []), refl)

append_some : {A : Type 0} (l k : List A) → IsSome l → IsSome (l ++ k)
unfolding IsSome
append_some l k (x, r, e) = (x, r ++ k, ap (λ w. w ++ k) e)

in_direction : (b : Bool) (ps : List ArcRef) → IsSome ps → IsSome (cond b (backwards ps) ps)
unfolding IsSome
in_direction false ps h = h
in_direction true ps (a, more, e) =
    let t = snoc_some (backwards more) (flipped a) in
    (t.0, t.1, ap backwards e ∙ reverse-snoc (flipped a) (map flipped more) ∙ t.2)

module _ (table : List (List Pos)) where
  stitch_join : (x : Pos) (us vs : List ArcRef) (q s : List Pos) → StitchFrom table x us q → StitchFrom table (last_of x q) vs s → StitchFrom table x (us ++ vs) (q ++ s)
  stitch_join x us vs q s h k =
      let t = taken_of table x us q h in
      let t' = taken_of table (last_of x q) vs s k in
      taken_stitch table (us ++ vs) (t.0 ++ t'.0) x (q ++ s) (taken_join table us vs t.0 t'.0 t.1 t'.1) (stitched_join x t.0 t'.0 q s t.2 t'.2)

  stitch_back : (x : Pos) (us : List ArcRef) (r : List Pos) → StitchFrom table x us r → StitchFrom table (last_of x r) (backwards us) (reverse (front_of x r))
  stitch_back x us r h =
      let t = taken_of table x us r h in
      taken_stitch table (backwards us) (reverse (map reverse t.0)) (last_of x r) (reverse (front_of x r)) (taken_back table us t.0 t.1) (stitched_reverse x t.0 r t.2)

  -- the pieces of a used arc stitch to what it runs along
  used_stitch : (b : Bool) (ps : List ArcRef) (c : List Pos) (x : Pos) (q : List Pos) → StitchTo table ps c → x ∷ q ≡ cond b (reverse c) c → StitchFrom table x (cond b (backwards ps) ps) q
  used_stitch false ps c x q h e = to_from table ps x q (subst (λ w. StitchTo table ps w) (sym e) h)
  used_stitch true ps [] x q h e = absurd cc
  used_stitch true ps (y ∷ p) x q h e =
      let k : x ∷ q ≡ last_of y p ∷ reverse (front_of y p) = e ∙ reverse-last y p in
      let a : last_of y p ≡ x = cc in
      let b : reverse (front_of y p) ≡ q = cc in
      subst (λ w. StitchFrom table w (backwards ps) q) a
      (subst (λ w. StitchFrom table (last_of y p) (backwards ps) w) b (stitch_back y ps p (to_from table ps y p h)))

  -- some used arcs stitch to one list alone
  one_run : (us : List ArcRef) (x y : Pos) (q r : List Pos) → IsSome us → StitchFrom table x us q → StitchFrom table y us r → x ∷ q ≡ y ∷ r
  unfolding IsSome
  one_run [] x y q r (a, more, e) h k = absurd cc
  one_run (a ∷ us) x y q r some h k =
      sym (walked_stitched table (a ∷ us) (x ∷ q) h) ∙ walked_stitched table (a ∷ us) (y ∷ r) k

  some_from : (us : List ArcRef) (x : Pos) (r : List Pos) → IsSome us → StitchFrom table x us r → StitchTo table us (x ∷ r)
  unfolding IsSome
  some_from [] x r (a, more, e) h = absurd cc
  some_from (a ∷ us) x r some h = h

  some_stitch : (us : List ArcRef) → IsSome us → ¬ StitchTo table us []
  unfolding IsSome
  some_stitch [] (a, more, e) h = absurd cc
  some_stitch (a ∷ us) some h = h

  -- the pieces of what runs along some positions
  stitched_some : (b : Bool) (ps : List ArcRef) (c : List Pos) (x : Pos) (q : List Pos) → StitchTo table ps c → x ∷ q ≡ cond b (reverse c) c → IsSome ps
  unfolding IsSome
  stitched_some b (a ∷ ps) c x q h e = (a, ps, refl)
  stitched_some true [] c x q h e = absurd (let k : x ∷ q ≡ [] = e ∙ ap reverse h in cc)
  stitched_some false [] c x q h e = absurd (let k : x ∷ q ≡ [] = e ∙ h in cc)

  -- new arcs whose pieces stitch to them
  module _ (arcs : List (List Pos)) (pieces : List (List ArcRef)) (joined : AreJoinedOf table arcs pieces) where
    replaced_from : (used : List ArcRef) (x : Pos) (r : List Pos) → StitchFrom arcs x used r → StitchFrom table x (replaced pieces used) r
    replaced_from [] x r h = h
    replaced_from (a ∷ used) x r (q, s, e, f, more) =
        let t = along_get arcs a (x ∷ q) e in
        subst (λ w. StitchFrom table x (replaced pieces (a ∷ used)) w) (sym f)
        (stitch_join x (pieces_of_used pieces a) (replaced pieces used) q s (used_stitch a.reversed (pieces_at pieces a.arc) t.0 x q (joined a.arc t.0 t.1) t.2)
        (replaced_from used (last_of x q) s more))

    -- what a list stitches to, its pieces stitch to
    pub replaced_stitch : (used : List ArcRef) (l : List Pos) → StitchTo arcs used l → StitchTo table (replaced pieces used) l
    replaced_stitch [] l h = h
    replaced_stitch (a ∷ used) [] h = absurd h
    replaced_stitch (a ∷ used) (x ∷ r) h =
        let t = along_get arcs a (x ∷ h.0) h.2 in
        let some = in_direction a.reversed (pieces_at pieces a.arc) (stitched_some a.reversed (pieces_at pieces a.arc) t.0 x h.0 (joined a.arc t.0 t.1) t.2) in
        some_from (replaced pieces (a ∷ used)) x r (append_some (pieces_of_used pieces a) (replaced pieces used) some) (replaced_from (a ∷ used) x r h)

  -- arcs that are split
  abbrev Home : List (List Pos) → List (List ArcRef) → ℕ → Type 0
  Home arcs pieces i = IsSome (pieces_at pieces i) × ((c : List Pos) × (slice_get arcs i ≡ Some c) × StitchTo table (pieces_at pieces i) c)

  home : (arcs : List (List Pos)) (pieces : List (List ArcRef)) → AreSplit table arcs pieces → (i : ℕ) → some_piece (slice_get pieces i) ≡ true → Home arcs pieces i
  unfolding IsSome
  home [] [] s i e = absurd cc
  home [] (p ∷ pieces) s i e = absurd s
  home (c ∷ arcs) [] s i e = absurd s
  home (c ∷ arcs) ([] ∷ pieces) s zero e = absurd cc
  home (c ∷ arcs) ((a ∷ p) ∷ pieces) s zero e = ((a, p, refl), (c, refl, elim s.0 [ inl n ↦ absurd cc | inr k ↦ k ]))
  home (c ∷ arcs) (p ∷ pieces) s (suc i) e = home arcs pieces s.1 i e

  module _ (arcs : List (List Pos)) (pieces : List (List ArcRef)) (split : AreSplit table arcs pieces) where
    -- along a used arc that has pieces
    begins : (b : Bool) (ps : List ArcRef) (c : List Pos) → IsSome ps → StitchTo table ps c → IsSome (cond b (reverse c) c)
    unfolding IsSome
    begins b ps [] some h = absurd (some_stitch ps some h)
    begins false ps (y ∷ p) some h = (y, p, refl)
    begins true ps (y ∷ p) some h = (last_of y p, reverse (front_of y p), reverse-last y p)

    runs : (a : ArcRef) (x : Pos) (q : List Pos) → has_pieces pieces a ≡ true → StitchFrom table x (pieces_of_used pieces a) q → along arcs a ≡ Some (x ∷ q)
    unfolding IsSome
    runs a x q e h =
        let (some, (c, there, st)) = home arcs pieces split a.arc e in
        let (y, p, is) = begins a.reversed (pieces_at pieces a.arc) c some st in
        let same = one_run (pieces_of_used pieces a) x y q p (in_direction a.reversed (pieces_at pieces a.arc) some) h
        (used_stitch a.reversed (pieces_at pieces a.arc) c y p st (sym is)) in
        ap (option_map (λ d. cond a.reversed (reverse d) d)) there ∙ ap Some (is ∙ sym same)

    back_from : (used : List ArcRef) (x : Pos) (r : List Pos) → all_have_pieces pieces used ≡ true → StitchFrom table x (replaced pieces used) r → StitchFrom arcs x used r
    back_from [] x r e h = h
    back_from (a ∷ used) x r e h =
        let b = both_true (has_pieces pieces a) (all_have_pieces pieces used) e in
        let t = stitch_parts table x (pieces_of_used pieces a) (replaced pieces used) r h in
        (t.0, t.1, runs a x t.0 b.0 t.3, t.2, back_from used (last_of x t.0) t.1 b.1 t.4)

    -- what the pieces of a list stitch to, the list stitches to
    pub unreplaced_stitch : (used : List ArcRef) (l : List Pos) → all_have_pieces pieces used ≡ true → StitchTo table (replaced pieces used) l → StitchTo arcs used l
    unreplaced_stitch [] l e h = h
    unreplaced_stitch (a ∷ used) [] e h =
        let b = both_true (has_pieces pieces a) (all_have_pieces pieces used) e in
        let t = home arcs pieces split a.arc b.0 in
        some_stitch (replaced pieces (a ∷ used)) (append_some (pieces_of_used pieces a) (replaced pieces used) (in_direction a.reversed (pieces_at pieces a.arc) t.0)) h
    unreplaced_stitch (a ∷ used) (x ∷ r) e h = back_from (a ∷ used) x r e (to_from table (replaced pieces (a ∷ used)) x r h)
