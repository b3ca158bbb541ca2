-- Runs are such as the arcs of what is left are joined of: open runs from stop to stop, and runs that go round.
use Rattle.std.proofs.Common.{◌≡◌, ◌≤◌, ◌+◌, ℕ, Bool, true, false, cond, List, [], ◌∷◌, ◌++◌, take, drop, length, map, reverse, inl, inr, refl, sym, ap, ◌∙◌, subst, arith, append_assoc, Option, Some, None}
use Rattle.std.proofs.lemmas.List.{length-append}
use Rattle.std.specs.Cmp.{upto}
use Rattle.std.specs.Ordering.{is_lt}
use Rattle.grid.specs.declared.pos.Pos.{Pos}
use Rattle.lines.specs.Turned.{position_cmp}
use Rattle.lines.specs.Positions.{position_total, position_same}
use Rattle.lines.proofs.Positions.{position_dec}
use Rattle.lines.proofs.SortedLists.{less_most, not_less}
use Rattle.theory.specs.ArcNumbers.{ArcRef, StitchTo, Uses, backwards, flipped}
use Rattle.theory.specs.Geometry.{AtMost, Geometry, JunctionOf}
use Rattle.theory.specs.LinesAndRings.{IsLine, IsRing, IsRotation, Trail, closed}
use Rattle.theory.specs.Lists.{EndOf, Has, Steps, front_of, last_of}
use Rattle.theory.specs.Healing.{IsKept, IsLoopRun, IsOpenRun}
use Rattle.theory.specs.Validity.{BeginsAt}
use Rattle.theory.proofs.Ascending.{at_most_self}
use Rattle.theory.proofs.Lists.{Has-append, front_last}
use Rattle.theory.proofs.ListsOfLists.{map_has}
use Rattle.theory.proofs.Reversing.{Has-unreverse, Steps-reverse, last_back, reverse-join, reverse-last, reverse-snoc}
use Rattle.theory.proofs.ReplacedNumbers.{rotation_reverse}
use Rattle.theory.proofs.Rotations.{rotation_ring, rotation_trans}
use Rattle.theory.proofs.ValidMaps.{list_line, list_ring}
use Rattle.arcs.specs.Arcs.{Arcs}
use Rattle.split_heal.specs.HealedArcs.{started_at, directed, from_least, least_vertex, least_vertex_from, list_by, run_along, without_last}
use Rattle.split_heal.specs.PseudoNodes.{partner_in}
use Rattle.split_heal.specs.Healing.{IsLeftBy}
use Rattle.split_heal.specs.Walks.{IsWalked, Linked, is_left}
use Rattle.split_heal.specs.declared.pseudo_nodes.PseudoNodes.{PseudoNodes}
use Rattle.split_heal.proofs.Partners as partners
use Rattle.split_heal.proofs.Partners.{AreAnswered}
use Rattle.split_heal.proofs.Stitches as stitches
use Rattle.split_heal.proofs.Stitches.{follow_back, front_is, once_back, one_begin, run_stitched, stitch_reverse, uses_has}
use Rattle.split_heal.proofs.WalkedRuns.{uses_last}

-- the least vertex of a list
abbrev pub Least : Pos → List Pos → Type 0
Least f l = (v : Pos) → Has v l → AtMost position_cmp f v

-- a list of two parts, of which the first is passed, has its least vertex at a place
abbrev Found : List Pos → List Pos → Pos → ℕ → Type 0
Found done t m place =
    (f : Pos) × (before : List Pos) × (behind : List Pos) × (done ++ t ≡ before ++ (f ∷ behind)) × (least_vertex_from place m (length done) t ≡ length before) × Least f (done ++ t)

append_end : (l : List Pos) → l ++ [] ≡ l
append_end [] = refl
append_end (x ∷ l) = ap (λ w. x ∷ w) (append_end l)

least_go : (done a : List Pos) (m : Pos) (b : List Pos) (t : List Pos) (place : ℕ) → done ≡ a ++ (m ∷ b) → place ≡ length a → Least m done → Found done t m place
least_go done a m b [] place e p h =
    (m, a, b, append_end done ∙ e, p, λ v i. h v (subst (λ w. Has v w) (append_end done) i))
least_go done a m b (y ∷ t) place e p h = go (λ a m b place. least_go (done ++ (y ∷ [])) a m b t place) (is_lt (position_cmp y m)) refl
  where
    n : length (done ++ (y ∷ [])) ≡ length done + 1
    n = length-append done (y ∷ [])

    moved : (k : Pos) (place : ℕ) → Found (done ++ (y ∷ [])) t k place →
        (f : Pos) × (before : List Pos) × (behind : List Pos) × (done ++ (y ∷ t) ≡ before ++ (f ∷ behind)) × (least_vertex_from place k (length done + 1) t ≡ length before) × Least f (done ++ (y ∷ t))
    moved k place r =
        (r.0, r.1, r.2, sym (append_assoc done (y ∷ []) t) ∙ r.3, ap (λ w. least_vertex_from place k w t) (sym n) ∙ r.4, subst (Least r.0) (append_assoc done (y ∷ []) t) r.5)

    go : ((a : List Pos) (m : Pos) (b : List Pos) (place : ℕ) → done ++ (y ∷ []) ≡ a ++ (m ∷ b) → place ≡ length a → Least m (done ++ (y ∷ [])) → Found (done ++ (y ∷ [])) t m place) →
        (c : Bool) → is_lt (position_cmp y m) ≡ c →
        (f : Pos) × (before : List Pos) × (behind : List Pos) × (done ++ (y ∷ t) ≡ before ++ (f ∷ behind)) ×
        (least_vertex_from (cond c (length done) place) (cond c y m) (length done + 1) t ≡ length before) × Least f (done ++ (y ∷ t))
    go more true q =
        moved y (length done) (more done y [] (length done) refl refl
        (λ v i. elim (Has-append v done (y ∷ []) i) [
          | inl j ↦ upto position_total y m v (less_most (position_cmp y m) q) (h v j)
          | inr (inl j) ↦ subst (AtMost position_cmp y) (sym j) (at_most_self position_cmp position_total position_same y)
          | inr (inr z) ↦ absurd z
        ]))
    go more false q =
        moved m place (more a m (b ++ (y ∷ [])) place (ap (λ w. w ++ (y ∷ [])) e ∙ append_assoc a (m ∷ b) (y ∷ [])) p
        (λ v i. elim (Has-append v done (y ∷ []) i) [
          | inl j ↦ h v j
          | inr (inl j) ↦ subst (AtMost position_cmp m) (sym j) (not_less position_cmp position_total (position_cmp y m) (position_cmp m y) (position_total.antisymm y m) q)
          | inr (inr z) ↦ absurd z
        ]))

started_parted : {A : Type 0} (before : List A) (f : A) (behind : List A) → started_at (length before) (before ++ (f ∷ behind)) ≡ f ∷ (behind ++ before)
started_parted {A = A} before f behind = (λ i. drop_part before i ++ take_part before i)
  where
    drop_part : (l : List A) → drop (length l) (l ++ (f ∷ behind)) ≡ f ∷ behind
    drop_part [] = refl
    drop_part (x ∷ l) = drop_part l

    take_part : (l : List A) → take (length l) (l ++ (f ∷ behind)) ≡ l
    take_part [] = refl
    take_part (x ∷ l) = ap (λ w. x ∷ w) (take_part l)

-- a list, begun at its least vertex
pub least_started : (x : Pos) (t : List Pos) → (f : Pos) × (s : List Pos) × (started_at (least_vertex (x ∷ t)) (x ∷ t) ≡ f ∷ s) × IsRotation (x ∷ t) (f ∷ s) × Least f (x ∷ t)
least_started x t =
    let r = least_go (x ∷ []) [] x [] t 0 refl refl (λ v i. elim i [ inl j ↦ subst (AtMost position_cmp x) (sym j) (at_most_self position_cmp position_total position_same x) | inr z ↦ absurd z ]) in
    (r.0, r.2 ++ r.1, (λ i. started_at (r.4 i) (r.3 i)) ∙ started_parted r.1 r.0 r.2, (r.1, r.0 ∷ r.2, r.3, refl), r.5)

closed_back : (p : Pos) (q : List Pos) → reverse (closed (p ∷ q)) ≡ closed (p ∷ reverse q)
closed_back p q = reverse-snoc p (q ++ (p ∷ [])) ∙ ap (λ w. w ++ (p ∷ [])) (reverse-join q (p ∷ []))

rotation_back_way : (x : Pos) (t : List Pos) (f : Pos) (s : List Pos) → IsRotation (x ∷ t) (f ∷ s) → IsRotation (x ∷ reverse t) (f ∷ reverse s)
rotation_back_way x t f s r =
    rotation_trans (x ∷ reverse t) (reverse (x ∷ t)) (f ∷ reverse s) (x ∷ [], reverse t, refl, reverse-snoc x t)
    (rotation_trans (reverse (x ∷ t)) (reverse (f ∷ s)) (f ∷ reverse s) (rotation_reverse (x ∷ t) (f ∷ s) r) (reverse s, f ∷ [], reverse-snoc f s, refl))

-- a closed list without its last
pub closed_is : (x : Pos) (rest : List Pos) → last_of x rest ≡ x → 2 ≤ length (x ∷ rest) → (t : List Pos) × (without_last (x ∷ rest) ≡ x ∷ t) × (x ∷ rest ≡ closed (x ∷ t))
closed_is x [] e n = let k : 2 ≤ 1 = n in absurd (omega arith)
closed_is x (y ∷ r) e n =
    (front_of y r, front_is x (y ∷ r), ap (λ w. x ∷ w) (front_last y r ∙ ap (λ w. front_of y r ++ (w ∷ [])) e))

-- a list that uses no segment twice is not its own reverse
pub trail_turns : (l : List Pos) → 2 ≤ length l → Trail l → ¬ (l ≡ reverse l)
trail_turns [] n t e = let k : 2 ≤ 0 = n in absurd (omega arith)
trail_turns (x ∷ []) n t e = let k : 2 ≤ 1 = n in absurd (omega arith)
trail_turns (x ∷ (y ∷ r)) n t e =
    let back : Steps y x (x ∷ (y ∷ r)) = subst (λ w. Steps y x w) (sym e) (Steps-reverse x y (x ∷ (y ∷ r)) (inl (refl, refl))) in
    elim back [ inl h ↦ (t.0 y refl).0 (sym h.0) | inr h ↦ (t.0 y refl).1 (inr h) ]

-- the place of the least vertex is within the list
least_within_from : (t : List Pos) (place : ℕ) (m : Pos) (i : ℕ) → place ≤ i + length t → least_vertex_from place m i t ≤ i + length t
least_within_from [] place m i h = h
least_within_from (y ∷ t) place m i h =
    let k = least_within_from t (cond (is_lt (position_cmp y m)) i place) (cond (is_lt (position_cmp y m)) y m) (i + 1) (by_case (is_lt (position_cmp y m))) in
    omega (arith, k)
  where
    by_case : (b : Bool) → cond b i place ≤ (i + 1) + length t
    by_case true = omega arith
    by_case false = omega (arith, h)

pub least_within : (l : List Pos) → least_vertex l ≤ length l
least_within [] = omega arith
least_within (x ∷ t) = let k = least_within_from t 0 x 1 (omega arith) in omega (arith, k)

module _ (g u : Geometry Pos) (old : Arcs) (marks : List Bool) (ending : List Pos) (left : IsLeftBy g u old marks ending) (m : PseudoNodes) (met : AreAnswered old marks ending m) where
  abbrev pub Kept : ℕ → Type 0
  Kept = IsKept position_cmp g u old.arcs

  abbrev pub P : ArcRef → Option ArcRef
  P = partner_in m

  abbrev pub J : Pos → Type 0
  J = JunctionOf g

  module _ (a : ArcRef) (more : List ArcRef) (w : IsWalked marks P a more) where
    abbrev pub last : ArcRef
    last = last_of a more

    pub stays : (k : ℕ) → Uses k (a ∷ more) → Kept k
    stays k h = partners.marked_kept g u old marks ending left m met k (w.stays k h)

    abbrev pub s : stitches.Stitches g u old marks ending left m met a more
    s = stitches.stitches g u old marks ending left m met a more w.linked stays

    abbrev pub x : Pos
    x = s.begin

    pub chain_is : run_along old.arcs (a ∷ more) ≡ s.begin ∷ s.rest
    chain_is = run_stitched old.arcs s.begin a more s.rest s.stitch

    pub line : IsLine (s.begin ∷ s.rest)
    line = list_line position_cmp position_total position_same position_dec u left.sound old.arcs left.table.arcs (a ∷ more) (s.begin ∷ s.rest) (λ e. cc) s.stitch w.once

    back_stays : (k : ℕ) → Uses k (backwards (a ∷ more)) → Kept k
    back_stays k h = stays k (uses_back_of k h)
      where
        uses_back_of : (k : ℕ) → Uses k (backwards (a ∷ more)) → Uses k (a ∷ more)
        uses_back_of k h = stitches.uses_again k (a ∷ more) h

    back_stitch : StitchTo old.arcs (backwards (a ∷ more)) (reverse (s.begin ∷ s.rest))
    back_stitch = stitch_reverse old.arcs s.begin a more s.rest s.stitch

    -- from stop to stop
    module _ (first_none : P a ≡ None) (last_none : P (flipped last) ≡ None) where
      pub end_stop : (v : Pos) → EndOf v (s.begin ∷ s.rest) → J v
      end_stop v (inl e) =
          let (z, b, j) = partners.alone g u old marks ending left m met a (stays a.arc (inl refl)) first_none in
          subst J (one_begin old.arcs a z s.begin b s.first ∙ sym e) j
      end_stop v (inr e) =
          let (z, b, j) = partners.alone g u old marks ending left m met (flipped last) (stays last.arc (uses_last a more)) last_none in
          subst J (one_begin old.arcs (flipped last) z (last_of s.begin s.rest) b s.last ∙ sym e) j

      pub open_run : (b : Bool) → IsOpenRun Kept J old.arcs (cond b (reverse (s.begin ∷ s.rest)) (s.begin ∷ s.rest)) (directed b (a ∷ more))
      open_run false = record {
        run = record { some = λ e. cc; stitch = s.stitch; once = w.once; stays = stays };
        ends = end_stop;
        meets = stitches.no_stop g u old marks ending left m met (a ∷ more) w.linked stays;
      }
      open_run true = record {
        run = record { some = stitches.back_full a more; stitch = back_stitch; once = once_back (a ∷ more) w.once; stays = back_stays };
        ends = λ v h. back_end v (subst (EndOf v) (reverse-last s.begin s.rest) h);
        meets = stitches.no_stop g u old marks ending left m met (backwards (a ∷ more))
            (follow_back marks P (partners.paired g u old marks ending left m met) a more w.linked w.stays) back_stays;
      }
        where
          back_end : (v : Pos) → EndOf v (last_of s.begin s.rest ∷ reverse (front_of s.begin s.rest)) → J v
          back_end v (inl e) = end_stop v (inr e)
          back_end v (inr e) = end_stop v (inl (e ∙ last_back s.begin s.rest))

    -- round
    module _ (round : P (flipped last) ≡ Some a) where
      abbrev Linking : ArcRef → Type 0
      Linking b = (y : ArcRef) × (P b ≡ Some y)

      linking : (b : ArcRef) (more : List ArcRef) → Linked P b more → ((k : ℕ) → Uses k (b ∷ more) → is_left marks k ≡ true) → Linking b → Linking (flipped (last_of b more)) →
          (c : ArcRef) → Has c (b ∷ more) → Linking c × Linking (flipped c)
      linking b [] l k one two c (inl e) = (subst Linking (sym e) one, subst Linking (ap flipped (sym e)) two)
      linking b [] l k one two c (inr z) = absurd z
      linking b (d ∷ more) l k one two c (inl e) = (subst Linking (sym e) one, subst Linking (ap flipped (sym e)) (d, l.0))
      linking b (d ∷ more) l k one two c (inr h) =
          linking d more l.1 (λ j i. k j (inr i)) (flipped b, (partners.paired g u old marks ending left m met (flipped b) d (k b.arc (inl refl)) l.0).1) two c h

      all_linking : (c : ArcRef) → Has c (a ∷ more) → Linking c × Linking (flipped c)
      all_linking =
          linking a more w.linked w.stays (flipped last, (partners.paired g u old marks ending left m met (flipped last) a (w.stays last.arc (uses_last a more)) round).1) (a, round)

      free_begin : (b : ArcRef) (v : Pos) → Kept b.arc → Linking b → BeginsAt old.arcs v b → ¬ J v
      free_begin b v k (y, e) begins j =
          let (z, t) = partners.meets g u old marks ending left m met b y k e in
          t.no_stop (subst J (one_begin old.arcs b v z begins t.here) j)

      pub comes_back : last_of s.begin s.rest ≡ s.begin
      comes_back =
          let (z, t) = partners.meets g u old marks ending left m met (flipped last) a (stays last.arc (uses_last a more)) round in
          one_begin old.arcs (flipped last) (last_of s.begin s.rest) z s.last t.here ∙ one_begin old.arcs a z s.begin t.there s.first

      abbrev pub ring : (t : List Pos) × (without_last (s.begin ∷ s.rest) ≡ s.begin ∷ t) × (s.begin ∷ s.rest ≡ closed (s.begin ∷ t))
      ring = closed_is s.begin s.rest comes_back line.long

      abbrev pub turn : (f : Pos) × (r : List Pos) × (started_at (least_vertex (s.begin ∷ ring.0)) (s.begin ∷ ring.0) ≡ f ∷ r) × IsRotation (s.begin ∷ ring.0) (f ∷ r) × Least f (s.begin ∷ ring.0)
      turn = least_started s.begin ring.0

      pub loop_is : from_least (s.begin ∷ s.rest) ≡ closed (turn.0 ∷ turn.1)
      loop_is = ap (λ l. closed (started_at (least_vertex l) l)) ring.1 ∙ ap closed turn.2

      is_ring : IsRing (s.begin ∷ ring.0)
      is_ring =
          list_ring position_cmp position_total position_same position_dec u left.sound old.arcs left.table.arcs (a ∷ more) (s.begin ∷ ring.0) (λ e. cc)
          (subst (StitchTo old.arcs (a ∷ more)) ring.2 s.stitch) w.once

      pub loop_trail : IsRing (turn.0 ∷ turn.1)
      loop_trail = rotation_ring (s.begin ∷ ring.0) (turn.0 ∷ turn.1) turn.3 is_ring

      -- the run as a loop, and what it uses is of the run
      pub loop_run : (b : Bool) →
          (k : IsLoopRun position_cmp Kept J old.arcs (cond b (reverse (closed (turn.0 ∷ turn.1))) (closed (turn.0 ∷ turn.1))) (list_by old.arcs true (directed b (a ∷ more)))) ×
          ((n : ℕ) → Uses n k.from → Uses n (a ∷ more))
      loop_run false = (
        record {
          from = a ∷ more;
          round = s.begin ∷ ring.0;
          first = turn.0;
          rest = turn.1;
          run = record { some = λ e. cc; stitch = subst (StitchTo old.arcs (a ∷ more)) ring.2 s.stitch; once = w.once; stays = stays };
          meets = λ b v h begins. free_begin b v (stays b.arc (uses_has b (a ∷ more) h)) (all_linking b h).0 begins;
          turned = turn.3;
          least = turn.4;
          arc = refl;
          list = refl;
        },
        λ n h. h,
      )
      loop_run true = (
        record {
          from = backwards (a ∷ more);
          round = s.begin ∷ reverse ring.0;
          first = turn.0;
          rest = reverse turn.1;
          run = record {
            some = stitches.back_full a more;
            stitch = subst (StitchTo old.arcs (backwards (a ∷ more))) (ap reverse ring.2 ∙ closed_back s.begin ring.0) back_stitch;
            once = once_back (a ∷ more) w.once;
            stays = back_stays;
          };
          meets = λ b v h begins.
              let c = map_has flipped (a ∷ more) b (Has-unreverse b (map flipped (a ∷ more)) h) in
              free_begin b v (back_stays b.arc (uses_has b (backwards (a ∷ more)) h)) (subst Linking (sym c.2) (all_linking c.0 c.1).1) begins;
          turned = rotation_back_way s.begin ring.0 turn.0 turn.1 turn.3;
          least = λ v h. turn.4 v (elim h [ inl e ↦ inl e | inr i ↦ inr (Has-unreverse v ring.0 i) ]);
          arc = closed_back turn.0 turn.1;
          list = refl;
        },
        λ n h. stitches.uses_again n (a ∷ more) h,
      )
