-- Lists that stand together over arcs that are apart: the arcs are those of the map that the lists make.
use Rattle.std.proofs.Common.{◌≡◌, ℕ, List, [], ◌∷◌, ◌⊎◌, reverse, inl, inr, refl, sym, ap, ◌∙◌, subst, Option, Some, None}
use Rattle.std.proofs.lemmas.List.{append-nil}
use Rattle.grid.specs.declared.pos.Pos.{Pos}
use Rattle.lines.specs.Turned.{position_cmp}
use Rattle.lines.specs.Positions.{position_same, position_total}
use Rattle.lines.proofs.Positions.{position_dec}
use Rattle.theory.proofs.ArcNumbers.{along_flipped}
use Rattle.theory.proofs.ListsOfLists.{gathered_from}
use Rattle.theory.proofs.Reversing.{reverse-last}
use Rattle.theory.proofs.SegmentsOnce.{segments_once}
use Rattle.theory.proofs.ValidMaps.{ends_list}
use Rattle.theory.proofs.ValidityProved.{noded_arcs_are_valid, arcs_valid_for_a_map_are_its, valid_arcs_are_the_maps, valid_ring_lists_are_the_maps}
use Rattle.theory.proofs.ValidReads.{least_turned, ring_as_read, runs_line, runs_ring}
use Rattle.theory.proofs.UsersOfArcs.{partner, partner_back}
use Rattle.theory.specs.ArcNumbers.{ArcRef, StitchTo, Uses}
use Rattle.theory.specs.Arcs.{AreArcsOf}
use Rattle.theory.specs.Chain.{Free}
use Rattle.theory.specs.Geometry.{Geometry, IsSound, JunctionOf}
use Rattle.theory.specs.Laws.{IsOrder}
use Rattle.theory.specs.LinesAndRings.{closed}
use Rattle.theory.specs.Lists.{Has, Pairwise, front_of, last_of}
use Rattle.theory.specs.Refinement.{Alike, turned_used}
use Rattle.theory.specs.Validity.{ArcsAreNoded, AreValidArcs, EndsList, InALine, InARing, IsListOfLine, IsListOfRing, AreValidFor}
use Rattle.theory.specs.Topology.{IsRingList}
use Rattle.arcs.specs.Among.{Tells}
use Rattle.arcs.specs.Arcs.{Arcs}
use Rattle.chains.specs.OfArcs.{table_as_map}
use Rattle.arcs.specs.Table.{IsTableOf, free_at}
use Rattle.validate.specs.Lists.{IsValidLine, IsValidRing}
use Rattle.validate.specs.ArcEnds.{from_to, line_ends}
use Rattle.arcs.specs.Ends.{ends_along}
use Rattle.validate.specs.Validity as law
use Rattle.validate.specs.Validity.{AreListsOf, AreTurnedListsOf, AreValidLists, StitchAround}
use Rattle.validate.proofs.NodedArcs.{is_table}
use Rattle.arcs.proofs.EndsAlong.{ends_run}

order : IsOrder position_cmp
order = record { total = position_total; same = position_same }

-- where a list begins or ends
pub in_line_ends : (arcs : List (List Pos)) (us : List ArcRef) (v : Pos) → Has v (line_ends arcs us) → EndsList arcs v us
in_line_ends arcs [] v h = absurd h
in_line_ends arcs (a ∷ us) v h = go (ends_along arcs a) refl (ends_along arcs (last_of a us)) refl h
  where
    go : (s : Option (Pos × Pos)) → ends_along arcs a ≡ s → (e : Option (Pos × Pos)) → ends_along arcs (last_of a us) ≡ e → Has v (from_to s e) → EndsList arcs v (a ∷ us)
    go None p e q h = absurd h
    go (Some s) p None q h = absurd h
    go (Some (x, y)) p (Some (z, w)) q (inl f) =
        let t = ends_run arcs a x y p in
        inl (t.0, t.1 ∙ ap (λ u. Some (u ∷ t.0)) (sym f))
    go (Some (x, y)) p (Some (z, w)) q (inr (inl f)) =
        let t = ends_run arcs (last_of a us) z w q in
        inr (reverse (front_of z t.0), along_flipped arcs (last_of a us) (z ∷ t.0) t.1 ∙ ap Some (reverse-last z t.0) ∙ ap (λ u. Some (u ∷ reverse (front_of z t.0))) (t.2 ∙ sym f))
    go (Some s) p (Some e) q (inr (inr h)) = absurd h

Pairwise-both : {A B : Type 0} (R T : A → B → Type 0) (xs : List A) (ys : List B) → Pairwise R xs ys → ((x : A) (y : B) → Has x xs → Has y ys → R x y → T x y) → Pairwise T xs ys
Pairwise-both R T [] [] p k = tt
Pairwise-both R T [] (y ∷ ys) p k = absurd p
Pairwise-both R T (x ∷ xs) [] p k = absurd p
Pairwise-both R T (x ∷ xs) (y ∷ ys) p k = (k x y (inl refl) (inl refl) p.0, Pairwise-both R T xs ys p.1 (λ z w h i. k z w (inr h) (inr i)))

-- a list that is made one by one
pub made : {A B : Type 0} (R : A → B → Type 0) (ys : List B) → ((y : B) → Has y ys → (x : A) × R x y) → (xs : List A) × Pairwise R xs ys
made R [] h = ([], tt)
made R (y ∷ ys) h =
    let t = h y (inl refl) in
    let s = made R ys (λ z i. h z (inr i)) in
    (t.0 ∷ s.0, (t.1, s.1))

module _ (t : Arcs) (st : ArcsAreNoded position_cmp t.arcs (table_as_map t)) where
  abbrev a : Geometry Pos
  a = table_as_map t

  alone : AreValidArcs position_cmp t.arcs a
  alone = noded_arcs_are_valid position_cmp order t.arcs a st

  sound : IsSound a
  sound = (valid_arcs_are_the_maps position_cmp order t.arcs a alone).0

  all : AreArcsOf position_cmp a t.arcs
  all = (valid_arcs_are_the_maps position_cmp order t.arcs a alone).1

  line_list : (us : List ArcRef) (l : List Pos) → IsValidLine t.arcs a us → StitchTo t.arcs us l → IsListOfLine t.arcs a l us
  line_list us l k s = record { some = k.some; stitch = s; once = k.once; no_free = k.no_free }

  ring_some : (us : List ArcRef) → IsValidRing position_cmp t.arcs us → ¬ (us ≡ [])
  ring_some [] k e = k.least
  ring_some (b ∷ us) k e = absurd cc

  ring_list : (us : List ArcRef) (r : List Pos) → IsValidRing position_cmp t.arcs us → StitchAround t.arcs us r → IsListOfRing t.arcs r us
  ring_list us r k s = record { some = ring_some us k; around = s; once = k.once }

  turned : (us : List ArcRef) (r : List Pos) → IsValidRing position_cmp t.arcs us → StitchTo t.arcs us (closed r) → turned_used position_cmp t.arcs us ≡ us
  turned us r k s = least_turned position_cmp position_total position_same position_dec a sound t.arcs all us r s k.once k.least

  module _ (lines rings : List (List ArcRef)) (ok : AreValidLists t lines rings) where
    a_map : (g : Geometry Pos) × AreListsOf t.arcs lines rings g
    a_map =
        let ls = made (λ l us. StitchTo t.arcs us l) lines
        (λ us h. let k = ok.each_line us h in
        runs_line position_cmp position_total position_same position_dec a sound t.arcs all k.runs.0 us k.runs.1 k.some k.runs.2) in
        let rs = made (λ r us. StitchTo t.arcs us (closed r)) rings
        (λ us h. let k = ok.each_ring us h in
        runs_ring position_cmp position_total position_same position_dec a sound t.arcs all k.round.0 us (ring_some us k) k.round.1) in
        (record { lines = ls.0; rings = rs.0 }, record { of_lines = ls.1; of_rings = rs.1 })

    module _ (g : Geometry Pos) (are : AreTurnedListsOf t.arcs lines rings g) where
      stands : AreValidFor position_cmp t.arcs a g
      stands = record {
        alone = alone;
        lines = λ l h.
            let p = partner (λ l us. StitchTo t.arcs us l) g.lines lines are.of_lines l h in
            (p.0, line_list p.0 l (ok.each_line p.0 p.1) p.2);
        rings = λ r h.
            let p = partner (λ r us. StitchAround t.arcs us r) g.rings rings are.of_rings r h in
            (p.0, ring_list p.0 r (ok.each_ring p.0 p.1) p.2);
        used = λ k c e. (let u = ok.used k c e in user k u.0 u.1 u.2);
        ends = λ l h v i. elim (ok.ends l h v i) [
          | inl k ↦
              let u = gathered_from (line_ends t.arcs) lines v k in
              let p = partner_back (λ l us. StitchTo t.arcs us l) g.lines lines are.of_lines u.0 u.1 in
              inl (p.0, p.1, ends_list t.arcs u.0 p.0 p.2 v (in_line_ends t.arcs u.0 v u.2))
          | inr k ↦ inr k
        ];
      }
        where
          user : (k : ℕ) (us : List ArcRef) → Has us lines ⊎ Has us rings → Uses k us → InALine t.arcs a g k ⊎ InARing t.arcs g k
          user k us (inl h) u =
              let p = partner_back (λ l us. StitchTo t.arcs us l) g.lines lines are.of_lines us h in
              inl (p.0, us, p.1, line_list us p.0 (ok.each_line us h) p.2, u)
          user k us (inr h) u =
              let p = partner_back (λ r us. StitchAround t.arcs us r) g.rings rings are.of_rings us h in
              inr (p.0, us, p.1, ring_list us p.0 (ok.each_ring us h) p.2, u)

      meant : IsSound g × AreArcsOf position_cmp g t.arcs × Alike a g
      meant = arcs_valid_for_a_map_are_its position_cmp order t.arcs a g stands

      table : IsTableOf g t
      table = record {
        arcs = meant.1;
        free = λ n c e.
            let k : Tells (free_at t n) (Free (JunctionOf a) c) = (is_table t st).free n c e in
            record {
              yes = λ f v h j. k.yes f v h (meant.2.junctions_back v j);
              no = λ f m. k.no f (λ v h j. m v h (meant.2.junctions v j));
            };
        once = segments_once position_cmp position_total position_same position_dec g meant.0 t.arcs meant.1;
      }

      ring_lists : Pairwise (IsRingList position_cmp (JunctionOf g) t.arcs) g.rings rings
      ring_lists =
          Pairwise-both (λ r us. StitchAround t.arcs us r) (IsRingList position_cmp (JunctionOf g) t.arcs) g.rings rings are.of_rings
          (λ r us h i s.
          let k = ok.each_ring us i in
          subst (λ w. IsRingList position_cmp (JunctionOf g) t.arcs r w) (turned us s.0 k s.2)
          (valid_ring_lists_are_the_maps position_cmp order g meant.0 t.arcs meant.1 r h us (ring_list us r k s)))

pub lists_make_a_map : law.ListsMakeAMap
lists_make_a_map t st lines rings ok = a_map t st lines rings ok

pub lists_are_the_maps : law.ListsAreTheMaps
lists_are_the_maps t st lines rings ok g are = ((meant t st lines rings ok g are).0, table t st lines rings ok g are, ring_lists t st lines rings ok g are)

pub lists_are_read : law.ListsAreRead
lists_are_read t st us = (
  (λ l k s. line_list t st us l k s),
  (λ r k s. ring_as_read position_cmp position_total position_same position_dec (a t st) (sound t st) t.arcs (all t st) r us
      (ring_list t st us r k (r, ([], r, refl, sym (append-nil r)), s)) k.least),
)
