-- The cut in the words of the map.
use Rattle.std.proofs.Common.{◌≡◌, ◌≤◌, Bool, true, false, cond, ◌&&◌, List, [], ◌∷◌, ◌++◌, inl, inr, refl, sym, ap, ◌∙◌, subst, arith}
use Rattle.std.specs.List.{list_any}
use Rattle.grid.specs.declared.pos.Pos.{Pos}
use Rattle.lines.specs.Turned.{position_cmp}
use Rattle.theory.specs.Cutting.{cut_from}
use Rattle.theory.specs.Lists.{EndOf, Has, front_of, last_of}
use Rattle.arcs.specs.Among.{among}
use Rattle.chains.specs.Index.{IsIndexOf}
use Rattle.chains.specs.Starts.{start_index}
use Rattle.chains.specs.Pieces.{started_ring, cut_inside, cut_inside_from, goes_on, parts_round}
use Rattle.lines.proofs.Positions.{position_dec}
use Rattle.chains.proofs.Among.{among_has, has_among}
use Rattle.theory.specs.LinesAndRings.{closed}
use Rattle.theory.specs.Stitching.{ArePiecesOf, AreRingPiecesOf}
use Rattle.theory.specs.Geometry.{Geometry, IsSound, IsLineOf, IsRingOf, JunctionOf, AtMost}
use Rattle.theory.proofs.Lists.{Has-append_right, append_nil, front_last}
use Rattle.theory.proofs.Pieces.{line_pieces, ring_pieces, ring_loop}
use Rattle.chains.proofs.LoopStops.{any_met, opened_parted}
use Rattle.chains.proofs.Sharing.{none_any}
use Rattle.chains.proofs.Turned.{turned_at}

-- a list that ends with a stop is cut alike, whether it is looked at its last place or not
module _ (stop : Pos → Bool) where
  goes_on_last : (rest : List Pos) (p : Pos) → goes_on (rest ++ (p ∷ [])) ≡ true
  goes_on_last [] p = refl
  goes_on_last (y ∷ rest) p = refl

  cut_alike : (part rest : List Pos) (p : Pos) → stop p ≡ true → cut_inside_from stop part (rest ++ (p ∷ [])) ≡ cut_from stop part (rest ++ (p ∷ []))
  cut_alike part [] p f = ap (λ b. cond b ((part ++ (p ∷ [])) ∷ []) []) (sym f)
  cut_alike part (y ∷ rest) p f =
      let e = goes_on_last rest p in
      let g = cut_alike (y ∷ []) rest p f in
      let h = cut_alike (part ++ (y ∷ [])) rest p f in
      λ j. cond (e j && stop y) ((part ++ (y ∷ [])) ∷ g j) (h j)

  line_alike : (x y : Pos) (r : List Pos) → stop (last_of y r) ≡ true → cut_inside stop (x ∷ (y ∷ r)) ≡ cut_from stop (x ∷ []) (y ∷ r)
  line_alike x y r f = subst (λ w. cut_inside_from stop (x ∷ []) w ≡ cut_from stop (x ∷ []) w) (sym (front_last y r)) (cut_alike (x ∷ []) (front_of y r) (last_of y r) f)

module _ (g : Geometry Pos) (sound : IsSound g) (keys : List Pos) (index : IsIndexOf keys g) where
  pub stops : (v : Pos) → among keys v ≡ true → JunctionOf g v
  stops v e = index.only v (among_has keys v e)

  pub passes : (v : Pos) → among keys v ≡ false → ¬ JunctionOf g v
  passes v e j = absurd (let k : true ≡ false = sym (has_among keys v (index.all v j)) ∙ e in cc)

  no_stop : (v : Pos) → ¬ JunctionOf g v → among keys v ≡ false
  no_stop v n = go (among keys v) refl
    where
      go : (b : Bool) → among keys v ≡ b → b ≡ false
      go true e = absurd (n (stops v e))
      go false e = refl

  pub end_stops : (l : List Pos) → IsLineOf g l → (v : Pos) → EndOf v l → among keys v ≡ true
  end_stops l h v e = has_among keys v (index.all v (inl (l, h, e)))

  pub line_is_cut : (l : List Pos) → IsLineOf g l → (cs : List (List Pos)) → cs ≡ cut_inside (among keys) l → ArePiecesOf position_cmp g l cs
  line_is_cut [] h cs e = let k : 2 ≤ 0 = (sound.lines [] h).long in absurd (omega arith)
  line_is_cut (x ∷ []) h cs e = let k : 2 ≤ 1 = (sound.lines (x ∷ []) h).long in absurd (omega arith)
  line_is_cut (x ∷ (y ∷ r)) h cs e =
      subst (ArePiecesOf position_cmp g (x ∷ (y ∷ r))) (sym (e ∙ line_alike (among keys) x y r (end_stops (x ∷ (y ∷ r)) h (last_of y r) (inr refl))))
      (line_pieces g sound position_dec (AtMost position_cmp) (among keys) stops passes x (y ∷ r) h)

  -- the ring parted at its start
  parts : (s t : List Pos) (x : Pos) → IsRingOf g (s ++ (x ∷ t)) →
      (among keys x ≡ false → ((v : Pos) → Has v (s ++ (x ∷ t)) → ¬ JunctionOf g v) × ((v : Pos) → Has v (s ++ (x ∷ t)) → AtMost position_cmp x v)) →
      (b : Bool) → among keys x ≡ b →
      ArePiecesOf position_cmp g (closed (x ∷ (t ++ s))) (cond b (cut_inside (among keys) (closed (x ∷ (t ++ s)))) (closed (x ∷ (t ++ s)) ∷ []))
  parts s t x h free true e =
      subst (ArePiecesOf position_cmp g (closed (x ∷ (t ++ s)))) (sym (cut_alike (among keys) (x ∷ []) (t ++ s) x e))
      (ring_pieces g sound position_dec (AtMost position_cmp) (among keys) stops passes s t x h (stops x e))
  parts s t x h free false e = (
    (ring_loop g sound position_dec (AtMost position_cmp) (among keys) stops passes s t x h (free e).0 (free e).1, tt),
    ((t ++ s) ++ (x ∷ []), [], refl, sym (append_nil ((t ++ s) ++ (x ∷ []))), refl),
  )

  -- a stop lies on the ring where one stands at its start
  met : (r : List Pos) (x : Pos) → Has x r → (among keys x ≡ false → (v : Pos) → Has v r → ¬ JunctionOf g v) → (b : Bool) → among keys x ≡ b → list_any (among keys) r ≡ b
  met r x h free true e = any_met (among keys) r x h e
  met r x h free false e = none_any (among keys) r (λ v k. no_stop v (free e v k))

  pub ring_is_cut : (r : List Pos) → IsRingOf g r → (cs : List (List Pos)) → cs ≡ parts_round (among keys) r (started_ring (among keys) r) → AreRingPiecesOf position_cmp g r cs
  ring_is_cut [] h cs e = let k : 3 ≤ 0 = (sound.rings [] h).long in absurd (omega arith)
  ring_is_cut (x ∷ []) h cs e = let k : 3 ≤ 1 = (sound.rings (x ∷ []) h).long in absurd (omega arith)
  ring_is_cut (x ∷ (y ∷ l)) h cs e =
      let t = turned_at (JunctionOf g) (among keys) stops passes x y l (sound.rings (x ∷ (y ∷ l)) h) in
      let o = opened_parted (x ∷ (y ∷ l)) t.before t.first t.behind (start_index (among keys) (x ∷ (y ∷ l))) t.parted t.place in
      let there : Has t.first (x ∷ (y ∷ l)) = subst (Has t.first) (sym t.parted) (Has-append_right t.first t.before (t.first ∷ t.behind) (inl refl)) in
      let m = met (x ∷ (y ∷ l)) t.first there (λ f. (t.free f).0) (among keys t.first) refl in (
        t.first,
        t.behind ++ t.before,
        t.turned,
        subst (ArePiecesOf position_cmp g (closed (t.first ∷ (t.behind ++ t.before))))
            (sym (e ∙ (λ j. cond (m j) (cut_inside (among keys) (o j)) (o j ∷ []))))
            (parts t.before t.behind t.first (subst (IsRingOf g) t.parted h)
            (subst (λ w. among keys t.first ≡ false → ((v : Pos) → Has v w → ¬ JunctionOf g v) × ((v : Pos) → Has v w → AtMost position_cmp t.first v)) t.parted t.free)
            (among keys t.first) refl),
      )
