-- On which segments of arcs a vertex lies: at an inner index of an arc on two, at an end on the last step of each arc that ends there.
use Rattle.std.proofs.Common.{◌≡◌, ℕ, List, [], ◌∷◌, ◌⊎◌, inl, inr, refl, sym, ap, ◌∙◌, subst, Option, Some, None, slice_get, unwrap_or, reverse}
use Rattle.std.proofs.lemmas.List.{reverse-reverse}
use Rattle.grid.specs.declared.pos.Pos.{Pos}
use Rattle.lines.specs.Turned.{position_cmp}
use Rattle.lines.specs.Positions.{position_total, position_same}
use Rattle.arcs.specs.Arcs.{Arcs}
use Rattle.arcs.specs.Table.{IsTableOf}
use Rattle.theory.specs.Geometry.{AtMost, Geometry, IsChainOf, IsSound, JunctionOf, SegmentOf}
use Rattle.theory.specs.Lists.{BeginsTwo, Beside, Distinct, EndOf, Has, Passes, Steps, front_of, last_of}
use Rattle.theory.specs.Segments.{OnTwo, TwoSegments}
use Rattle.theory.proofs.Ascending.{at_most_same, dec_by}
use Rattle.theory.proofs.Chains.{Chain-turn, saturated}
use Rattle.theory.proofs.Lists.{BeginsTwo-Steps, Passes-after, Passes-before, Steps-front, step_from}
use Rattle.theory.proofs.ListsOfLists.{get_has}
use Rattle.theory.proofs.Pieces.{SegmentOf-flip, two_segments_of}
use Rattle.theory.proofs.Reversing.{Passes-reverse, reverse-last, Steps-reverse}
use Rattle.chains.specs.Along.{OnArcs}
use Rattle.query.specs.Ends.{EndStep, OnEnds}
use Rattle.chains.proofs.Siding.{arc_on, beside_sides, on_arc, sides_beside}
use Rattle.query.proofs.Meshing.{beside_differ}

-- a neighbour on a list: at an inner index, or at an end
pub at_index : {V : Type 0} (c : List V) (v w : V) → Beside v w c →
    ((a : V) × (b : V) × Passes a v b c × ((w ≡ a) ⊎ (w ≡ b))) ⊎ EndStep v w c
at_index [] v w (inl h) = absurd h
at_index [] v w (inr h) = absurd h
at_index (x ∷ r) v w (inl h) =
    elim (step_from x v w r h) [ inl k ↦ inr (inl k) | inr t ↦ inl (t.0, w, t.1, inr refl) ]
at_index {V} (x ∷ r) v w (inr h) = back (reverse (x ∷ r)) refl (Steps-reverse w v (x ∷ r) h)
  where
    back : (l : List V) → reverse (x ∷ r) ≡ l → Steps v w l →
        ((a : V) × (b : V) × Passes a v b (x ∷ r) × ((w ≡ a) ⊎ (w ≡ b))) ⊎ EndStep v w (x ∷ r)
    back [] e s = absurd s
    back (y ∷ l) e s =
        elim (step_from y v w l s) [
          | inl k ↦ inr (inr (subst (BeginsTwo v w) (sym e) k))
          | inr t ↦ inl (w, t.0, subst (Passes w v t.0) (ap reverse (sym e) ∙ reverse-reverse (x ∷ r)) (Passes-reverse t.0 v w (y ∷ l) t.1), inl refl)
        ]

-- an end's step is one between neighbours
pub end_beside : {V : Type 0} (c : List V) (v w : V) → EndStep v w c → Beside v w c
end_beside c v w (inl h) = inl (BeginsTwo-Steps v w c h)
end_beside c v w (inr h) =
    inr (subst (Steps w v) (reverse-reverse c) (Steps-reverse v w (reverse c) (BeginsTwo-Steps v w (reverse c) h)))

last_has : {V : Type 0} (x : V) (r : List V) → Has (last_of x r) (x ∷ r)
last_has x [] = inl refl
last_has x (y ∷ r) = inr (last_has y r)

end_has : {V : Type 0} (c : List V) (v : V) → EndOf v c → Has v c
end_has [] v h = absurd h
end_has (x ∷ r) v (inl e) = inl e
end_has (x ∷ r) v (inr e) = subst (λ w. Has w (x ∷ r)) (sym e) (last_has x r)

-- an end's step is at an end
pub end_of : {V : Type 0} (c : List V) (v w : V) → EndStep v w c → EndOf v c
end_of [] v w (inl h) = absurd h
end_of [] v w (inr h) = absurd h
end_of (x ∷ r) v w (inl h) = inl h.0
end_of (x ∷ r) v w (inr h) = inr ((subst (BeginsTwo v w) (reverse-last x r) h).0)

-- an inner index of a list stands before its last
inner_front : {V : Type 0} (x a v b : V) (r : List V) → Passes a v b (x ∷ r) → Steps v b r
inner_front x a v b r (inl h) = BeginsTwo-Steps v b r h.1
inner_front x a v b r (inr h) = Passes-after a v b r h

-- the first vertex of a chain stands at no inner index
first_outer : {V : Type 0} (x a b : V) (r : List V) → Distinct (front_of x r) → ¬ Passes a x b (x ∷ r)
first_outer x a b [] d h = inner_front x a x b [] h
first_outer x a b (y ∷ r) d h = d.0 (Steps-front x b y r (inner_front x a x b (y ∷ r) h))

-- of the two segments at a vertex, where both are known
of_two : {V : Type 0} (S : V → V → Type 0) (v a b w : V) → OnTwo S v → S v a → S v b → ¬ (a ≡ b) → S v w → (w ≡ a) ⊎ (w ≡ b)
of_two S v a b w t sa sb ne sw =
    elim (t.5 a sa) [
      | inl ea ↦ elim (t.5 b sb) [
        | inl eb ↦ absurd (ne (ea ∙ sym eb))
        | inr eb ↦ elim (t.5 w sw) [ inl ew ↦ inl (ew ∙ sym ea) | inr ew ↦ inr (ew ∙ sym eb) ]
      ]
      | inr ea ↦ elim (t.5 b sb) [
        | inr eb ↦ absurd (ne (ea ∙ sym eb))
        | inl eb ↦ elim (t.5 w sw) [ inl ew ↦ inr (ew ∙ sym eb) | inr ew ↦ inl (ew ∙ sym ea) ]
      ]
    ]

-- an arc of one of the numbers that ends with a step
pub end_arc : (arcs : List (List Pos)) (ks : List ℕ) (v w : Pos) → OnEnds arcs ks v w → (k : ℕ) × (c : List Pos) × Has k ks × (slice_get arcs k ≡ Some c) × EndStep v w c
end_arc arcs [] v w h = absurd h
end_arc arcs (k ∷ ks) v w (inr h) = let t = end_arc arcs ks v w h in (t.0, t.1, inr t.2, t.3, t.4)
end_arc arcs (k ∷ ks) v w (inl h) = go (slice_get arcs k) refl h
  where
    go : (o : Option (List Pos)) → slice_get arcs k ≡ o → EndStep v w (unwrap_or o []) →
        (j : ℕ) × (c : List Pos) × Has j (k ∷ ks) × (slice_get arcs j ≡ Some c) × EndStep v w c
    go None e i = absurd (elim i [ inl z ↦ z | inr z ↦ z ])
    go (Some c) e i = (k, c, inl refl, e, i)

pub arc_end : (arcs : List (List Pos)) (ks : List ℕ) (v w : Pos) (k : ℕ) (c : List Pos) → Has k ks → slice_get arcs k ≡ Some c → EndStep v w c → OnEnds arcs ks v w
arc_end arcs [] v w k c h e s = absurd h
arc_end arcs (j ∷ ks) v w k c (inl h) e s = inl (subst (λ o. EndStep v w (unwrap_or o [])) (sym e ∙ ap (slice_get arcs) h) s)
arc_end arcs (j ∷ ks) v w k c (inr h) e s = inr (arc_end arcs ks v w k c h e s)

module _ (g : Geometry Pos) (sound : IsSound g) (t : Arcs) (table : IsTableOf g t) where
  same_position : (u v : Pos) → Dec (u ≡ v)
  same_position = dec_by position_cmp position_total position_same

  at_same : (u v : Pos) → AtMost position_cmp u v → AtMost position_cmp v u → u ≡ v
  at_same = at_most_same position_cmp position_total position_same

  flip : (u v : Pos) → SegmentOf g u v → SegmentOf g v u
  flip = SegmentOf-flip g sound same_position

  pub two : TwoSegments (SegmentOf g) (JunctionOf g)
  two = two_segments_of g sound same_position

  arc_chain : (k : ℕ) (c : List Pos) → slice_get t.arcs k ≡ Some c → IsChainOf position_cmp g c
  arc_chain k c e = (table.arcs.arcs_only c (get_has t.arcs k c e)).chain

  -- neighbours on an arc of one of the numbers are a segment of these arcs, and of the map
  pub beside_on : (ks : List ℕ) (k : ℕ) (c : List Pos) → Has k ks → slice_get t.arcs k ≡ Some c → (u v : Pos) → Beside u v c → OnArcs t.arcs ks u v
  beside_on ks k c h e u v b =
      arc_on t.arcs ks u v k c h e (beside_sides c u v (beside_differ c (table.once.one_place c (get_has t.arcs k c e)) u v b) b)

  pub arc_segment : (k : ℕ) (c : List Pos) → slice_get t.arcs k ≡ Some c → (u v : Pos) → Beside u v c → SegmentOf g u v
  arc_segment k c e u v b = table.once.no_other u v c (get_has t.arcs k c e) b

  pub on_segment : (ks : List ℕ) (u v : Pos) → OnArcs t.arcs ks u v → SegmentOf g u v
  on_segment ks u v h =
      let (k, c, there, e, side) = on_arc t.arcs ks u v h in
      arc_segment k c e u v (sides_beside c u v side)

  -- an inner vertex of an arc is no junction, and its neighbours there differ
  pub inner_free : (k : ℕ) (c : List Pos) → slice_get t.arcs k ≡ Some c → (a v b : Pos) → Passes a v b c → ¬ JunctionOf g v
  inner_free k c e a v b p = go c (arc_chain k c e) p
    where
      go : (d : List Pos) → IsChainOf position_cmp g d → Passes a v b d → ¬ JunctionOf g v
      go [] h q = absurd h
      go (x ∷ r) h q = h.inner_free a v b q

  pub inner_apart : (k : ℕ) (c : List Pos) → slice_get t.arcs k ≡ Some c → (a v b : Pos) → Passes a v b c → ¬ (a ≡ b)
  inner_apart k c e a v b p = go c (arc_chain k c e) p
    where
      go : (d : List Pos) → IsChainOf position_cmp g d → Passes a v b d → ¬ (a ≡ b)
      go [] h q = absurd h
      go (x ∷ r) h q = Chain-turn (SegmentOf g) (JunctionOf g) (AtMost position_cmp) flip two at_same x r h a v b q

  -- an inner vertex of an arc of one of the numbers lies on exactly two segments of these arcs
  pub inner_two : (ks : List ℕ) (k : ℕ) (c : List Pos) → Has k ks → slice_get t.arcs k ≡ Some c → (a v b : Pos) → Passes a v b c →
      (¬ (a ≡ b)) × OnArcs t.arcs ks v a × OnArcs t.arcs ks v b × ((w : Pos) → OnArcs t.arcs ks v w → (w ≡ a) ⊎ (w ≡ b))
  inner_two ks k c h e a v b p =
      let apart : ¬ (a ≡ b) = inner_apart k c e a v b p in
      let before : Beside v a c = inr (Passes-before a v b c p) in
      let after : Beside v b c = inl (Passes-after a v b c p) in
      let sa : SegmentOf g v a = arc_segment k c e v a before in
      let sb : SegmentOf g v b = arc_segment k c e v b after in (
        apart,
        beside_on ks k c h e v a before,
        beside_on ks k c h e v b after,
        λ w s. of_two (SegmentOf g) v a b w (two v a (inner_free k c e a v b p) sa) sa sb apart (on_segment ks v w s),
      )

  -- an arc that has a vertex which is no junction has all segments at the vertex
  pub all_beside : (k : ℕ) (c : List Pos) → slice_get t.arcs k ≡ Some c → (v w : Pos) → Has v c → ¬ JunctionOf g v → SegmentOf g v w → Beside v w c
  all_beside k c e v w h n s = go c (arc_chain k c e) h
    where
      go : (d : List Pos) → IsChainOf position_cmp g d → Has v d → Beside v w d
      go [] i q = absurd i
      go (x ∷ r) i q = saturated (SegmentOf g) (JunctionOf g) (AtMost position_cmp) flip two at_same x r i v w q n s

  -- no end of an arc is an inner vertex of an arc
  pub end_outer : (k j : ℕ) (c d : List Pos) → slice_get t.arcs k ≡ Some c → slice_get t.arcs j ≡ Some d → (v a b : Pos) → EndOf v c → ¬ Passes a v b d
  end_outer k j c d e f v a b h p =
      let free : ¬ JunctionOf g v = inner_free j d f a v b p in
      let after : Beside v b d = inl (Passes-after a v b d p) in
      let here : Beside v b c = all_beside k c e v b (end_has c v h) free (arc_segment j d f v b after) in
      let same : k ≡ j = table.once.one_arc v b k j c d e f here after in
      let one : Some c ≡ Some d = sym e ∙ ap (slice_get t.arcs) same ∙ f in
      let is : c ≡ d = cc in
      go c (arc_chain k c e) h free (subst (Passes a v b) (sym is) p)
    where
      go : (l : List Pos) → IsChainOf position_cmp g l → EndOf v l → ¬ JunctionOf g v → Passes a v b l → ⊥
      go [] i q n s = i
      go (x ∷ r) i q n s =
          elim i.ends [
            | inl both ↦ n (elim q [ inl is ↦ subst (JunctionOf g) (sym is) both.0 | inr is ↦ subst (JunctionOf g) (sym is) both.1 ])
            | inr loop ↦
                let is : v ≡ x = elim q [ inl m ↦ m | inr m ↦ m ∙ sym loop.0 ] in
                first_outer x a b r i.front_simple (subst (λ w. Passes a w b (x ∷ r)) is s)
          ]

  -- a step at the end of an arc of one of the numbers is a segment of these arcs
  pub end_side : (ks : List ℕ) (v w : Pos) → OnEnds t.arcs ks v w → OnArcs t.arcs ks v w
  end_side ks v w h =
      let (k, c, there, e, step) = end_arc t.arcs ks v w h in
      beside_on ks k c there e v w (end_beside c v w step)

  -- where an arc of one of the numbers ends, each segment of these arcs is a step at an end of one
  pub end_sides : (ks : List ℕ) (v p w : Pos) → OnEnds t.arcs ks v p → OnArcs t.arcs ks v w → OnEnds t.arcs ks v w
  end_sides ks v p w h s =
      let (k, c, there, e, step) = end_arc t.arcs ks v p h in
      let (j, d, also, f, side) = on_arc t.arcs ks v w s in
      elim (at_index d v w (sides_beside d v w side)) [
        | inl (a, b, inner, is) ↦ absurd (end_outer k j c d e f v a b (end_of c v p step) inner)
        | inr last ↦ arc_end t.arcs ks v w j d also f last
      ]

  -- each vertex of these arcs lies on a step at an end, or on exactly two segments
  pub end_or_two : (ks : List ℕ) (v w : Pos) → OnArcs t.arcs ks v w → OnEnds t.arcs ks v w ⊎ OnTwo (OnArcs t.arcs ks) v
  end_or_two ks v w s =
      let (k, c, there, e, side) = on_arc t.arcs ks v w s in
      elim (at_index c v w (sides_beside c v w side)) [
        | inl (a, b, inner, is) ↦ (
            let (apart, before, behind, only) = inner_two ks k c there e a v b inner in
            inr (a, b, apart, before, behind, only))
        | inr last ↦ inl (arc_end t.arcs ks v w k c there e last)
      ]
