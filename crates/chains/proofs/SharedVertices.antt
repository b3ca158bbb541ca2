-- Two tables of arcs: a vertex that stands in one of them alone is a junction of both maps together only where it is an end of an arc that is not free.
use Rattle.std.proofs.Common.{◌≡◌, ℕ, Bool, true, false, cond, not, List, [], ◌∷◌, ◌++◌, map, reverse, inl, inr, refl, sym, ap, ◌∙◌, subst, arith, append_assoc, Some, slice_get, get_or, ◌≤◌, zero, suc}
use Rattle.std.specs.Cmp.Lexicographic.{slice_cmp, lists_total}
use Rattle.std.specs.Ordering.{is_lt, ordering_reverse}
use Rattle.std.specs.declared.cmp.Ordering.TheVariants.{Less}
use Rattle.theory.specs.Arcs.{IsArcOf}
use Rattle.theory.specs.Geometry.{Geometry, IsChainOf, IsLineOf, IsRingOf, IsSound, JunctionOf}
use Rattle.theory.specs.Junction.{Visit as Seen, Visits}
use Rattle.theory.specs.Junction.Visit.{end, pair}
use Rattle.theory.specs.LinesAndRings.{around, closed}
use Rattle.theory.specs.Lists.{Between, EndOf, Has, Passes, front_of, gathered, last_of}
use Rattle.theory.specs.Refinement.{AreArcsAsMap, unclosed}
use Rattle.theory.proofs.ClosedLists.{closed_around}
use Rattle.theory.proofs.Lists.{Has-append, Has-append_left, Has-append_right, front-snoc}
use Rattle.theory.proofs.ListsOfLists.{Has-gathered, gathered_from, get_has}
use Rattle.theory.proofs.PiecesExist.{own_union}
use Rattle.theory.proofs.HealingJoined.{front_passes}
use Rattle.theory.proofs.ValidLists.{middle_has}
use Rattle.grid.specs.declared.pos.Pos.{Pos}
use Rattle.lines.specs.Turned.{position_cmp}
use Rattle.lines.specs.Positions.{position_total}
use Rattle.lines.proofs.Positions.{true_false}
use Rattle.arcs.specs.Among.{among}
use Rattle.arcs.specs.Arcs.{Arcs}
use Rattle.arcs.specs.Extents.{within}
use Rattle.arcs.specs.Holding.{HoldAll}
use Rattle.chains.specs.Index.{IsIndexOf, AreVisitsOf}
use Rattle.chains.specs.OfArcs.{arc_pieces, arc_visits, tables_as_map}
use Rattle.chains.specs.ArcPieces.{loop_pieces, pieces_at}
use Rattle.chains.specs.Pieces.{started_ring, cut_inside, cut_inside_from, open_pieces}
use Rattle.arcs.specs.Pieces.{is_backwards_less, piece_along}
use Rattle.chains.specs.VertexFilter.{arc_meets, arc_shared, inside, may_hold, HoldCommon, HoldShared, KeepsClashes, StayWhole}
use Rattle.arcs.specs.Placing.{whole}
use Rattle.arcs.specs.Table.{is_loop, IsTableOf}
use Rattle.chains.specs.Visits.{around_of, inner_of, visit_of, HaveSame}
use Rattle.arcs.specs.declared.arcs_box.Extent.{Extent}
use Rattle.chains.specs.declared.vertex_filter.VertexFilter.{VertexFilter}
use Rattle.chains.specs.declared.visits.Visit.{Visit}
use Rattle.chains.proofs.Among.{among_has}
use Rattle.chains.proofs.Gathered.{between_has, clash_seen, found_in}
use Rattle.chains.proofs.Sharing.{none_any, none_met}
use Rattle.chains.proofs.TablesAsMap.{free_loop, meant, tables_alike, tables_are}

last_has : (x : Pos) (r : List Pos) → Has (last_of x r) (x ∷ r)
last_has x [] = inl refl
last_has x (y ∷ r) = inr (last_has y r)

pub end_has : (v : Pos) (l : List Pos) → EndOf v l → Has v l
end_has v [] h = absurd h
end_has v (x ∷ r) (inl e) = inl e
end_has v (x ∷ r) (inr e) = subst (λ w. Has w (x ∷ r)) (sym e) (last_has x r)

begins_has : (a v b : Pos) (l : List Pos) → Passes a v b l → Has v l
begins_has a v b [] h = absurd h
begins_has a v b (x ∷ []) (inl h) = absurd h.1
begins_has a v b (x ∷ (y ∷ l)) (inl h) = inr (inl h.1.0)
begins_has a v b (x ∷ l) (inr h) = inr (begins_has a v b l h)

pub between_there : (a v b : Pos) (l : List Pos) → Between a v b l → Has v l
between_there a v b l (inl h) = begins_has a v b l h
between_there a v b l (inr h) = begins_has b v a l h

round_has : (a v b : Pos) (r : List Pos) → Passes a v b (around r) → Has v (closed r)
round_has a v b [] h = absurd h
round_has a v b (x ∷ []) h = absurd h
round_has a v b (x ∷ (y ∷ l)) h = inr (middle_has x a v b y ((y ∷ l) ++ (x ∷ [])) (subst (Passes a v b) (closed_around x y l) h))

pub around_has : (a v b : Pos) (r : List Pos) → Between a v b (around r) → Has v (closed r)
around_has a v b r (inl h) = round_has a v b r h
around_has a v b r (inr h) = round_has b v a r h

pub front_has : (v x : Pos) (r : List Pos) → Has v (front_of x r) → Has v (x ∷ r)
front_has v x [] h = absurd h
front_has v x (y ∷ r) (inl e) = inl e
front_has v x (y ∷ r) (inr h) = inr (front_has v y r h)

-- the inner vertices of an arc stand in it
pub inside_has : (v : Pos) (b : Bool) (c : List Pos) → Has v (inside b c) → Has v c
inside_has v true c h = h
inside_has v false [] h = absurd h
inside_has v false (x ∷ []) h = absurd h
inside_has v false (x ∷ (y ∷ r)) h = inr (front_has v y r h)

passes_inside : (a v b : Pos) (l : List Pos) → Passes a v b l → Has v (inside false l)
passes_inside a v b [] h = absurd h
passes_inside a v b (x ∷ []) (inl h) = absurd h.1
passes_inside a v b (x ∷ []) (inr h) = absurd h
passes_inside a v b (x ∷ (y ∷ [])) (inl h) = absurd h.1.1
passes_inside a v b (x ∷ (y ∷ [])) (inr (inl h)) = absurd h.1
passes_inside a v b (x ∷ (y ∷ [])) (inr (inr h)) = absurd h
passes_inside a v b (x ∷ (y ∷ (z ∷ r))) (inl h) = inl h.1.0
passes_inside a v b (x ∷ (y ∷ (z ∷ r))) (inr h) = inr (passes_inside a v b (y ∷ (z ∷ r)) h)

-- the visits of an arc are at its inner vertices
pub visit_inside : (m : Geometry Pos) (sm : IsSound m) (s : Arcs) (ms : IsTableOf m s) (c : List Pos) → Has c s.arcs → (w : Visit) → Has w (arc_visits s.loops c) → Has w.vertex (inside (is_loop s.loops c) c)
visit_inside m sm s ms c h w = go (is_loop s.loops c) refl
  where
    go : (b : Bool) → is_loop s.loops c ≡ b → Has w (cond b (around_of (unclosed c)) (inner_of c)) → Has w.vertex (inside b c)
    go true e k =
        let f = found_in w (around (unclosed c)) k in
        subst (Has w.vertex) (sym (free_loop m sm s ms c h e).0) (round_has f.before w.vertex f.next (unclosed c) f.there)
    go false e k = let f = found_in w c k in passes_inside f.before w.vertex f.next c f.there

-- a visit of an arc of a map is at no junction of it
pub inner : (m : Geometry Pos) (sm : IsSound m) (s : Arcs) (ms : IsTableOf m s) (c : List Pos) → Has c s.arcs → (w : Visit) → Has w (arc_visits s.loops c) → ¬ JunctionOf m w.vertex
inner m sm s ms c h w = go (is_loop s.loops c) refl
  where
    passed : (l : List Pos) → IsChainOf position_cmp m l → (a b : Pos) → Passes a w.vertex b l → ¬ JunctionOf m w.vertex
    passed [] k a b p = absurd k
    passed (x ∷ r) k a b p = k.inner_free a w.vertex b p

    go : (b : Bool) → is_loop s.loops c ≡ b → Has w (cond b (around_of (unclosed c)) (inner_of c)) → ¬ JunctionOf m w.vertex
    go true e k =
        let f = found_in w (around (unclosed c)) k in
        (meant m sm s ms c h).yes e w.vertex
        (subst (Has w.vertex) (sym (free_loop m sm s ms c h e).0) (round_has f.before w.vertex f.next (unclosed c) f.there))
    go false e k = let f = found_in w c k in passed c (ms.arcs.arcs_only c h).chain f.before f.next f.there

module _ (m n : Geometry Pos) (sm : IsSound m) (s t : Arcs) (ms : IsTableOf m s) (a : Geometry Pos) (am : AreArcsAsMap m n s.arcs t.arcs a) where
  -- the vertex stands in no arc of the other table
  abbrev pub Apart : Pos → Type 0
  Apart v = (c : List Pos) → Has c t.arcs → ¬ Has v c

  own : AreArcsAsMap m m s.arcs s.arcs (tables_as_map s s)
  own = tables_are m m sm sm s s ms ms

  line : (v : Pos) → Apart v → (l : List Pos) → IsLineOf a l → Has v l → IsLineOf (tables_as_map s s) l
  line v apart l h k = elim (am.lines l h) [ inl o ↦ own.open_left l o | inr o ↦ absurd (apart l o.0 k) ]

  ring : (v : Pos) → Apart v → (r : List Pos) → IsRingOf a r → Has v (closed r) → IsRingOf (tables_as_map s s) r
  ring v apart r h k = elim (am.rings r h) [ inl o ↦ own.loop_left r o | inr o ↦ absurd (apart (closed r) o.0 k) ]

  moved : (v : Pos) → Apart v → (p : Seen Pos) → Visits (IsLineOf a) (IsRingOf a) v p → Visits (IsLineOf (tables_as_map s s)) (IsRingOf (tables_as_map s s)) v p
  moved v apart end h = (h.0, line v apart h.0 h.1 (end_has v h.0 h.2), h.2)
  moved v apart (pair x y) (inl h) = inl (h.0, line v apart h.0 h.1 (between_there x v y h.0 h.2), h.2)
  moved v apart (pair x y) (inr h) = inr (h.0, ring v apart h.0 h.1 (around_has x v y h.0 h.2), h.2)

  own_junction : (v : Pos) → Apart v → JunctionOf a v → JunctionOf m v
  own_junction v apart j = (tables_alike m m sm sm s s ms ms m (own_union m)).junctions v (elim j [
    | inl h ↦ inl (moved v apart end h)
    | inr h ↦ inr (h.0, h.1, moved v apart h.0 h.2, moved v apart h.1 h.3, h.4)
  ])

  -- a visit of an arc whose vertex is in this table alone is at no junction
  pub alone : (c : List Pos) → Has c s.arcs → (w : Visit) → Has w (arc_visits s.loops c) → Apart w.vertex → ¬ JunctionOf a w.vertex
  alone c h w k apart j = inner m sm s ms c h w k (own_junction w.vertex apart j)

-- a list with no stop inside is not cut
uncut : (stop : Pos → Bool) (part : List Pos) (y : Pos) (r : List Pos) → ((v : Pos) → Has v (front_of y r) → stop v ≡ false) →
    cut_inside_from stop part (y ∷ r) ≡ (part ++ (y ∷ r)) ∷ []
uncut stop part y [] h = refl
uncut stop part y (z ∷ r) h =
    ap (λ b. cond b ((part ++ (y ∷ [])) ∷ cut_inside_from stop (y ∷ []) (z ∷ r)) (cut_inside_from stop (part ++ (y ∷ [])) (z ∷ r))) (h y (inl refl))
    ∙ uncut stop (part ++ (y ∷ [])) z r (λ v k. h v (inr k))
    ∙ ap (λ w. w ∷ []) (append_assoc part (y ∷ []) (z ∷ r))

-- an arc is a piece in its own direction
own_piece : (c : List Pos) → slice_cmp position_cmp c (reverse c) ≡ Less → (free : Bool) → piece_along free c ≡ record { chain = c; reversed = false; free = free }
own_piece c e free =
    let b : is_backwards_less c ≡ false = ap is_lt ((lists_total position_total).antisymm (reverse c) c ∙ ap ordering_reverse e) in
    λ i. record { chain = cond (b i) (reverse c) c; reversed = b i; free = free }

module _ (m : Geometry Pos) (sm : IsSound m) (s : Arcs) (ms : IsTableOf m s) (a : Geometry Pos) (js : List Pos) (index : IsIndexOf js a) where
  no_stop : (v : Pos) → ¬ JunctionOf a v → among js v ≡ false
  no_stop v none = go (among js v) refl
    where
      go : (b : Bool) → among js v ≡ b → b ≡ false
      go true e = absurd (none (index.only v (among_has js v e)))
      go false e = refl

  visited : (c : List Pos) (a' v b : Pos) → ((w : Visit) → Has w (inner_of c) → ¬ JunctionOf a w.vertex) → Passes a' v b c → among js v ≡ false
  visited c a' v b none p = no_stop v (none (visit_of a' v b) (between_has a' v b c (inl p)))

  open_whole : (c : List Pos) → IsArcOf position_cmp m c → ((w : Visit) → Has w (inner_of c) → ¬ JunctionOf a w.vertex) →
      open_pieces (among js) c ≡ record { chain = c; reversed = false; free = false } ∷ []
  open_whole [] k none = absurd k.chain
  open_whole (x ∷ []) k none = let z : 1 ≤ 0 = k.chain.long in absurd (omega arith)
  open_whole (x ∷ (y ∷ r)) k none =
      ap (map (piece_along false))
      (uncut (among js) (x ∷ []) y r (λ v f. (let p = front_passes v x y r f in visited (x ∷ (y ∷ r)) p.0 v p.1 none p.2)))
      ∙ ap (λ w. w ∷ []) (own_piece (x ∷ (y ∷ r)) k.forward false)

  -- each vertex of a ring is visited
  loop_none : (x y : Pos) (l : List Pos) → ((w : Visit) → Has w (around_of (x ∷ (y ∷ l))) → ¬ JunctionOf a w.vertex) → (v : Pos) → Has v (x ∷ (y ∷ l)) → among js v ≡ false
  loop_none x y l none v h =
      let f = front_passes v x y (l ++ (x ∷ (y ∷ []))) (subst (Has v) (sym (ap (front_of y) (sym (append_assoc l (x ∷ []) (y ∷ []))) ∙ front-snoc y y (l ++ (x ∷ [])))) (there h)) in
      no_stop v (none (visit_of f.0 v f.1) (between_has f.0 v f.1 (around (x ∷ (y ∷ l))) (inl f.2)))
    where
      there : Has v (x ∷ (y ∷ l)) → Has v (y ∷ (l ++ (x ∷ [])))
      there (inl e) = inr (Has-append_right v l (x ∷ []) (inl e))
      there (inr (inl e)) = inl e
      there (inr (inr k)) = inr (Has-append_left v l (x ∷ []) k)

  loop_whole : (c : List Pos) → IsArcOf position_cmp m c → c ≡ closed (unclosed c) →
      ((w : Visit) → Has w (around_of (unclosed c)) → ¬ JunctionOf a w.vertex) →
      loop_pieces (among js) c ≡ record { chain = c; reversed = false; free = true } ∷ []
  loop_whole [] k e none = absurd k.chain
  loop_whole (x ∷ []) k e none = let z : 1 ≤ 0 = k.chain.long in absurd (omega arith)
  loop_whole (x ∷ (y ∷ [])) k e none = let p : x ≡ y = cc in let z : 3 ≤ 1 = k.chain.closed_long p in absurd (omega arith)
  loop_whole (x ∷ (y ∷ (z ∷ q))) k e none =
      ap (λ b. map (piece_along (not b)) (cond b (cut_inside (among js) (started_ring (among js) (x ∷ (y ∷ front_of z q)))) ((x ∷ (y ∷ (z ∷ q))) ∷ [])))
      (none_any (among js) (x ∷ (y ∷ front_of z q)) (loop_none x y (front_of z q) none))
      ∙ ap (λ w. w ∷ []) (own_piece (x ∷ (y ∷ (z ∷ q))) k.forward true)

  pub stays_whole : (c : List Pos) → Has c s.arcs → ((w : Visit) → Has w (arc_visits s.loops c) → ¬ JunctionOf a w.vertex) → arc_pieces js s.loops c ≡ whole s.loops c
  stays_whole c h none = go (is_loop s.loops c) refl none
    where
      go : (b : Bool) → is_loop s.loops c ≡ b → ((w : Visit) → Has w (cond b (around_of (unclosed c)) (inner_of c)) → ¬ JunctionOf a w.vertex) →
          pieces_at (among js) b c ≡ record { chain = c; reversed = false; free = b } ∷ []
      go true e f = loop_whole c (ms.arcs.arcs_only c h) (free_loop m sm s ms c h e).0 f
      go false e f = open_whole c (ms.arcs.arcs_only c h) f

pub mapped_at : {A : Type 0} (f : A → Bool) (l : List A) (i : ℕ) (x : A) → slice_get l i ≡ Some x → get_or (map f l) i true ≡ f x
mapped_at f [] i x e = absurd cc
mapped_at f (y ∷ l) zero x e = ap f cc
mapped_at f (y ∷ l) (suc i) x e = mapped_at f l i x e

-- what is noted of one table, where the bits are those of the other
module _ (m n : Geometry Pos) (sm : IsSound m) (s t : Arcs) (ms : IsTableOf m s) (a : Geometry Pos) (am : AreArcsAsMap m n s.arcs t.arcs a)
    (bits : VertexFilter) (hold : HoldShared bits t.arcs s.arcs) where
  -- an arc of which no inner vertex may be the other table's has no junction at a visit
  unmet : (c : List Pos) → Has c s.arcs → arc_meets (may_hold bits) s.loops c ≡ false → (w : Visit) → Has w (arc_visits s.loops c) → ¬ JunctionOf a w.vertex
  unmet c h e w k =
      let i = visit_inside m sm s ms c h w k in
      alone m n sm s t ms a am c h w k (λ d j o. true_false (may_hold bits w.vertex) (hold d j c h w.vertex o (inside_has w.vertex (is_loop s.loops c) c i))
      (none_met (may_hold bits) (inside (is_loop s.loops c) c) e w.vertex i))

  pub side_whole : (js : List Pos) → IsIndexOf js a → (marks : List Bool) → marks ≡ map (arc_meets (may_hold bits) s.loops) s.arcs → StayWhole js s marks
  side_whole js index marks e i c g f =
      let h = get_has s.arcs i c g in
      stays_whole m sm s ms a js index c h
      (unmet c h (sym (mapped_at (arc_meets (may_hold bits) s.loops) s.arcs i c g) ∙ sym (ap (λ w. get_or w i true) e) ∙ f))

  pub side_kept : (v : Visit) → Has v (gathered (arc_visits s.loops) s.arcs) → JunctionOf a v.vertex → Has v (gathered (arc_shared (may_hold bits) s.loops) s.arcs)
  side_kept v h j =
      let q = gathered_from (arc_visits s.loops) s.arcs v h in
      Has-gathered (arc_shared (may_hold bits) s.loops) s.arcs q.0 v q.1 (go q.0 q.1 (arc_meets (may_hold bits) s.loops q.0) refl q.2)
    where
      go : (c : List Pos) → Has c s.arcs → (b : Bool) → arc_meets (may_hold bits) s.loops c ≡ b → Has v (arc_visits s.loops c) → Has v (cond b (arc_visits s.loops c) [])
      go c i true e k = k
      go c i false e k = absurd (unmet c i e v k j)

  pub side_only : (v : Visit) → Has v (gathered (arc_shared (may_hold bits) s.loops) s.arcs) → Has v (gathered (arc_visits s.loops) s.arcs)
  side_only v h =
      let q = gathered_from (arc_shared (may_hold bits) s.loops) s.arcs v h in
      Has-gathered (arc_visits s.loops) s.arcs q.0 v q.1 (go q.0 (arc_meets (may_hold bits) s.loops q.0) q.2)
    where
      go : (c : List Pos) (b : Bool) → Has v (cond b (arc_visits s.loops c) []) → Has v (arc_visits s.loops c)
      go c true k = k
      go c false k = absurd k

-- vertices that lie in both extents are held, and those of both tables do
pub shared_held : (s t : Arcs) (a b : Extent) (bits : VertexFilter) → HoldAll (within a) s.arcs → HoldAll (within b) t.arcs → HoldCommon a b bits s.arcs → HoldShared bits s.arcs t.arcs
shared_held s t a b bits own other common c h d k p i j = common c h p i (own c h p i) (other d k p j)

pub other_way : (m n : Geometry Pos) (s t : List (List Pos)) (a : Geometry Pos) → AreArcsAsMap m n s t a → AreArcsAsMap n m t s a
other_way m n s t a am = record {
  lines = λ l h. elim (am.lines l h) [ inl k ↦ inr k | inr k ↦ inl k ];
  rings = λ r h. elim (am.rings r h) [ inl k ↦ inr k | inr k ↦ inl k ];
  open_left = am.open_right;
  open_right = am.open_left;
  loop_left = am.loop_right;
  loop_right = am.loop_left;
}

-- what is noted of both
module _ (m n : Geometry Pos) (sm : IsSound m) (sn : IsSound n) (s t : Arcs) (ms : IsTableOf m s) (nt : IsTableOf n t)
    (of_s of_t : VertexFilter) (hold_s : HoldShared of_s s.arcs t.arcs) (hold_t : HoldShared of_t t.arcs s.arcs) where
  abbrev pub all_visits : List Visit
  all_visits = gathered (arc_visits s.loops) s.arcs ++ gathered (arc_visits t.loops) t.arcs

  am : AreArcsAsMap m n s.arcs t.arcs (tables_as_map s t)
  am = tables_are m n sm sn s t ms nt

  back : AreArcsAsMap n m t.arcs s.arcs (tables_as_map s t)
  back = other_way m n s.arcs t.arcs (tables_as_map s t) am

  pub met_kept : (ends : List Pos) (kept : List Visit) → AreVisitsOf ends all_visits (tables_as_map s t) →
      HaveSame kept (gathered (arc_shared (may_hold of_t) s.loops) s.arcs ++ gathered (arc_shared (may_hold of_s) t.loops) t.arcs) → KeepsClashes kept all_visits
  met_kept ends kept are e = record {
    only = λ v h. elim (Has-append v (gathered (arc_shared (may_hold of_t) s.loops) s.arcs) (gathered (arc_shared (may_hold of_s) t.loops) t.arcs) ((e.members v).0 h)) [
      | inl k ↦ Has-append_left v (gathered (arc_visits s.loops) s.arcs) (gathered (arc_visits t.loops) t.arcs) (side_only m n sm s t ms (tables_as_map s t) am of_t hold_t v k)
      | inr k ↦ Has-append_right v (gathered (arc_visits s.loops) s.arcs) (gathered (arc_visits t.loops) t.arcs) (side_only n m sn t s nt (tables_as_map s t) back of_s hold_s v k)
    ];
    clashing = λ v w h k f d.
        let j = clash_seen (tables_as_map s t) ends all_visits are v.vertex
        (record { one = v; other = w; has_one = h; has_other = k; at_one = refl; at_other = sym f; differ = d }) in
        (e.members v).1 (elim (Has-append v (gathered (arc_visits s.loops) s.arcs) (gathered (arc_visits t.loops) t.arcs) h) [
          | inl i ↦ Has-append_left v (gathered (arc_shared (may_hold of_t) s.loops) s.arcs) (gathered (arc_shared (may_hold of_s) t.loops) t.arcs)
              (side_kept m n sm s t ms (tables_as_map s t) am of_t hold_t v i j)
          | inr i ↦ Has-append_right v (gathered (arc_shared (may_hold of_t) s.loops) s.arcs) (gathered (arc_shared (may_hold of_s) t.loops) t.arcs)
              (side_kept n m sn t s nt (tables_as_map s t) back of_s hold_s v i j)
        ]);
  }

  pub left_whole : (js : List Pos) → IsIndexOf js (tables_as_map s t) → (marks : List Bool) → marks ≡ map (arc_meets (may_hold of_t) s.loops) s.arcs → StayWhole js s marks
  left_whole = side_whole m n sm s t ms (tables_as_map s t) am of_t hold_t

  pub right_whole : (js : List Pos) → IsIndexOf js (tables_as_map s t) → (marks : List Bool) → marks ≡ map (arc_meets (may_hold of_s) t.loops) t.arcs → StayWhole js t marks
  right_whole = side_whole n m sn t s nt (tables_as_map s t) back of_s hold_s
