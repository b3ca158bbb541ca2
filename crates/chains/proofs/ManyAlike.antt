-- The arcs of many tables have, as a map, the segments and the junctions of the union of the tables' maps.
use Rattle.std.proofs.Common.{◌≡◌, ◌⊎◌, Bool, true, false, List, [], ◌∷◌, ◌++◌, append-nil, inl, inr, refl, sym, ap, ◌∙◌, subst, get_or}
use Rattle.theory.specs.Geometry.{Geometry, IsLineOf, IsRingOf, IsSound, JunctionOf, SegmentOf}
use Rattle.theory.specs.Junction.{Visit as Seen, Visits}
use Rattle.theory.specs.Junction.Visit.{end, pair}
use Rattle.theory.specs.Laws.{IsOrder}
use Rattle.theory.specs.LinesAndRings.{closed}
use Rattle.theory.specs.Lists.{Has, Twice, gathered}
use Rattle.theory.specs.Refinement.{Alike, IsPartOf}
use Rattle.theory.proofs.ArcsAsMap.{three_map}
use Rattle.theory.proofs.Lists.{Has-append, Has-append_left, Has-append_right, Has-split}
use Rattle.theory.proofs.ListsOfLists.{Has-gathered, gathered_from, get_has}
use Rattle.theory.proofs.PiecesExist.{own_union}
use Rattle.theory.proofs.ProvedLaws.{junction_by_segments}
use Rattle.theory.proofs.RefinementLaws.{part_junction, part_segment}
use Rattle.grid.specs.declared.pos.Pos.{Pos}
use Rattle.lines.specs.Turned.{position_cmp}
use Rattle.lines.specs.Positions.{position_total, position_same}
use Rattle.lines.proofs.Positions.{position_dec, true_false}
use Rattle.arcs.specs.Arcs.{Arcs}
use Rattle.chains.specs.Index.{AreVisitsOf, IsIndexOf}
use Rattle.chains.specs.ManyTables.{AreTablesOf, IsUnionOfAll, MarkShared, UnmarkedStayWhole, all_as_map, all_marked_visits, arcs_of_all, lines_of_table, marked_visits, piece_ends, piece_meets, piece_visits, rings_of_table, vertices_once}
use Rattle.chains.specs.OfArcs.{tables_as_map}
use Rattle.chains.specs.ArcPieces.{pieces_under}
use Rattle.arcs.specs.Placing.{whole_pieces}
use Rattle.arcs.specs.Table.{IsTableOf}
use Rattle.chains.specs.VertexFilter.{KeepsClashes, inside}
use Rattle.chains.specs.Visits.{HaveSame}
use Rattle.arcs.specs.declared.piece.Piece.{Piece}
use Rattle.chains.specs.declared.visits.Visit.{Visit}
use Rattle.chains.proofs.Gathered.{clash_seen}
use Rattle.chains.proofs.ManyTables.{EachIsTable, all_visits_are, each_is, gathered_both, has_marked, line_piece, loop_once, map_of, marked_are, marked_only, piece_arc, ring_piece, said_of, table_of, twice_across, twice_right, visit_free, visit_in, visit_once, visit_there, visit_within}
use Rattle.chains.proofs.SharedVertices.{around_has, between_there, end_has, mapped_at, stays_whole}
use Rattle.chains.proofs.Sharing.{none_met}
use Rattle.chains.proofs.TablesAsMap.{tables_alike, tables_sound}

order : IsOrder position_cmp
order = record { total = position_total; same = position_same }

-- a table's lines and rings twice over
module _ (t : Arcs) where
  line_twice : (l : List Pos) → Has l (lines_of_table t) → IsLineOf (tables_as_map t t) l
  line_twice l h = Has-append_left l (lines_of_table t) (lines_of_table t) h

  ring_twice : (r : List Pos) → Has r (rings_of_table t) → IsRingOf (tables_as_map t t) r
  ring_twice r h = Has-append_left r (rings_of_table t) (rings_of_table t) h

  line_once : (l : List Pos) → IsLineOf (tables_as_map t t) l → Has l (lines_of_table t)
  line_once l h = elim (Has-append l (lines_of_table t) (lines_of_table t) h) [ inl k ↦ k | inr k ↦ k ]

  ring_once : (r : List Pos) → IsRingOf (tables_as_map t t) r → Has r (rings_of_table t)
  ring_once r h = elim (Has-append r (rings_of_table t) (rings_of_table t) h) [ inl k ↦ k | inr k ↦ k ]

  module _ (m : Geometry Pos) (sm : IsSound m) (mt : IsTableOf m t) where
    own_sound : IsSound (tables_as_map t t)
    own_sound = tables_sound m m sm sm t t mt mt m (own_union m)

    own_alike : Alike (tables_as_map t t) m
    own_alike = tables_alike m m sm sm t t mt mt m (own_union m)

module _ (maps : List (Geometry Pos)) (tables : List Arcs) (are : AreTablesOf maps tables) where
  abbrev a : Geometry Pos
  a = all_as_map tables

  pub all_sound : IsSound a
  all_sound = record {
    lines = λ l h.
        let k = gathered_from lines_of_table tables l h in
        let m = map_of maps tables are.each k.0 k.1 in
        (own_sound k.0 m.0 (are.sound m.0 m.1) m.2).lines l (line_twice k.0 l k.2);
    rings = λ r h.
        let k = gathered_from rings_of_table tables r h in
        let m = map_of maps tables are.each k.0 k.1 in
        (own_sound k.0 m.0 (are.sound m.0 m.1) m.2).rings r (ring_twice k.0 r k.2);
  }

  own_part : (t : Arcs) → Has t tables → IsPartOf (tables_as_map t t) a
  own_part t h = record {
    lines = λ l k. Has-gathered lines_of_table tables t l h (line_once t l k);
    rings = λ r k. Has-gathered rings_of_table tables t r h (ring_once t r k);
  }

  module _ (u : Geometry Pos) (union : IsUnionOfAll maps u) where
    pub all_united_sound : IsSound u
    all_united_sound = record {
      lines = λ l h. let k = union.lines l h in (are.sound k.0 k.1).lines l k.2;
      rings = λ r h. let k = union.rings r h in (are.sound k.0 k.1).rings r k.2;
    }

    segments : (x y : Pos) → SegmentOf a x y → SegmentOf u x y
    segments x y (inl (l, h, b)) =
        let k = gathered_from lines_of_table tables l h in
        let m = map_of maps tables are.each k.0 k.1 in
        part_segment position_cmp position_total position_same position_dec m.0 u (union.parts m.0 m.1) x y
        ((own_alike k.0 m.0 (are.sound m.0 m.1) m.2).segments x y (inl (l, line_twice k.0 l k.2, b)))
    segments x y (inr (r, h, b)) =
        let k = gathered_from rings_of_table tables r h in
        let m = map_of maps tables are.each k.0 k.1 in
        part_segment position_cmp position_total position_same position_dec m.0 u (union.parts m.0 m.1) x y
        ((own_alike k.0 m.0 (are.sound m.0 m.1) m.2).segments x y (inr (r, ring_twice k.0 r k.2, b)))

    of_map : (m : Geometry Pos) → Has m maps → (x y : Pos) → SegmentOf m x y → SegmentOf a x y
    of_map m h x y s =
        let t = table_of maps tables are.each m h in
        part_segment position_cmp position_total position_same position_dec (tables_as_map t.0 t.0) a (own_part t.0 t.1) x y
        ((own_alike t.0 m (are.sound m h) t.2).segments_back x y s)

    segments_back : (x y : Pos) → SegmentOf u x y → SegmentOf a x y
    segments_back x y (inl (l, h, b)) = let k = union.lines l h in of_map k.0 k.1 x y (inl (l, k.2, b))
    segments_back x y (inr (r, h, b)) = let k = union.rings r h in of_map k.0 k.1 x y (inr (r, k.2, b))

    junctions : (v : Pos) → JunctionOf a v → JunctionOf u v
    junctions v j = elim ((junction_by_segments position_cmp a order all_sound v).0 j) [
      | inl (l, h, e) ↦
          let k = gathered_from lines_of_table tables l h in
          let m = map_of maps tables are.each k.0 k.1 in
          part_junction position_cmp position_total position_same position_dec m.0 u (union.parts m.0 m.1) v
          ((own_alike k.0 m.0 (are.sound m.0 m.1) m.2).junctions v (inl (l, line_twice k.0 l k.2, e)))
      | inr t ↦ (junction_by_segments position_cmp u order all_united_sound v).1 (inr (three_map (SegmentOf a) (SegmentOf u) segments v t))
    ]

    junctions_back : (v : Pos) → JunctionOf u v → JunctionOf a v
    junctions_back v j = elim ((junction_by_segments position_cmp u order all_united_sound v).0 j) [
      | inl (l, h, e) ↦
          let k = union.lines l h in
          let t = table_of maps tables are.each k.0 k.1 in
          part_junction position_cmp position_total position_same position_dec (tables_as_map t.0 t.0) a (own_part t.0 t.1) v
          ((own_alike t.0 k.0 (are.sound k.0 k.1) t.2).junctions_back v (inl (l, k.2, e)))
      | inr t ↦ (junction_by_segments position_cmp a order all_sound v).1 (inr (three_map (SegmentOf u) (SegmentOf a) segments_back v t))
    ]

    pub all_alike : Alike a u
    all_alike = record { segments = segments; segments_back = segments_back; junctions = junctions; junctions_back = junctions_back }

-- one table alone
module _ (m : Geometry Pos) (sm : IsSound m) (t : Arcs) (mt : IsTableOf m t) where
  one_table : AreTablesOf (m ∷ []) (t ∷ [])
  one_table = record {
    sound = λ n h. elim h [ inl e ↦ subst IsSound (sym e) sm | inr k ↦ absurd k ];
    each = (mt, tt);
  }

  one_map : IsUnionOfAll (m ∷ []) m
  one_map = record {
    parts = λ n h. elim h [ inl e ↦ subst (λ w. IsPartOf w m) (sym e) (record { lines = λ l k. k; rings = λ r k. k }) | inr k ↦ absurd k ];
    lines = λ l h. (m, inl refl, h);
    rings = λ r h. (m, inl refl, h);
  }

  pub one_junction : (v : Pos) → JunctionOf (all_as_map (t ∷ [])) v → JunctionOf m v
  one_junction v j = (all_alike (m ∷ []) (t ∷ []) one_table m one_map).junctions v j

  -- no two visits of one table's arcs clash
  one_clash : (v w : Visit) → Has v (gathered piece_visits (whole_pieces t)) → Has w (gathered piece_visits (whole_pieces t)) → v.vertex ≡ w.vertex → ¬ (v ≡ w) → ⊥
  one_clash v w h k e d =
      let more : gathered piece_visits (whole_pieces t) ≡ gathered piece_visits (arcs_of_all (t ∷ [])) = ap (gathered piece_visits) (sym (append-nil (whole_pieces t))) in
      let p = gathered_from piece_visits (whole_pieces t) v h in
      visit_free m sm t mt p.0 p.1 v p.2
      (one_junction v.vertex
      (clash_seen (all_as_map (t ∷ [])) _ _ (all_visits_are (t ∷ [])) v.vertex
      (record { one = v; other = w; has_one = subst (Has v) more h; has_other = subst (Has w) more k; at_one = refl; at_other = sym e; differ = d })))

-- a vertex where visits clash is twice among the vertices of all arcs
pub clash_twice : (tables : List Arcs) → EachIsTable tables → (v w : Visit) → Has v (gathered piece_visits (arcs_of_all tables)) → Has w (gathered piece_visits (arcs_of_all tables)) →
    v.vertex ≡ w.vertex → ¬ (v ≡ w) → Twice v.vertex (gathered vertices_once (arcs_of_all tables))
clash_twice [] each v w h k e d = absurd h
clash_twice (t ∷ ts) each v w h k e d =
    subst (Twice v.vertex) (sym (gathered_both vertices_once (whole_pieces t) (arcs_of_all ts)))
    (both (λ i j. clash_twice ts (λ s q. each s (inr q)) v w i j e d)
    (Has-append v (gathered piece_visits (whole_pieces t)) (gathered piece_visits (arcs_of_all ts)) (subst (Has v) (gathered_both piece_visits (whole_pieces t) (arcs_of_all ts)) h))
    (Has-append w (gathered piece_visits (whole_pieces t)) (gathered piece_visits (arcs_of_all ts)) (subst (Has w) (gathered_both piece_visits (whole_pieces t) (arcs_of_all ts)) k)))
  where
    here : (x : Visit) → Has x (gathered piece_visits (whole_pieces t)) → Has x.vertex (gathered vertices_once (whole_pieces t))
    here x i =
        let g = each t (inl refl) in
        let p = gathered_from piece_visits (whole_pieces t) x i in
        Has-gathered vertices_once (whole_pieces t) p.0 x.vertex p.1 (visit_once g.0 g.1 t g.2 p.0 p.1 x p.2)

    there : (x : Visit) → Has x (gathered piece_visits (arcs_of_all ts)) → Has x.vertex (gathered vertices_once (arcs_of_all ts))
    there x i = visit_there ts (λ s j. each s (inr j)) x i

    both : (Has v (gathered piece_visits (arcs_of_all ts)) → Has w (gathered piece_visits (arcs_of_all ts)) → Twice v.vertex (gathered vertices_once (arcs_of_all ts))) →
        Has v (gathered piece_visits (whole_pieces t)) ⊎ Has v (gathered piece_visits (arcs_of_all ts)) →
        Has w (gathered piece_visits (whole_pieces t)) ⊎ Has w (gathered piece_visits (arcs_of_all ts)) →
        Twice v.vertex (gathered vertices_once (whole_pieces t) ++ gathered vertices_once (arcs_of_all ts))
    both more (inl i) (inl j) = let g = each t (inl refl) in absurd (one_clash g.0 g.1 t g.2 v w i j e d)
    both more (inl i) (inr j) = twice_across v.vertex (gathered vertices_once (whole_pieces t)) (gathered vertices_once (arcs_of_all ts)) (here v i) (subst (λ z. Has z (gathered vertices_once (arcs_of_all ts))) (sym e) (there w j))
    both more (inr i) (inl j) = twice_across v.vertex (gathered vertices_once (whole_pieces t)) (gathered vertices_once (arcs_of_all ts)) (subst (λ z. Has z (gathered vertices_once (whole_pieces t))) (sym e) (here w j)) (there v i)
    both more (inr i) (inr j) = twice_right v.vertex (gathered vertices_once (whole_pieces t)) (gathered vertices_once (arcs_of_all ts)) (more i j)

-- a vertex that lines and rings of b alone visit
module _ (a b : Geometry Pos) (v : Pos) (lines : (l : List Pos) → IsLineOf a l → Has v l → IsLineOf b l) (rings : (r : List Pos) → IsRingOf a r → Has v (closed r) → IsRingOf b r) where
  moved : (p : Seen Pos) → Visits (IsLineOf a) (IsRingOf a) v p → Visits (IsLineOf b) (IsRingOf b) v p
  moved end h = (h.0, lines h.0 h.1 (end_has v h.0 h.2), h.2)
  moved (pair x y) (inl h) = inl (h.0, lines h.0 h.1 (between_there x v y h.0 h.2), h.2)
  moved (pair x y) (inr h) = inr (h.0, rings h.0 h.1 (around_has x v y h.0 h.2), h.2)

  moved_junction : JunctionOf a v → JunctionOf b v
  moved_junction (inl h) = inl (moved end h)
  moved_junction (inr h) = inr (h.0, h.1, moved h.0 h.2, moved h.1 h.3, h.4)

-- the vertices of lines and rings are those of arcs
module _ (tables : List Arcs) (each : EachIsTable tables) (v : Pos) where
  line_vertex : (l : List Pos) → Has l (gathered lines_of_table tables) → Has v l → Has v (gathered vertices_once (arcs_of_all tables))
  line_vertex l h k = Has-gathered vertices_once (arcs_of_all tables) (record { chain = l; reversed = false; free = false }) v (line_piece tables l h) k

  ring_vertex : (r : List Pos) → Has r (gathered rings_of_table tables) → Has v (closed r) → Has v (gathered vertices_once (arcs_of_all tables))
  ring_vertex r h k =
      let (t, c, ht, hc, free, hp, is) = ring_piece tables r h in
      let g = each t ht in
      Has-gathered vertices_once (arcs_of_all tables) (record { chain = c; reversed = false; free = true }) v hp
      (loop_once g.0 g.1 t g.2 c hc free v (subst (λ w. Has v (closed w)) is k))

-- a vertex of one table that is not twice among those of all is at a junction only where it is at one of the table's map
module _ (before after : List Arcs) (t : Arcs) (each : EachIsTable (before ++ (t ∷ after))) (v : Pos) (here : Has v (gathered vertices_once (whole_pieces t)))
    (once : ¬ Twice v (gathered vertices_once (arcs_of_all (before ++ (t ∷ after))))) where
  abbrev in_front : List Pos
  in_front = gathered vertices_once (arcs_of_all before)

  abbrev at_table : List Pos
  at_table = gathered vertices_once (whole_pieces t)

  abbrev behind : List Pos
  behind = gathered vertices_once (arcs_of_all after)

  parted : gathered vertices_once (arcs_of_all (before ++ (t ∷ after))) ≡ in_front ++ (at_table ++ behind)
  parted =
      ap (gathered vertices_once) (gathered_both whole_pieces before (t ∷ after))
      ∙ gathered_both vertices_once (arcs_of_all before) (whole_pieces t ++ arcs_of_all after)
      ∙ ap (λ w. in_front ++ w) (gathered_both vertices_once (whole_pieces t) (arcs_of_all after))

  not_before : ¬ Has v in_front
  not_before h = once (subst (Twice v) (sym parted) (twice_across v in_front (at_table ++ behind) h (Has-append_left v at_table behind here)))

  not_behind : ¬ Has v behind
  not_behind h = once (subst (Twice v) (sym parted) (twice_right v in_front (at_table ++ behind) (twice_across v at_table behind here h)))

  each_before : EachIsTable before
  each_before s h = each s (Has-append_left s before (t ∷ after) h)

  each_behind : EachIsTable after
  each_behind s h = each s (Has-append_right s before (t ∷ after) (inr h))

  own_line : (l : List Pos) → Has l (gathered lines_of_table (before ++ (t ∷ after))) → Has v l → Has l (gathered lines_of_table (t ∷ []))
  own_line l h k = elim (Has-append l (gathered lines_of_table before) (lines_of_table t ++ gathered lines_of_table after) (subst (Has l) (gathered_both lines_of_table before (t ∷ after)) h)) [
    | inl i ↦ absurd (not_before (line_vertex before each_before v l i k))
    | inr i ↦ elim (Has-append l (lines_of_table t) (gathered lines_of_table after) i) [
      | inl j ↦ Has-append_left l (lines_of_table t) [] j
      | inr j ↦ absurd (not_behind (line_vertex after each_behind v l j k))
    ]
  ]

  own_ring : (r : List Pos) → Has r (gathered rings_of_table (before ++ (t ∷ after))) → Has v (closed r) → Has r (gathered rings_of_table (t ∷ []))
  own_ring r h k = elim (Has-append r (gathered rings_of_table before) (rings_of_table t ++ gathered rings_of_table after) (subst (Has r) (gathered_both rings_of_table before (t ∷ after)) h)) [
    | inl i ↦ absurd (not_before (ring_vertex before each_before v r i k))
    | inr i ↦ elim (Has-append r (rings_of_table t) (gathered rings_of_table after) i) [
      | inl j ↦ Has-append_left r (rings_of_table t) [] j
      | inr j ↦ absurd (not_behind (ring_vertex after each_behind v r j k))
    ]
  ]

  own_junction : (m : Geometry Pos) → IsSound m → IsTableOf m t → JunctionOf (all_as_map (before ++ (t ∷ after))) v → JunctionOf m v
  own_junction m sm mt j = one_junction m sm t mt v (moved_junction (all_as_map (before ++ (t ∷ after))) (all_as_map (t ∷ [])) v own_line own_ring j)

-- what the marks say
module _ (tables : List Arcs) (each : EachIsTable tables) (marks : List Bool) (shared : MarkShared marks (arcs_of_all tables)) where
  pub shared_kept : (recorded : List Visit) → HaveSame recorded (all_marked_visits marks (arcs_of_all tables)) → KeepsClashes recorded (gathered piece_visits (arcs_of_all tables))
  shared_kept recorded same =
      let f = piece_meets shared.may in
      let ps = arcs_of_all tables in
      let is : all_marked_visits marks ps ≡ gathered (λ p. marked_visits (f p) p) ps = ap (λ w. all_marked_visits w ps) shared.marks_are ∙ marked_are f ps in
      record {
        only = λ w h. marked_only f ps w (subst (Has w) is ((same.members w).0 h));
        clashing = λ v w h k e d.
            let p = gathered_from piece_visits ps v h in
            (same.members v).1 (subst (Has v) (sym is)
            (has_marked f ps p.0 v p.1 p.2 (said_of shared.may p.0 v.vertex (visit_within tables each p.0 p.1 v p.2) (shared.twice v.vertex (clash_twice tables each v w h k e d)))));
      }

  pub unmarked_whole : (js : List Pos) → IsIndexOf js (all_as_map tables) → UnmarkedStayWhole js (arcs_of_all tables) marks
  unmarked_whole js index i p e f =
      let k = gathered_from whole_pieces tables p (get_has (arcs_of_all tables) i p e) in
      let unsaid : piece_meets shared.may p ≡ false = sym (mapped_at (piece_meets shared.may) (arcs_of_all tables) i p e) ∙ sym (ap (λ w. get_or w i true) shared.marks_are) ∙ f in
      go k.0 k.1 k.2 unsaid
    where
      go : (t : Arcs) → Has t tables → Has p (whole_pieces t) → piece_meets shared.may p ≡ false → pieces_under js p ≡ p ∷ []
      go t h k unsaid =
          let g = each t h in
          let q = piece_arc t p k in
          let s = Has-split t tables h in
          let none : (w : Visit) → Has w (piece_visits p) → ¬ JunctionOf (all_as_map tables) w.vertex = λ w z j.
          visit_free g.0 g.1 t g.2 p k w z
          (own_junction s.0 s.1 t (subst EachIsTable s.2 each) w.vertex
          (Has-gathered vertices_once (whole_pieces t) p w.vertex k (visit_once g.0 g.1 t g.2 p k w z))
          (λ twice. true_false (shared.may w.vertex) (shared.twice w.vertex (subst (λ ts. Twice w.vertex (gathered vertices_once (arcs_of_all ts))) (sym s.2) twice))
          (none_met shared.may (inside p.free p.chain) unsaid w.vertex (visit_in g.0 g.1 t g.2 p k w z)))
          g.0 g.1 g.2 (subst (λ ts. JunctionOf (all_as_map ts) w.vertex) s.2 j)) in
          subst (λ (x : Piece). ((w : Visit) → Has w (piece_visits x) → ¬ JunctionOf (all_as_map tables) w.vertex) → pieces_under js x ≡ x ∷ []) (sym q.2)
          (λ free. stays_whole g.0 g.1 t g.2 (all_as_map tables) js index q.0 q.1 free) none

-- what an index over the arcs of tables has, made of ends and of visits that were noted
module _ (maps : List (Geometry Pos)) (tables : List Arcs) (are : AreTablesOf maps tables) (ps : List Piece) (pieces : ps ≡ arcs_of_all tables)
    (marks : List Bool) (shared : MarkShared marks ps) (js ends : List Pos) (recorded : List Visit) (ends_are : ends ≡ gathered piece_ends ps)
    (visits_are : HaveSame recorded (all_marked_visits marks ps))
    (made : (g : Geometry Pos) (all : List Visit) → KeepsClashes recorded all → AreVisitsOf ends all g → IsIndexOf js g) where
  marked : MarkShared marks (arcs_of_all tables)
  marked = subst (MarkShared marks) pieces shared

  pub index_of_all : IsIndexOf js (all_as_map tables)
  index_of_all =
      made (all_as_map tables) (gathered piece_visits (arcs_of_all tables))
      (shared_kept tables (each_is maps tables are) marks marked recorded (subst (λ w. HaveSame recorded (all_marked_visits marks w)) pieces visits_are))
      (subst (λ w. AreVisitsOf w (gathered piece_visits (arcs_of_all tables)) (all_as_map tables)) (sym (ends_are ∙ ap (gathered piece_ends) pieces)) (all_visits_are tables))

  pub all_stay_whole : UnmarkedStayWhole js ps marks
  all_stay_whole = subst (λ w. UnmarkedStayWhole js w marks) (sym pieces) (unmarked_whole tables (each_is maps tables are) marks marked js index_of_all)
