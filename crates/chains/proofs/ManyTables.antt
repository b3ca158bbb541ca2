-- The arcs of many tables: what they visit as a map, and that a vertex where two of them clash comes twice among their vertices.
use Rattle.std.proofs.Common.{◌≡◌, Bool, true, false, cond, drop, List, [], ◌∷◌, ◌++◌, append_assoc, inl, inr, refl, sym, ap, ◌∙◌, subst, map}
use Rattle.theory.specs.Geometry.{Geometry, IsLineOf, IsRingOf, IsSound, JunctionOf}
use Rattle.theory.specs.Junction.{Visit as Seen, Visits}
use Rattle.theory.specs.Junction.Visit.{end, pair}
use Rattle.theory.specs.LinesAndRings.{around, closed}
use Rattle.theory.specs.Lists.{Has, Pairwise, Twice, gathered}
use Rattle.theory.specs.Refinement.{unclosed}
use Rattle.theory.proofs.Lists.{Has-append_right}
use Rattle.theory.proofs.ListsOfLists.{Has-gathered, gathered_from}
use Rattle.grid.specs.declared.pos.Pos.{Pos}
use Rattle.lines.proofs.Positions.{true_false}
use Rattle.arcs.specs.Arcs.{Arcs}
use Rattle.chains.specs.Index.{AreVisitsOf}
use Rattle.chains.specs.ManyTables.{AreTablesOf, all_as_map, all_marked_visits, arcs_of_all, lines_of_table, marked_visits, piece_ends, piece_meets, piece_visits, rings_of_table, vertices_once}
use Rattle.arcs.specs.Placing.{whole_pieces, whole}
use Rattle.arcs.specs.Table.{is_loop, IsTableOf}
use Rattle.chains.specs.VertexFilter.{inside}
use Rattle.chains.specs.Visits.{around_of, ends_of, inner_of, visit_of}
use Rattle.arcs.specs.declared.piece.Piece.{Piece}
use Rattle.chains.specs.declared.visits.Visit.{Visit}
use Rattle.chains.proofs.Gathered.{between_has, ends_has, found_in, has_ends}
use Rattle.chains.proofs.SharedVertices.{inner, inside_has, visit_inside}
use Rattle.chains.proofs.Sharing.{none_met}
use Rattle.chains.proofs.TablesAsMap.{free_loop, has_loop, has_open, loop_has, open_has}

-- what is gathered from two lists
pub gathered_both : {A B : Type 0} (f : A → List B) (xs ys : List A) → gathered f (xs ++ ys) ≡ gathered f xs ++ gathered f ys
gathered_both f [] ys = refl
gathered_both f (x ∷ xs) ys = ap (λ w. f x ++ w) (gathered_both f xs ys) ∙ sym (append_assoc (f x) (gathered f xs) (gathered f ys))

pub twice_right : {V : Type 0} (v : V) (s t : List V) → Twice v t → Twice v (s ++ t)
twice_right v [] t h = h
twice_right v (x ∷ s) t h = inr (twice_right v s t h)

-- in one of two lists and in the other
pub twice_across : {V : Type 0} (v : V) (s t : List V) → Has v s → Has v t → Twice v (s ++ t)
twice_across v [] t h k = absurd h
twice_across v (x ∷ s) t (inl e) k = inl (e, Has-append_right v s t k)
twice_across v (x ∷ s) t (inr h) k = inr (twice_across v s t h k)

-- each table is that of a sound map
abbrev pub EachIsTable : List Arcs → Type 0
EachIsTable tables = (t : Arcs) → Has t tables → (m : Geometry Pos) × IsSound m × IsTableOf m t

pub map_of : (maps : List (Geometry Pos)) (tables : List Arcs) → Pairwise IsTableOf maps tables → (t : Arcs) → Has t tables → (m : Geometry Pos) × Has m maps × IsTableOf m t
map_of [] [] p t h = absurd h
map_of [] (s ∷ ts) p t h = absurd p
map_of (m ∷ ms) [] p t h = absurd p
map_of (m ∷ ms) (s ∷ ts) p t (inl e) = (m, inl refl, subst (IsTableOf m) (sym e) p.0)
map_of (m ∷ ms) (s ∷ ts) p t (inr h) = let k = map_of ms ts p.1 t h in (k.0, inr k.1, k.2)

pub table_of : (maps : List (Geometry Pos)) (tables : List Arcs) → Pairwise IsTableOf maps tables → (m : Geometry Pos) → Has m maps → (t : Arcs) × Has t tables × IsTableOf m t
table_of [] [] p m h = absurd h
table_of [] (s ∷ ts) p m h = absurd p
table_of (n ∷ ms) [] p m h = absurd p
table_of (n ∷ ms) (s ∷ ts) p m (inl e) = (s, inl refl, subst (λ w. IsTableOf w s) (sym e) p.0)
table_of (n ∷ ms) (s ∷ ts) p m (inr h) = let k = table_of ms ts p.1 m h in (k.0, inr k.1, k.2)

pub each_is : (maps : List (Geometry Pos)) (tables : List Arcs) → AreTablesOf maps tables → EachIsTable tables
each_is maps tables are t h = let k = map_of maps tables are.each t h in (k.0, are.sound k.0 k.1, k.2)

-- an arc of a table as its own one piece
abbrev pub piece_in : Arcs → List Pos → Piece
piece_in t c = record { chain = c; reversed = false; free = is_loop t.loops c }

pub arc_piece : (t : Arcs) (c : List Pos) → Has c t.arcs → Has (piece_in t c) (whole_pieces t)
arc_piece t c h = Has-gathered (whole t.loops) t.arcs c (piece_in t c) h (inl refl)

pub piece_arc : (t : Arcs) (p : Piece) → Has p (whole_pieces t) → (c : List Pos) × Has c t.arcs × (p ≡ piece_in t c)
piece_arc t p h =
    let k = gathered_from (whole t.loops) t.arcs p h in
    elim k.2 [ inl e ↦ (k.0, k.1, e) | inr n ↦ absurd n ]

-- lines and rings of the tables, and their arcs
module _ (tables : List Arcs) where
  pub line_piece : (l : List Pos) → Has l (gathered lines_of_table tables) → Has (record { chain = l; reversed = false; free = false }) (arcs_of_all tables)
  line_piece l h =
      let k = gathered_from lines_of_table tables l h in
      let o = open_has k.0.loops k.0.arcs l k.2 in
      Has-gathered whole_pieces tables k.0 (record { chain = l; reversed = false; free = false }) k.1
      (subst (λ b. Has (record { chain = l; reversed = false; free = b }) (whole_pieces k.0)) o.1 (arc_piece k.0 l o.0))

  pub ring_piece : (r : List Pos) → Has r (gathered rings_of_table tables) →
      (t : Arcs) × (c : List Pos) × Has t tables × Has c t.arcs × (is_loop t.loops c ≡ true) × Has (record { chain = c; reversed = false; free = true }) (arcs_of_all tables) × (r ≡ unclosed c)
  ring_piece r h =
      let k = gathered_from rings_of_table tables r h in
      let o = loop_has k.0.loops k.0.arcs r k.2 in (
        k.0,
        o.0,
        k.1,
        o.1,
        o.2,
        Has-gathered whole_pieces tables k.0 (record { chain = o.0; reversed = false; free = true }) k.1
            (subst (λ b. Has (record { chain = o.0; reversed = false; free = b }) (whole_pieces k.0)) o.2 (arc_piece k.0 o.0 o.1)),
        o.3,
      )

  pub piece_line : (p : Piece) → Has p (arcs_of_all tables) → p.free ≡ false → Has p.chain (gathered lines_of_table tables)
  piece_line p h e =
      let k = gathered_from whole_pieces tables p h in
      let q = piece_arc k.0 p k.2 in
      Has-gathered lines_of_table tables k.0 p.chain k.1
      (subst (λ (w : Piece). w.free ≡ false → Has w.chain (lines_of_table k.0)) (sym q.2) (λ f. has_open k.0.loops k.0.arcs q.0 q.1 f) e)

  pub piece_ring : (p : Piece) → Has p (arcs_of_all tables) → p.free ≡ true → Has (unclosed p.chain) (gathered rings_of_table tables)
  piece_ring p h e =
      let k = gathered_from whole_pieces tables p h in
      let q = piece_arc k.0 p k.2 in
      Has-gathered rings_of_table tables k.0 (unclosed p.chain) k.1
      (subst (λ (w : Piece). w.free ≡ true → Has (unclosed w.chain) (rings_of_table k.0)) (sym q.2) (λ f. has_loop k.0.loops k.0.arcs q.0 q.1 f) e)

  abbrev pub SeenSo : Pos → Seen Pos → Type 0
  SeenSo = Visits (IsLineOf (all_as_map tables)) (IsRingOf (all_as_map tables))

  ends_from : (p : Piece) → Has p (arcs_of_all tables) → (v : Pos) → Has v (piece_ends p) → SeenSo v end
  ends_from p h v = go p.free refl
    where
      go : (b : Bool) → p.free ≡ b → Has v (cond b [] (ends_of p.chain)) → SeenSo v end
      go true e k = absurd k
      go false e k = (p.chain, piece_line p h e, has_ends v p.chain k)

  pair_from : (p : Piece) → Has p (arcs_of_all tables) → (w : Visit) → Has w (piece_visits p) → (a : Pos) × (b : Pos) × (w ≡ visit_of a w.vertex b) × SeenSo w.vertex (pair a b)
  pair_from p h w = go p.free refl
    where
      go : (b : Bool) → p.free ≡ b → Has w (cond b (around_of (unclosed p.chain)) (inner_of p.chain)) → (a : Pos) × (b : Pos) × (w ≡ visit_of a w.vertex b) × SeenSo w.vertex (pair a b)
      go true e k = let f = found_in w (around (unclosed p.chain)) k in (f.before, f.next, f.is, inr (unclosed p.chain, piece_ring p h e, inl f.there))
      go false e k = let f = found_in w p.chain k in (f.before, f.next, f.is, inl (p.chain, piece_line p h e, inl f.there))

  pair_there : (a v b : Pos) → SeenSo v (pair a b) → Has (visit_of a v b) (gathered piece_visits (arcs_of_all tables))
  pair_there a v b (inl k) =
      Has-gathered piece_visits (arcs_of_all tables) (record { chain = k.0; reversed = false; free = false }) (visit_of a v b) (line_piece k.0 k.1) (between_has a v b k.0 k.2)
  pair_there a v b (inr k) =
      let (t, c, ht, hc, free, hp, is) = ring_piece k.0 k.1 in
      Has-gathered piece_visits (arcs_of_all tables) (record { chain = c; reversed = false; free = true }) (visit_of a v b) hp
      (subst (λ w. Has (visit_of a v b) (around_of w)) is (between_has a v b (around k.0) k.2))

  pub all_visits_are : AreVisitsOf (gathered piece_ends (arcs_of_all tables)) (gathered piece_visits (arcs_of_all tables)) (all_as_map tables)
  all_visits_are = record {
    ends_all = λ v k. Has-gathered piece_ends (arcs_of_all tables) (record { chain = k.0; reversed = false; free = false }) v (line_piece k.0 k.1) (ends_has v k.0 k.2);
    ends_only = λ v h. let k = gathered_from piece_ends (arcs_of_all tables) v h in ends_from k.0 k.1 v k.2;
    pairs_all = pair_there;
    pairs_only = λ w h. let k = gathered_from piece_visits (arcs_of_all tables) w h in pair_from k.0 k.1 w k.2;
  }

round_once : (r : List Pos) (v : Pos) → Has v (closed r) → Has v (drop 1 (closed r))
round_once [] v h = absurd h
round_once (x ∷ l) v (inl e) = Has-append_right v l (x ∷ []) (inl e)
round_once (x ∷ l) v (inr h) = h

-- of one table
module _ (m : Geometry Pos) (sm : IsSound m) (t : Arcs) (mt : IsTableOf m t) where
  -- the vertices of a free loop
  pub loop_once : (c : List Pos) → Has c t.arcs → is_loop t.loops c ≡ true → (v : Pos) → Has v (closed (unclosed c)) → Has v (drop 1 c)
  loop_once c h e v k = subst (λ w. Has v (drop 1 w)) (sym (free_loop m sm t mt c h e).0) (round_once (unclosed c) v k)

  -- an inner vertex of an arc is one of its vertices
  inside_once : (c : List Pos) → Has c t.arcs → (v : Pos) → Has v (inside (is_loop t.loops c) c) → Has v (vertices_once (piece_in t c))
  inside_once c h v = go (is_loop t.loops c) refl
    where
      go : (b : Bool) → is_loop t.loops c ≡ b → Has v (inside b c) → Has v (cond b (drop 1 c) c)
      go true e k = loop_once c h e v (subst (Has v) (free_loop m sm t mt c h e).0 k)
      go false e k = inside_has v false c k

  -- an arc's visit is at an inner vertex of it
  pub visit_in : (p : Piece) → Has p (whole_pieces t) → (w : Visit) → Has w (piece_visits p) → Has w.vertex (inside p.free p.chain)
  visit_in p h w k =
      let q = piece_arc t p h in
      subst (λ (z : Piece). Has w (piece_visits z) → Has w.vertex (inside z.free z.chain)) (sym q.2) (λ j. visit_inside m sm t mt q.0 q.1 w j) k

  -- and at one of its vertices
  pub visit_once : (p : Piece) → Has p (whole_pieces t) → (w : Visit) → Has w (piece_visits p) → Has w.vertex (vertices_once p)
  visit_once p h w k =
      let q = piece_arc t p h in
      subst (λ (z : Piece). Has w (piece_visits z) → Has w.vertex (vertices_once z)) (sym q.2)
      (λ j. inside_once q.0 q.1 w.vertex (visit_inside m sm t mt q.0 q.1 w j)) k

  -- and at no junction of the map
  pub visit_free : (p : Piece) → Has p (whole_pieces t) → (w : Visit) → Has w (piece_visits p) → ¬ JunctionOf m w.vertex
  visit_free p h w k =
      let q = piece_arc t p h in
      subst (λ (z : Piece). Has w (piece_visits z) → ¬ JunctionOf m w.vertex) (sym q.2) (λ j. inner m sm t mt q.0 q.1 w j) k

-- the vertex of a visit is one of those of all arcs
pub visit_there : (tables : List Arcs) → EachIsTable tables → (w : Visit) → Has w (gathered piece_visits (arcs_of_all tables)) → Has w.vertex (gathered vertices_once (arcs_of_all tables))
visit_there tables each w h =
    let p = gathered_from piece_visits (arcs_of_all tables) w h in
    let k = gathered_from whole_pieces tables p.0 p.1 in
    let g = each k.0 k.1 in
    Has-gathered vertices_once (arcs_of_all tables) p.0 w.vertex p.1 (visit_once g.0 g.1 k.0 g.2 p.0 k.2 w p.2)

-- and it is at an inner vertex of its arc
pub visit_within : (tables : List Arcs) → EachIsTable tables → (p : Piece) → Has p (arcs_of_all tables) → (w : Visit) → Has w (piece_visits p) → Has w.vertex (inside p.free p.chain)
visit_within tables each p h w k =
    let q = gathered_from whole_pieces tables p h in
    let g = each q.0 q.1 in
    visit_in g.0 g.1 q.0 g.2 p q.2 w k

-- the visits that are noted where arcs are marked
pub marked_are : (f : Piece → Bool) (ps : List Piece) → all_marked_visits (map f ps) ps ≡ gathered (λ p. marked_visits (f p) p) ps
marked_are f [] = refl
marked_are f (p ∷ ps) = ap (λ w. marked_visits (f p) p ++ w) (marked_are f ps)

pub marked_only : (f : Piece → Bool) (ps : List Piece) (w : Visit) → Has w (gathered (λ p. marked_visits (f p) p) ps) → Has w (gathered piece_visits ps)
marked_only f ps w h =
    let k = gathered_from (λ p. marked_visits (f p) p) ps w h in
    Has-gathered piece_visits ps k.0 w k.1 (go k.0 (f k.0) k.2)
  where
    go : (p : Piece) (b : Bool) → Has w (marked_visits b p) → Has w (piece_visits p)
    go p true k = k
    go p false k = absurd k

pub has_marked : (f : Piece → Bool) (ps : List Piece) (p : Piece) (w : Visit) → Has p ps → Has w (piece_visits p) → f p ≡ true → Has w (gathered (λ p. marked_visits (f p) p) ps)
has_marked f ps p w h k e = Has-gathered (λ p. marked_visits (f p) p) ps p w h (subst (λ b. Has w (marked_visits b p)) (sym e) k)

-- where it is said of an inner vertex of an arc, it is said of the arc
pub said_of : (may : Pos → Bool) (p : Piece) (v : Pos) → Has v (inside p.free p.chain) → may v ≡ true → piece_meets may p ≡ true
said_of may p v h e = go (piece_meets may p) refl
  where
    go : (b : Bool) → piece_meets may p ≡ b → b ≡ true
    go true f = refl
    go false f = absurd (true_false (may v) e (none_met may (inside p.free p.chain) f v h))
