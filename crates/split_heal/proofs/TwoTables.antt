-- The arcs of two tables, cut again: what many tables are cut into, where there are two.
use Rattle.std.proofs.Common.{◌≡◌, ℕ, zero, suc, Bool, true, false, get_or, List, [], ◌∷◌, ◌++◌, length, drop, inl, inr, refl, sym, subst, Some, slice_get, arith}
use Rattle.theory.specs.Geometry.{Geometry, IsSound}
use Rattle.theory.specs.Lists.{gathered}
use Rattle.theory.specs.Refinement.{IsPartOf, IsUnionOf}
use Rattle.theory.proofs.Lists.{append_nil}
use Rattle.grid.specs.declared.pos.Pos.{Pos}
use Rattle.arcs.specs.Arcs.{Arcs}
use Rattle.arcs.specs.Placing.{whole_pieces, whole}
use Rattle.arcs.specs.Table.{is_loop, IsTableOf}
use Rattle.arcs.specs.declared.piece.Piece.{Piece}
use Rattle.chains.specs.ArcPieces.{pieces_under}
use Rattle.chains.specs.Index.{IsIndexOf}
use Rattle.chains.specs.ManyTables.{AreTablesOf, IsUnionOfAll, UnmarkedStayWhole, all_as_map, arcs_of_all, lines_of_table, rings_of_table}
use Rattle.chains.specs.OfArcs.{arc_pieces, tables_as_map}
use Rattle.chains.specs.VertexFilter.{StayWhole}
use Rattle.split_heal.specs.Cutting.{IsRecutOf}
use Rattle.split_heal.specs.CuttingAll.{IsRecutOfAll}
use Rattle.split_heal.specs.PartsOfAll.{RecutAllParts}
use Rattle.split_heal.specs.SplitParts.{both_parts}
use Rattle.split_heal.proofs.Parted.{length_whole}

abbrev pub both : {A : Type 0} → A → A → List A
both x y = x ∷ (y ∷ [])

module _ (m n u : Geometry Pos) where
  pub union_of_both : IsUnionOf m n u → IsUnionOfAll (both m n) u
  union_of_both union = record {
    parts = λ k h. elim h [
      | inl e ↦ subst (λ w. IsPartOf w u) (sym e) union.left
      | inr (inl e) ↦ subst (λ w. IsPartOf w u) (sym e) union.right
      | inr (inr o) ↦ absurd o
    ];
    lines = λ l h. elim (union.lines l h) [ inl k ↦ (m, inl refl, k) | inr k ↦ (n, inr (inl refl), k) ];
    rings = λ r h. elim (union.rings r h) [ inl k ↦ (m, inl refl, k) | inr k ↦ (n, inr (inl refl), k) ];
  }

  pub tables_of_both : (s t : Arcs) → IsSound m → IsSound n → IsTableOf m s → IsTableOf n t → AreTablesOf (both m n) (both s t)
  tables_of_both s t sm sn ms nt = record {
    sound = λ k h. elim h [
      | inl e ↦ subst IsSound (sym e) sm
      | inr (inl e) ↦ subst IsSound (sym e) sn
      | inr (inr o) ↦ absurd o
    ];
    each = (ms, (nt, tt));
  }

  pub recut_of_both : (s t : Arcs) (r : RecutAllParts) → IsRecutOfAll (both m n) u (both s t) r → IsRecutOf m n u s t (both_parts r)
  recut_of_both s t r all = record { table = all.table; of_left = all.of_each 0 m s refl refl; of_right = all.of_each 1 n t refl refl }

pub index_of_both : (js : List Pos) (s t : Arcs) → IsIndexOf js (tables_as_map s t) → IsIndexOf js (all_as_map (both s t))
index_of_both js s t =
    subst (IsIndexOf js) (λ i. record {
      lines = lines_of_table s ++ sym (append_nil (lines_of_table t)) i;
      rings = rings_of_table s ++ sym (append_nil (rings_of_table t)) i;
    })

next_mark : (ms : List Bool) (i : ℕ) → get_or ms (suc i) true ≡ get_or (drop 1 ms) i true
next_mark [] i = refl
next_mark (m ∷ ms) i = refl

module _ (js : List Pos) where
  -- the arcs of one table
  table_stays : (loops cs : List (List Pos)) (ms : List Bool) →
      ((i : ℕ) (c : List Pos) → slice_get cs i ≡ Some c → get_or ms i true ≡ false → arc_pieces js loops c ≡ whole loops c) → UnmarkedStayWhole js (gathered (whole loops) cs) ms
  table_stays loops [] ms h i p e f = absurd cc
  table_stays loops (c ∷ cs) ms h zero p e f =
      let arc : Piece = record { chain = c; reversed = false; free = is_loop loops c } in
      let k : arc ≡ p = cc in
      subst (λ q. pieces_under js q ≡ q ∷ []) k (h zero c refl f)
  table_stays loops (c ∷ cs) ms h (suc i) p e f =
      table_stays loops cs (drop 1 ms) (λ j d a b. h (suc j) d a (subst (λ w. w ≡ false) (sym (next_mark ms j)) b)) i p e (subst (λ w. w ≡ false) (next_mark ms i) f)

  -- and those of another one behind them
  both_stay : (ps qs : List Piece) (ms ns : List Bool) → length ms ≡ length ps → UnmarkedStayWhole js ps ms → UnmarkedStayWhole js qs ns → UnmarkedStayWhole js (ps ++ qs) (ms ++ ns)
  both_stay [] qs [] ns e h k i = k i
  both_stay [] qs (m ∷ ms) ns e h k i = absurd (omega (arith, e))
  both_stay (p ∷ ps) qs [] ns e h k i = absurd (omega (arith, e))
  both_stay (p ∷ ps) qs (m ∷ ms) ns e h k zero = h zero
  both_stay (p ∷ ps) qs (m ∷ ms) ns e h k (suc i) = both_stay ps qs ms ns (omega (arith, e)) (λ j. h (suc j)) k i

  pub unmarked_of_both : (s t : Arcs) (ms mt : List Bool) → length ms ≡ length s.arcs → StayWhole js s ms → StayWhole js t mt → UnmarkedStayWhole js (arcs_of_all (both s t)) (ms ++ mt)
  unmarked_of_both s t ms mt e h k =
      subst (λ w. UnmarkedStayWhole js (whole_pieces s ++ w) (ms ++ mt)) (sym (append_nil (whole_pieces t)))
      (both_stay (whole_pieces s) (whole_pieces t) ms mt (let l = length_whole s.loops s.arcs in omega (arith, e, l)) (table_stays s.loops s.arcs ms h) (table_stays t.loops t.arcs mt k))
