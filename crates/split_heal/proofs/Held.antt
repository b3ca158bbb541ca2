-- What holds of all positions of tables holds of those of their pieces.
use Rattle.std.proofs.Common.{◌≡◌, ℕ, ◌+◌, Bool, true, false, cond, get_or, List, [], ◌∷◌, map, inl, inr, refl, subst}
use Rattle.theory.specs.Arcs.{AreSortedOnce}
use Rattle.theory.specs.Lists.{Has, joined}
use Rattle.theory.proofs.Lists.{Has-append}
use Rattle.theory.proofs.ListsOfLists.{gathered_from, map_has}
use Rattle.grid.specs.declared.pos.Pos.{Pos}
use Rattle.lines.specs.Holding.{Holds}
use Rattle.lines.specs.Turned.{list_cmp}
use Rattle.arcs.specs.Arcs.{Arcs}
use Rattle.arcs.specs.Holding.{HoldAll}
use Rattle.arcs.specs.Pieces.{chain_of}
use Rattle.chains.specs.ArcPieces.{pieces_under}
use Rattle.arcs.specs.Placing.{whole_pieces, whole}
use Rattle.arcs.specs.declared.piece.Piece.{Piece}
use Rattle.chains.proofs.PartsHeld.{under_has}
use Rattle.chains.specs.ManyTables.{arcs_of_all}
use Rattle.split_heal.specs.Cutting.{pieces_from}

module _ (may : Pos → Bool) where
  pub from_held : (js : List Pos) (marks : List Bool) (n : ℕ) (qs : List Piece) → ((q : Piece) → Has q qs → Holds may q.chain) →
      (p : Piece) → Has p (joined (pieces_from js marks n qs)) → Holds may p.chain
  from_held js marks n [] h p k = absurd k
  from_held js marks n (q ∷ qs) h p k =
      elim (Has-append p (cond (get_or marks n true) (pieces_under js q) (q ∷ [])) (joined (pieces_from js marks (n + 1) qs)) k) [
        | inl a ↦ first (get_or marks n true) a
        | inr r ↦ from_held js marks (n + 1) qs (λ z m. h z (inr m)) p r
      ]
    where
      first : (b : Bool) → Has p (cond b (pieces_under js q) (q ∷ [])) → Holds may p.chain
      first true m v z = h q (inl refl) v (under_has js q p m v z)
      first false (inl e) v z = h q (inl refl) v (subst (λ (w : Piece). Has v w.chain) e z)
      first false (inr m) v z = absurd m

  pub whole_held : (t : Arcs) → HoldAll may t.arcs → (q : Piece) → Has q (whole_pieces t) → Holds may q.chain
  whole_held t h q k =
      let g = gathered_from (whole t.loops) t.arcs q k in
      elim g.2 [
        | inl e ↦ (λ v z. h g.0 g.1 v (subst (λ (w : Piece). Has v w.chain) e z))
        | inr m ↦ absurd m
      ]

  -- the arcs of tables
  pub arcs_held : (tables : List Arcs) → ((t : Arcs) → Has t tables → HoldAll may t.arcs) → (q : Piece) → Has q (arcs_of_all tables) → Holds may q.chain
  arcs_held tables h q k = let g = gathered_from whole_pieces tables q k in whole_held g.0 (h g.0 g.1) q g.2

  -- the arcs that the pieces are
  pub pieces_held : (js : List Pos) (arcs : List Piece) (marks : List Bool) (ps : List Piece) (new : List (List Pos)) → ps ≡ joined (pieces_from js marks 0 arcs) →
      AreSortedOnce list_cmp (map chain_of ps) new → ((q : Piece) → Has q arcs → Holds may q.chain) → HoldAll may new
  pieces_held js arcs marks ps new e once h c k v z =
      let p = map_has chain_of ps c (once.only c k) in
      from_held js marks 0 arcs h p.0 (subst (Has p.0) e p.1) v (subst (Has v) p.2 z)
