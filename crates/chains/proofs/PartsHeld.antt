-- The pieces of an arc have only positions of it.
use Rattle.std.proofs.Common.{ℕ, zero, suc, Bool, true, false, cond, not, ◌&&◌, List, [], ◌∷◌, ◌++◌, take, drop, map, inl, inr, sym, ◌∙◌, subst, append_assoc}
use Rattle.std.specs.List.{list_any}
use Rattle.theory.specs.Lists.{Has}
use Rattle.theory.specs.Refinement.{unclosed}
use Rattle.theory.proofs.Lists.{Has-append, Has-append_left, Has-append_right, append_nil}
use Rattle.theory.proofs.ListsOfLists.{map_has}
use Rattle.grid.specs.declared.pos.Pos.{Pos}
use Rattle.arcs.specs.Among.{among}
use Rattle.chains.specs.ArcPieces.{pieces_at, pieces_under}
use Rattle.chains.specs.Pieces.{started_ring, cut_inside, cut_inside_from, goes_on, opened_at, parts_round}
use Rattle.arcs.specs.Pieces.{piece_along}
use Rattle.chains.specs.Starts.{start_index}
use Rattle.arcs.specs.declared.piece.Piece.{Piece}
use Rattle.chains.proofs.Oriented.{least_has}
use Rattle.chains.proofs.SharedVertices.{front_has}

take_has : (v : Pos) (i : ℕ) (l : List Pos) → Has v (take i l) → Has v l
take_has v zero l h = absurd h
take_has v (suc i) [] h = absurd h
take_has v (suc i) (x ∷ l) (inl e) = inl e
take_has v (suc i) (x ∷ l) (inr h) = inr (take_has v i l h)

drop_has : (v : Pos) (i : ℕ) (l : List Pos) → Has v (drop i l) → Has v l
drop_has v zero l h = h
drop_has v (suc i) [] h = absurd h
drop_has v (suc i) (x ∷ l) h = inr (drop_has v i l h)

opened_has : (v : Pos) (i : ℕ) (l : List Pos) → Has v (opened_at i l) → Has v l
opened_has v i l h = elim (Has-append v (drop i l ++ take i l) (take 1 (drop i l)) h) [
  | inl a ↦ elim (Has-append v (drop i l) (take i l) a) [
    | inl d ↦ drop_has v i l d
    | inr t ↦ take_has v i l t
  ]
  | inr b ↦ drop_has v i l (take_has v 1 (drop i l) b)
]

unclosed_has : (v : Pos) (c : List Pos) → Has v (unclosed c) → Has v c
unclosed_has v [] h = absurd h
unclosed_has v (x ∷ r) h = front_has v x r h

module _ (stop : Pos → Bool) where
  cut_has : (v : Pos) (part rest c : List Pos) → Has c (cut_inside_from stop part rest) → Has v c → Has v (part ++ rest)
  cut_has v part [] c (inl e) k = subst (Has v) (e ∙ sym (append_nil part)) k
  cut_has v part [] c (inr z) k = absurd z
  cut_has v part (p ∷ rest) c h k =
      go (goes_on rest && stop p) (λ m. cut_has v (p ∷ []) rest c m k) (λ m. cut_has v (part ++ (p ∷ [])) rest c m k) h
    where
      moved : Has v ((part ++ (p ∷ [])) ++ rest) → Has v (part ++ (p ∷ rest))
      moved m = subst (Has v) (append_assoc part (p ∷ []) rest) m

      go : (b : Bool) → (Has c (cut_inside_from stop (p ∷ []) rest) → Has v (p ∷ rest)) →
          (Has c (cut_inside_from stop (part ++ (p ∷ [])) rest) → Has v ((part ++ (p ∷ [])) ++ rest)) →
          Has c (cond b ((part ++ (p ∷ [])) ∷ cut_inside_from stop (p ∷ []) rest) (cut_inside_from stop (part ++ (p ∷ [])) rest)) → Has v (part ++ (p ∷ rest))
      go true f g (inl e) = moved (Has-append_left v (part ++ (p ∷ [])) rest (subst (Has v) e k))
      go true f g (inr m) = Has-append_right v part (p ∷ rest) (f m)
      go false f g m = moved (g m)

  list_has : (v : Pos) (l c : List Pos) → Has c (cut_inside stop l) → Has v c → Has v l
  list_has v [] c (inl e) k = subst (Has v) e k
  list_has v [] c (inr z) k = absurd z
  list_has v (x ∷ rest) c h k = cut_has v (x ∷ []) rest c h k

  round_has : (v : Pos) (q c : List Pos) → Has c (parts_round stop (unclosed q) q) → Has v c → Has v q
  round_has v q c h k = go (list_any stop (unclosed q)) h
    where
      go : (b : Bool) → Has c (cond b (cut_inside stop (started_ring stop (unclosed q))) (q ∷ [])) → Has v q
      go true m = unclosed_has v q (opened_has v (start_index stop (unclosed q)) (unclosed q) (list_has v (started_ring stop (unclosed q)) c m k))
      go false (inl e) = subst (Has v) e k
      go false (inr z) = absurd z

  piece_has : (v : Pos) (free : Bool) (cs : List (List Pos)) (p : Piece) → Has p (map (piece_along free) cs) → Has v p.chain → (c : List Pos) × Has c cs × Has v c
  piece_has v free cs p h k =
      let t = map_has (piece_along free) cs p h in
      (t.0, t.1, least_has v t.0 (subst (λ (q : Piece). Has v q.chain) t.2 k))

pub under_has : (js : List Pos) (q p : Piece) → Has p (pieces_under js q) → (v : Pos) → Has v p.chain → Has v q.chain
under_has js q p h v k = go q.free h
  where
    stop : Pos → Bool
    stop = among js

    go : (b : Bool) → Has p (pieces_at stop b q.chain) → Has v q.chain
    go true m =
        let t = piece_has stop v (not (list_any stop (unclosed q.chain))) (parts_round stop (unclosed q.chain) q.chain) p m k in
        round_has stop v q.chain t.0 t.1 t.2
    go false m =
        let t = piece_has stop v false (cut_inside stop q.chain) p m k in
        list_has stop v q.chain t.0 t.1 t.2
