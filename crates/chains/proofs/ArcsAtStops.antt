-- A free loop of a map, cut as an arc, has the pieces of its ring.
use Rattle.std.proofs.Common.{◌≡◌, ◌≤◌, Bool, true, false, cond, not, List, [], ◌∷◌, ◌++◌, map, inl, inr, refl, sym, ap, ◌∙◌, subst, arith}
use Rattle.std.specs.List.{list_any}
use Rattle.theory.specs.Chain.{Free}
use Rattle.theory.specs.Geometry.{AtMost, Geometry, IsChainOf, IsSound, JunctionOf}
use Rattle.theory.specs.LinesAndRings.{closed}
use Rattle.theory.specs.Lists.{Has, front_of}
use Rattle.theory.specs.Refinement.{unclosed}
use Rattle.theory.proofs.Lists.{Has-append_right, append_nil}
use Rattle.grid.specs.declared.pos.Pos.{Pos}
use Rattle.lines.specs.Turned.{position_cmp}
use Rattle.lines.proofs.Positions.{position_most}
use Rattle.arcs.specs.Among.{among}
use Rattle.chains.specs.ArcPieces.{loop_pieces}
use Rattle.arcs.specs.Arcs.{Arcs}
use Rattle.chains.specs.Pieces.{started_ring, cut_inside, ring_pieces}
use Rattle.arcs.specs.Pieces.{piece_along}
use Rattle.chains.specs.Starts.{start_index}
use Rattle.arcs.specs.Table.{is_loop, IsTableOf}
use Rattle.chains.proofs.LoopStops.{opened_parted, starts_at}
use Rattle.chains.proofs.SharedVertices.{front_has}
use Rattle.chains.proofs.TablesAsMap.{meant, free_loop}

-- where the first of the ring is the least it stands there alone
nothing_before : (x : Pos) (l a : List Pos) (v : Pos) (b : List Pos) → x ∷ l ≡ a ++ (v ∷ b) → v ≡ x → ¬ Has x l → (a ≡ []) × (l ≡ b)
nothing_before x l [] v b e f n = (refl, cc)
nothing_before x l (z ∷ a) v b e f n =
    let h : l ≡ a ++ (v ∷ b) = cc in
    absurd (n (subst (Has x) (sym h) (Has-append_right x a (v ∷ b) (inl (sym f)))))

-- a ring on which no stop lies, and of which the first vertex is the least, begins with that one
started_first : (stop : Pos → Bool) (x : Pos) (l : List Pos) → list_any stop (x ∷ l) ≡ false → ¬ Has x l → ((v : Pos) → Has v (x ∷ l) → AtMost position_cmp x v) →
    started_ring stop (x ∷ l) ≡ closed (x ∷ l)
started_first stop x l e n least =
    let i = start_index stop (x ∷ l) in
    let s = starts_at stop x l in
    let k : stop s.vertex ≡ false = s.meant ∙ e in
    let there : Has s.vertex (x ∷ l) = subst (Has s.vertex) (sym s.parted) (Has-append_right s.vertex s.before (s.vertex ∷ s.behind) (inl refl)) in
    let same : s.vertex ≡ x = position_most s.vertex x (s.alone k x (inl refl)) (least s.vertex there) in
    let t = nothing_before x l s.before s.vertex s.behind s.parted same n in
    opened_parted (x ∷ l) s.before s.vertex s.behind i s.parted s.place
    ∙ (λ j. same j ∷ ((sym t.1 j ++ t.0 j) ++ (same j ∷ [])))
    ∙ ap (λ w. x ∷ (w ++ (x ∷ []))) (append_nil l)

-- whatever the stops are
free_loop_pieces : (g : Geometry Pos) (js : List Pos) (c : List Pos) → IsChainOf position_cmp g c → Free (JunctionOf g) c → c ≡ closed (unclosed c) →
    loop_pieces (among js) c ≡ ring_pieces js (unclosed c)
free_loop_pieces g js [] k n f = absurd k
free_loop_pieces g js (x ∷ []) k n f = let z : 1 ≤ 0 = k.long in absurd (omega arith)
free_loop_pieces g js (x ∷ (y ∷ r)) k n f = go (list_any stop ring) refl
  where
    stop : Pos → Bool
    stop = among js

    ring : List Pos
    ring = x ∷ front_of y r

    least : (v : Pos) → Has v (x ∷ (y ∷ r)) → AtMost position_cmp x v
    least = elim k.ends [ inl e ↦ absurd (n x (inl refl) e.0) | inr e ↦ e.2 ]

    go : (b : Bool) → list_any stop ring ≡ b →
        map (piece_along (not b)) (cond b (cut_inside stop (started_ring stop ring)) ((x ∷ (y ∷ r)) ∷ []))
        ≡ map (piece_along (not b)) (cond b (cut_inside stop (started_ring stop ring)) (started_ring stop ring ∷ []))
    go true e = refl
    go false e = ap (λ w. piece_along true w ∷ []) (f ∙ sym (started_first stop x (front_of y r) e k.front_simple.0 (λ v h. least v (front_has v x (y ∷ r) h))))

pub loop_as_ring : (g : Geometry Pos) → IsSound g → (t : Arcs) → IsTableOf g t → (js c : List Pos) → Has c t.arcs → is_loop t.loops c ≡ true →
    loop_pieces (among js) c ≡ ring_pieces js (unclosed c)
loop_as_ring g sg t table js c h e = free_loop_pieces g js c (table.arcs.arcs_only c h).chain ((meant g sg t table c h).yes e) (free_loop g sg t table c h e).0
