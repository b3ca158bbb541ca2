-- Pieces with their places: once sorted they make the arcs of the pieces, and tell the arc that each piece is.
use Rattle.std.proofs.Common.{◌≡◌, ℕ, zero, suc, ◌+◌, ◌<◌, Bool, true, false, cond, List, [], ◌∷◌, ◌++◌, map, length, slice_get, slice_set, Some, ◌⊎◌, inl, inr, refl, sym, ap, ◌∙◌, subst, arith}
use Rattle.std.proofs.lemmas.List.Sorted.{IsPermutation-map, IsPermutation-sym}
use Rattle.std.proofs.lemmas.Option.{slice_get_within}
use Rattle.std.specs.Cmp.Lexicographic.{lists_total}
use Rattle.std.specs.FinMap.{slice_cmp-IsAntisymmetric}
use Rattle.std.specs.List.Sorted.{IsPermutation, IsSorted}
use Rattle.std.specs.Ordering.{bool_cmp, is_lt, nat_cmp, ordering_then}
use Rattle.std.specs.declared.cmp.Ordering.{Ordering}
use Rattle.grid.specs.declared.pos.Pos.{Pos}
use Rattle.lines.proofs.SortedLists.{Has-permutation, Rises, rises_from_sorted}
use Rattle.lines.specs.Positions.{position_same, position_total}
use Rattle.lines.specs.Turned.{list_cmp}
use Rattle.theory.specs.ArcNumbers.{ArcRef}
use Rattle.theory.specs.Lists.{Has, gathered}
use Rattle.theory.proofs.Ascending.{get_once, less_self}
use Rattle.theory.proofs.ListsOfLists.{get_has}
use Rattle.arcs.specs.Keys.{key_cmp, key_of}
use Rattle.arcs.specs.Placing.{ArePlaced, AreRefsOf, arcs_of, own_piece, piece_of, placed_from, whole}
use Rattle.arcs.specs.Stored.{loops_of, merged, merged_from, positions_of, rises, stored_of, with_mark}
use Rattle.arcs.specs.Table.{is_loop, located, number_in, same_list}
use Rattle.arcs.specs.declared.piece.Piece.{Piece}
use Rattle.arcs.specs.declared.key.Key.{Key}
use Rattle.arcs.specs.declared.numbering.Placed.{Placed}
use Rattle.arcs.specs.declared.stored.StoredArc.{StoredArc}
use Rattle.arcs.proofs.KeysFirst.{keys_first}
use Rattle.arcs.proofs.Marks.{mark_of}
use Rattle.arcs.proofs.Merged.{Climbs, piece_cmp, rising_from, then_less}
use Rattle.arcs.proofs.Places.{index_of_member}
use Rattle.arcs.proofs.Rising.{ascends_rising}

pub pieces_placed : (n : ℕ) (ps : List Piece) → map piece_of (placed_from n ps) ≡ ps
pieces_placed n [] = refl
pieces_placed n (p ∷ ps) = ap (λ w. p ∷ w) (pieces_placed (n + 1) ps)

pub length_placed : (n : ℕ) (ps : List Piece) → length (placed_from n ps) ≡ length ps
length_placed n [] = refl
length_placed n (p ∷ ps) = ap suc (length_placed (n + 1) ps)

-- each stands at its place
at_place : (n : ℕ) (ps : List Piece) (x : Placed) → Has x (placed_from n ps) → (i : ℕ) × (x.index ≡ n + i) × (slice_get ps i ≡ Some x.piece)
at_place n [] x h = absurd h
at_place n (p ∷ ps) x (inl e) =
    let m : x.index ≡ n = ap (λ w. w.index) e in
    (0, omega (arith, m), ap Some (sym (ap piece_of e)))
at_place n (p ∷ ps) x (inr h) =
    let t = at_place (n + 1) ps x h in
    let m : x.index ≡ (n + 1) + t.0 = t.1 in
    (suc t.0, omega (arith, m), t.2)

-- with the key of its chain
key_there : (n : ℕ) (ps : List Piece) (x : Placed) → Has x (placed_from n ps) → x.key ≡ key_of x.piece.chain
key_there n [] x h = absurd h
key_there n (p ∷ ps) x (inl e) = ap (λ w. w.key) e ∙ ap (λ w. key_of w.piece.chain) (sym e)
key_there n (p ∷ ps) x (inr h) = key_there (n + 1) ps x h

-- and each piece is there
placed_has : (n : ℕ) (ps : List Piece) (i : ℕ) (p : Piece) (m : ℕ) → m ≡ n + i → slice_get ps i ≡ Some p → Has (record { key = key_of p.chain; piece = p; index = m }) (placed_from n ps)
placed_has n [] i p m q e = absurd cc
placed_has n (r ∷ ps) zero p m q e =
    let k : p ≡ r = (let s : Some r ≡ Some p = e in cc) in
    let l : m ≡ n = omega (arith, q) in
    inl (λ j. record { key = key_of (k j).chain; piece = k j; index = l j })
placed_has n (r ∷ ps) (suc i) p m q e = inr (placed_has (n + 1) ps i p m (omega (arith, q)) e)

module _ (ps : List Piece) (l : List Placed) (same : IsPermutation (placed_from 0 ps) l) where
  back : (x : Placed) → Has x l → Has x (placed_from 0 ps)
  back x h = Has-permutation l (placed_from 0 ps) x (IsPermutation-sym (placed_from 0 ps) l same) h

  pub pieces_moved : IsPermutation ps (map piece_of l)
  pieces_moved = subst (λ w. IsPermutation w (map piece_of l)) (pieces_placed 0 ps) (IsPermutation-map piece_of (placed_from 0 ps) l same)

  pub are_placed : length l ≡ length (placed_from 0 ps) → ArePlaced l
  are_placed n = record {
    keys = λ x h. key_there 0 ps x (back x h);
    one = λ x y h k e.
        let a = at_place 0 ps x (back x h) in
        let b = at_place 0 ps y (back y k) in
        let p : x.index ≡ 0 + a.0 = a.1 in
        let q : y.index ≡ 0 + b.0 = b.1 in
        let i : a.0 ≡ b.0 = omega (arith, p, q, e) in
        let s : Some x.piece ≡ Some y.piece = sym a.2 ∙ ap (slice_get ps) i ∙ b.2 in
        cc;
    within = λ x h.
        let a = at_place 0 ps x (back x h) in
        let p : x.index ≡ 0 + a.0 = a.1 in
        let w : a.0 < length ps = slice_get_within ps a.0 x.piece a.2 in
        let m : length (placed_from 0 ps) ≡ length ps = length_placed 0 ps in
        omega (arith, p, w, m, n);
  }

  pub refs_are : (arcs : List (List Pos)) (refs : List ArcRef) → length refs ≡ length l → length l ≡ length (placed_from 0 ps) → AreRefsOf arcs l refs → refs ≡ map (located arcs) ps
  refs_are arcs refs n m set =
      same_at (located arcs) ps refs (n ∙ m ∙ length_placed 0 ps)
      (λ i p e. set (record { key = key_of p.chain; piece = p; index = i }) (Has-permutation (placed_from 0 ps) l (record { key = key_of p.chain; piece = p; index = i }) same (placed_has 0 ps i p i (omega arith) e)))
    where
      same_at : {A B : Type 0} (f : A → B) (xs : List A) (ys : List B) → length ys ≡ length xs → ((i : ℕ) (x : A) → slice_get xs i ≡ Some x → slice_get ys i ≡ Some (f x)) → ys ≡ map f xs
      same_at f [] [] e g = refl
      same_at f [] (y ∷ ys) e g = absurd (omega (arith, e))
      same_at f (x ∷ xs) [] e g = absurd (omega (arith, e))
      same_at f (x ∷ xs) (y ∷ ys) e g =
          let h : y ≡ f x = (let k : Some y ≡ Some (f x) = g 0 x refl in cc) in
          let t = same_at f xs ys (omega (arith, e)) (λ i z m. g (suc i) z m) in
          λ j. h j ∷ t j

-- the order of pieces with places
abbrev pub placed_cmp : Placed → Placed → Ordering
placed_cmp x y = ordering_then (key_cmp x.key y.key) (ordering_then (piece_cmp x.piece y.piece) (nat_cmp x.index y.index))

by_chain : (x y : Placed) → x.key ≡ key_of x.piece.chain → y.key ≡ key_of y.piece.chain → is_lt (placed_cmp x y) ≡ false → is_lt (list_cmp x.piece.chain y.piece.chain) ≡ false
by_chain x y k m e =
    keys_first x.piece.chain y.piece.chain (ordering_then (piece_cmp x.piece y.piece) (nat_cmp x.index y.index))
    (λ f.
    then_less (list_cmp x.piece.chain y.piece.chain) (ordering_then (bool_cmp x.piece.reversed y.piece.reversed) (bool_cmp x.piece.free y.piece.free))
    (then_less (piece_cmp x.piece y.piece) (nat_cmp x.index y.index) f))
    (subst (λ (w : Key × Key). is_lt (ordering_then (key_cmp w.0 w.1) (ordering_then (piece_cmp x.piece y.piece) (nat_cmp x.index y.index))) ≡ false) (λ i. (k i, m i)) e)

climbs : (x : Placed) (l : List Placed) → ((y : Placed) → Has y (x ∷ l) → y.key ≡ key_of y.piece.chain) → Rises placed_cmp x l → Climbs x.piece.chain (map stored_of (map piece_of l))
climbs x [] k r = tt
climbs x (y ∷ l) k r = (by_chain y x (k y (inr (inl refl))) (k x (inl refl)) r.0, climbs y l (λ z h. k z (inr h)) r.1)

rise : (l : List Placed) → ((y : Placed) → Has y l → y.key ≡ key_of y.piece.chain) → IsSorted placed_cmp l → rises (arcs_of l) ≡ true
rise [] k s = refl
rise (x ∷ l) k s = rising_from (stored_of x.piece) (map stored_of (map piece_of l)) (climbs x l k (rises_from_sorted placed_cmp x l s))

-- the arcs of sorted pieces rise
pub placed_rise : (ps : List Piece) (l : List Placed) → IsPermutation (placed_from 0 ps) l → IsSorted placed_cmp l → rises (arcs_of l) ≡ true
placed_rise ps l same s = rise l (λ y h. key_there 0 ps y (back ps l same y h)) s

-- an arc that stands at a number has that number
number_of : (arcs : List (List Pos)) → rises arcs ≡ true → (n : ℕ) (p : Piece) → slice_get arcs n ≡ Some p.chain → n ≡ number_in arcs p
number_of arcs r n p e =
    get_once list_cmp (less_self list_cmp (lists_total position_total) (slice_cmp-IsAntisymmetric position_same)) arcs n (number_in arcs p) p.chain (ascends_rising arcs r) e
    (index_of_member p.chain arcs (get_has arcs n p.chain e))

first_merged : (a : StoredArc) (l : List StoredArc) → slice_get (map positions_of (merged_from a l)) 0 ≡ Some a.positions
first_merged a [] = refl
first_merged a (b ∷ l) = go (same_list b.positions a.positions) (first_merged (with_mark a b) l)
  where
    go : (t : Bool) → slice_get (map positions_of (merged_from (with_mark a b) l)) 0 ≡ Some a.positions →
        slice_get (map positions_of (cond t (merged_from (with_mark a b) l) (a ∷ merged_from b l))) 0 ≡ Some a.positions
    go true e = e
    go false e = refl

get_behind : (xs ys : List StoredArc) → slice_get (map positions_of (xs ++ ys)) (length xs) ≡ slice_get (map positions_of ys) 0
get_behind [] ys = refl
get_behind (x ∷ xs) ys = get_behind xs ys

-- the number of the arc behind those that are put
pub number_put : (l : List Placed) (arcs : List StoredArc) (a : StoredArc) (rest : List StoredArc) (p : Piece) → rises (arcs_of l) ≡ true →
    arcs ++ merged_from a rest ≡ merged (map stored_of (map piece_of l)) → a.positions ≡ p.chain → length arcs ≡ number_in (arcs_of l) p
number_put l arcs a rest p r e q =
    number_of (arcs_of l) r (length arcs) p
    (ap (λ w. slice_get (map positions_of w) (length arcs)) (sym e) ∙ get_behind arcs (merged_from a rest) ∙ first_merged a rest ∙ ap Some q)

set_there : {A : Type 0} (l : List A) (i : ℕ) (x : A) → i < length l → slice_get (slice_set l i x) i ≡ Some x
set_there [] i x h = absurd (omega (arith, h))
set_there (y ∷ l) zero x h = refl
set_there (y ∷ l) (suc i) x h = set_there l i x (omega (arith, h))

set_other : {A : Type 0} (l : List A) (i j : ℕ) (x y : A) → (i ≡ j → x ≡ y) → slice_get l j ≡ Some y → slice_get (slice_set l i x) j ≡ Some y
set_other [] i j x y f e = absurd cc
set_other (z ∷ l) zero zero x y f e = ap Some (f refl)
set_other (z ∷ l) zero (suc j) x y f e = e
set_other (z ∷ l) (suc i) zero x y f e = e
set_other (z ∷ l) (suc i) (suc j) x y f e = set_other l i j x y (λ q. f (ap suc q)) e

-- what is left to put, or is put
abbrev pub LeftOrPut : List (List Pos) → List Placed → List ArcRef → Placed → Type 0
LeftOrPut arcs rest refs y = Has y rest ⊎ (slice_get refs y.index ≡ Some (located arcs y.piece))

-- one more is put
pub ref_put : (l rest : List Placed) (refs : List ArcRef) (x : Placed) (used : ArcRef) → ArePlaced l → Has x l → length refs ≡ length l → used ≡ located (arcs_of l) x.piece →
    ((y : Placed) → Has y l → LeftOrPut (arcs_of l) (x ∷ rest) refs y) → (y : Placed) → Has y l → LeftOrPut (arcs_of l) rest (slice_set refs x.index used) y
ref_put l rest refs x used are h n e was y k = elim (was y k) [
  | inl m ↦ elim m [
    | inl q ↦
        let w : x.index < length refs = subst (λ m. x.index < m) (sym n) (are.within x h) in
        inr (subst (λ z. slice_get (slice_set refs x.index used) z.index ≡ Some (located (arcs_of l) z.piece)) (sym q) (set_there refs x.index used w ∙ ap Some e))
    | inr z ↦ inl z
  ]
  | inr g ↦ inr (set_other refs x.index y.index used (located (arcs_of l) y.piece) (λ q. e ∙ ap (located (arcs_of l)) (are.one x y h k q)) g)
]

-- kept arcs that rise, each as its own one piece, are the arcs of their table so
pub owned : (l : List StoredArc) → rises (map positions_of l) ≡ true → map own_piece l ≡ gathered (whole (loops_of l)) (map positions_of l)
owned l r = go l (λ a h. mark_of l (ascends_rising (map positions_of l) r) a h)
  where
    go : (some : List StoredArc) → ((a : StoredArc) → Has a some → a.free ≡ is_loop (loops_of l) a.positions) → map own_piece some ≡ gathered (whole (loops_of l)) (map positions_of some)
    go [] f = refl
    go (a ∷ some) f =
        let first = f a (inl refl) in
        let more = go some (λ b h. f b (inr h)) in
        λ i. record { chain = a.positions; reversed = false; free = first i } ∷ more i
