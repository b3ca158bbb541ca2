-- The pieces of the arcs of tables in one list, and for each table those of its arcs again.
use Rattle.std.proofs.Common.{◌≡◌, ◌≤◌, ◌<◌, ℕ, zero, suc, ◌+◌, ◌-◌, Bool, true, false, cond, get_or, List, [], ◌∷◌, ◌++◌, length, map, take, drop, slice_get, Some, None, refl, sym, ap, ◌∙◌, subst, arith}
use Rattle.std.specs.List.{between}
use Rattle.std.proofs.lemmas.List.{length-append, length-map}
use Rattle.std.proofs.lemmas.Simd.{map-map}
use Rattle.theory.specs.ArcNumbers.{ArcRef}
use Rattle.theory.specs.Lists.{gathered, joined}
use Rattle.grid.specs.declared.pos.Pos.{Pos}
use Rattle.arcs.specs.Arcs.{Arcs}
use Rattle.chains.specs.ManyTables.{UnmarkedStayWhole, arcs_of_all}
use Rattle.chains.specs.ArcPieces.{pieces_under}
use Rattle.arcs.specs.Placing.{whole_pieces, whole}
use Rattle.arcs.specs.Table.{located}
use Rattle.arcs.specs.declared.piece.Piece.{Piece}
use Rattle.split_heal.specs.Bounds.{bounds_of, ends_from, list_at, parts_between, parts_from}
use Rattle.split_heal.specs.Cutting.{arc_used, pieces_from}
use Rattle.split_heal.specs.PartsOfAll.{RecutAllParts, of_table}
use Rattle.split_heal.proofs.Bounds.{between_again}

pub joined_map : {A B : Type 0} (f : A → List B) (l : List A) → joined (map f l) ≡ gathered f l
joined_map f [] = refl
joined_map f (x ∷ l) = ap (λ w. f x ++ w) (joined_map f l)

pub length_from : (js : List Pos) (marks : List Bool) (n : ℕ) (ps : List Piece) → length (pieces_from js marks n ps) ≡ length ps
length_from js marks n [] = refl
length_from js marks n (p ∷ ps) = ap suc (length_from js marks (n + 1) ps)

pub length_whole : (loops cs : List (List Pos)) → length (gathered (whole loops) cs) ≡ length cs
length_whole loops [] = refl
length_whole loops (c ∷ cs) = ap suc (length_whole loops cs)

-- arcs that are not marked stay whole anyway
pub all_kept : (js : List Pos) (ps : List Piece) (marks : List Bool) → UnmarkedStayWhole js ps marks → pieces_from js marks 0 ps ≡ map (pieces_under js) ps
all_kept js ps marks stay = go 0 ps (λ i p e f. stay i p e (subst (λ m. get_or marks m true ≡ false) (omega arith) f))
  where
    one : (b : Bool) (p : Piece) → (b ≡ false → pieces_under js p ≡ p ∷ []) → cond b (pieces_under js p) (p ∷ []) ≡ pieces_under js p
    one true p h = refl
    one false p h = sym (h refl)

    go : (n : ℕ) (qs : List Piece) → ((i : ℕ) (p : Piece) → slice_get qs i ≡ Some p → get_or marks (n + i) true ≡ false → pieces_under js p ≡ p ∷ []) →
        pieces_from js marks n qs ≡ map (pieces_under js) qs
    go n [] h = refl
    go n (q ∷ qs) h =
        let first = one (get_or marks n true) q (λ e. h 0 q refl (subst (λ m. get_or marks m true ≡ false) (omega arith) e)) in
        let more = go (n + 1) qs (λ i p e f. h (suc i) p e (subst (λ m. get_or marks m true ≡ false) (omega arith) f)) in
        λ i. first i ∷ more i

-- the new arcs of an arc that is its own one piece
abbrev pub used_by : List Pos → List (List Pos) → Piece → List ArcRef
used_by js new p = map (located new) (pieces_under js p)

used_in : (js : List Pos) (new loops cs : List (List Pos)) → map (used_by js new) (gathered (whole loops) cs) ≡ map (arc_used js loops new) cs
used_in js new loops [] = refl
used_in js new loops (c ∷ cs) = ap (λ w. arc_used js loops new c ∷ w) (used_in js new loops cs)

got_mapped : {A B : Type 0} (f : A → List B) (l : List A) (i : ℕ) (x : A) → slice_get l i ≡ Some x → list_at i (map f l) ≡ f x
got_mapped f [] i x e = absurd cc
got_mapped f (y ∷ l) zero x e = let h : y ≡ x = cc in ap f h
got_mapped f (y ∷ l) (suc i) x e = got_mapped f l i x e

taken_length : {A : Type 0} (l : List A) (n : ℕ) → n ≤ length l → length (take n l) ≡ n
taken_length l zero h = refl
taken_length [] (suc n) h = absurd (omega (arith, h))
taken_length (x ∷ l) (suc n) h = ap suc (taken_length l n (omega (arith, h)))

dropped_length : {A : Type 0} (l : List A) (n : ℕ) → length l ≤ n + length (drop n l)
dropped_length l zero = omega arith
dropped_length [] (suc n) = omega arith
dropped_length (x ∷ l) (suc n) = let k = dropped_length l n in omega (arith, k)

-- a part of a list is as long as the list that its bounds are of
part_length : {A : Type 0} (l : List A) (a n : ℕ) → a + n ≤ length l → length (between a (a + n) l) ≡ n
part_length l a n h =
    let k : (a + n) - a ≡ n = omega arith in
    ap (λ m. length (take m (drop a l))) k ∙ taken_length (drop a l) n (let d = dropped_length l a in omega (arith, h, d))

pub part_lengths : {A B : Type 0} (n : ℕ) (ls : List (List A)) (l : List B) → n + length (joined ls) ≤ length l → (i : ℕ) →
    length (list_at i (parts_from n (ends_from n ls) l)) ≡ length (list_at i ls)
part_lengths n [] l h i = refl
part_lengths n (k ∷ ls) l h zero = let a = length-append k (joined ls) in part_length l n (length k) (omega (arith, h, a))
part_lengths n (k ∷ ls) l h (suc i) = let a = length-append k (joined ls) in part_lengths (n + length k) ls l (omega (arith, h, a)) i

-- what tables are cut into
module _ (js : List Pos) (tables : List Arcs) (arcs : List Piece) (arcs_are : arcs ≡ arcs_of_all tables) (marks : List Bool) where
  abbrev cut : List (List Piece)
  cut = pieces_from js marks 0 arcs

  pub all_pieces_are : UnmarkedStayWhole js arcs marks → joined cut ≡ gathered (pieces_under js) (arcs_of_all tables)
  all_pieces_are stay =
      ap joined (all_kept js arcs marks stay) ∙ ap (λ w. joined (map (pieces_under js) w)) arcs_are ∙ joined_map (pieces_under js) (arcs_of_all tables)

  module _ (r : RecutAllParts) (begins : List ℕ) (begins_is : begins ≡ bounds_of (map whole_pieces tables))
      (lists : r.lists ≡ parts_between begins (map (map (located r.arcs.arcs)) cut)) where
    abbrev new : List (List Pos)
    new = r.arcs.arcs

    arcs_joined : arcs ≡ joined (map whole_pieces tables)
    arcs_joined = arcs_are ∙ sym (joined_map whole_pieces tables)

    -- the lists of a table
    pub table_lists : UnmarkedStayWhole js arcs marks → (i : ℕ) (t : Arcs) → slice_get tables i ≡ Some t → of_table i r ≡ map (arc_used js t.loops new) t.arcs
    table_lists stay i t e =
        ap (list_at i) (
        lists
        ∙ (λ k. parts_between (begins_is k)
        ((ap (map (map (located new))) (all_kept js arcs marks stay) ∙ map-map (map (located new)) (pieces_under js) arcs ∙ ap (map (used_by js new)) arcs_joined) k))
        ∙ between_again (used_by js new) (map whole_pieces tables)
        ∙ map-map (map (used_by js new)) whole_pieces tables)
        ∙ got_mapped (λ (s : Arcs). map (used_by js new) (whole_pieces s)) tables i t e
        ∙ used_in js new t.loops t.arcs

    -- there are as many as it has arcs
    pub table_length : (i : ℕ) (t : Arcs) → slice_get tables i ≡ Some t → length (of_table i r) ≡ length t.arcs
    table_length i t e =
        let all : 0 + length (joined (map whole_pieces tables)) ≤ length (map (map (located new)) cut) =
        (let a = length-map cut (map (located new)) in
        let b = length_from js marks 0 arcs in
        let k = ap length arcs_joined in
        omega (arith, a, b, k)) in
        ap (λ w. length (list_at i w)) (lists ∙ ap (λ w. parts_between w (map (map (located new)) cut)) begins_is)
        ∙ part_lengths 0 (map whole_pieces tables) (map (map (located new)) cut) all i
        ∙ ap length (got_mapped whole_pieces tables i t e)
        ∙ length_whole t.loops t.arcs

-- what is at a place of a part of a list
pub get_taken : {A : Type 0} (l : List A) (k n : ℕ) → n < k → slice_get (take k l) n ≡ slice_get l n
get_taken [] k n h = ap (λ w. slice_get w n) (none k)
  where
    none : {A : Type 0} (k : ℕ) → take {A = A} k [] ≡ []
    none zero = refl
    none (suc k) = refl
get_taken (x ∷ l) zero n h = absurd (omega (arith, h))
get_taken (x ∷ l) (suc k) zero h = refl
get_taken (x ∷ l) (suc k) (suc n) h = get_taken l k n (omega (arith, h))

pub none_taken : {A : Type 0} (l : List A) (k n : ℕ) → k ≤ n → slice_get (take k l) n ≡ None
none_taken [] zero n h = refl
none_taken [] (suc k) n h = refl
none_taken (x ∷ l) zero n h = refl
none_taken (x ∷ l) (suc k) zero h = absurd (omega (arith, h))
none_taken (x ∷ l) (suc k) (suc n) h = none_taken l k n (omega (arith, h))

pub get_dropped : {A : Type 0} (l : List A) (a n : ℕ) → slice_get (drop a l) n ≡ slice_get l (a + n)
get_dropped [] zero n = refl
get_dropped [] (suc a) n = refl
get_dropped (x ∷ l) zero n = ap (slice_get (x ∷ l)) (omega arith)
get_dropped (x ∷ l) (suc a) n =
    let e : suc (a + n) ≡ suc a + n = omega arith in
    get_dropped l a n ∙ ap (slice_get (x ∷ l)) e

pub get_between : {A : Type 0} (l : List A) (a b n : ℕ) → n < b - a → slice_get (between a b l) n ≡ slice_get l (a + n)
get_between l a b n h = get_taken (drop a l) (b - a) n h ∙ get_dropped l a n

pub none_between : {A : Type 0} (l : List A) (a b n : ℕ) → b - a ≤ n → slice_get (between a b l) n ≡ None
none_between l a b n h = none_taken (drop a l) (b - a) n h
