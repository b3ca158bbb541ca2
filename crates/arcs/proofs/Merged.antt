-- Arcs of which equal ones stand together, made into arcs that stand once.
use Rattle.std.proofs.Common.{◌≡◌, Bool, true, false, cond, ◌||◌, List, [], ◌∷◌, map, length, arith, ◌⊎◌, inl, inr, refl, sym, ap, ◌∙◌, subst}
use Rattle.std.specs.Ordering.{is_lt, bool_cmp, ordering_then}
use Rattle.std.specs.Cmp.Lexicographic.{lists_total}
use Rattle.std.specs.FinMap.{slice_cmp-IsAntisymmetric}
use Rattle.std.specs.List.Sorted.{IsSorted}
use Rattle.std.specs.declared.cmp.Ordering.{Ordering}
use Rattle.std.specs.declared.cmp.Ordering.TheVariants.{Less, Equal, Greater}
use Rattle.grid.specs.declared.pos.Pos.{Pos}
use Rattle.lines.specs.Turned.{list_cmp}
use Rattle.theory.specs.Lists.{Has}
use Rattle.theory.proofs.Ascending.{at_most_less}
use Rattle.arcs.specs.Stored.{positions_of, stored_of, rises, with_mark, merged_from, merged}
use Rattle.arcs.specs.Table.{same_list}
use Rattle.arcs.specs.declared.piece.Piece.{Piece}
use Rattle.arcs.specs.declared.stored.StoredArc.{StoredArc}
use Rattle.lines.specs.Positions.{position_total, position_same}
use Rattle.lines.proofs.Positions.{both_intro}
use Rattle.arcs.proofs.Places.{list_true, list_refl}
use Rattle.lines.proofs.SortedLists.{Rises, rises_from_sorted, not_less}

-- no arc comes before the one in front of it
abbrev pub Climbs : List Pos → List StoredArc → Type 0
Climbs c [] = Unit {0}
Climbs c (b ∷ l) = (is_lt (list_cmp b.positions c) ≡ false) × Climbs b.positions l

-- those of sorted pieces, by any order that looks at the chains first
module _ (R : Piece → Piece → Ordering) (by_chain : (p q : Piece) → is_lt (R p q) ≡ false → is_lt (list_cmp p.chain q.chain) ≡ false) where
  climbs_rises : (p : Piece) (ps : List Piece) → Rises R p ps → Climbs p.chain (map stored_of ps)
  climbs_rises p [] r = tt
  climbs_rises p (q ∷ ps) r = (by_chain q p r.0, climbs_rises q ps r.1)

  pub climbs_sorted : (p : Piece) (ps : List Piece) → IsSorted R (p ∷ ps) → Climbs p.chain (map stored_of ps)
  climbs_sorted p ps s = climbs_rises p ps (rises_from_sorted R p ps s)

-- of two that differ the one in front comes first
before : (c d : List Pos) → is_lt (list_cmp d c) ≡ false → same_list d c ≡ false → is_lt (list_cmp c d) ≡ true
before c d h n =
    elim (at_most_less list_cmp (lists_total position_total) (slice_cmp-IsAntisymmetric position_same) c d
    (not_less list_cmp (lists_total position_total) (list_cmp d c) (list_cmp c d) ((lists_total position_total).antisymm d c) h)) [
      | inl e ↦ ap is_lt e
      | inr e ↦ absurd (let f : same_list c c ≡ false = subst (λ w. same_list w c ≡ false) (sym e) n in let g : true ≡ false = sym (list_refl c) ∙ f in cc)
    ]

rising_behind : (c : List Pos) (a : StoredArc) (l : List StoredArc) → is_lt (list_cmp c a.positions) ≡ true → Climbs a.positions l →
    rises (c ∷ map positions_of (merged_from a l)) ≡ true
rising_behind c a [] h k = both_intro (is_lt (list_cmp c a.positions)) true h refl
rising_behind c a (b ∷ l) h k =
    go (same_list b.positions a.positions) refl (rising_behind c (with_mark a b) l) (rising_behind a.positions b l)
  where
    go : (t : Bool) → same_list b.positions a.positions ≡ t →
        (is_lt (list_cmp c a.positions) ≡ true → Climbs a.positions l → rises (c ∷ map positions_of (merged_from (with_mark a b) l)) ≡ true) →
        (is_lt (list_cmp a.positions b.positions) ≡ true → Climbs b.positions l → rises (a.positions ∷ map positions_of (merged_from b l)) ≡ true) →
        rises (c ∷ map positions_of (cond t (merged_from (with_mark a b) l) (a ∷ merged_from b l))) ≡ true
    go true e f g = f h (subst (λ w. Climbs w l) (list_true b.positions a.positions e) k.1)
    go false e f g =
        both_intro (is_lt (list_cmp c a.positions)) (rises (a.positions ∷ map positions_of (merged_from b l))) h (g (before a.positions b.positions k.0 e) k.1)

pub rising_from : (a : StoredArc) (l : List StoredArc) → Climbs a.positions l → rises (map positions_of (merged_from a l)) ≡ true
rising_from a [] k = refl
rising_from a (b ∷ l) k = go (same_list b.positions a.positions) refl (rising_from (with_mark a b) l)
  where
    go : (t : Bool) → same_list b.positions a.positions ≡ t → (Climbs a.positions l → rises (map positions_of (merged_from (with_mark a b) l)) ≡ true) →
        rises (map positions_of (cond t (merged_from (with_mark a b) l) (a ∷ merged_from b l))) ≡ true
    go true e f = f (subst (λ w. Climbs w l) (list_true b.positions a.positions e) k.1)
    go false e f = rising_behind a.positions b l (before a.positions b.positions k.0 e) k.1

-- the arcs of sorted pieces rise
pub merged_rises : (R : Piece → Piece → Ordering) → ((p q : Piece) → is_lt (R p q) ≡ false → is_lt (list_cmp p.chain q.chain) ≡ false) →
    (ps : List Piece) → IsSorted R ps → rises (map positions_of (merged (map stored_of ps))) ≡ true
merged_rises R by_chain [] s = refl
merged_rises R by_chain (p ∷ ps) s = rising_from (stored_of p) (map stored_of ps) (climbs_sorted R by_chain p ps s)

pub then_less : (r s : Ordering) → is_lt (ordering_then r s) ≡ false → is_lt r ≡ false
then_less Less s e = absurd cc
then_less Equal s e = refl
then_less Greater s e = refl

-- the order of pieces: their chains', and then their marks'
abbrev pub piece_cmp : Piece → Piece → Ordering
piece_cmp p q = ordering_then (list_cmp p.chain q.chain) (ordering_then (bool_cmp p.reversed q.reversed) (bool_cmp p.free q.free))

pub pieces_rise : (ps : List Piece) → IsSorted piece_cmp ps → rises (map positions_of (merged (map stored_of ps))) ≡ true
pieces_rise ps s =
    merged_rises piece_cmp (λ p q e. then_less (list_cmp p.chain q.chain) (ordering_then (bool_cmp p.reversed q.reversed) (bool_cmp p.free q.free)) e) ps s

-- no list is new
only_from : (c : List Pos) (a : StoredArc) (l : List StoredArc) → Has c (map positions_of (merged_from a l)) → Has c (map positions_of (a ∷ l))
only_from c a [] h = h
only_from c a (b ∷ l) h = go (same_list b.positions a.positions) (only_from c (with_mark a b) l) (only_from c b l) h
  where
    go : (t : Bool) → (Has c (map positions_of (merged_from (with_mark a b) l)) → Has c (a.positions ∷ map positions_of l)) →
        (Has c (map positions_of (merged_from b l)) → Has c (map positions_of (b ∷ l))) →
        Has c (map positions_of (cond t (merged_from (with_mark a b) l) (a ∷ merged_from b l))) → Has c (map positions_of (a ∷ (b ∷ l)))
    go true f g k = elim (f k) [ inl e ↦ inl e | inr m ↦ inr (inr m) ]
    go false f g (inl e) = inl e
    go false f g (inr k) = inr (g k)

-- and none is lost
there_from : (c : List Pos) (a : StoredArc) (l : List StoredArc) → Has c (map positions_of (a ∷ l)) → Has c (map positions_of (merged_from a l))
there_from c a [] h = h
there_from c a (b ∷ l) h = go (same_list b.positions a.positions) refl (there_from c (with_mark a b) l) (there_from c b l) h
  where
    go : (t : Bool) → same_list b.positions a.positions ≡ t → (Has c (a.positions ∷ map positions_of l) → Has c (map positions_of (merged_from (with_mark a b) l))) →
        (Has c (map positions_of (b ∷ l)) → Has c (map positions_of (merged_from b l))) →
        Has c (map positions_of (a ∷ (b ∷ l))) → Has c (map positions_of (cond t (merged_from (with_mark a b) l) (a ∷ merged_from b l)))
    go true e f g (inl k) = f (inl k)
    go true e f g (inr (inl k)) = f (inl (k ∙ list_true b.positions a.positions e))
    go true e f g (inr (inr k)) = f (inr k)
    go false e f g (inl k) = inl k
    go false e f g (inr k) = inr (g k)

pub merged_only : (c : List Pos) (l : List StoredArc) → Has c (map positions_of (merged l)) → Has c (map positions_of l)
merged_only c [] h = h
merged_only c (a ∷ l) h = only_from c a l h

pub merged_there : (c : List Pos) (l : List StoredArc) → Has c (map positions_of l) → Has c (map positions_of (merged l))
merged_there c [] h = h
merged_there c (a ∷ l) h = there_from c a l h

-- a list stands among the arcs with a mark
abbrev pub Marked : List Pos → List StoredArc → Type 0
Marked c l = (a : StoredArc) × Has a l × (c ≡ a.positions) × (a.free ≡ true)

either_mark : (a b : Bool) → (a || b) ≡ true → (a ≡ true) ⊎ (b ≡ true)
either_mark true b e = inl refl
either_mark false b e = inr e

first_mark : (a b : Bool) → a ≡ true → (a || b) ≡ true
first_mark true b e = refl
first_mark false b e = absurd cc

second_mark : (a b : Bool) → b ≡ true → (a || b) ≡ true
second_mark true b e = refl
second_mark false b e = e

-- no mark is new
marked_only_from : (c : List Pos) (a : StoredArc) (l : List StoredArc) → Marked c (merged_from a l) → Marked c (a ∷ l)
marked_only_from c a [] h = h
marked_only_from c a (b ∷ l) h = go (same_list b.positions a.positions) refl (marked_only_from c (with_mark a b) l) (marked_only_from c b l) h
  where
    of_two : b.positions ≡ a.positions → Marked c (with_mark a b ∷ l) → Marked c (a ∷ (b ∷ l))
    of_two e (x, inl k, p, f) =
        elim (either_mark a.free b.free (sym (ap (λ w. w.free) k) ∙ f)) [
          | inl g ↦ (a, inl refl, p ∙ ap (λ w. w.positions) k, g)
          | inr g ↦ (b, inr (inl refl), p ∙ ap (λ w. w.positions) k ∙ sym e, g)
        ]
    of_two e (x, inr k, p, f) = (x, inr (inr k), p, f)

    behind : Marked c (b ∷ l) → Marked c (a ∷ (b ∷ l))
    behind (x, k, p, f) = (x, inr k, p, f)

    go : (t : Bool) → same_list b.positions a.positions ≡ t → (Marked c (merged_from (with_mark a b) l) → Marked c (with_mark a b ∷ l)) →
        (Marked c (merged_from b l) → Marked c (b ∷ l)) → Marked c (cond t (merged_from (with_mark a b) l) (a ∷ merged_from b l)) → Marked c (a ∷ (b ∷ l))
    go true e f g k = of_two (list_true b.positions a.positions e) (f k)
    go false e f g (x, inl k, p, m) = (x, inl k, p, m)
    go false e f g (x, inr k, p, m) = behind (g (x, k, p, m))

-- and none is lost
marked_there_from : (c : List Pos) (a : StoredArc) (l : List StoredArc) → Marked c (a ∷ l) → Marked c (merged_from a l)
marked_there_from c a [] h = h
marked_there_from c a (b ∷ l) h = go (same_list b.positions a.positions) refl (marked_there_from c (with_mark a b) l) (marked_there_from c b l) h
  where
    into_one : b.positions ≡ a.positions → Marked c (a ∷ (b ∷ l)) → Marked c (with_mark a b ∷ l)
    into_one e (x, inl k, p, f) = (with_mark a b, inl refl, p ∙ ap (λ w. w.positions) k, first_mark a.free b.free (sym (ap (λ w. w.free) k) ∙ f))
    into_one e (x, inr (inl k), p, f) = (with_mark a b, inl refl, p ∙ ap (λ w. w.positions) k ∙ e, second_mark a.free b.free (sym (ap (λ w. w.free) k) ∙ f))
    into_one e (x, inr (inr k), p, f) = (x, inr k, p, f)

    behind : Marked c (merged_from b l) → Marked c (a ∷ merged_from b l)
    behind (x, k, p, f) = (x, inr k, p, f)

    go : (t : Bool) → same_list b.positions a.positions ≡ t → (Marked c (with_mark a b ∷ l) → Marked c (merged_from (with_mark a b) l)) →
        (Marked c (b ∷ l) → Marked c (merged_from b l)) → Marked c (a ∷ (b ∷ l)) → Marked c (cond t (merged_from (with_mark a b) l) (a ∷ merged_from b l))
    go true e f g k = f (into_one (list_true b.positions a.positions e) k)
    go false e f g (x, inl k, p, m) = (x, inl k, p, m)
    go false e f g (x, inr k, p, m) = behind (g (x, k, p, m))

pub marked_only : (c : List Pos) (l : List StoredArc) → Marked c (merged l) → Marked c l
marked_only c [] h = h
marked_only c (a ∷ l) h = marked_only_from c a l h

pub marked_there : (c : List Pos) (l : List StoredArc) → Marked c l → Marked c (merged l)
marked_there c [] h = h
marked_there c (a ∷ l) h = marked_there_from c a l h

pub emptied : {X : Type 0} (l : List X) → length l ≡ 0 → l ≡ []
emptied [] e = refl
emptied (x ∷ l) e = absurd (omega (arith, e))
