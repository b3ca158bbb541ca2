-- Whether a segment stands twice, as sorting tells it.
use Rattle.std.proofs.Common.{◌≡◌, ℕ, ◌+◌, ◌<◌, Bool, true, false, cond, List, [], ◌∷◌, ◌++◌, inl, inr, length, drop, get_or, nat_eq, refl, sym, ap, ◌∙◌, subst, arith, append_assoc}
use Rattle.std.proofs.lemmas.Bool.{eqb-true}
use Rattle.std.specs.List.Sorted.{IsPermutation, IsSorted}
use Rattle.std.proofs.lemmas.List.Sorted.{IsPermutation-sym}
use Rattle.grid.specs.declared.pos.Pos.{Pos}
use Rattle.theory.specs.Lists.{Has, Steps, Beside}
use Rattle.theory.specs.TopologyFunction.{keep}
use Rattle.lines.specs.Visited.{HoldEnds, joins}
use Rattle.lines.specs.Holding.{Holds}
use Rattle.lines.specs.Turned.{position_cmp}
use Rattle.lines.specs.Positions.{position_total, position_same}
use Rattle.lines.specs.Pairs.{pair_eq, pair_cmp, pair_of}
use Rattle.lines.specs.Reading.{repeats}
use Rattle.lines.specs.Neighbours.{equal_neighbours}
use Rattle.lines.specs.Segments.{segments_from, segments_of}
use Rattle.lines.specs.declared.pair.PositionPair.{PositionPair}
use Rattle.lines.proofs.Dropping.{drop_item}
use Rattle.lines.proofs.Doubles.{Doubled, doubled_twice, twice_doubled, twice_kept, kept_doubled, neighbours_doubled, doubled_neighbours, Doubled-permutation}
use Rattle.lines.proofs.Pairs.{pair_total, pair_tied, pair_true, pair_refl, pair_same, pair_flip, pair_at}
use Rattle.lines.proofs.Positions.{both_intro}
use Rattle.lines.proofs.Trails.{Repeats, repeats_means, if_repeats}

steps_has : (x y u : Pos) (l : List Pos) → Steps x y (u ∷ l) → Has (pair_of x y) (segments_from u l)
steps_has x y u [] (inl h) = absurd h.1
steps_has x y u [] (inr h) = absurd h
steps_has x y u (w ∷ l) (inl h) = inl (pair_at x y u w h.0 h.1)
steps_has x y u (w ∷ l) (inr h) = inr (steps_has x y w l h)

beside_has : (x y u : Pos) (l : List Pos) → Beside x y (u ∷ l) → Has (pair_of x y) (segments_from u l)
beside_has x y u l (inl h) = steps_has x y u l h
beside_has x y u l (inr h) = subst (λ s. Has s (segments_from u l)) (pair_flip y x) (steps_has y x u l h)

has_beside : (x y u : Pos) (l : List Pos) → Has (pair_of x y) (segments_from u l) → Beside x y (u ∷ l)
has_beside x y u [] h = absurd h
has_beside x y u (w ∷ l) (inl e) =
    elim (pair_same x y u w e) [ inl t ↦ inl (inl (t.0, t.1)) | inr t ↦ inr (inl (t.1, t.0)) ]
has_beside x y u (w ∷ l) (inr h) = elim (has_beside x y w l h) [ inl k ↦ inl (inr k) | inr k ↦ inr (inr k) ]

repeats_doubled : (u : Pos) (l : List Pos) → Repeats (u ∷ l) → Doubled (segments_from u l)
repeats_doubled u [] (inl t) = absurd t.1
repeats_doubled u [] (inr h) = absurd h
repeats_doubled u (w ∷ l) (inl t) = inl (beside_has u w w l (subst (λ y. Beside u y (w ∷ l)) t.1 t.2))
repeats_doubled u (w ∷ l) (inr h) = inr (repeats_doubled w l h)

doubled_repeats : (u : Pos) (l : List Pos) → Doubled (segments_from u l) → Repeats (u ∷ l)
doubled_repeats u [] h = absurd h
doubled_repeats u (w ∷ l) (inl h) = inl (w, refl, has_beside u w w l h)
doubled_repeats u (w ∷ l) (inr h) = inr (doubled_repeats w l h)

repeats_all : (l : List Pos) → Repeats l → Doubled (segments_of l)
repeats_all [] h = h
repeats_all (u ∷ l) h = repeats_doubled u l h

all_repeats : (l : List Pos) → Doubled (segments_of l) → Repeats l
all_repeats [] h = h
all_repeats (u ∷ l) h = doubled_repeats u l h

-- two tests that imply each other are one
one_test : (s t : Bool) → (s ≡ true → t ≡ true) → (t ≡ true → s ≡ true) → s ≡ t
one_test true t f g = sym (f refl)
one_test false true f g = g refl
one_test false false f g = refl

-- neighbours in a sorted list tell whether a segment stands twice, where one does so in the list only if one does so among the segments
if_by_sorting : (l : List Pos) (xs ys : List PositionPair) → (Doubled (segments_of l) → Doubled xs) → (Doubled xs → Doubled (segments_of l)) →
    IsPermutation xs ys → IsSorted pair_cmp ys → equal_neighbours pair_eq ys ≡ repeats position_cmp l
if_by_sorting l xs ys f g p s =
    one_test (equal_neighbours pair_eq ys) (repeats position_cmp l)
    (λ e. if_repeats position_cmp position_total position_same l
    (all_repeats l (g (Doubled-permutation pair_cmp pair_total pair_tied ys xs (IsPermutation-sym xs ys p)
    (neighbours_doubled pair_cmp pair_total pair_tied pair_eq pair_true pair_refl ys e)))))
    (λ e. doubled_neighbours pair_cmp pair_total pair_tied pair_eq pair_true pair_refl ys s
    (Doubled-permutation pair_cmp pair_total pair_tied xs ys p (f (repeats_all l (repeats_means position_cmp position_total position_same l e)))))

-- a segment that stands twice does so among those whose ends may be among the noted ones
doubled_between : (l ends : List Pos) (may : Pos → Bool) → HoldEnds ends l → Holds may ends → Doubled (segments_of l) → Doubled (keep (joins may) (segments_of l))
doubled_between l ends may recorded held h =
    let t = doubled_twice (segments_of l) h in
    let k = recorded t.0 t.1 in
    let m : joins may t.0 ≡ true = both_intro (may t.0.lesser) (may t.0.greater) (held t.0.lesser k.0) (held t.0.greater k.1) in
    twice_doubled t.0 (keep (joins may) (segments_of l)) (twice_kept (joins may) (segments_of l) t.0 m t.1)

-- the same in the form of the code: made, sorted, looked through
pub if_by_code : (l ends marked : List Pos) (may : Pos → Bool) (xs ys zs : List PositionPair) (b : Bool) → HoldEnds ends l → marked ≡ ends → Holds may marked →
    xs ≡ keep (joins may) (segments_of l) → IsPermutation xs ys → IsSorted pair_cmp ys → zs ≡ ys → b ≡ equal_neighbours pair_eq zs → b ≡ repeats position_cmp l
if_by_code l ends marked may xs ys zs b recorded same held e p s f g =
    g ∙ ap (equal_neighbours pair_eq) f
    ∙ if_by_sorting l (keep (joins may) (segments_of l)) ys (doubled_between l ends may recorded (subst (Holds may) same held))
    (kept_doubled (joins may) (segments_of l)) (subst (λ w. IsPermutation w ys) e p) s

-- where no ends are noted no segment stands twice
pub none_means : (l ends : List Pos) (n : ℕ) (b : Bool) → HoldEnds ends l → n ≡ length ends → b ≡ nat_eq n 0 → b ≡ true → false ≡ repeats position_cmp l
none_means l ends n b recorded m e t =
    one_test false (repeats position_cmp l) (λ f. absurd cc)
    (λ f.
    (let d = doubled_twice (segments_of l) (repeats_all l (repeats_means position_cmp position_total position_same l f)) in
    absurd (nothing ends (sym m ∙ eqb-true n 0 (sym e ∙ t)) d.0.lesser (recorded d.0 d.1).0)))
  where
    nothing : (ps : List Pos) → length ps ≡ 0 → (p : Pos) → ¬ Has p ps
    nothing [] z p h = h
    nothing (x ∷ ps) z p h = absurd (omega (arith, z))

-- one more segment is kept, or left out
kept_from : (f : PositionPair → Bool) (here next : Pos) (others : List Pos) (i : ℕ) (b : Bool) → i < length others → next ≡ get_or others i next → f (pair_of here next) ≡ b →
    keep f (segments_from here (drop i others))
    ≡ cond b (pair_of here next ∷ keep f (segments_from next (drop (i + 1) others))) (keep f (segments_from next (drop (i + 1) others)))
kept_from f here next others i b h e t =
    ap (λ l. keep f (segments_from here l)) (drop_item others i next h e)
    ∙ ap (λ t. cond t (pair_of here next ∷ keep f (segments_from next (drop (i + 1) others))) (keep f (segments_from next (drop (i + 1) others)))) t

pub segment_kept : (f : PositionPair → Bool) (made more whole : List PositionPair) (segment : PositionPair) (here next : Pos) (others : List Pos) (i : ℕ) (b : Bool) →
    i < length others → next ≡ get_or others i next → segment ≡ pair_of here next → b ≡ f segment → b ≡ true → more ≡ made ++ (segment ∷ []) →
    made ++ keep f (segments_from here (drop i others)) ≡ whole → more ++ keep f (segments_from next (drop (i + 1) others)) ≡ whole
segment_kept f made more whole segment here next others i b h e s t y m before =
    let rest = keep f (segments_from next (drop (i + 1) others)) in
    ap (λ l. l ++ rest) m ∙ append_assoc made (segment ∷ []) rest ∙ ap (λ w. made ++ (w ∷ rest)) s
    ∙ sym (ap (λ l. made ++ l) (kept_from f here next others i true h e (ap f (sym s) ∙ sym t ∙ y))) ∙ before

pub segment_left_out : (f : PositionPair → Bool) (made more whole : List PositionPair) (segment : PositionPair) (here next : Pos) (others : List Pos) (i : ℕ) (b : Bool) →
    i < length others → next ≡ get_or others i next → segment ≡ pair_of here next → b ≡ f segment → b ≡ false → more ≡ made →
    made ++ keep f (segments_from here (drop i others)) ≡ whole → more ++ keep f (segments_from next (drop (i + 1) others)) ≡ whole
segment_left_out f made more whole segment here next others i b h e s t n m before =
    ap (λ l. l ++ keep f (segments_from next (drop (i + 1) others))) m
    ∙ sym (ap (λ l. made ++ l) (kept_from f here next others i false h e (ap f (sym s) ∙ sym t ∙ n))) ∙ before
