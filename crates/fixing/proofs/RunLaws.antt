-- What the runs of a line are.
use Rattle.std.proofs.Common.{◌≡◌, ◌≤◌, Bool, true, false, cond, List, [], ◌∷◌, ◌++◌, inl, inr, length, refl, sym, ap, ◌∙◌, subst, append_assoc, arith}
use Rattle.std.specs.Cmp.{tied_itself}
use Rattle.std.specs.Ordering.{is_eq, is_lt}
use Rattle.grid.specs.declared.pos.Pos.{Pos}
use Rattle.theory.specs.LinesAndRings.{IsLine, Trail}
use Rattle.theory.specs.Lists.{Beside, Distinct, Each, Has, Steps, gathered, last_of}
use Rattle.theory.proofs.Lists.{Has-append_left, Has-append_right, append_nil, last-snoc}
use Rattle.lines.specs.Pairs.{pair_cmp, pair_of}
use Rattle.lines.specs.Positions.{position_same, position_total}
use Rattle.lines.specs.Reading.{collapsed}
use Rattle.lines.specs.Segments.{segments_from, segments_of}
use Rattle.lines.specs.Turned.{position_cmp}
use Rattle.lines.specs.declared.pair.PositionPair.{PositionPair}
use Rattle.lines.proofs.Pairs.{pair_at, pair_flip, pair_total}
use Rattle.lines.proofs.Trails.{Apart, collapsed_apart}
use Rattle.fixing.specs.Runs.{first_uses, or_used, run_kept, runs_of, runs_on}

-- the segments of a list with one position more
segments_more : (x : Pos) (l : List Pos) (next : Pos) → segments_from x (l ++ (next ∷ [])) ≡ segments_from x l ++ (pair_of (last_of x l) next ∷ [])
segments_more x [] next = refl
segments_more x (y ∷ l) next = ap (λ w. pair_of x y ∷ w) (segments_more y l next)

pub gathered_join : {A B : Type 0} (f : A → List B) (a b : List A) → gathered f (a ++ b) ≡ gathered f a ++ gathered f b
gathered_join f [] b = refl
gathered_join f (x ∷ a) b = ap (λ w. f x ++ w) (gathered_join f a b) ∙ sym (append_assoc (f x) (gathered f a) (gathered f b))

kept_segments : (run : List Pos) → gathered segments_of (run_kept run) ≡ segments_of run
kept_segments [] = refl
kept_segments (p ∷ []) = refl
kept_segments (p ∷ (q ∷ l)) = append_nil (segments_of (p ∷ (q ∷ l)))

runs_segments : (used : PositionPair → Bool) (x : Pos) (r : List Pos) (here : Pos) (l : List Pos) → last_of x r ≡ here →
    gathered segments_of (runs_on used (x ∷ r) here l) ≡ segments_from x r ++ first_uses used (segments_from here l)
runs_segments used x r here [] e = kept_segments (x ∷ r) ∙ sym (append_nil (segments_from x r))
runs_segments used x r here (p ∷ l) e =
    go (used (pair_of here p)) (runs_segments (or_used (pair_of here p) used) p [] p l refl)
    (runs_segments (or_used (pair_of here p) used) x (r ++ (p ∷ [])) p l (last-snoc x p r))
  where
    go : (b : Bool) → gathered segments_of (runs_on (or_used (pair_of here p) used) (p ∷ []) p l) ≡ first_uses (or_used (pair_of here p) used) (segments_from p l) →
        gathered segments_of (runs_on (or_used (pair_of here p) used) (x ∷ (r ++ (p ∷ []))) p l)
        ≡ segments_from x (r ++ (p ∷ [])) ++ first_uses (or_used (pair_of here p) used) (segments_from p l) →
        gathered segments_of (cond b (run_kept (x ∷ r) ++ runs_on (or_used (pair_of here p) used) (p ∷ []) p l) (runs_on (or_used (pair_of here p) used) (x ∷ (r ++ (p ∷ []))) p l))
        ≡ segments_from x r
        ++ cond b (first_uses (or_used (pair_of here p) used) (segments_from p l)) (pair_of here p ∷ first_uses (or_used (pair_of here p) used) (segments_from p l))
    go true f g =
        gathered_join segments_of (run_kept (x ∷ r)) (runs_on (or_used (pair_of here p) used) (p ∷ []) p l)
        ∙ (λ i. kept_segments (x ∷ r) i ++ f i)
    go false f g =
        g
        ∙ ap (λ w. w ++ first_uses (or_used (pair_of here p) used) (segments_from p l)) (segments_more x r p ∙ ap (λ q. segments_from x r ++ (pair_of q p ∷ [])) e)
        ∙ append_assoc (segments_from x r) (pair_of here p ∷ []) (first_uses (or_used (pair_of here p) used) (segments_from p l))

-- the runs have each segment once, at its first use
pub segments_once : (c : List Pos) → gathered segments_of (runs_of c) ≡ first_uses (λ _. false) (segments_of c)
unfolding runs_of
segments_once [] = refl
segments_once (x ∷ l) = runs_segments (λ _. false) x [] x l refl

either_true : (b r : Bool) → r ≡ true → cond b true r ≡ true
either_true true r e = refl
either_true false r e = e

used_itself : (s t : PositionPair) (used : PositionPair → Bool) → s ≡ t → or_used t used s ≡ true
used_itself s t used e = ap (λ w. cond (is_eq w) true (used s)) (ap (pair_cmp t) e ∙ tied_itself pair_total t)

first_new : (used : PositionPair → Bool) (s : PositionPair) (l : List PositionPair) → used s ≡ true → ¬ Has s (first_uses used l)
first_new used s [] e h = h
first_new used s (t ∷ l) e h = go (used t) refl (first_new (or_used t used) s l (either_true (is_eq (pair_cmp t s)) (used s) e)) h
  where
    go : (b : Bool) → used t ≡ b → (Has s (first_uses (or_used t used) l) → ⊥) → Has s (cond b (first_uses (or_used t used) l) (t ∷ first_uses (or_used t used) l)) → ⊥
    go true f later k = later k
    go false f later (inl k) = (let z : true ≡ false = sym e ∙ ap used k ∙ f in cc)
    go false f later (inr k) = later k

first_distinct : (used : PositionPair → Bool) (l : List PositionPair) → Distinct (first_uses used l)
first_distinct used [] = tt
first_distinct used (t ∷ l) = go (used t) (first_distinct (or_used t used) l)
  where
    go : (b : Bool) → Distinct (first_uses (or_used t used) l) → Distinct (cond b (first_uses (or_used t used) l) (t ∷ first_uses (or_used t used) l))
    go true d = d
    go false d = (first_new (or_used t used) t l (used_itself t t used refl), d)

first_among : (used : PositionPair → Bool) (s : PositionPair) (l : List PositionPair) → Has s (first_uses used l) → Has s l
first_among used s [] h = h
first_among used s (t ∷ l) h = go (used t) h (first_among (or_used t used) s l)
  where
    go : (b : Bool) → Has s (cond b (first_uses (or_used t used) l) (t ∷ first_uses (or_used t used) l)) → (Has s (first_uses (or_used t used) l) → Has s l) → Has s (t ∷ l)
    go true k f = inr (f k)
    go false (inl k) f = inl k
    go false (inr k) f = inr (f k)

-- the two ends differ
abbrev HasTwoEnds : PositionPair → Type 0
HasTwoEnds s = ¬ (s.lesser ≡ s.greater)

two_ends : (a b : Pos) → ¬ (a ≡ b) → HasTwoEnds (pair_of a b)
two_ends a b n = go (is_lt (position_cmp a b))
  where
    go : (t : Bool) → HasTwoEnds (cond t (record { lesser = a; greater = b }) (record { lesser = b; greater = a }))
    go true e = n e
    go false e = n (sym e)

ends_apart : (a b : Pos) → HasTwoEnds (pair_of a b) → ¬ (a ≡ b)
ends_apart a b = go (is_lt (position_cmp a b))
  where
    go : (t : Bool) → HasTwoEnds (cond t (record { lesser = a; greater = b }) (record { lesser = b; greater = a })) → ¬ (a ≡ b)
    go true n e = n e
    go false n e = n (sym e)

apart_from : (x : Pos) (l : List Pos) → Apart (x ∷ l) → (s : PositionPair) → Has s (segments_from x l) → HasTwoEnds s
apart_from x [] a s h = absurd h
apart_from x (y ∷ l) a s (inl e) = subst HasTwoEnds (sym e) (two_ends x y (a.0 y refl))
apart_from x (y ∷ l) a s (inr h) = apart_from y l a.1 s h

apart_ends : (c : List Pos) → Apart c → (s : PositionPair) → Has s (segments_of c) → HasTwoEnds s
apart_ends [] a s h = absurd h
apart_ends (x ∷ l) a s h = apart_from x l a s h

steps_has : (x y u : Pos) (l : List Pos) → Steps x y (u ∷ l) → Has (pair_of x y) (segments_from u l)
steps_has x y u [] (inl h) = absurd h.1
steps_has x y u [] (inr h) = absurd h
steps_has x y u (w ∷ l) (inl h) = inl (pair_at x y u w h.0 h.1)
steps_has x y u (w ∷ l) (inr h) = inr (steps_has x y w l h)

beside_has : (x y u : Pos) (l : List Pos) → Beside x y (u ∷ l) → Has (pair_of x y) (segments_from u l)
beside_has x y u l (inl h) = steps_has x y u l h
beside_has x y u l (inr h) = subst (λ s. Has s (segments_from u l)) (pair_flip y x) (steps_has y x u l h)

trail_from : (x : Pos) (l : List Pos) → Distinct (segments_from x l) → ((s : PositionPair) → Has s (segments_from x l) → HasTwoEnds s) → Trail (x ∷ l)
trail_from x [] d a = ((λ y b. absurd b), tt)
trail_from x (y ∷ l) d a = (
  (λ z e. (
    (λ q. ends_apart x y (a (pair_of x y) (inl refl)) (q ∙ e)),
    (λ q. d.0 (subst (λ w. Has (pair_of x w) (segments_from y l)) e (beside_has x z y l q))),
  )),
  trail_from y l d.1 (λ s h. a s (inr h)),
)

trail_of : (l : List Pos) → Distinct (segments_of l) → ((s : PositionPair) → Has s (segments_of l) → HasTwoEnds s) → Trail l
trail_of [] d a = tt
trail_of (x ∷ l) d a = trail_from x l d a

Distinct-left : {A : Type 0} (a b : List A) → Distinct (a ++ b) → Distinct a
Distinct-left [] b d = tt
Distinct-left (x ∷ a) b d = ((λ h. d.0 (Has-append_left x a b h)), Distinct-left a b d.1)

Distinct-right : {A : Type 0} (a b : List A) → Distinct (a ++ b) → Distinct b
Distinct-right [] b d = d
Distinct-right (x ∷ a) b d = Distinct-right a b d.1

pub Each-join : {V : Type 0} (P : List V → Type 0) (a b : List (List V)) → Each P a → Each P b → Each P (a ++ b)
Each-join P [] b h k = k
Each-join P (x ∷ a) b h k = (h.0, Each-join P a b h.1 k)

-- lists of two positions or more that have no segment twice among them are lines
each_line : (runs : List (List Pos)) → Distinct (gathered segments_of runs) → ((s : PositionPair) → Has s (gathered segments_of runs) → HasTwoEnds s) →
    Each (λ r. 2 ≤ length r) runs → Each IsLine runs
each_line [] d a h = tt
each_line (r ∷ rs) d a h = (
  record {
    long = h.0;
    once = trail_of r (Distinct-left (segments_of r) (gathered segments_of rs) d) (λ s k. a s (Has-append_left s (segments_of r) (gathered segments_of rs) k));
  },
  each_line rs (Distinct-right (segments_of r) (gathered segments_of rs) d) (λ s k. a s (Has-append_right s (segments_of r) (gathered segments_of rs) k)) h.1,
)

kept_long : (run : List Pos) → Each (λ r. 2 ≤ length r) (run_kept run)
kept_long [] = tt
kept_long (p ∷ []) = tt
kept_long (p ∷ (q ∷ l)) = (omega arith, tt)

runs_long : (used : PositionPair → Bool) (run : List Pos) (here : Pos) (l : List Pos) → Each (λ r. 2 ≤ length r) (runs_on used run here l)
runs_long used run here [] = kept_long run
runs_long used run here (p ∷ l) =
    go (used (pair_of here p)) (runs_long (or_used (pair_of here p) used) (p ∷ []) p l) (runs_long (or_used (pair_of here p) used) (run ++ (p ∷ [])) p l)
  where
    go : (b : Bool) → Each (λ r. 2 ≤ length r) (runs_on (or_used (pair_of here p) used) (p ∷ []) p l) →
        Each (λ r. 2 ≤ length r) (runs_on (or_used (pair_of here p) used) (run ++ (p ∷ [])) p l) →
        Each (λ r. 2 ≤ length r)
        (cond b (run_kept run ++ runs_on (or_used (pair_of here p) used) (p ∷ []) p l) (runs_on (or_used (pair_of here p) used) (run ++ (p ∷ [])) p l))
    go true h k = Each-join (λ r. 2 ≤ length r) (run_kept run) (runs_on (or_used (pair_of here p) used) (p ∷ []) p l) (kept_long run) h
    go false h k = k

all_long : (c : List Pos) → Each (λ r. 2 ≤ length r) (runs_of c)
unfolding runs_of
all_long [] = tt
all_long (x ∷ l) = runs_long (λ _. false) (x ∷ []) x l

-- the runs of a list in which neighbours differ are lines
pub runs_are_lines : (l : List Pos) → Each IsLine (runs_of (collapsed position_cmp l))
runs_are_lines l =
    let c = collapsed position_cmp l in
    each_line (runs_of c) (subst Distinct (sym (segments_once c)) (first_distinct (λ _. false) (segments_of c)))
    (λ s h. apart_ends c (collapsed_apart position_cmp position_total position_same l) s
    (first_among (λ _. false) s (segments_of c) (subst (Has s) (segments_once c) h)))
    (all_long c)
