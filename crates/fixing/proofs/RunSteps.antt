-- The steps of the way along a line.
use Rattle.std.proofs.Common.{◌≡◌, ℕ, ◌<◌, ◌≤◌, Bool, true, false, cond, not, List, [], ◌∷◌, ◌++◌, drop, length, refl, sym, ap, ◌∙◌, append_assoc, arith, Result, Ok, Err, IfOk, OnOk}
use Rattle.std.proofs.lemmas.List.{drop_all}
use Rattle.grid.specs.declared.pos.Pos.{Pos}
use Rattle.lines.specs.Pairs.{pair_of}
use Rattle.lines.specs.declared.pair.PositionPair.{PositionPair}
use Rattle.fixing.specs.Runs.{or_used, run_kept, runs_of, runs_on}

-- a run of two positions or more is kept
pub long_kept : (run : List Pos) → 1 < length run → run_kept run ≡ run ∷ []
long_kept [] h = absurd (omega arith)
long_kept (p ∷ []) h = absurd (omega arith)
long_kept (p ∷ (q ∷ l)) h = refl

-- one of fewer is none
pub short_kept : (run : List Pos) → length run ≤ 1 → run_kept run ≡ []
short_kept [] h = refl
short_kept (p ∷ []) h = refl
short_kept (p ∷ (q ∷ l)) h = absurd (omega arith)

module _ (used more : PositionPair → Bool) (s : PositionPair) (here next : Pos) (is : s ≡ pair_of here next) (with_s : (q : PositionPair) → more q ≡ or_used s used q) where
  or_next : more ≡ or_used (pair_of here next) used
  or_next = λ i q. (with_s q ∙ ap (λ t. or_used t used q) is) i

  -- on along a segment that is new
  pub step_new : (done : List (List Pos)) (run longer l : List Pos) (b : Bool) → b ≡ not (used s) → b ≡ true → longer ≡ run ++ (next ∷ []) →
      done ++ runs_on more longer next l ≡ done ++ runs_on used run here (next ∷ l)
  step_new done run longer l b new t made =
      ap (λ w. done ++ w)
      ((λ i. runs_on (or_next i) (made i) next l)
      ∙ sym (ap (λ w. cond w (run_kept run ++ runs_on (or_used (pair_of here next) used) (next ∷ []) next l) (runs_on (or_used (pair_of here next) used) (run ++ (next ∷ [])) next l)) not_used))
    where
      negated : (w : Bool) → not w ≡ true → w ≡ false
      negated true e = cc
      negated false e = refl

      not_used : used (pair_of here next) ≡ false
      not_used = ap used (sym is) ∙ negated (used s) (sym new ∙ t)

  -- on behind a segment that was used before
  pub step_used : (done ended : List (List Pos)) (run begun l : List Pos) (b : Bool) → b ≡ not (used s) → b ≡ false → ended ≡ done ++ run_kept run → begun ≡ next ∷ [] →
      ended ++ runs_on more begun next l ≡ done ++ runs_on used run here (next ∷ l)
  step_used done ended run begun l b new f cut made =
      (λ i. cut i ++ runs_on (or_next i) (made i) next l)
      ∙ append_assoc done (run_kept run) (runs_on (or_used (pair_of here next) used) (next ∷ []) next l)
      ∙ ap (λ w. done ++ w)
      (sym (ap (λ w. cond w (run_kept run ++ runs_on (or_used (pair_of here next) used) (next ∷ []) next l) (runs_on (or_used (pair_of here next) used) (run ++ (next ∷ [])) next l)) was_used))
    where
      affirmed : (w : Bool) → not w ≡ false → w ≡ true
      affirmed true e = refl
      affirmed false e = cc

      was_used : used (pair_of here next) ≡ true
      was_used = ap used (sym is) ∙ affirmed (used s) (sym new ∙ f)

-- the way that has just begun
pub begun : (used : PositionPair → Bool) (ended : List (List Pos)) (run : List Pos) (here : Pos) → ((q : PositionPair) → used q ≡ false) → ended ≡ [] → run ≡ here ∷ [] →
    (l : List Pos) → ended ++ runs_on used run here l ≡ runs_of (here ∷ l)
unfolding runs_of
begun used ended run here none empty one l = λ i. empty i ++ runs_on (λ q. none q i) (one i) here l

-- on behind a segment that was used before, where the steps may fail
pub used_means : {T E : Type 0} (r : Result T E) (used more : PositionPair → Bool) (s : PositionPair) (here now next : Pos) (is : s ≡ pair_of here next)
    (with_s : (q : PositionPair) → more q ≡ or_used s used q) (done ended : List (List Pos)) (run begun : List Pos) (b : Bool) → now ≡ next → b ≡ not (used s) → b ≡ false →
    OnOk r (ended ≡ done ++ run_kept run) → OnOk r (begun ≡ next ∷ []) →
    OnOk r ((l : List Pos) → ended ++ runs_on more begun now l ≡ done ++ runs_on used run here (next ∷ l))
used_means (Ok u) used more s here now next is with_s done ended run begun b e new f cut made =
    λ l. ap (λ p. ended ++ runs_on more begun p l) e ∙ step_used used more s here next is with_s done ended run begun l b new f cut made
used_means (Err x) used more s here now next is with_s done ended run begun b e new f cut made = tt

-- the runs where the way is at its end
pub all_means : {T E : Type 0} (r : Result T E) (seen : T → List (List Pos)) (left : List Pos → List (List Pos)) (c others whole : List Pos) (i : ℕ) (first : Pos) →
    IfOk r (λ runs. seen runs ≡ left []) → length others ≤ i → left (drop i others) ≡ runs_of (first ∷ others) → c ≡ first ∷ others → c ≡ whole →
    IfOk r (λ runs. seen runs ≡ runs_of whole)
all_means (Ok runs) seen left c others whole i first told h invariant parts is =
    told ∙ sym (ap left (drop_all i others h)) ∙ invariant ∙ ap runs_of (sym parts ∙ is)
all_means (Err e) seen left c others whole i first told h invariant parts is = tt

-- no position, no run
pub none_means : (found : List (List Pos)) (c whole : List Pos) → found ≡ [] → length c ≡ 0 → c ≡ whole → found ≡ runs_of whole
unfolding runs_of
none_means found c whole e n is = e ∙ go c n ∙ ap runs_of is
  where
    go : (c : List Pos) → length c ≡ 0 → [] ≡ runs_of c
    go [] n = refl
    go (x ∷ l) n = absurd (omega arith)
