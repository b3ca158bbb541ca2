-- A way along a list of positions: both ends of each segment that is gone twice are noted.
use Rattle.std.proofs.Common.{◌≡◌, ℕ, ◌+◌, ◌<◌, ◌≤◌, Bool, true, false, cond, List, [], ◌∷◌, ◌++◌, ◌⊎◌, inl, inr, length, drop, get_or, refl, sym, ap, ◌∙◌, subst, append_assoc}
use Rattle.std.specs.Ordering.{is_lt}
use Rattle.std.proofs.lemmas.List.{drop_all}
use Rattle.theory.specs.Lists.{Has, Twice}
use Rattle.theory.proofs.Lists.{Has-append, Has-append_left, Has-append_right, append_nil}
use Rattle.grid.specs.declared.pos.Pos.{Pos}
use Rattle.lines.specs.Visited.{HoldEnds, IsStep}
use Rattle.lines.specs.PositionFilter.{may_hold}
use Rattle.lines.specs.Pairs.{pair_of}
use Rattle.lines.specs.Segments.{segments_from, segments_of}
use Rattle.lines.specs.Turned.{position_cmp}
use Rattle.lines.specs.declared.visited.VisitedVertices.{VisitedVertices}
use Rattle.lines.specs.declared.pair.PositionPair.{PositionPair}
use Rattle.lines.proofs.Dropping.{drop_item}
use Rattle.lines.proofs.Pairs.{pair_same}
use Rattle.lines.proofs.Positions.{true_false}

-- it holds of both ends
abbrev pub OfBoth : (Pos → Type 0) → PositionPair → Type 0
OfBoth P s = P s.lesser × P s.greater

-- of a pair's ends it holds, and of these two
pub both_given : (P : Pos → Type 0) (a b : Pos) → P a → P b → OfBoth P (pair_of a b)
both_given P a b h k = go (is_lt (position_cmp a b))
  where
    go : (t : Bool) → OfBoth P (cond t (record { lesser = a; greater = b }) (record { lesser = b; greater = a }))
    go true = (h, k)
    go false = (k, h)

pub given_both : (P : Pos → Type 0) (a b : Pos) → OfBoth P (pair_of a b) → P a × P b
given_both P a b = go (is_lt (position_cmp a b))
  where
    go : (t : Bool) → OfBoth P (cond t (record { lesser = a; greater = b }) (record { lesser = b; greater = a })) → P a × P b
    go true h = h
    go false h = (h.1, h.0)

-- one of the pair's ends
abbrev pub IsEnd : Pos → PositionPair → Type 0
IsEnd p s = (p ≡ s.lesser) ⊎ (p ≡ s.greater)

ends_are : (a b : Pos) → IsEnd a (pair_of a b) × IsEnd b (pair_of a b)
ends_are a b = go (is_lt (position_cmp a b))
  where
    go : (t : Bool) → IsEnd a (cond t (record { lesser = a; greater = b }) (record { lesser = b; greater = a })) × IsEnd b (cond t (record { lesser = a; greater = b }) (record { lesser = b; greater = a }))
    go true = (inl refl, inr refl)
    go false = (inr refl, inl refl)

end_of_both : (P : Pos → Type 0) (p : Pos) (s : PositionPair) → IsEnd p s → OfBoth P s → P p
end_of_both P p s (inl e) h = subst P (sym e) h.0
end_of_both P p s (inr e) h = subst P (sym e) h.1

-- of the segments that are gone both ends are met; where one of them ends here, here was met before it was
-- come to, or it is the last of them; and both ends of each that was gone twice are noted
pub record IsGoneOver (w : VisitedVertices) (ends : List Pos) (gone : List PositionPair) : Type 0 where
  pub met : (s : PositionPair) → Has s gone → OfBoth (λ p. may_hold w.met p ≡ true) s
  pub here : may_hold w.met w.here ≡ true
  pub again : (s : PositionPair) → Has s gone → IsEnd w.here s → (w.again ≡ true) ⊎ (s ≡ pair_of w.before w.here)
  pub recorded : (s : PositionPair) → Twice s gone → OfBoth (λ p. Has p ends) s

-- the segments of all positions are those gone, and those from here over what is left
abbrev pub IsGone : VisitedVertices → List Pos → List Pos → List Pos → Type 0
IsGone w ends all left = (gone : List PositionPair) × (segments_of all ≡ gone ++ segments_from w.here left) × IsGoneOver w ends gone

-- before the first step
pub none_gone : (w : VisitedVertices) (all others : List Pos) (first : Pos) → all ≡ first ∷ others → w.here ≡ first → may_hold w.met first ≡ true → IsGone w [] all others
none_gone w all others first e h m = (
  [],
  ap segments_of e ∙ ap (λ p. segments_from p others) (sym h),
  record {
    met = λ s k. absurd k;
    here = subst (λ p. may_hold w.met p ≡ true) (sym h) m;
    again = λ s k q. absurd k;
    recorded = λ s k. absurd k;
  },
)

-- what stands twice is the last, which stands among the others, or stands twice among them
twice_last : {A : Type 0} (v x : A) (l : List A) → Twice v (l ++ (x ∷ [])) → ((v ≡ x) × Has v l) ⊎ Twice v l
twice_last v x [] (inl h) = absurd h.1
twice_last v x [] (inr h) = absurd h
twice_last v x (y ∷ l) (inl h) = elim (Has-append v l (x ∷ []) h.1) [
  | inl k ↦ inr (inl (h.0, k))
  | inr (inl e) ↦ inl (e, inl h.0)
  | inr (inr z) ↦ absurd z
]
twice_last v x (y ∷ l) (inr h) = elim (twice_last v x l h) [ inl t ↦ inl (t.0, inr t.1) | inr k ↦ inr (inr k) ]

-- a segment from here that was gone before is told as retraced
retraced_means : (old new : VisitedVertices) (ends : List Pos) (gone : List PositionPair) (next : Pos) (b : Bool) → IsStep next b old new → IsGoneOver old ends gone →
    Has (pair_of old.here next) gone → b ≡ true
retraced_means old new ends gone next b step before h =
    let two = given_both (λ p. may_hold old.met p ≡ true) old.here next (before.met (pair_of old.here next) h) in
    step.meant two.1 (elim (before.again (pair_of old.here next) h (ends_are old.here next).0) [
      | inl a ↦ inl a
      | inr e ↦ inr (elim (pair_same old.here next old.before old.here e) [
        | inl q ↦ q.1 ∙ q.0
        | inr q ↦ q.1
      ])
    ])

-- a step, where both ends of its segment are noted if that was gone before
module _ (old new : VisitedVertices) (ends more : List Pos) (gone : List PositionPair) (next : Pos) (b : Bool) (step : IsStep next b old new) (before : IsGoneOver old ends gone)
    (kept : (p : Pos) → Has p ends → Has p more)
    (recorded : Has (pair_of old.here next) gone → Has old.here more × Has next more) where
  met_next : (s : PositionPair) → Has s (gone ++ (pair_of old.here next ∷ [])) → OfBoth (λ p. may_hold new.met p ≡ true) s
  met_next s h = elim (Has-append s gone (pair_of old.here next ∷ []) h) [
    | inl k ↦ let t = before.met s k in (step.met s.lesser t.0, step.met s.greater t.1)
    | inr (inl e) ↦ subst (OfBoth (λ p. may_hold new.met p ≡ true)) (sym e)
        (both_given (λ p. may_hold new.met p ≡ true) old.here next (step.met old.here before.here) step.marked)
    | inr (inr z) ↦ absurd z
  ]

  again_next : (s : PositionPair) → Has s (gone ++ (pair_of old.here next ∷ [])) → IsEnd new.here s → (new.again ≡ true) ⊎ (s ≡ pair_of new.before new.here)
  again_next s h q = elim (Has-append s gone (pair_of old.here next ∷ []) h) [
    | inl k ↦ inl (step.again (subst (λ p. may_hold old.met p ≡ true) step.here (end_of_both (λ p. may_hold old.met p ≡ true) new.here s q (before.met s k))))
    | inr (inl e) ↦ inr (e ∙ sym (λ i. pair_of (step.before i) (step.here i)))
    | inr (inr z) ↦ absurd z
  ]

  recorded_next : (s : PositionPair) → Twice s (gone ++ (pair_of old.here next ∷ [])) → OfBoth (λ p. Has p more) s
  recorded_next s h = elim (twice_last s (pair_of old.here next) gone h) [
    | inr k ↦ let t = before.recorded s k in (kept s.lesser t.0, kept s.greater t.1)
    | inl k ↦ subst (OfBoth (λ p. Has p more)) (sym k.0)
        (let t = recorded (subst (λ u. Has u gone) k.0 k.1) in both_given (λ p. Has p more) old.here next t.0 t.1)
  ]

  over_next : IsGoneOver new more (gone ++ (pair_of old.here next ∷ []))
  over_next = record {
    met = met_next;
    here = subst (λ p. may_hold new.met p ≡ true) (sym step.here) step.marked;
    again = again_next;
    recorded = recorded_next;
  }

gone_next : (old new : VisitedVertices) (ends more all others : List Pos) (i : ℕ) (next : Pos) (b : Bool) → i < length others → next ≡ get_or others i next →
    IsStep next b old new → ((p : Pos) → Has p ends → Has p more) →
    ((gone : List PositionPair) → IsGoneOver old ends gone → Has (pair_of old.here next) gone → Has old.here more × Has next more) →
    IsGone old ends all (drop i others) → IsGone new more all (drop (i + 1) others)
gone_next old new ends more all others i next b h e step kept recorded (gone, parted, over) = (
  gone ++ (pair_of old.here next ∷ []),
  parted ∙ ap (λ l. gone ++ segments_from old.here l) (drop_item others i next h e)
      ∙ sym (append_assoc gone (pair_of old.here next ∷ []) (segments_from next (drop (i + 1) others)))
      ∙ ap (λ p. (gone ++ (pair_of old.here next ∷ [])) ++ segments_from p (drop (i + 1) others)) (sym step.here),
  over_next old new ends more gone next b step over kept (recorded gone over),
)

-- a step that notes both ends, and one that was not gone before
pub step_recorded : (old new : VisitedVertices) (ends more all others : List Pos) (i : ℕ) (here next : Pos) (b : Bool) → i < length others → next ≡ get_or others i next →
    IsStep next b old new → here ≡ old.here → more ≡ (ends ++ (here ∷ [])) ++ (next ∷ []) →
    IsGone old ends all (drop i others) → IsGone new more all (drop (i + 1) others)
step_recorded old new ends more all others i here next b h e step at m before =
    gone_next old new ends more all others i next b h e step
    (λ p k. subst (Has p) (sym m) (Has-append_left p (ends ++ (here ∷ [])) (next ∷ []) (Has-append_left p ends (here ∷ []) k)))
    (λ gone over k. (
      subst (Has old.here) (sym m) (Has-append_left old.here (ends ++ (here ∷ [])) (next ∷ []) (Has-append_right old.here ends (here ∷ []) (inl (sym at)))),
      subst (Has next) (sym m) (Has-append_right next (ends ++ (here ∷ [])) (next ∷ []) (inl refl)),
    ))
    before

pub step_new : (old new : VisitedVertices) (ends more all others : List Pos) (i : ℕ) (next : Pos) (b : Bool) → i < length others → next ≡ get_or others i next →
    IsStep next b old new → b ≡ false → more ≡ ends →
    IsGone old ends all (drop i others) → IsGone new more all (drop (i + 1) others)
step_new old new ends more all others i next b h e step f m before =
    gone_next old new ends more all others i next b h e step
    (λ p k. subst (Has p) (sym m) k)
    (λ gone over k. absurd (true_false b (retraced_means old new ends gone next b step over k) f))
    before

-- behind the last
pub all_gone : (w : VisitedVertices) (ends all others : List Pos) (i : ℕ) → length others ≤ i → IsGone w ends all (drop i others) → HoldEnds ends all
all_gone w ends all others i h (gone, parted, over) s k =
    over.recorded s (subst (Twice s) (parted ∙ ap (λ l. gone ++ segments_from w.here l) (drop_all i others h) ∙ append_nil gone) k)
