-- What is noted of a vertex's neighbours.
use Rattle.std.proofs.Common.{◌≡◌, Bool, true, false, cond, List, [], ◌∷◌, ◌⊎◌, inl, inr, refl, sym, ap, ◌∙◌, subst, Option, Some, None}
use Rattle.std.specs.Ordering.{is_eq}
use Rattle.std.specs.Option.{is_some}
use Rattle.theory.specs.Walking.{Joining}
use Rattle.lines.specs.Turned.{position_cmp}
use Rattle.lines.specs.Pairs.{position_eq}
use Rattle.arcs.specs.Among.{among}
use Rattle.theory.specs.Geometry.{AtMost}
use Rattle.lines.proofs.Positions.{position_tied, tied_position, position_true, true_position, true_false}
use Rattle.chains.specs.Joined.{AmongSegments, SegmentsOf, StopAt, MeetsTwo}
use Rattle.chains.specs.Links.{joined, recorded, recorded_all}
use Rattle.theory.specs.Lists.{Has}
use Rattle.grid.specs.declared.pos.Pos.{Pos}
use Rattle.chains.specs.declared.segment.Segment.{Segment}

-- one neighbour is noted where there are some, and a second where there is another
abbrev pub Means : Option (Pos × Pos) → (Pos → Type 0) → Type 0
Means None H = (p : Pos) → ¬ H p
Means (Some t) H = H t.0 × H t.1 × (t.0 ≡ t.1 → (p : Pos) → H p → p ≡ t.0)

Means-iff : (o : Option (Pos × Pos)) (H G : Pos → Type 0) → ((p : Pos) → H p → G p) → ((p : Pos) → G p → H p) → Means o H → Means o G
Means-iff None H G f g h = λ p k. h p (g p k)
Means-iff (Some t) H G f g h = (f t.0 h.0, f t.1 h.1, λ e p k. h.2 e p (g p k))

Means-joined : (o : Option (Pos × Pos)) (H : Pos → Type 0) (n : Pos) → Means o H → Means (Some (joined o n)) (λ p. (p ≡ n) ⊎ H p)
Means-joined None H n h = (inl refl, inl refl, λ e p k. elim k [ inl f ↦ f | inr f ↦ absurd (h p f) ])
Means-joined (Some t) H n h = go (position_eq t.0 n) refl
  where
    go : (b : Bool) → position_eq t.0 n ≡ b → Means (Some (cond b t (t.0, n))) (λ p. (p ≡ n) ⊎ H p)
    go true e = (inr h.0, inr h.1, λ f p k. elim k [ inl g ↦ g ∙ sym (position_true t.0 n e) | inr g ↦ h.2 f p g ])
    go false e = (inr h.0, inl refl, λ f p k. absurd (true_false (position_eq t.0 n) (true_position t.0 n f) e))

module _ (keys : List Pos) (q : Pos) (free : ¬ StopAt keys q) where
  Means-recorded : (o : Option (Pos × Pos)) (H : Pos → Type 0) (at to : Pos) → Means o H →
      Means (recorded keys q o at to) (λ p. ((q ≡ at) × (p ≡ to)) ⊎ H p)
  Means-recorded o H at to h = stop (among keys at) refl
    where
      same : (b : Bool) → is_eq (position_cmp at q) ≡ b → Means (cond b (Some (joined o to)) o) (λ p. ((q ≡ at) × (p ≡ to)) ⊎ H p)
      same true e =
          Means-iff (Some (joined o to)) (λ p. (p ≡ to) ⊎ H p) (λ p. ((q ≡ at) × (p ≡ to)) ⊎ H p)
          (λ p k. elim k [ inl f ↦ inl (sym (position_tied at q e), f) | inr f ↦ inr f ])
          (λ p k. elim k [ inl f ↦ inl f.1 | inr f ↦ inr f ]) (Means-joined o H to h)
      same false e =
          Means-iff o H (λ p. ((q ≡ at) × (p ≡ to)) ⊎ H p) (λ p k. inr k)
          (λ p k. elim k [ inl f ↦ absurd (true_false (is_eq (position_cmp at q)) (tied_position at q (sym f.0)) e) | inr f ↦ f ]) h

      stop : (b : Bool) → among keys at ≡ b →
          Means (cond b o (cond (is_eq (position_cmp at q)) (Some (joined o to)) o)) (λ p. ((q ≡ at) × (p ≡ to)) ⊎ H p)
      stop true e =
          Means-iff o H (λ p. ((q ≡ at) × (p ≡ to)) ⊎ H p) (λ p k. inr k)
          (λ p k. elim k [ inl f ↦ absurd (free (subst (StopAt keys) (sym f.0) e)) | inr f ↦ f ]) h
      stop false e = same (is_eq (position_cmp at q)) refl

  pub Means-all : (o : Option (Pos × Pos)) (H : Pos → Type 0) (ss : List Segment) → Means o H →
      Means (recorded_all keys q o ss) (λ p. AmongSegments q p ss ⊎ H p)
  Means-all o H [] h = Means-iff o H (λ p. ⊥ ⊎ H p) (λ p k. inr k) (λ p k. elim k [ inl z ↦ absurd z | inr f ↦ f ]) h
  Means-all o H (s ∷ ss) h =
      let one = recorded keys q o s.ends.lesser s.ends.greater in
      let first = Means-recorded o H s.ends.lesser s.ends.greater h in
      let second = Means-recorded one (λ p. ((q ≡ s.ends.lesser) × (p ≡ s.ends.greater)) ⊎ H p) s.ends.greater s.ends.lesser first in
      Means-iff (recorded_all keys q o (s ∷ ss))
      (λ p. AmongSegments q p ss ⊎ (((q ≡ s.ends.greater) × (p ≡ s.ends.lesser)) ⊎ (((q ≡ s.ends.lesser) × (p ≡ s.ends.greater)) ⊎ H p)))
      (λ p. AmongSegments q p (s ∷ ss) ⊎ H p)
      (λ p k. elim k [
        | inl f ↦ inl (inr f)
        | inr f ↦ elim f [ inl g ↦ inl (inl (inr g)) | inr g ↦ elim g [ inl i ↦ inl (inl (inl i)) | inr i ↦ inr i ] ]
      ])
      (λ p k. elim k [
        | inr f ↦ inr (inr (inr f))
        | inl f ↦ elim f [ inr g ↦ inl g | inl g ↦ elim g [ inl i ↦ inr (inr (inl i)) | inr i ↦ inr (inl i) ] ]
      ])
      (Means-all (recorded keys q one s.ends.greater s.ends.lesser)
      (λ p. ((q ≡ s.ends.greater) × (p ≡ s.ends.lesser)) ⊎ (((q ≡ s.ends.lesser) × (p ≡ s.ends.greater)) ⊎ H p)) ss second)

-- nothing is noted of a stop
module _ (keys : List Pos) (q : Pos) (halt : StopAt keys q) where
  stop_once : (o : Option (Pos × Pos)) (at to : Pos) → recorded keys q o at to ≡ o
  stop_once o at to = go (among keys at) refl
    where
      same : (b : Bool) → is_eq (position_cmp at q) ≡ b → among keys at ≡ false → cond b (Some (joined o to)) o ≡ o
      same true e f = absurd (true_false (among keys at) (subst (StopAt keys) (sym (position_tied at q e)) halt) f)
      same false e f = refl

      go : (b : Bool) → among keys at ≡ b → cond b o (cond (is_eq (position_cmp at q)) (Some (joined o to)) o) ≡ o
      go true e = refl
      go false e = same (is_eq (position_cmp at q)) refl e

  stop_all : (o : Option (Pos × Pos)) (ss : List Segment) → recorded_all keys q o ss ≡ o
  stop_all o [] = refl
  stop_all o (s ∷ ss) =
      stop_all (recorded keys q (recorded keys q o s.ends.lesser s.ends.greater) s.ends.greater s.ends.lesser) ss
      ∙ stop_once (recorded keys q o s.ends.lesser s.ends.greater) s.ends.greater s.ends.lesser ∙ stop_once o s.ends.lesser s.ends.greater

-- the step of the code
pub recorded_step : (keys : List Pos) (q at to : Pos) (f : Pos → Option (Pos × Pos)) (new o : Option (Pos × Pos)) (v : Pos × Pos) →
    among keys at ≡ false → new ≡ cond (is_eq (position_cmp at q)) (Some v) (f q) → v ≡ joined o to → o ≡ f at →
    new ≡ recorded keys q (f q) at to
recorded_step keys q at to f new o v free e g h =
    e ∙ go (is_eq (position_cmp at q)) refl ∙ ap (λ b. cond b (f q) (cond (is_eq (position_cmp at q)) (Some (joined (f q) to)) (f q))) (sym free)
  where
    go : (b : Bool) → is_eq (position_cmp at q) ≡ b → cond b (Some v) (f q) ≡ cond b (Some (joined (f q) to)) (f q)
    go true i = ap Some (g ∙ ap (λ u. joined u to) (h ∙ ap f (position_tied at q i)))
    go false i = refl

none_some : (o : Option (Pos × Pos)) (t : Pos × Pos) → o ≡ None → o ≡ Some t → ⊥
none_some o t e f = cc

-- what holds before the first walk
pub joining_start : (segs : List Segment) (keys : List Pos) (m : Pos → Option (Pos × Pos)) → MeetsTwo segs keys →
    ((q : Pos) → m q ≡ recorded_all keys q None segs) → Joining (SegmentsOf segs) (StopAt keys) (AtMost position_cmp) m (λ d. Has d [])
joining_start segs keys m ok e = record {
  links = λ v a b f. (halt v a b f, (parts v a b f).0, (parts v a b f).1, (parts v a b f).2);
  chains = λ d h. absurd h;
  apart = λ d h. absurd h;
  known = λ v w nj s f. absurd (subst (λ o. Means o (λ p. AmongSegments v p segs ⊎ ⊥)) (sym (e v) ∙ f)
      (Means-all keys v nj None (λ p. ⊥) segs (λ p z. z)) w (inl s));
}
  where
    halt : (v a b : Pos) → m v ≡ Some (a, b) → ¬ StopAt keys v
    halt v a b f j = none_some (m v) (a, b) (e v ∙ stop_all keys v j None segs) f

    plain : (v p : Pos) → AmongSegments v p segs ⊎ ⊥ → AmongSegments v p segs
    plain v p (inl k) = k
    plain v p (inr k) = absurd k

    parts : (v a b : Pos) → m v ≡ Some (a, b) → AmongSegments v a segs × AmongSegments v b segs × (¬ (a ≡ b))
    parts v a b f =
        let h : Means (Some (a, b)) (λ p. AmongSegments v p segs ⊎ ⊥) =
        subst (λ o. Means o (λ p. AmongSegments v p segs ⊎ ⊥)) (sym (e v) ∙ f) (Means-all keys v (halt v a b f) None (λ p. ⊥) segs (λ p z. z)) in
        let t = ok v a (halt v a b f) (plain v a h.0) in (
          plain v a h.0,
          plain v b h.1,
          (λ g. t.2 (h.2 g t.0 (inl t.3) ∙ sym (h.2 g t.1 (inl t.4)))),
        )

pub recorded_some : (o : Option (Pos × Pos)) → true ≡ is_some o → (a : Pos) × (b : Pos) × (o ≡ Some (a, b))
recorded_some None e = absurd cc
recorded_some (Some t) e = (t.0, t.1, refl)

pub recorded_none : (o : Option (Pos × Pos)) → false ≡ is_some o → o ≡ None
recorded_none None e = refl
recorded_none (Some t) e = absurd cc
