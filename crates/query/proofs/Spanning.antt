-- The spans, from the uses.
use Rattle.std.proofs.Common.{◌≡◌, ◌<◌, ◌≤◌, ℕ, zero, suc, min, max, Bool, true, false, cond, ◌==◌, List, [], ◌∷◌, length, get_or, set, replicate, ◌⊎◌, inl, inr, refl, sym, ap, ◌∙◌, subst, Option, Some, None, slice_get, arith}
use Rattle.std.specs.Cmp.{unsigned_Decides, ranks}
use Rattle.std.specs.Ordering.{MatchOrdering, nat_cmp}
use Rattle.std.specs.declared.cmp.Ordering.{Ordering}
use Rattle.std.specs.declared.cmp.Ordering.TheVariants.{Less, Equal, Greater}
use Rattle.std.proofs.lemmas.List.{get_or-set_same, get_or-set_other, length-set, get_or-replicate, length-replicate}
use Rattle.theory.specs.Lists.{Has}
use Rattle.query.specs.Spans.{widened, with_use, with_uses}
use Rattle.query.specs.declared.spans.Span.{Span}
use Rattle.query.specs.Uses.{use_at}
use Rattle.query.specs.declared.uses.Use.{Use}

pub same_number : (a b : ℕ) (t : Bool) → (a == b) ≡ t → t ≡ true → a ≡ b
same_number a b t e h = (unsigned_Decides a b).0 (e ∙ h)

pub other_number : (a b : ℕ) (t : Bool) → (a == b) ≡ t → t ≡ false → ¬ (a ≡ b)
other_number a b t e h = λ k. let p : true ≡ false = sym ((unsigned_Decides a b).1 k) ∙ e ∙ h in cc

-- the span of arc k, once the uses are met
abbrev span_from : Option Span → ℕ → List Use → Option Span
span_from o k [] = o
span_from o k (u ∷ us) = span_from (cond (u.arc == k) (Some (widened o u.index)) o) k us

uses_length : (ss : List (Option Span)) (us : List Use) → length (with_uses ss us) ≡ length ss
uses_length ss [] = refl
uses_length ss (u ∷ us) = uses_length (with_use ss u) us ∙ length-set ss u.arc (Some (widened (get_or ss u.arc None) u.index))

spans_at : (ss : List (Option Span)) (us : List Use) (k : ℕ) → k < length ss → get_or (with_uses ss us) k None ≡ span_from (get_or ss k None) k us
spans_at ss [] k h = refl
spans_at ss (u ∷ us) k h =
    let n = length-set ss u.arc (Some (widened (get_or ss u.arc None) u.index)) in
    spans_at (with_use ss u) us k (subst (λ j. k < j) (sym n) h) ∙ ap (λ o. span_from o k us) (go (u.arc == k) refl)
  where
    go : (t : Bool) → (u.arc == k) ≡ t → get_or (with_use ss u) k None ≡ cond t (Some (widened (get_or ss k None) u.index)) (get_or ss k None)
    go true e =
        let q : u.arc ≡ k = same_number u.arc k true e refl in
        subst (λ j. get_or (set ss j (Some (widened (get_or ss j None) u.index))) k None ≡ Some (widened (get_or ss k None) u.index)) (sym q)
        (get_or-set_same ss k (Some (widened (get_or ss k None) u.index)) None h)
    go false e =
        get_or-set_other ss u.arc k (Some (widened (get_or ss u.arc None) u.index)) None (λ j. other_number u.arc k false e refl (sym j))

-- the span goes from the least to the greatest index that has H
abbrev pub Spans : Option Span → (ℕ → Type 0) → Type 0
Spans None H = (p : ℕ) → ¬ H p
Spans (Some s) H = H s.least × H s.greatest × ((p : ℕ) → H p → (s.least ≤ p) × (p ≤ s.greatest))

spans_iff : (o : Option Span) (H G : ℕ → Type 0) → ((p : ℕ) → H p → G p) → ((p : ℕ) → G p → H p) → Spans o H → Spans o G
spans_iff None H G f g h = λ p k. h p (g p k)
spans_iff (Some s) H G f g h = (f s.least h.0, f s.greatest h.1, λ p k. h.2 p (g p k))

-- the lesser and the greater of two numbers
both_of : (a b : ℕ) → ((min a b ≡ a) × (max a b ≡ b)) ⊎ ((min a b ≡ b) × (max a b ≡ a))
both_of a b = go (nat_cmp a b) (ranks a b)
  where
    go : (r : Ordering) → MatchOrdering r (a < b) (a ≡ b) (b < a) → ((min a b ≡ a) × (max a b ≡ b)) ⊎ ((min a b ≡ b) × (max a b ≡ a))
    go Less h = inl (omega (arith, h), omega (arith, h))
    go Equal h = inl (omega (arith, h), omega (arith, h))
    go Greater h = inr (omega (arith, h), omega (arith, h))

spans_widened : (o : Option Span) (H : ℕ → Type 0) (p : ℕ) → Spans o H → Spans (Some (widened o p)) (λ q. (q ≡ p) ⊎ H q)
spans_widened None H p h = (inl refl, inl refl, λ q k. elim k [ inl e ↦ (omega (arith, e), omega (arith, e)) | inr i ↦ absurd (h q i) ])
spans_widened (Some s) H p h = (
  elim (both_of s.least p) [ inl e ↦ inr (subst H (sym e.0) h.0) | inr e ↦ inl e.0 ],
  elim (both_of s.greatest p) [ inl e ↦ inl e.1 | inr e ↦ inr (subst H (sym e.1) h.1) ],
  λ q k. elim k [
    | inl e ↦ (omega (arith, e), omega (arith, e))
    | inr i ↦ (let t = h.2 q i in (omega (arith, t.0), omega (arith, t.1)))
  ],
)

spans_all : (k : ℕ) (us : List Use) (o : Option Span) (H : ℕ → Type 0) → Spans o H → Spans (span_from o k us) (λ q. Has (use_at k q) us ⊎ H q)
spans_all k [] o H h = spans_iff o H (λ q. ⊥ ⊎ H q) (λ p i. inr i) (λ p i. elim i [ inl z ↦ absurd z | inr j ↦ j ]) h
spans_all k (u ∷ us) o H h = go (u.arc == k) refl (λ n G i. spans_all k us n G i)
  where
    go : (t : Bool) → (u.arc == k) ≡ t → ((n : Option Span) (G : ℕ → Type 0) → Spans n G → Spans (span_from n k us) (λ q. Has (use_at k q) us ⊎ G q)) →
        Spans (span_from (cond t (Some (widened o u.index)) o) k us) (λ q. Has (use_at k q) (u ∷ us) ⊎ H q)
    go true e ih =
        let same : u.arc ≡ k = same_number u.arc k true e refl in
        spans_iff (span_from (Some (widened o u.index)) k us) (λ q. Has (use_at k q) us ⊎ ((q ≡ u.index) ⊎ H q)) (λ q. Has (use_at k q) (u ∷ us) ⊎ H q)
        (λ q i. elim i [
          | inl j ↦ inl (inr j)
          | inr j ↦ elim j [ inl f ↦ inl (inl (λ x. record { arc = sym same x; index = f x })) | inr l ↦ inr l ]
        ])
        (λ q i. elim i [
          | inr l ↦ inr (inr l)
          | inl j ↦ elim j [ inl f ↦ inr (inl (ap (λ w. w.index) f)) | inr l ↦ inl l ]
        ])
        (ih (Some (widened o u.index)) (λ q. (q ≡ u.index) ⊎ H q) (spans_widened o H u.index h))
    go false e ih =
        spans_iff (span_from o k us) (λ q. Has (use_at k q) us ⊎ H q) (λ q. Has (use_at k q) (u ∷ us) ⊎ H q)
        (λ q i. elim i [ inl j ↦ inl (inr j) | inr l ↦ inr l ])
        (λ q i. elim i [
          | inr l ↦ inr l
          | inl j ↦ elim j [ inl f ↦ absurd (other_number u.arc k false e refl (sym (ap (λ w. w.arc) f))) | inr l ↦ inl l ]
        ])
        (ih o H h)

get_some : {A : Type 0} (l : List A) (k : ℕ) (d : A) → k < length l → slice_get l k ≡ Some (get_or l k d)
get_some [] k d h = absurd (omega (arith, h))
get_some (x ∷ l) zero d h = refl
get_some (x ∷ l) (suc k) d h = get_some l k d (omega (arith, h))

-- the span of each of n arcs
pub span_of : (n : ℕ) (us : List Use) (k : ℕ) → k < n →
    (o : Option Span) × (slice_get (with_uses (replicate n None) us) k ≡ Some o) × Spans o (λ q. Has (use_at k q) us)
span_of n us k h =
    let count : length (replicate {A = Option Span} n None) ≡ n = length-replicate n None in
    let less : k < length (replicate {A = Option Span} n None) = subst (λ j. k < j) (sym count) h in
    let more : k < length (with_uses (replicate n None) us) = subst (λ j. k < j) (sym (uses_length (replicate n None) us)) less in
    let start : get_or (replicate {A = Option Span} n None) k None ≡ None = get_or-replicate n k None None h in
    let is : get_or (with_uses (replicate n None) us) k None ≡ span_from None k us = spans_at (replicate n None) us k less ∙ ap (λ o. span_from o k us) start in (
      span_from None k us,
      get_some (with_uses (replicate n None) us) k None more ∙ ap Some is,
      spans_iff (span_from None k us) (λ q. Has (use_at k q) us ⊎ ⊥) (λ q. Has (use_at k q) us)
          (λ q i. elim i [ inl j ↦ j | inr z ↦ absurd z ]) (λ q i. inl i) (spans_all k us None (λ q. ⊥) (λ q z. z)),
    )
