-- The answers that are known, and the arcs that are chosen, one by one.
use Rattle.std.proofs.Common.{◌≡◌, ◌<◌, ◌≤◌, ◌+◌, ℕ, zero, suc, Bool, true, false, cond, List, [], ◌∷◌, ◌++◌, length, get_or, ◌⊎◌, inl, inr, refl, sym, ap, ◌∙◌, subst, Option, Some, None, IfSome, slice_get, arith}
use Rattle.std.specs.BTreeMap.{BTreeMap, get, is_at}
use Rattle.std.specs.Map.{lookup}
use Rattle.std.specs.Cmp.{ranks}
use Rattle.std.specs.Ordering.{MatchOrdering, is_eq, nat_cmp}
use Rattle.std.specs.declared.cmp.Ordering.{Ordering}
use Rattle.std.specs.declared.cmp.Ordering.TheVariants.{Less, Equal, Greater}
use Rattle.shapes.specs.declared.feature.Feature.{Feature}
use Rattle.lines.proofs.Dropping.{item_at}
use Rattle.theory.specs.Lists.{Has}
use Rattle.theory.proofs.Lists.{Has-append, Has-append_left, Has-append_right}
use Rattle.theory.proofs.ListsOfLists.{get_has}
use Rattle.query.specs.Selecting.{Answered, ChosenBelow, Decided, Known, MayAskAmong}
use Rattle.query.specs.Spans.{span_cmp}
use Rattle.query.specs.declared.members.Member.{Member}
use Rattle.query.specs.declared.spans.Span.{Span}
use Rattle.query.proofs.Orders.{span_same}

module _ (Says : Feature → Feature → Bool → Type 0) (ms : List Member) where
  -- nothing is known yet
  pub none_known : (known : BTreeMap Span Bool) → known.entries ≡ [] → Known Says ms known
  none_known known e = λ s. subst (λ es. IfSome (lookup (is_at (span_cmp s)) es) (λ b. Answered Says ms s b)) (sym e) tt

  -- a known answer
  pub known_at : (known : BTreeMap Span Bool) (s : Span) (b : Bool) → Known Says ms known → get span_cmp known s ≡ Some b → Answered Says ms s b
  known_at known s b h e = subst (λ o. IfSome o (λ c. Answered Says ms s c)) e (h s)

  -- one answer more
  pub known_more : (old new : BTreeMap Span Bool) (s : Span) (b : Bool) → ((q : Span) → get span_cmp new q ≡ cond (is_eq (span_cmp s q)) (Some b) (get span_cmp old q)) →
      Answered Says ms s b → Known Says ms old → Known Says ms new
  known_more old new s b put answer known = λ q. subst (λ o. IfSome o (λ c. Answered Says ms q c)) (sym (put q)) (go q (span_cmp s q) refl)
    where
      go : (q : Span) (r : Ordering) → span_cmp s q ≡ r → IfSome (cond (is_eq r) (Some b) (get span_cmp old q)) (λ c. Answered Says ms q c)
      go q Less e = known q
      go q Equal e = subst (λ w. Answered Says ms w b) (span_same s q e) answer
      go q Greater e = known q

  module _ (spans : List (Option Span)) where
    pub none_chosen : ChosenBelow Says ms spans 0 []
    none_chosen = record { only = λ k h. absurd h; all = λ k s h e. absurd (omega (arith, h)) }

    below_or_at : (k n : ℕ) → k < n + 1 → (k < n) ⊎ (k ≡ n)
    below_or_at k n h = go (nat_cmp k n) (ranks k n)
      where
        go : (r : Ordering) → MatchOrdering r (k < n) (k ≡ n) (n < k) → (k < n) ⊎ (k ≡ n)
        go Less i = inl i
        go Equal i = inr i
        go Greater i = absurd (omega (arith, h, i))

    -- an arc that is passed over
    pub passed_over : (n : ℕ) (chosen : List ℕ) (o : Option Span) (b : Bool) → n < length spans → o ≡ get_or spans n o → Decided Says ms o b → b ≡ false →
        ChosenBelow Says ms spans n chosen → ChosenBelow Says ms spans (n + 1) chosen
    passed_over n chosen o b less is decided refused c = record { only = c.only; all = λ k s h e. elim (below_or_at k n h) [ inl i ↦ c.all k s i e | inr i ↦ inr (here k s i e) ] }
      where
        here : (k : ℕ) (s : Span) → k ≡ n → slice_get spans k ≡ Some (Some s) → Answered Says ms s false
        here k s i e =
            let at : slice_get spans n ≡ Some o = item_at spans n o less is in
            let both : Some o ≡ Some (Some s) = sym at ∙ ap (slice_get spans) (sym i) ∙ e in
            let same : o ≡ Some s = cc in
            subst (λ c. Answered Says ms s c) refused (subst (λ w. Decided Says ms w b) same decided)

    -- an arc that is taken
    pub taken : (n : ℕ) (chosen new : List ℕ) (o : Option Span) (b : Bool) → n < length spans → o ≡ get_or spans n o → Decided Says ms o b → b ≡ true →
        new ≡ chosen ++ (n ∷ []) → ChosenBelow Says ms spans n chosen → ChosenBelow Says ms spans (n + 1) new
    taken n chosen new o b less is decided agreed e c = record {
      only = λ k h. elim (Has-append k chosen (n ∷ []) (subst (Has k) e h)) [
        | inl i ↦ c.only k i
        | inr i ↦ elim i [ inl q ↦ there k q o refl | inr z ↦ absurd z ]
      ];
      all = λ k s h p. elim (below_or_at k n h) [
        | inl i ↦ elim (c.all k s i p) [ inl j ↦ inl (subst (Has k) (sym e) (Has-append_left k chosen (n ∷ []) j)) | inr j ↦ inr j ]
        | inr i ↦ inl (subst (Has k) (sym e) (Has-append_right k chosen (n ∷ []) (inl i)))
      ];
    }
      where
        there : (k : ℕ) → k ≡ n → (w : Option Span) → w ≡ o → (s : Span) × (slice_get spans k ≡ Some (Some s)) × Answered Says ms s true
        there k q None i = absurd (let z : b ≡ false = subst (λ w. Decided Says ms w b) (sym i) decided in let y : true ≡ false = sym agreed ∙ z in cc)
        there k q (Some s) i =
            (s, ap (slice_get spans) q ∙ item_at spans n o less is ∙ ap Some (sym i), subst (λ c. Answered Says ms s c) agreed (subst (λ w. Decided Says ms w b) (sym i) decided))

-- no member stands past the end
pub not_there : (ms : List Member) (i : ℕ) (p : Member) → length ms ≤ i → slice_get ms i ≡ Some p → ⊥
not_there [] i p h e = absurd cc
not_there (q ∷ ms) zero p h e = absurd (omega (arith, h))
not_there (q ∷ ms) (suc i) p h e = not_there ms i p (omega (arith, h)) e

-- the filter may be asked about the features at the indexes of the span
pub may_ask : (May : Feature → Feature → Type 0) (ms : List Member) (s : Span) (x y : Member) →
    s.least < length ms → x ≡ get_or ms s.least x → s.greatest < length ms → y ≡ get_or ms s.greatest y → MayAskAmong May ms → May x.feature y.feature
may_ask May ms s x y h e k f may = may x y (get_has ms s.least x (item_at ms s.least x h e)) (get_has ms s.greatest y (item_at ms s.greatest y k f))

-- the filter was asked about the features at the indexes of the span
pub asked : (Says : Feature → Feature → Bool → Type 0) (ms : List Member) (s : Span) (x y : Member) (b : Bool) →
    s.least < length ms → x ≡ get_or ms s.least x → s.greatest < length ms → y ≡ get_or ms s.greatest y → Says x.feature y.feature b → Answered Says ms s b
asked Says ms s x y b h e k f says = λ p q at there.
    let one : Some x ≡ Some p = sym (item_at ms s.least x h e) ∙ at in
    let two : Some y ≡ Some q = sym (item_at ms s.greatest y k f) ∙ there in
    let same : x ≡ p = cc in
    let alike : y ≡ q = cc in
    subst (λ w. Says w.feature q.feature b) same (subst (λ w. Says x.feature w.feature b) alike says)
