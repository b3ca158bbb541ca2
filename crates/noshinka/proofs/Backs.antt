-- What noshinka_back answers, and why it answers nothing.
use Rattle.std.proofs.Common.{◌≡◌, ◌∙◌, ◌<◌, ◌≤◌, ◌-◌, ◌^◌, ◌⊎◌, ◌||◌, ◌&&◌, ◌∷◌, [], ℕ, Bool, true, false, List, Result, Err, Some, ap, arith, get_or, inl, inr, length, map, nat_le, nat_lt, refl, subst}
use Rattle.std.proofs.lemmas.Bool.{and_parts, leb-true, ltb-true}
use Rattle.std.proofs.lemmas.Option.{slice_get-map, slice_get-get_or}
use Rattle.std.specs.Borrow.{Bor}
use Rattle.std.specs.Option.{option_map}
use Rattle.std.specs.Prelude.{IfSome, slice_get}
use Rattle.decimals.specs.Topology.BoxTransform.{IsBoxTransform, box_transform, corners_or_zero}
use Rattle.decimals.specs.Topology.DecimalTransform.{DecimalTransformParts}
use Rattle.decimals.specs.Topology.TopologyText.{quantized_text, unit_text}
use Rattle.decimals.specs.Topology.TransformFaults.{IsTransformFault, IsTransformOf, text_numerals}
use Rattle.decimals.specs.declared.topology.fault.DecimalFault.{DecimalFault}
use Rattle.decimals.specs.declared.topology.fault.DecimalFault.TheVariants as decimal
use Rattle.decimals.specs.declared.topology.rules.BackRules.{BackRules}
use Rattle.decimals.specs.declared.topology.transform_fault.TransformFault.{TransformFault}
use Rattle.decimals.specs.declared.topology.transform_fault.TransformFault.TheVariants as faulty
use Rattle.faults.specs.Fault.{IsWant, Lifted, pair_of, prefixed}
use Rattle.faults.specs.Path.{Turn}
use Rattle.faults.specs.declared.fault.Fault.{Fault}
use Rattle.faults.specs.declared.fault.FaultKind.{FaultKind}
use Rattle.numerals.specs.Numeral.{Measure}
use Rattle.rounded_maps.specs.Sequences.{without_mark}
use Rattle.topo.specs.Parts.{TopologyParts}
use Rattle.topo_io.specs.Means.{MeansTopology}
use Rattle.noshinka.specs.BackOptions.{AreBackRules, IsBackNamesRefusal, IsPropertyRefusal, are_back_options, properties_of}
use Rattle.noshinka.specs.RoundOptions.{IsSize, numeral_of}
use Rattle.noshinka.specs.Rounding.{IsScaleRefusal}
use Rattle.noshinka.specs.WayBack.{IsBackAnswer, IsBackRefusal, IsBackText, IsBackTextRefusal, IsBoxRefusal, IsLike, IsLikeRefusal, IsLikeTextRefusal, IsOfBox, IsOwnRefusal, IsOwnText, IsTextOn, fault_at, like_fault, unit_of}
use Rattle.c_calls.specs.Why.{IsBadName, IsFaultAt, IsTextRefusal, of_decimal}
use Rattle.noshinka.specs.declared.back_options.WayBackOptions.{WayBackOptions}
use Rattle.c_calls.specs.declared.refusal.CallRefusal.{CallRefusal}
use Rattle.c_calls.specs.declared.refusal.CallRefusal.TheVariants.{BadGrid, BadName, BadChoice, NoId, Text, OtherGrid, NoText, BadPlan, NoLayer, OutOfMemory}

-- ---- names

pub property_memory : (names : List (List ℕ)) → IsPropertyRefusal names OutOfMemory
property_memory names = inl refl

-- the property at a place is not UTF-8
pub property_refused : (ps : List (Bor (List ℕ))) (i : ℕ) (d : Bor (List ℕ)) → i < length ps → (r : CallRefusal) → IsBadName 0 (get_or ps i d).now r → IsPropertyRefusal (map (λ p. p.now) ps) r
property_refused ps i d below (BadName p) h =
    inr (
      ap BadName h.0,
      (i, ((get_or ps i d).now, slice_get-map (λ (p : Bor (List ℕ)). p.now) ps i ∙ ap (option_map (λ (p : Bor (List ℕ)). p.now)) (slice_get-get_or ps i d below), h.1)),
    )
property_refused ps i d below OutOfMemory h = inl refl
property_refused ps i d below BadGrid h = absurd h
property_refused ps i d below BadChoice h = absurd h
property_refused ps i d below NoId h = absurd h
property_refused ps i d below (Text p f) h = absurd h
property_refused ps i d below (OtherGrid p) h = absurd h
property_refused ps i d below NoText h = absurd h
property_refused ps i d below (BadPlan k) h = absurd h
property_refused ps i d below NoLayer h = absurd h

pub names_property : (o : WayBackOptions) (r : CallRefusal) → IsPropertyRefusal (properties_of o) r → IsBackNamesRefusal o r
names_property o r h = inl h

pub names_scale : (o : WayBackOptions) (r : CallRefusal) → IsScaleRefusal o.scales.now r → IsBackNamesRefusal o r
names_scale o r h = inr h

-- ---- texts

pub mark_memory : (place : ℕ) (text : List ℕ) → IsTextRefusal place text OutOfMemory
mark_memory place text = tt

-- the first of the only text
pub only_text : (ts : List (Bor (List ℕ))) (w : List ℕ) (t : Bor (List ℕ)) → map (λ x. x.now) ts ≡ w ∷ [] → slice_get ts 0 ≡ Some t → t.now ≡ w
only_text [] w t e first = cc
only_text (x ∷ xs) w t e first = cc

pub lifted_once : (turn : Turn) (k : FaultKind) (old new : Fault) → pair_of old ≡ fault_at [] k → Lifted turn old new → (IsWant new → ⊥) → pair_of new ≡ fault_at (turn ∷ []) k
lifted_once turn k old new e lifted some = lifted.at some ∙ ap (prefixed turn) e

pub like_memory : (u : Measure) (like : List ℕ) → IsLikeRefusal u like OutOfMemory
like_memory u like = inl refl

-- why a text gives no transform, as a refusal
pub like_refusal : (u : Measure) (l like : List ℕ) → l ≡ like → (e : TransformFault) → ((e ≡ faulty.OutOfMemory → ⊥) → IsTransformFault u (text_numerals l) e) → (f : Fault) → ((IsWant f → ⊥) → pair_of f ≡ like_fault e) → (r : CallRefusal) →
    IsFaultAt 1 f r → IsLikeRefusal u like r
like_refusal u l like same e why f is (Text i g) (at, one, some) =
    let pair = is some in
    inr (f, (λ j. Text (at j) (one j), (e, (subst (λ x. IsTransformFault u (text_numerals x) e) same (why (λ m. some (ap (λ p. p.kind) (pair ∙ ap like_fault m)))), pair))))
like_refusal u l like same e why f is OutOfMemory h = inl refl
like_refusal u l like same e why f is BadGrid h = absurd h
like_refusal u l like same e why f is (BadName p) h = absurd h
like_refusal u l like same e why f is BadChoice h = absurd h
like_refusal u l like same e why f is NoId h = absurd h
like_refusal u l like same e why f is (OtherGrid p) h = absurd h
like_refusal u l like same e why f is NoText h = absurd h
like_refusal u l like same e why f is (BadPlan k) h = absurd h
like_refusal u l like same e why f is NoLayer h = absurd h

-- ---- on its own transform

pub own_made : (u : Measure) (rules : BackRules) (text t : List ℕ) (w : TopologyParts) → MeansTopology text w → u.places ≤ 30 → t ≡ unit_text u rules w → IsOwnText u rules text t
own_made u rules text t w means within is = record { topology = w; means = means; within = within; is = is }

pub own_text : (u : Measure) (text : List ℕ) (r : CallRefusal) → IsTextRefusal 0 text r → IsOwnRefusal u text r
own_text u text r h = inl h

pub own_decimal : (u : Measure) (text : List ℕ) {T : Type 0} (e : DecimalFault) → (◌≡◌ {A = Result T DecimalFault} (Err e) (Err decimal.TooManyDigits) → 30 < u.places) → IsOwnRefusal u text (of_decimal e)
own_decimal u text decimal.TooManyDigits h = inr (inr (refl, h refl))
own_decimal u text decimal.OutOfMemory h = inr (inl refl)

-- ---- on that of another text

pub like_made : (u : Measure) (like : List ℕ) (rules : BackRules) (text t : List ℕ) (w : TopologyParts) (d : DecimalTransformParts) → MeansTopology text w → IsTransformOf u (text_numerals like) d → IfSome w.bbox (λ _. d.unit.places ≤ 30) →
    t ≡ quantized_text d rules w → IsTextOn (IsLike u like) rules text t
like_made u like rules text t w d means of within is = record { topology = w; means = means; transform = d; other = of; within = within; is = is }

pub like_refused : (u : Measure) (like text : List ℕ) (r : CallRefusal) → IsLikeRefusal u like r → IsLikeTextRefusal u like text r
like_refused u like text r h = inl h

pub like_text : (u : Measure) (like text : List ℕ) (r : CallRefusal) → IsTextRefusal 0 text r → IsLikeTextRefusal u like text r
like_text u like text r h = inr (inl h)

pub like_decimal : (u : Measure) (like text : List ℕ) (d : DecimalTransformParts) → IsTransformOf u (text_numerals like) d → {T : Type 0} (e : DecimalFault) →
    (◌≡◌ {A = Result T DecimalFault} (Err e) (Err decimal.TooManyDigits) → 30 < d.unit.places) → IsLikeTextRefusal u like text (of_decimal e)
like_decimal u like text d of decimal.TooManyDigits h = inr (inr (inr (refl, subst (λ (x : DecimalTransformParts). 30 < x.unit.places) of.is (h refl))))
like_decimal u like text d of decimal.OutOfMemory h = inr (inr (inl refl))

-- ---- on that of its bounding box

pub box_made : (u : Measure) (steps : ℕ) (rules : BackRules) (text t : List ℕ) (w : TopologyParts) (d : DecimalTransformParts) → MeansTopology text w → IsBoxTransform u steps (corners_or_zero w.bbox) → d ≡ box_transform u steps w.bbox →
    IfSome w.bbox (λ _. d.unit.places ≤ 30) → t ≡ quantized_text d rules w → IsTextOn (IsOfBox u steps) rules text t
box_made u steps rules text t w d means limits of within is = record { topology = w; means = means; transform = d; other = (limits, of); within = within; is = is }

pub box_text : (u : Measure) (steps : ℕ) (text : List ℕ) (r : CallRefusal) → IsTextRefusal 0 text r → IsBoxRefusal u steps text r
box_text u steps text r h = inl (inl h)

pub box_wide : (u : Measure) (steps : ℕ) (text : List ℕ) (w : TopologyParts) → MeansTopology text w → {T : Type 0} (e : DecimalFault) →
    (◌≡◌ {A = Result T DecimalFault} (Err e) (Err decimal.TooManyDigits) → ¬ IsBoxTransform u steps (corners_or_zero w.bbox)) → IsBoxRefusal u steps text (of_decimal e)
box_wide u steps text w means decimal.TooManyDigits h = inr (w, (means, (refl, h refl)))
box_wide u steps text w means decimal.OutOfMemory h = inl (inr (inl refl))

pub box_decimal : (u : Measure) (steps : ℕ) (text : List ℕ) (w : TopologyParts) (d : DecimalTransformParts) → d ≡ box_transform u steps w.bbox → {T : Type 0} (e : DecimalFault) →
    (◌≡◌ {A = Result T DecimalFault} (Err e) (Err decimal.TooManyDigits) → 30 < d.unit.places) → IsBoxRefusal u steps text (of_decimal e)
box_decimal u steps text w d of decimal.TooManyDigits h = inl (inr (inr (refl, subst (λ (x : DecimalTransformParts). 30 < x.unit.places) of (h refl))))
box_decimal u steps text w d of decimal.OutOfMemory h = inl (inr (inl refl))

-- ---- on the one that is asked for

one_true : (a b : Bool) → (a || b) ≡ true → (a ≡ true) ⊎ (b ≡ true)
one_true true b h = inl refl
one_true false b h = inr h

-- numbers along each axis are at least two, where they are asked for
two_at_least : (o : WayBackOptions) → are_back_options o ≡ true → 2 ≤ o.transform → 2 ≤ o.count
two_at_least o chosen other = go (one_true _ _ (and_parts _ _ (and_parts _ _ chosen).0).1)
  where
    go : (nat_lt o.transform 2 ≡ true) ⊎ ((nat_le 2 o.count && nat_le o.count (2 ^ 40)) ≡ true) → 2 ≤ o.count
    go (inl few) = let less = ltb-true o.transform 2 few in absurd (omega (arith, less))
    go (inr both) = leb-true 2 o.count (and_parts _ _ both).0

pub some_count : (o : WayBackOptions) → are_back_options o ≡ true → 2 ≤ o.transform → 1 ≤ o.count
some_count o chosen other = let two = two_at_least o chosen other in omega (arith, two)

pub some_steps : (o : WayBackOptions) → are_back_options o ≡ true → 2 ≤ o.transform → 1 ≤ o.count - 1
some_steps o chosen other = let two = two_at_least o chosen other in omega (arith, two)

pub own_asked : (o : WayBackOptions) (u : Measure) (rules : BackRules) (text t : List ℕ) → o.transform ≡ 0 → IsOwnText u rules text t → IsBackText o u rules text t
own_asked o u rules text t e h = inl (e, h)

pub like_asked : (o : WayBackOptions) (u : Measure) (rules : BackRules) (text t : List ℕ) → o.transform ≡ 1 → IsTextOn (IsLike u (without_mark o.like.now)) rules text t → IsBackText o u rules text t
like_asked o u rules text t e h = inr (inl (e, h))

pub box_asked : (o : WayBackOptions) (u : Measure) (rules : BackRules) (text t : List ℕ) → 2 ≤ o.transform → IsTextOn (IsOfBox u (o.count - 1)) rules text t → IsBackText o u rules text t
box_asked o u rules text t e h = inr (inr (e, h))

pub own_not : (o : WayBackOptions) (u : Measure) (text : List ℕ) (r : CallRefusal) → o.transform ≡ 0 → IsOwnRefusal u text r → IsBackTextRefusal o u text r
own_not o u text r e h = inl (e, h)

pub like_not : (o : WayBackOptions) (u : Measure) (text : List ℕ) (r : CallRefusal) → o.transform ≡ 1 → IsLikeTextRefusal u (without_mark o.like.now) text r → IsBackTextRefusal o u text r
like_not o u text r e h = inr (inl (e, h))

pub box_not : (o : WayBackOptions) (u : Measure) (text : List ℕ) (r : CallRefusal) → 2 ≤ o.transform → IsBoxRefusal u (o.count - 1) text r → IsBackTextRefusal o u text r
box_not o u text r e h = inr (inr (e, h))

pub back_choice : (o : WayBackOptions) (text : List ℕ) → are_back_options o ≡ false → IsBackRefusal o text BadChoice
back_choice o text h = inl (refl, h)

pub back_unit : (o : WayBackOptions) (text : List ℕ) → ¬ IsSize (numeral_of o.unit.now) → IsBackRefusal o text BadGrid
back_unit o text h = inr (inl (refl, h))

pub back_names : (o : WayBackOptions) (text : List ℕ) (r : CallRefusal) → IsBackNamesRefusal o r → IsBackRefusal o text r
back_names o text r h = inr (inr (inl h))

pub back_not : (o : WayBackOptions) (text : List ℕ) (u : Measure) → u ≡ unit_of o → (r : CallRefusal) → IsBackTextRefusal o u (without_mark text) r → IsBackRefusal o text r
back_not o text u e r h = inr (inr (inr (subst (λ x. IsBackTextRefusal o x (without_mark text) r) e h)))

pub back_made : (o : WayBackOptions) (text t : List ℕ) (u : Measure) (rules : BackRules) → u ≡ unit_of o → IsSize (numeral_of o.unit.now) → AreBackRules o rules → IsBackText o u rules (without_mark text) t → IsBackAnswer o text t
back_made o text t u rules e size are made = record { unit = size; rules = rules; are = are; made = subst (λ x. IsBackText o x rules (without_mark text) t) e made }
