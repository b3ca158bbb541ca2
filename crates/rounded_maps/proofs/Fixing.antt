-- Features that are fixed one after the other.
use Rattle.std.proofs.Common.{◌≡◌, ℕ, ◌+◌, List, [], ◌∷◌, ◌++◌, Bool, refl, sym, subst, ap, ◌∙◌, length, arith}
use Rattle.decimal_maps.specs.Tally.{nothing_counted}
use Rattle.decimal_maps.specs.declared.feature.RawFeature.{RawFeature}
use Rattle.decimal_maps.specs.declared.tally.Tally.{Tally}
use Rattle.fixing.specs.Counts.{sum_of_counts}
use Rattle.fixing.specs.declared.rules.FixingRules.{FixingRules}
use Rattle.rounded_maps.specs.Fixed.{AreFixed, HasMore, IsFixedMap, reals_from, sum_of_tallies, tally_from}
use Rattle.rounded_maps.specs.declared.map.RoundedFeature.{RoundedFeature}
use Rattle.rounded_maps.specs.declared.map.RoundedMap.{RoundedMap}

-- some, and others behind them
fixed_behind : (rules : FixingRules) (numbers : Bool) (n m : ℕ) (raws others : List RawFeature) (fs more : List RoundedFeature)
    → m ≡ n + length fs → AreFixed rules numbers n raws fs → AreFixed rules numbers m others more → AreFixed rules numbers n (raws ++ others) (fs ++ more)
fixed_behind rules numbers n m [] others [] more is h k = let same : m ≡ n = omega (arith, is) in subst (λ i. AreFixed rules numbers i others more) same k
fixed_behind rules numbers n m [] others (f ∷ fs) more is h k = absurd h
fixed_behind rules numbers n m (raw ∷ raws) others [] more is h k = absurd h
fixed_behind rules numbers n m (raw ∷ raws) others (f ∷ fs) more is h k = (h.0, fixed_behind rules numbers (n + 1) m raws others fs more (omega (arith, is)) h.1 k)

tally_behind : (t : Tally) (raws others : List RawFeature) → tally_from t (raws ++ others) ≡ tally_from (tally_from t raws) others
tally_behind t [] others = refl
tally_behind t (raw ∷ raws) others = tally_behind (sum_of_tallies t raw.tally) raws others

reals_behind : (n : ℕ) (raws others : List RawFeature) → reals_from n (raws ++ others) ≡ reals_from (reals_from n raws) others
reals_behind n [] others = refl
reals_behind n (raw ∷ raws) others = reals_behind (sum_of_counts n raw.attributes.reals) raws others

-- a map of fixed features, and then more
pub with_more : (rules : FixingRules) (numbers : Bool) (raws others : List RawFeature) (old new : RoundedMap) → IsFixedMap rules numbers raws old → HasMore rules numbers others old new → IsFixedMap rules numbers (raws ++ others) new
with_more rules numbers raws others old new h more = record {
  features = subst (AreFixed rules numbers 1 (raws ++ others)) (sym more.features)
      (fixed_behind rules numbers 1 (length old.features.items + 1) raws others old.features.items more.more (omega arith) h.features more.fixed);
  tally = more.tally ∙ ap (λ t. tally_from t others) h.tally ∙ sym (tally_behind nothing_counted raws others);
  reals = more.reals ∙ ap (λ n. reals_from n others) h.reals ∙ sym (reals_behind 0 raws others);
}
