-- On how many segments a vertex lies, by the list of its neighbours.
use Rattle.std.proofs.Common.{◌≡◌, List, [], ◌∷◌, length, inl, inr, refl, arith}
use Rattle.theory.specs.Lists.{Distinct, Has}
use Rattle.theory.specs.Segments.{OnTwo}

-- a vertex with two neighbours lies on exactly two segments
pub on_two : {V : Type 0} (S : V → V → Type 0) (v : V) (ns : List V) → Distinct ns → ((w : V) → Has w ns → S v w) → ((w : V) → S v w → Has w ns) →
    length ns ≡ 2 → OnTwo S v
on_two S v [] d to from e = absurd (omega (arith, e))
on_two S v (a ∷ []) d to from e = absurd (omega (arith, e))
on_two S v (a ∷ (b ∷ [])) d to from e = (
  a,
  b,
  (λ f. d.0 (inl f)),
  to a (inl refl),
  to b (inr (inl refl)),
  (λ c s. elim (from c s) [ inl f ↦ inl f | inr (inl f) ↦ inr f | inr (inr z) ↦ absurd z ]),
)
on_two S v (a ∷ (b ∷ (c ∷ ns))) d to from e = absurd (omega (arith, e))
