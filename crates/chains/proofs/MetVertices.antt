-- Vertices that are met, and met again.
use Rattle.std.proofs.Common.{◌≡◌, true, List, [], ◌∷◌, ◌++◌, append-nil, ◌⊎◌, inl, inr, sym, subst}
use Rattle.theory.specs.Lists.{Has, Twice}
use Rattle.grid.specs.declared.pos.Pos.{Pos}
use Rattle.lines.specs.PositionFilter.{may_hold}
use Rattle.chains.specs.ManyTables.{HoldsTwice}
use Rattle.chains.specs.Repeats.{AreMet, IsRecorded}
use Rattle.chains.specs.declared.repeats.Repeats.{Repeats}

pub twice_has : {V : Type 0} (v : V) (l : List V) → Twice v l → Has v l
twice_has v [] t = absurd t
twice_has v (x ∷ l) (inl t) = inl t.0
twice_has v (x ∷ l) (inr t) = inr (twice_has v l t)

module _ (p : Pos) (old new : Repeats) (left : List Pos) (recorded : IsRecorded p old new) where
  met_now : (v : Pos) → v ≡ p → may_hold new.met v ≡ true
  met_now v e = subst (λ w. may_hold new.met w ≡ true) (sym e) recorded.here

  again_now : (v : Pos) → Has v (p ∷ left) → Twice v (p ∷ left) ⊎ (may_hold old.met v ≡ true) →
      (Has v left × (Twice v left ⊎ (may_hold new.met v ≡ true))) ⊎ (may_hold new.again v ≡ true)
  again_now v (inl e) (inr m) = inr (subst (λ w. may_hold new.again w ≡ true) (sym e) (recorded.twice (subst (λ w. may_hold old.met w ≡ true) e m)))
  again_now v (inl e) (inl (inl t)) = inl (t.1, inr (met_now v e))
  again_now v (inl e) (inl (inr t)) = inl (twice_has v left t, inl t)
  again_now v (inr h) (inr m) = inl (h, inr (recorded.met v m))
  again_now v (inr h) (inl (inl t)) = inl (h, inr (met_now v t.0))
  again_now v (inr h) (inl (inr t)) = inl (h, inl t)

  -- one more is noted
  pub met_step : (all : List Pos) → AreMet old all (p ∷ left) → AreMet new all left
  met_step all a = record {
    met = λ v h. elim (a.met v h) [
      | inl (inl e) ↦ inr (met_now v e)
      | inl (inr k) ↦ inl k
      | inr k ↦ inr (recorded.met v k)
    ];
    again = λ v h. elim (a.again v h) [
      | inl t ↦ again_now v t.0 t.1
      | inr k ↦ inr (recorded.again v k)
    ];
  }

-- before the first
pub none_met_yet : (r : Repeats) (all : List Pos) → AreMet r all (all ++ [])
none_met_yet r all = subst (AreMet r all) (sym (append-nil all)) (record {
  met = λ v h. inl h;
  again = λ v h. inl (twice_has v all h, inl h);
})

-- behind the last
pub all_met : (r : Repeats) (all : List Pos) → AreMet r all [] → HoldsTwice (may_hold r.again) all
all_met r all a v t = elim (a.again v t) [
  | inl k ↦ absurd k.0
  | inr k ↦ k
]
