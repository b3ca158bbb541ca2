-- What was put together with what is left, as one more is put.
use Rattle.std.proofs.Common.{◌↔◌, ◌⊎◌, inl, inr}

-- one put behind nothing
pub first_put : (Put : Type 0) → (Put ⊎ ⊥) ↔ (⊥ ⊎ Put)
first_put Put = ((λ h. elim h [ inl k ↦ inr k | inr z ↦ absurd z ]), (λ h. elim h [ inl z ↦ absurd z | inr k ↦ inl k ]))

-- one put behind a list that begins with another
pub behind_first : (First Rest All Put : Type 0) → All ↔ (Rest ⊎ Put) → (First ⊎ All) ↔ ((First ⊎ Rest) ⊎ Put)
behind_first First Rest All Put r = (
  (λ h. elim h [ inl k ↦ inl (inl k) | inr k ↦ elim (r.0 k) [ inl j ↦ inl (inr j) | inr j ↦ inr j ] ]),
  (λ h. elim h [ inl k ↦ elim k [ inl j ↦ inl j | inr j ↦ inr (r.1 (inl j)) ] | inr k ↦ inr (r.1 (inr k)) ]),
)

-- what is left falls apart into what is put now, and the rest
pub step_on : (Old New Put Left Rest All : Type 0) → (Left → Put ⊎ Rest) → (Put ⊎ Rest → Left) → New ↔ (Old ⊎ Put) → (Old ⊎ Left) ↔ All → (New ⊎ Rest) ↔ All
step_on Old New Put Left Rest All apart joined put left = (
  (λ h. left.0 (elim h [
    | inl k ↦ elim (put.0 k) [ inl j ↦ inl j | inr j ↦ inr (joined (inl j)) ]
    | inr k ↦ inr (joined (inr k))
  ])),
  (λ a. elim (left.1 a) [
    | inl j ↦ inl (put.1 (inl j))
    | inr k ↦ elim (apart k) [ inl j ↦ inl (put.1 (inr j)) | inr j ↦ inr j ]
  ]),
)

-- nothing is left
pub all_put : (Put Left All : Type 0) → ¬ Left → (Put ⊎ Left) ↔ All → Put ↔ All
all_put Put Left All none left = ((λ h. left.0 (inl h)), (λ a. elim (left.1 a) [ inl h ↦ h | inr k ↦ absurd (none k) ]))
