-- What an axis answers, heard from functions that write its numbers as 64 bits.
use Rattle.std.proofs.Common.{◌≡◌, ℤ, ◌↔◌, subst}
use Rattle.std.specs.Prelude.{Result, Ok, IfOk, IfErr, IsErrOf}
use Rattle.grid.specs.Place.{Scaling, IsScaling, IsOnGrid, IsNumberOf, IsBeyond, scaling}
use Rattle.grid.specs.Fault.{IsAxisFault}
use Rattle.grid.specs.Computed.{axis_number}
use Rattle.grid.specs.declared.transform.AxisFault.{AxisFault}
use Rattle.grid.specs.declared.transform.AxisFault.TheVariants.{OffGrid, OutOfRange}
use Rattle.grid.proofs.Places.{exact_number, exact_off_grid, exact_out_of_range}
use Rattle.grid.proofs.Judged.{answer_computed}

-- what an axis answers
pub record Answers (s : Scaling) (a : ℤ) (r : Result ℤ AxisFault) : Type 0 where
  pub exact : (n : ℤ) → (r ≡ Ok n) ↔ IsNumberOf s a n
  pub off_grid : IsErrOf r OffGrid ↔ (IsOnGrid s a → ⊥)
  pub out_of_range : IsErrOf r OutOfRange ↔ IsBeyond s a
  pub computed : r ≡ axis_number s a

-- the number and the fault are judged of k, t and b, which are those of the axis and a
pub answers : (s : Scaling) (scale translate a k t b : ℤ) (r : Result ℤ AxisFault) → k ≡ scale → t ≡ translate → b ≡ a → scaling scale translate ≡ s → IsScaling (scaling scale translate) →
    IfOk r (IsNumberOf (scaling k t) b) → IfErr r (IsAxisFault (scaling k t) b) → Answers s a r
answers s scale translate a k t b r e f g v h number fault =
    subst (λ x. Answers x a r) v (record {
      exact = exact_number p a r h n m;
      off_grid = exact_off_grid p a r n m;
      out_of_range = exact_out_of_range p a r h n m;
      computed = answer_computed p a r h n m;
    })
  where
    p : Scaling
    p = scaling scale translate

    n : IfOk r (IsNumberOf p a)
    n = subst (λ x. IfOk r (IsNumberOf p x)) g (subst (λ x. IfOk r (IsNumberOf (scaling scale x) b)) f (subst (λ x. IfOk r (IsNumberOf (scaling x t) b)) e number))

    m : IfErr r (IsAxisFault p a)
    m = subst (λ x. IfErr r (IsAxisFault p x)) g (subst (λ x. IfErr r (IsAxisFault (scaling scale x) b)) f (subst (λ x. IfErr r (IsAxisFault (scaling x t) b)) e fault))

-- an answer for b, which is a
pub heard : (s : Scaling) (a b : ℤ) (r : Result ℤ AxisFault) → b ≡ a → ((n : ℤ) → (r ≡ Ok n) ↔ IsNumberOf s b n) → (IsErrOf r OffGrid ↔ (IsOnGrid s b → ⊥)) → (IsErrOf r OutOfRange ↔ IsBeyond s b) → r ≡ axis_number s b → Answers s a r
heard s a b r e exact off_grid out_of_range computed =
    subst (λ x. Answers s x r) e (record { exact = exact; off_grid = off_grid; out_of_range = out_of_range; computed = computed })
