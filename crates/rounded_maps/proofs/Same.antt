-- Lists that have the same members.
use Rattle.std.proofs.Common.{◌≡◌, ⊎_elim, List, ◌++◌, subst, sym}
use Rattle.reading.specs.Meant.{AreFeatures}
use Rattle.reading.specs.Plain.{Plain}
use Rattle.shapes.specs.Maps.{Features}
use Rattle.theory.specs.Lists.{Has}
use Rattle.theory.proofs.Lists.{Has-append, Has-append_left, Has-append_right}
use Rattle.rounded_maps.specs.Built.{HaveSame}

pub same_equal : {X : Type 0} (xs ys : List X) → xs ≡ ys → HaveSame xs ys
same_equal xs ys e x = ((λ h. subst (Has x) e h), (λ h. subst (Has x) (sym e) h))

-- others behind them
pub same_before : {X : Type 0} (xs ys rest : List X) → HaveSame xs ys → HaveSame (xs ++ rest) (ys ++ rest)
same_before xs ys rest h x = (
  λ k. ⊎_elim (λ a. Has-append_left x ys rest ((h x).0 a)) (λ b. Has-append_right x ys rest b) (Has-append x xs rest k),
  λ k. ⊎_elim (λ a. Has-append_left x xs rest ((h x).1 a)) (λ b. Has-append_right x xs rest b) (Has-append x ys rest k),
)

pub same_then : {X : Type 0} (xs ys zs : List X) → HaveSame xs ys → HaveSame ys zs → HaveSame xs zs
same_then xs ys zs h k x = ((λ a. (k x).0 ((h x).0 a)), (λ a. (h x).1 ((k x).1 a)))

-- the set of the one is that of the other
pub same_features : (made : Features) (xs ys : List Plain) → HaveSame xs ys → AreFeatures made xs → AreFeatures made ys
same_features made xs ys h are = record { only = λ f k. (h _).0 (are.only f k); all = λ p k. are.all p ((h p).1 k) }
