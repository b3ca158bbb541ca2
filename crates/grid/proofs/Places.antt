-- What a quotient, a fault and a found number say of grid numbers and positions.
use Rattle.std.proofs.Common.{◌≡◌, ℤ, ◌+ℤ◌, ◌-ℤ◌, ◌*ℤ◌, ◌↔◌, int_div, refl, sym, ap, ◌∙◌, arith}
use Rattle.std.specs.Prelude.{Result, Ok, Err, IfOk, IfErr, IsErrOf}
use Rattle.std.proofs.lemmas.Int.{ints}
use Rattle.grid.specs.Place.{Scaling, IsScaling, IsScale, IsGridNumber, IsAbsolute, IsMultiple, IsOnGrid, IsNumberOf, IsBeyond, absolute}
use Rattle.grid.specs.Fault.{IsAxisFault}
use Rattle.grid.specs.declared.transform.AxisFault.{AxisFault}
use Rattle.grid.specs.declared.transform.AxisFault.TheVariants.{OffGrid, OutOfRange}
use Rattle.grid.proofs.Multiples.{same_factor, product_of_quotient, rest_of_multiple}

back : (p a t : ℤ) → p ≡ a -ℤ t → p +ℤ t ≡ a
back p a t e = omega (arith, ints)

forth : (p a t : ℤ) → p +ℤ t ≡ a → p ≡ a -ℤ t
forth p a t e = omega (arith, ints)

pub absolute_by_product : (s : Scaling) (a n : ℤ) → n *ℤ s.scale ≡ a -ℤ s.translate → absolute s n ≡ a
absolute_by_product s a n e = back (n *ℤ s.scale) a s.translate e

pub product_by_absolute : (s : Scaling) (a n : ℤ) → absolute s n ≡ a → n *ℤ s.scale ≡ a -ℤ s.translate
product_by_absolute s a n e = forth (n *ℤ s.scale) a s.translate e

-- a number of the grid is found by its absolute number
pub same_number : (s : Scaling) (m n : ℤ) → IsScaling s → absolute s m ≡ absolute s n → m ≡ n
same_number s m n h e =
    same_factor m n s.scale h.scale.low
    (product_by_absolute s (absolute s n) m e ∙ sym (product_by_absolute s (absolute s n) n refl))

pub on_grid_number : (s : Scaling) (a n : ℤ) → IsNumberOf s a n → IsOnGrid s a
on_grid_number s a n h = record { number = n; product = product_by_absolute s a n h.place }

pub on_grid_beyond : (s : Scaling) (a : ℤ) → IsBeyond s a → IsOnGrid s a
on_grid_beyond s a h = record { number = h.number; product = h.product }

-- what has a grid number that fits is not beyond the limits
pub not_both : (s : Scaling) (a n : ℤ) → IsScaling s → IsNumberOf s a n → IsBeyond s a → ⊥
not_both s a n h f b =
    let same : n ≡ b.number = same_factor n b.number s.scale h.scale.low (product_by_absolute s a n f.place ∙ sym b.product) in
    b.outside (rw (sym same) f.fits.number) (rw (sym f.place) f.fits.absolute)

pub number_of_product : (s : Scaling) (a n : ℤ) → n *ℤ s.scale ≡ a -ℤ s.translate → IsGridNumber n → IsAbsolute a → IsNumberOf s a n
number_of_product s a n e i j =
    let p : absolute s n ≡ a = absolute_by_product s a n e in
    record { place = p; fits = record { number = i; absolute = rw p j } }

-- the quotient of the offset, where the offset is a multiple
pub product_of_offset : (s : Scaling) (a o q : ℤ) → IsScale s.scale → o ≡ a -ℤ s.translate → q ≡ int_div o s.scale → IsMultiple s.scale o → q *ℤ s.scale ≡ a -ℤ s.translate
product_of_offset s a o q h e f m =
    ap (λ x. x *ℤ s.scale) f ∙ (product_of_quotient s.scale o (rest_of_multiple s.scale o h.low m) ∙ e)

-- ---- an answer that says so much is the only right one

some_number : (s : Scaling) (a m n : ℤ) → IsScaling s → IsNumberOf s a m → IsNumberOf s a n → m ≡ n
some_number s a m n h f g = same_number s m n h (f.place ∙ sym g.place)

pub exact_number : (s : Scaling) (a : ℤ) (r : Result ℤ AxisFault) → IsScaling s → IfOk r (IsNumberOf s a) → IfErr r (IsAxisFault s a) → (n : ℤ) → (r ≡ Ok n) ↔ IsNumberOf s a n
exact_number s a (Ok m) h f g n = (λ e. rw (sym (inside m n e)) f, λ k. ap Ok (some_number s a m n h f k)) where
  inside : (m n : ℤ) → ◌≡◌ {A = Result ℤ AxisFault} (Ok m) (Ok n) → m ≡ n
  inside m n e = cc
exact_number s a (Err OffGrid) h f g n = (λ e. absurd (apart n e), λ k. absurd (g (on_grid_number s a n k))) where
  apart : (n : ℤ) → ◌≡◌ {A = Result ℤ AxisFault} (Err OffGrid) (Ok n) → ⊥
  apart n e = cc
exact_number s a (Err OutOfRange) h f g n = (λ e. absurd (apart n e), λ k. absurd (not_both s a n h k g)) where
  apart : (n : ℤ) → ◌≡◌ {A = Result ℤ AxisFault} (Err OutOfRange) (Ok n) → ⊥
  apart n e = cc

pub exact_off_grid : (s : Scaling) (a : ℤ) (r : Result ℤ AxisFault) → IfOk r (IsNumberOf s a) → IfErr r (IsAxisFault s a) → IsErrOf r OffGrid ↔ (IsOnGrid s a → ⊥)
exact_off_grid s a (Ok m) f g = (λ e. absurd (apart m e), λ k. absurd (k (on_grid_number s a m f))) where
  apart : (m : ℤ) → ◌≡◌ {A = Result ℤ AxisFault} (Ok m) (Err OffGrid) → ⊥
  apart m e = cc
exact_off_grid s a (Err OffGrid) f g = (λ _. g, λ _. refl)
exact_off_grid s a (Err OutOfRange) f g = (λ e. absurd (apart e), λ k. absurd (k (on_grid_beyond s a g))) where
  apart : ◌≡◌ {A = Result ℤ AxisFault} (Err OutOfRange) (Err OffGrid) → ⊥
  apart e = cc

pub exact_out_of_range : (s : Scaling) (a : ℤ) (r : Result ℤ AxisFault) → IsScaling s → IfOk r (IsNumberOf s a) → IfErr r (IsAxisFault s a) → IsErrOf r OutOfRange ↔ IsBeyond s a
exact_out_of_range s a (Ok m) h f g = (λ e. absurd (apart m e), λ k. absurd (not_both s a m h f k)) where
  apart : (m : ℤ) → ◌≡◌ {A = Result ℤ AxisFault} (Ok m) (Err OutOfRange) → ⊥
  apart m e = cc
exact_out_of_range s a (Err OffGrid) h f g = (λ e. absurd (apart e), λ k. absurd (g (on_grid_beyond s a k))) where
  apart : ◌≡◌ {A = Result ℤ AxisFault} (Err OffGrid) (Err OutOfRange) → ⊥
  apart e = cc
exact_out_of_range s a (Err OutOfRange) h f g = (λ _. g, λ _. refl)
