-- Positions by their two numbers.
use Rattle.std.proofs.Common.{◌≡◌, ℤ, ◌↔◌, sym, ap, ◌∙◌, inl, inr}
use Rattle.std.specs.Prelude.{Result, Ok, Err}
use Rattle.grid.specs.Place.{Scaling, Transform, IsGridNumber, IsNumberOf, absolute}
use Rattle.grid.specs.Fits.{IsPlaceOf, one_position}
use Rattle.grid.specs.Fault.{IsAxisFault, IsPlaceFault, at_element}
use Rattle.grid.specs.declared.pos.Pos.{Pos}
use Rattle.grid.proofs.Heard.{Answers}
use Rattle.grid.specs.declared.transform.AxisFault.{AxisFault}
use Rattle.grid.specs.declared.transform.AxisFault.TheVariants.{OffGrid, OutOfRange}
use Rattle.grid.specs.declared.transform.GridFault.{GridFault}

same_pair : (a b x y : ℤ) → a ≡ x → b ≡ y → ◌≡◌ {A = ℤ × ℤ} (a, b) (x, y)
same_pair a b x y e f = cc

x_of_place : (t : Transform) (ax ay : ℤ) (p : Pos) → IsPlaceOf t (ax, ay) p → IsNumberOf t.x ax p.x
x_of_place t ax ay p h = record { place = ap (λ (q : ℤ × ℤ). q.0) h.place; fits = h.fits.x }

y_of_place : (t : Transform) (ax ay : ℤ) (p : Pos) → IsPlaceOf t (ax, ay) p → IsNumberOf t.y ay p.y
y_of_place t ax ay p h = record { place = ap (λ (q : ℤ × ℤ). q.1) h.place; fits = h.fits.y }

place_of : (t : Transform) (ax ay : ℤ) (p : Pos) → IsNumberOf t.x ax p.x → IsNumberOf t.y ay p.y → IsPlaceOf t (ax, ay) p
place_of t ax ay p h k = record {
  place = same_pair (absolute t.x p.x) (absolute t.y p.y) ax ay h.place k.place;
  fits = record { x = h.fits; y = k.fits };
}

fault_says : (s : Scaling) (a : ℤ) (r : Result ℤ AxisFault) (f : AxisFault) → r ≡ Err f → Answers s a r → IsAxisFault s a f
fault_says s a r OffGrid e h = h.off_grid.0 e
fault_says s a r OutOfRange e h = h.out_of_range.0 e

never : (s : Scaling) (a n : ℤ) (r : Result ℤ AxisFault) (f : AxisFault) → r ≡ Err f → Answers s a r → IsNumberOf s a n → ⊥
never s a n r f e h k = apart r n f e (h.exact n).1 k where
  apart : (r : Result ℤ AxisFault) (n : ℤ) (f : AxisFault) → r ≡ Err f → (IsNumberOf s a n → r ≡ Ok n) → IsNumberOf s a n → ⊥
  apart r n f e g k = clash r n f e (g k) where
    clash : (r : Result ℤ AxisFault) (n : ℤ) (f : AxisFault) → r ≡ Err f → r ≡ Ok n → ⊥
    clash r n f e g = cc

refused_is_none : (f : GridFault) (p : Pos) → ◌≡◌ {A = Result Pos GridFault} (Err f) (Ok p) → ⊥
refused_is_none f p e = cc

-- ---- x has a fault

pub x_exact : (t : Transform) (ax ay : ℤ) (r : Result ℤ AxisFault) (f : AxisFault) (g : GridFault) → r ≡ Err f → Answers t.x ax r → (p : Pos) → (◌≡◌ {A = Result Pos GridFault} (Err g) (Ok p)) ↔ IsPlaceOf t (ax, ay) p
x_exact t ax ay r f g e h p =
    (λ k. absurd (refused_is_none g p k), λ k. absurd (never t.x ax p.x r f e h (x_of_place t ax ay p k)))

pub x_fault : (t : Transform) (ax ay : ℤ) (r : Result ℤ AxisFault) (f : AxisFault) (g : GridFault) → r ≡ Err f → Answers t.x ax r → g ≡ at_element 0 f → IsPlaceFault t (ax, ay) g
x_fault t ax ay r f g e h k = inl (f, k, fault_says t.x ax r f e h)

-- ---- y has the first fault

pub y_exact : (t : Transform) (ax ay : ℤ) (r : Result ℤ AxisFault) (f : AxisFault) (g : GridFault) → r ≡ Err f → Answers t.y ay r → (p : Pos) → (◌≡◌ {A = Result Pos GridFault} (Err g) (Ok p)) ↔ IsPlaceOf t (ax, ay) p
y_exact t ax ay r f g e h p =
    (λ k. absurd (refused_is_none g p k), λ k. absurd (never t.y ay p.y r f e h (y_of_place t ax ay p k)))

pub y_fault : (t : Transform) (ax ay : ℤ) (q r : Result ℤ AxisFault) (m : ℤ) (f : AxisFault) (g : GridFault) → q ≡ Ok m → r ≡ Err f → Answers t.x ax q → Answers t.y ay r → g ≡ at_element 1 f → IsPlaceFault t (ax, ay) g
y_fault t ax ay q r m f g d e i h k = inr (m, f, (i.exact m).0 d, k, fault_says t.y ay r f e h)

-- ---- both have a grid number

pub inside : (s : Scaling) (a n : ℤ) (r : Result ℤ AxisFault) → r ≡ Ok n → Answers s a r → IsGridNumber n
inside s a n r e h = ((h.exact n).0 e).fits.number

pub both_exact : (t : Transform) (ax ay : ℤ) (q r : Result ℤ AxisFault) (m n : ℤ) (c : Pos) → q ≡ Ok m → r ≡ Ok n → Answers t.x ax q → Answers t.y ay r → c.x ≡ m → c.y ≡ n → (p : Pos) → (◌≡◌ {A = Result Pos GridFault} (Ok c) (Ok p)) ↔ IsPlaceOf t (ax, ay) p
both_exact t ax ay q r m n c d e i h u v p = (
  λ k. let whole : IsPlaceOf t (ax, ay) c = place_of t ax ay c (rw u ((i.exact m).0 d)) (rw v ((h.exact n).0 e)) in
      let P : Pos → Type 0 = λ x. IsPlaceOf t (ax, ay) x in along P c p (same c p k) whole,
  λ k. ap Ok (one_position c p (u ∙ number t.x ax q m p.x d i (x_of_place t ax ay p k)) (v ∙ number t.y ay r n p.y e h (y_of_place t ax ay p k))),
) where
  same : (c p : Pos) → ◌≡◌ {A = Result Pos GridFault} (Ok c) (Ok p) → c ≡ p
  same c p k = cc

  along : (P : Pos → Type 0) (c p : Pos) → c ≡ p → P c → P p
  along P c p e w = rw (sym e) w

  number : (s : Scaling) (a : ℤ) (r : Result ℤ AxisFault) (n k : ℤ) → r ≡ Ok n → Answers s a r → IsNumberOf s a k → n ≡ k
  number s a r n k e h w = one n k (sym e ∙ (h.exact k).1 w) where
    one : (n k : ℤ) → ◌≡◌ {A = Result ℤ AxisFault} (Ok n) (Ok k) → n ≡ k
    one n k e = cc
