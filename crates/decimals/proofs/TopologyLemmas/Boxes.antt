-- The transform of corners, by its axes.
use Rattle.std.proofs.Common.{◌≡◌, ℕ, List, Err, Result, ap}
use Rattle.numerals.specs.Numeral.{Measure}
use Rattle.topo.specs.Parts.{Corners}
use Rattle.decimals.specs.Topology.BoxTransform.{box_axis, box_scale_text, corners_transform}
use Rattle.decimals.specs.Topology.DecimalTransform.{DecimalTransformParts}
use Rattle.decimals.specs.Topology.QuantizedAxis.{AxisParts}
use Rattle.decimals.specs.Topology.Unit.{absolute_text}
use Rattle.decimals.specs.declared.topology.fault.DecimalFault.{DecimalFault}

-- a fault, of whatever was to be made
pub same_fault : {A B : Type 0} (f g : DecimalFault) → ◌≡◌ {A = Result A DecimalFault} (Err f) (Err g) → ◌≡◌ {A = Result B DecimalFault} (Err f) (Err g)
same_fault f g e = let same : f ≡ g = cc in ap Err same

-- a transform by its parts
abbrev pub parts : Measure → List ℕ → List ℕ → List ℕ → List ℕ → AxisParts → AxisParts → DecimalTransformParts
parts u a b x y p q = record { unit = u; scale_x = a; scale_y = b; translate_x = x; translate_y = y; x = p; y = q }

pub corners_are : (u : Measure) (steps : ℕ) (k : Corners) (a b x y : List ℕ) (p q : AxisParts) → a ≡ box_scale_text u steps k.0 k.2 → b ≡ box_scale_text u steps k.1 k.3
    → x ≡ absolute_text u k.0 → y ≡ absolute_text u k.1 → p ≡ box_axis u steps k.0 k.2 → q ≡ box_axis u steps k.1 k.3 → parts u a b x y p q ≡ corners_transform u steps k
corners_are u steps k a b x y p q ea eb ex ey ep eq = (λ i. parts u (ea i) (eb i) (ex i) (ey i) (ep i) (eq i))
