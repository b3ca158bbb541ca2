-- The numbers of ids.
use Rattle.std.specs.Prelude.{◌<◌, ◌^◌, ℤ, pos, negsuc, ⊤}
use Rattle.std.proofs.Props.{props}
use Rattle.shapes.specs.declared.shape.Id.{Id}
use Rattle.shapes.specs.declared.shape.Id.TheVariants.{None, Number, Text}

-- the numbers of i64
abbrev pub IsI64 : ℤ → Type 0
IsI64 (pos n) = n < 2 ^ 63
IsI64 (negsuc n) = n < 2 ^ 63

-- where the id is a number, it is one of i64
abbrev pub HasI64 : Id → Type 0
HasI64 None = ⊤
HasI64 (Number n) = IsI64 n
HasI64 (Text s) = ⊤

pub IsI64-prop : (z : ℤ) → IsProp (IsI64 z)
IsI64-prop (pos n) = Prim.hlevel props
IsI64-prop (negsuc n) = Prim.hlevel props

-- two proofs that an id's number is one of i64 are equal
pub HasI64-prop : (i : Id) → IsProp (HasI64 i)
HasI64-prop None = Prim.hlevel props
HasI64-prop (Number n) = IsI64-prop n
HasI64-prop (Text s) = Prim.hlevel props
