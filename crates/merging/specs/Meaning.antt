-- What shards mean, and the laws of their join.
use Rattle.std.specs.Prelude.{◌≡◌, Bool, ◌&&◌}
use Rattle.std.specs.Ordering.{int_eq}
use Rattle.grid.specs.Place.{Scaling, Transform}

abbrev pub same_scaling : Scaling → Scaling → Bool
same_scaling a b = int_eq a.scale b.scale && int_eq a.translate b.translate

-- whether two grids have the same numbers
abbrev pub same_grid : Transform → Transform → Bool
same_grid g h = same_scaling g.x h.x && same_scaling g.y h.y

-- two answers to the joins of a and b, in either order, mean the same
abbrev pub Commutes : {S M : Type 0} → (S → S → S → Type 0) → (S → M) → Type 0
Commutes {S = S} joined meaning = (a b ab ba : S) → joined a b ab → joined b a ba → meaning ab ≡ meaning ba

-- so do the answers to the joins of a, b and c in either grouping
abbrev pub Associates : {S M : Type 0} → (S → S → S → Type 0) → (S → M) → Type 0
Associates {S = S} joined meaning =
    (a b c ab bc left right : S) → joined a b ab → joined ab c left → joined b c bc → joined a bc right → meaning left ≡ meaning right

-- a shard joined with itself means what it meant
abbrev pub IsIdempotent : {S M : Type 0} → (S → S → S → Type 0) → (S → M) → Type 0
IsIdempotent {S = S} joined meaning = (a aa : S) → joined a a aa → meaning aa ≡ meaning a
