-- How much was fixed, in all and of each feature.
use Rattle.std.specs.Prelude.{◌≡◌, ℕ, ◌+◌, ◌-◌, ◌^◌, min, Bool, ◌||◌, cond, List, [], ◌∷◌, ◌++◌, nat_lt}
use Rattle.fixing.specs.Left.{one_more}
use Rattle.fixing.specs.declared.rules.FeatureFixes.{FeatureFixes}
use Rattle.fixing.specs.declared.rules.Fixes.{Fixes}

-- a sum of counts, up to the greatest
abbrev pub sum_of_counts : ℕ → ℕ → ℕ
sum_of_counts a b = min (a + b) (2 ^ 64 - 1)

-- both together
abbrev pub sum_of_fixes : Fixes → Fixes → Fixes
sum_of_fixes a b = record {
  closed = sum_of_counts a.closed b.closed;
  collapsed = sum_of_counts a.collapsed b.collapsed;
  folded = sum_of_counts a.folded b.folded;
  collections = sum_of_counts a.collections b.collections;
  lost = sum_of_counts a.lost b.lost;
}

-- whether anything was closed, lost or split
abbrev pub is_any : Fixes → Bool
is_any f = (((nat_lt 0 f.closed || nat_lt 0 f.collapsed) || nat_lt 0 f.folded) || nat_lt 0 f.collections) || nat_lt 0 f.lost

-- nothing
abbrev pub no_fixes : Fixes
no_fixes = record { closed = 0; collapsed = 0; folded = 0; collections = 0; lost = 0 }

-- the sum of all
abbrev pub total_from : Fixes → List Fixes → Fixes
total_from sum [] = sum
total_from sum (f ∷ l) = total_from (sum_of_fixes sum f) l

-- what was fixed of the feature with this number, if anything was
abbrev pub told : ℕ → Fixes → List FeatureFixes
told n f = cond (is_any f) (record { feature = n; fixes = f } ∷ []) []

-- what was fixed of each feature, those of which anything was, numbered from n
abbrev pub if_from : ℕ → List Fixes → List FeatureFixes
if_from n [] = []
if_from n (f ∷ l) = told n f ++ if_from (one_more n) l

-- these are the sum of what was fixed of each feature, and the list of it
abbrev pub AreCounted : Fixes → List FeatureFixes → List Fixes → Type 0
AreCounted sum list each = (sum ≡ total_from no_fixes each) × (list ≡ if_from 0 each)
