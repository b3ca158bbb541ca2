-- The laws of unions, as the implementations of a shard give them.
use Rattle.std.specs.Prelude.{◌≡◌}
use Rattle.std.proofs.Common.{sym, ◌∙◌, ap}
use Rattle.std.specs.Cmp.Lexicographic.{nat_list_cmp_total}
use Rattle.shapes.specs.Union as unions
use Rattle.shapes.specs.Union.{union}
use Rattle.shapes.specs.OrderLaws.{feature_cmp_total, same_feature, same_text}
use Rattle.shapes.specs.Maps.{Layers}
use Rattle.merging.specs.Meaning.{Commutes, Associates, IsIdempotent}
use Rattle.std.specs.FinMap as map

pub union_commutes : (m n : Layers) → union m n ≡ union n m
union_commutes m n = unions.union_commutes nat_list_cmp_total same_text feature_cmp_total same_feature m n

pub union_associates : (m n p : Layers) → union (union m n) p ≡ union m (union n p)
union_associates m n p = unions.union_associates nat_list_cmp_total same_text feature_cmp_total same_feature m n p

pub union_itself : (m : Layers) → union m m ≡ m
union_itself m = unions.union_itself nat_list_cmp_total same_text feature_cmp_total same_feature m

pub union_empty : (m : Layers) → union m map.empty ≡ m
union_empty m = unions.union_empty nat_list_cmp_total same_text feature_cmp_total same_feature m

-- where a join answers the union, it has the laws of the union
pub union-Commutes : {S : Type 0} (f : S → Layers) → Commutes (λ a b c. f c ≡ union (f a) (f b)) f
union-Commutes f a b ab ba h k = h ∙ union_commutes (f a) (f b) ∙ sym k

-- where a join answers the union, it is associative
pub union-Associates : {S : Type 0} (f : S → Layers) → Associates (λ a b c. f c ≡ union (f a) (f b)) f
union-Associates f a b c ab bc left right h k p q =
    k ∙ ap (λ m. union m (f c)) h ∙ union_associates (f a) (f b) (f c) ∙ ap (union (f a)) (sym p) ∙ sym q

-- where a join answers the union, a map joined with itself stays as it is
pub union-IsIdempotent : {S : Type 0} (f : S → Layers) → IsIdempotent (λ a b c. f c ≡ union (f a) (f b)) f
union-IsIdempotent f a aa h = h ∙ union_itself (f a)
