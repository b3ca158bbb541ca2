-- The union of two finite maps of finite sets: the keys of both, and under each the union of the two sets.
use Rattle.std.specs.Prelude.{◌≡◌, Bool, true, false, cond, ◌||◌, List, [], ◌∷◌, ◌++◌, Option, Some, None, is_some, refl}
use Rattle.std.proofs.Common.{sym, ◌∙◌, ap}
use Rattle.std.specs.declared.cmp.Ordering.{Ordering}
use Rattle.std.specs.declared.cmp.Ordering.TheVariants.{Less, Equal, Greater}
use Rattle.std.specs.Ordering.{eq_by_cmp, is_eq}
use Rattle.std.specs.Cmp.{IsTotalOrder}
use Rattle.std.specs.List.{list_any}
use Rattle.std.specs.FinMap.{IsAntisymmetric}
use Rattle.shapes.specs.Sets as set
use Rattle.shapes.specs.SetLaws.{or_swaps, or_groups, or_same, same_set, contains-union}
use Rattle.std.specs.FinMap as map

module _ {X : Type 0} {Q : X → X → Ordering} where
  -- what two maps together have under a key
  abbrev pub both : Option (set.FinSet Q) → Option (set.FinSet Q) → Option (set.FinSet Q)
  both None t = t
  both (Some s) None = Some s
  both (Some s) (Some t) = Some (set.union s t)

module _ {K X : Type 0} {R : K → K → Ordering} {Q : X → X → Ordering} where
  abbrev with_some : map.FinMap R (set.FinSet Q) → K → Option (set.FinSet Q) → map.FinMap R (set.FinSet Q)
  with_some m k None = m
  with_some m k (Some s) = map.insert m k s

  -- the map of the keys of a list and what f gives of each
  abbrev made : List K → (K → Option (set.FinSet Q)) → map.FinMap R (set.FinSet Q)
  made [] f = map.empty
  made (k ∷ ks) f = with_some (made ks f) k (f k)

  pub union : map.FinMap R (set.FinSet Q) → map.FinMap R (set.FinSet Q) → map.FinMap R (set.FinSet Q)
  union m n = made (map.keys m ++ map.keys n) (λ k. both (map.get m k) (map.get n k))

any_append : {A : Type 0} (p : A → Bool) (s t : List A) → list_any p (s ++ t) ≡ (list_any p s || list_any p t)
any_append p [] t = refl
any_append p (x ∷ s) t = ap (λ b. p x || b) (any_append p s t) ∙ sym (or_assoc (p x) (list_any p s) (list_any p t))
  where
    or_assoc : (a b c : Bool) → ((a || b) || c) ≡ (a || (b || c))
    or_assoc true b c = refl
    or_assoc false b c = refl

-- the laws of a union of sets
module _ {X : Type 0} {Q : X → X → Ordering} (o : IsTotalOrder Q) (same : IsAntisymmetric Q) where
  pub set_union_commutes : (s t : set.FinSet Q) → set.union s t ≡ set.union t s
  set_union_commutes s t = same_set o same _ _ (λ q.
      contains-union o s t q ∙ or_swaps (set.contains s q) (set.contains t q) ∙ sym (contains-union o t s q))

  pub set_union_associates : (s t u : set.FinSet Q) → set.union (set.union s t) u ≡ set.union s (set.union t u)
  set_union_associates s t u = same_set o same _ _ (λ q.
      contains-union o (set.union s t) u q ∙ ap (λ b. b || set.contains u q) (contains-union o s t q)
      ∙ or_groups (set.contains s q) (set.contains t q) (set.contains u q) ∙ ap (λ b. set.contains s q || b) (sym (contains-union o t u q))
      ∙ sym (contains-union o s (set.union t u) q))

  pub set_union_itself : (s : set.FinSet Q) → set.union s s ≡ s
  set_union_itself s = same_set o same _ _ (λ q. contains-union o s s q ∙ or_same (set.contains s q))

-- the laws of a union of maps
module _ {K X : Type 0} {R : K → K → Ordering} {Q : X → X → Ordering}
    (o : IsTotalOrder R) (same : IsAntisymmetric R) where
  get-made : (ks : List K) (f : K → Option (set.FinSet Q)) (q : K) →
      map.get (made {R = R} {Q = Q} ks f) q ≡ cond (list_any (eq_by_cmp R q) ks) (f q) None
  get-made [] f q = map.get-empty R q
  get-made (k ∷ ks) f q = go (get-made ks f q) (f k) refl (R q k) refl
    where
      go : map.get (made {R = R} {Q = Q} ks f) q ≡ cond (list_any (eq_by_cmp R q) ks) (f q) None →
          (v : Option (set.FinSet Q)) → f k ≡ v → (r : Ordering) → R q k ≡ r →
          map.get (with_some (made {R = R} {Q = Q} ks f) k v) q ≡ cond (is_eq r || list_any (eq_by_cmp R q) ks) (f q) None
      go ih None e Less t = ih
      go ih None e Greater t = ih
      go ih None e Equal t = ih ∙ none (list_any (eq_by_cmp R q) ks) ∙ sym (ap f (same q k t) ∙ e)
        where
          none : (b : Bool) → cond b (f q) None ≡ None
          none true = ap f (same q k t) ∙ e
          none false = refl
      go ih (Some s) e Less t = map.get-insert o (made {R = R} {Q = Q} ks f) k s q ∙ ap (λ r. cond (is_eq r) (Some s) (map.get (made {R = R} {Q = Q} ks f) q)) t ∙ ih
      go ih (Some s) e Greater t = map.get-insert o (made {R = R} {Q = Q} ks f) k s q ∙ ap (λ r. cond (is_eq r) (Some s) (map.get (made {R = R} {Q = Q} ks f) q)) t ∙ ih
      go ih (Some s) e Equal t = map.get-insert o (made {R = R} {Q = Q} ks f) k s q ∙ ap (λ r. cond (is_eq r) (Some s) (map.get (made {R = R} {Q = Q} ks f) q)) t ∙ sym (ap f (same q k t) ∙ e)

  pub get-union : (m n : map.FinMap R (set.FinSet Q)) (q : K) → map.get (union m n) q ≡ both (map.get m q) (map.get n q)
  unfolding union
  get-union m n q =
      get-made (map.keys m ++ map.keys n) _ q
      ∙ ap (λ b. cond b (both (map.get m q) (map.get n q)) None)
      (any_append (eq_by_cmp R q) (map.keys m) (map.keys n)
      ∙ (λ i. sym (map.contains_key-keys m q) i || sym (map.contains_key-keys n q) i))
      ∙ there (map.get m q) (map.get n q)
    where
      there : (a b : Option (set.FinSet Q)) → cond (is_some a || is_some b) (both a b) None ≡ both a b
      there None None = refl
      there None (Some t) = refl
      there (Some s) None = refl
      there (Some s) (Some t) = refl

  module _ (o' : IsTotalOrder Q) (same' : IsAntisymmetric Q) where
    pub union_commutes : (m n : map.FinMap R (set.FinSet Q)) → union m n ≡ union n m
    union_commutes m n = map.same_map o same _ _ (λ q.
        get-union m n q ∙ swap (map.get m q) (map.get n q) ∙ sym (get-union n m q))
      where
        swap : (a b : Option (set.FinSet Q)) → both a b ≡ both b a
        swap None None = refl
        swap None (Some t) = refl
        swap (Some s) None = refl
        swap (Some s) (Some t) = ap Some (set_union_commutes o' same' s t)

    pub union_associates : (m n p : map.FinMap R (set.FinSet Q)) → union (union m n) p ≡ union m (union n p)
    union_associates m n p = map.same_map o same _ _ (λ q.
        get-union (union m n) p q ∙ ap (λ a. both a (map.get p q)) (get-union m n q)
        ∙ regroup (map.get m q) (map.get n q) (map.get p q)
        ∙ ap (λ a. both (map.get m q) a) (sym (get-union n p q)) ∙ sym (get-union m (union n p) q))
      where
        regroup : (a b c : Option (set.FinSet Q)) → both (both a b) c ≡ both a (both b c)
        regroup None b c = refl
        regroup (Some s) None c = refl
        regroup (Some s) (Some t) None = refl
        regroup (Some s) (Some t) (Some u) = ap Some (set_union_associates o' same' s t u)

    pub union_itself : (m : map.FinMap R (set.FinSet Q)) → union m m ≡ m
    union_itself m = map.same_map o same _ _ (λ q. get-union m m q ∙ once (map.get m q))
      where
        once : (a : Option (set.FinSet Q)) → both a a ≡ a
        once None = refl
        once (Some s) = ap Some (set_union_itself o' same' s)

    pub union_empty : (m : map.FinMap R (set.FinSet Q)) → union m map.empty ≡ m
    union_empty m = map.same_map o same _ _ (λ q.
        get-union m map.empty q ∙ ap (λ a. both (map.get m q) a) (map.get-empty R q) ∙ alone (map.get m q))
      where
        alone : (a : Option (set.FinSet Q)) → both a None ≡ a
        alone None = refl
        alone (Some s) = refl
