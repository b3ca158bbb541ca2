-- What differs between lists of geometries and keys differs between two others that are alike member by member.
use Rattle.std.proofs.Common.{◌≡◌, ◌↔◌, ℕ, zero, suc, List, [], ◌∷◌, refl, sym, ap, ◌∙◌, subst, Some, slice_get}
use Rattle.shapes.specs.declared.shape.Id.{Id}
use Rattle.shapes.specs.declared.shape.Id.TheVariants as id
use Rattle.theory.specs.Lists.{Has, Pairwise}
use Rattle.theory.proofs.ListsOfLists.{get_has, has_get}
use Rattle.topo.specs.declared.geom.Geom.{Geom}
use Rattle.compare.specs.Differences.{ArePartnersBy, IsAloneBy, IsDifferenceBy, IsGoneBy}
use Rattle.compare.specs.Placed.{ArePartnersAt, IsDifferenceAt, IsGoneAt, IsOnly}
use Rattle.compare.specs.declared.difference.LayerDifference.{LayerDifference}
use Rattle.compare.proofs.Tables.{one_at}

-- what stands at a place of the one list, and of the other
module _ {A B : Type 0} (R : A → B → Type 0) where
  pub from_b : (xs : List A) (ys : List B) → Pairwise R xs ys → (i : ℕ) (y : B) → slice_get ys i ≡ Some y → (x : A) × (slice_get xs i ≡ Some x) × R x y
  from_b [] [] p i y e = absurd cc
  from_b [] (z ∷ ys) p i y e = absurd p
  from_b (x ∷ xs) [] p i y e = absurd p
  from_b (x ∷ xs) (z ∷ ys) p zero y e = let s : z ≡ y = cc in (x, refl, subst (R x) s p.0)
  from_b (x ∷ xs) (z ∷ ys) p (suc i) y e = from_b xs ys p.1 i y e

  pub from_a : (xs : List A) (ys : List B) → Pairwise R xs ys → (i : ℕ) (x : A) → slice_get xs i ≡ Some x → (y : B) × (slice_get ys i ≡ Some y) × R x y
  from_a [] [] p i x e = absurd cc
  from_a [] (z ∷ ys) p i x e = absurd p
  from_a (z ∷ xs) [] p i x e = absurd p
  from_a (z ∷ xs) (y ∷ ys) p zero x e = let s : z ≡ x = cc in (y, refl, subst (λ w. R w y) s p.0)
  from_a (z ∷ xs) (y ∷ ys) p (suc i) x e = from_a xs ys p.1 i x e

module _ {A K : Type 0} (no_key : K) (key : A → K) (R : A → Geom → Type 0) (S : K → Id → Type 0)
    (alike : (a c : A) (b d : Geom) → R a b → R c d → (a ≡ c) ↔ (b ≡ d))
    (same : (j k : K) (x y : Id) → S j x → S k y → (j ≡ k) ↔ (x ≡ y))
    (missing : (k : K) (x : Id) → S k x → (k ≡ no_key) ↔ (x ≡ id.None)) where
  abbrev KeyedBy : A → Id → Type 0
  KeyedBy a x = S (key a) x

  module _ (xs : List A) (ks : List Id) (p : Pairwise KeyedBy xs ks) where
    alone_a : (i : ℕ) (x : A) (k : Id) → slice_get xs i ≡ Some x → S (key x) k → IsOnly ks i k → IsAloneBy no_key key xs i x
    alone_a i x k at r h = record {
      at = at;
      some = λ e. h.some ((missing (key x) k r).0 e);
      only = λ j z a e. let (w, b, q) = from_a KeyedBy xs ks p j z a in h.only j (b ∙ ap Some ((same (key z) (key x) w k q r).0 e));
    }

    alone_b : (i : ℕ) (x : A) (k : Id) → S (key x) k → slice_get ks i ≡ Some k → IsAloneBy no_key key xs i x → IsOnly ks i k
    alone_b i x k r at h = record {
      at = at;
      some = λ e. h.some ((missing (key x) k r).1 e);
      only = λ j a. let (z, b, q) = from_b KeyedBy xs ks p j k a in h.only j z b ((same (key z) (key x) k k q r).1 refl);
    }

  module _ (xs us : List A) (gs hs : List Geom) (ks ls : List Id) (p : Pairwise R xs gs) (q : Pairwise R us hs) (s : Pairwise KeyedBy xs ks) (t : Pairwise KeyedBy us ls) where
    has_a : (x : A) (g : Geom) → R x g → Has g hs → Has x us
    has_a x g r there =
        let (j, b) = has_get hs g there in
        let (u, c, w) = from_b R us hs q j g b in
        get_has us j x (c ∙ ap Some (sym ((alike x u g g r w).1 refl)))

    has_b : (x : A) (g : Geom) → R x g → Has x us → Has g hs
    has_b x g r there =
        let (j, b) = has_get us x there in
        let (h, c, w) = from_a R us hs q j x b in
        get_has hs j g (c ∙ ap Some (sym ((alike x x g h r w).0 refl)))

    partners_a : (i j : ℕ) → ArePartnersAt gs hs ks ls i j → ArePartnersBy no_key key xs us i j
    partners_a i j h =
        let (x, a, r) = from_b R xs gs p i h.old h.old_at in
        let (k, b, v) = from_a KeyedBy xs ks s i x a in
        let (u, c, w) = from_b KeyedBy us ls t j h.key h.of_new.at in
        let one : k ≡ h.key = one_at ks i i k h.key b h.of_old.at refl in
        let of_x : S (key x) h.key = subst (S (key x)) one v in
        record {
          old = x;
          new = u;
          of_old = alone_a xs ks s i x h.key a of_x h.of_old;
          of_new = alone_a us ls t j u h.key c w h.of_new;
          same = (same (key x) (key u) h.key h.key of_x w).1 refl;
          differ = λ e. h.none (has_b x h.old r (get_has us j x (c ∙ ap Some (sym e))));
        }

    partners_b : (i j : ℕ) → ArePartnersBy no_key key xs us i j → ArePartnersAt gs hs ks ls i j
    partners_b i j h =
        let (g, a, r) = from_a R xs gs p i h.old h.of_old.at in
        let (k, b, v) = from_a KeyedBy xs ks s i h.old h.of_old.at in
        let (l, c, w) = from_a KeyedBy us ls t j h.new h.of_new.at in
        let one : k ≡ l = (same (key h.old) (key h.new) k l v w).0 h.same in
        record {
          old = g;
          key = k;
          old_at = a;
          of_old = alone_b xs ks s i h.old k v b h.of_old;
          of_new = subst (IsOnly ls j) (sym one) (alone_b us ls t j h.new l w c h.of_new);
          none = λ there.
              let (n, d) = has_get us h.old (has_a h.old g r there) in
              let place : n ≡ j = h.of_new.only n h.old d h.same in
              h.differ (one_at us n j h.old h.new d h.of_new.at place);
        }

    gone_a : (i : ℕ) → IsGoneAt gs hs ks ls i → IsGoneBy no_key key xs us i
    gone_a i h =
        let (x, a, r) = from_b R xs gs p i h.member h.at in
        record { member = x; at = a; none = λ k. h.none (has_b x h.member r k); alone = λ j k. h.alone j (partners_b i j k) }

    gone_b : (i : ℕ) → IsGoneBy no_key key xs us i → IsGoneAt gs hs ks ls i
    gone_b i h =
        let (g, a, r) = from_a R xs gs p i h.member h.at in
        record { member = g; at = a; none = λ k. h.none (has_a h.member g r k); alone = λ j k. h.alone j (partners_a i j k) }

  pub difference_alike : (xs us : List A) (gs hs : List Geom) (ks ls : List Id) → Pairwise R xs gs → Pairwise R us hs → Pairwise KeyedBy xs ks → Pairwise KeyedBy us ls →
      (d : LayerDifference) → IsDifferenceAt gs hs ks ls d → IsDifferenceBy no_key key xs us d
  difference_alike xs us gs hs ks ls p q s t d h = record {
    removed = λ i. ((λ k. gone_a xs us gs hs ks ls p q s t i ((h.removed i).0 k)), (λ k. (h.removed i).1 (gone_b xs us gs hs ks ls p q s t i k)));
    added = λ j. ((λ k. gone_a us xs hs gs ls ks q p t s j ((h.added j).0 k)), (λ k. (h.added j).1 (gone_b us xs hs gs ls ks q p t s j k)));
    changed = λ c. ((λ k. partners_a xs us gs hs ks ls p q s t c.old c.new ((h.changed c).0 k)), (λ k. (h.changed c).1 (partners_b xs us gs hs ks ls p q s t c.old c.new k)));
    removed_ascend = h.removed_ascend;
    added_ascend = h.added_ascend;
    changed_ascend = h.changed_ascend;
  }
