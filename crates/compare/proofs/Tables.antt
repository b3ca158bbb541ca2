-- Which geometries a table has.
use Rattle.std.proofs.Common.{◌≡◌, ◌↔◌, ◌+◌, ◌<◌, ◌⊎◌, ℕ, suc, zero, Bool, true, false, cond, List, [], ◌∷◌, length, inl, inr, refl, sym, ap, ◌∙◌, subst, Option, Some, None, slice_get, arith}
use Rattle.std.specs.Prelude.{IsTrue, is_some}
use Rattle.std.specs.Borrow.{Bor}
use Rattle.std.specs.BTreeMap as tree
use Rattle.std.specs.Map.{lookup}
use Rattle.std.specs.Cmp.{ranks, tied_itself}
use Rattle.std.specs.FinMap.{IsAntisymmetric}
use Rattle.std.specs.Ordering.{MatchOrdering, is_eq, nat_cmp}
use Rattle.std.specs.declared.cmp.Ordering.{Ordering}
use Rattle.std.specs.declared.cmp.Ordering.TheVariants.{Less, Equal, Greater}
use Rattle.theory.specs.Lists.{Has}
use Rattle.theory.proofs.ListsOfLists.{get_has, has_get}
use Rattle.topo.specs.contracts.geom.GeomOrd.TheImpl as geometry_order
use Rattle.topo.specs.contracts.geom.GeomOrd.TheImpl.Laws.{total-law, matches_eq-law}
use Rattle.topo.specs.declared.geom.Geom.{Geom}
use Rattle.topo.proofs.SameGeometries.{geometry_same}
use Rattle.compare.specs.Indexed.{Found, Knows, OccursBelow, borrowed_cmp}

order_same : IsAntisymmetric geometry_order.cmp-value.it
order_same g h e = geometry_same g h (matches_eq-law g h ∙ ap is_eq e)

pub below_next : (k n : ℕ) → k < n + 1 → (k < n) ⊎ (k ≡ n)
below_next k n h = go (nat_cmp k n) (ranks k n)
  where
    go : (r : Ordering) → MatchOrdering r (k < n) (k ≡ n) (n < k) → (k < n) ⊎ (k ≡ n)
    go Less i = inl i
    go Equal i = inr i
    go Greater i = absurd (omega (arith, h, i))

pub get_less : {A : Type 0} (l : List A) (k : ℕ) (x : A) → slice_get l k ≡ Some x → k < length l
get_less [] k x e = absurd cc
get_less (y ∷ l) zero x e = omega arith
get_less (y ∷ l) (suc k) x e = let h = get_less l k x e in omega (arith, h)

pub one_at : {A : Type 0} (l : List A) (i j : ℕ) (x y : A) → slice_get l i ≡ Some x → slice_get l j ≡ Some y → i ≡ j → x ≡ y
one_at l i j x y e f s = let h : Some x ≡ Some y = sym e ∙ ap (slice_get l) s ∙ f in cc

pub known_none : (gs : List Geom) (m : tree.BTreeMap (Bor Geom) ℕ) → m.entries ≡ [] → Knows gs 0 m
known_none gs m e = λ q.
    subst (λ es. Found (lookup (tree.is_at (borrowed_cmp q)) es) ↔ OccursBelow gs 0 q.now) (sym e) ((λ f. absurd f), (λ h. absurd (omega (arith, h.1))))

pub known_more : (gs : List Geom) (old new : tree.BTreeMap (Bor Geom) ℕ) (n : ℕ) (g : Bor Geom) (v : ℕ) → slice_get gs n ≡ Some g.now →
    ((q : Bor Geom) → tree.get borrowed_cmp new q ≡ cond (is_eq (borrowed_cmp g q)) (Some v) (tree.get borrowed_cmp old q)) → Knows gs n old → Knows gs (n + 1) new
known_more gs old new n g v at put known = λ q. subst (λ o. Found o ↔ OccursBelow gs (n + 1) q.now) (sym (put q)) (go q (borrowed_cmp g q) refl)
  where
    longer : (x : Geom) → OccursBelow gs n x → OccursBelow gs (n + 1) x
    longer x (k, l, e) = (k, omega (arith, l), e)

    shorter : (q : Bor Geom) (r : Ordering) → borrowed_cmp g q ≡ r → is_eq r ≡ false → OccursBelow gs (n + 1) q.now → OccursBelow gs n q.now
    shorter q r e f (k, l, a) = elim (below_next k n l) [
      | inl i ↦ (k, i, a)
      | inr i ↦ absurd
          (let same : g.now ≡ q.now = one_at gs n k g.now q.now at a (sym i) in
          let ties : r ≡ Equal = sym e ∙ ap (geometry_order.cmp-value.it g.now) (sym same) ∙ tied_itself total-law g.now in
          let no : true ≡ false = sym (ap is_eq ties) ∙ f in
          cc)
    ]

    go : (q : Bor Geom) (r : Ordering) → borrowed_cmp g q ≡ r → Found (cond (is_eq r) (Some v) (tree.get borrowed_cmp old q)) ↔ OccursBelow gs (n + 1) q.now
    go q Less e = ((λ f. longer q.now ((known q).0 f)), (λ h. (known q).1 (shorter q Less e refl h)))
    go q Equal e = ((λ _. (n, omega arith, at ∙ ap Some (order_same g.now q.now e))), (λ _. tt))
    go q Greater e = ((λ f. longer q.now ((known q).0 f)), (λ h. (known q).1 (shorter q Greater e refl h)))

-- what stands below all places is in the list
pub all_below : (gs : List Geom) (g : Geom) → OccursBelow gs (length gs) g ↔ Has g gs
all_below gs g = ((λ h. get_has gs h.0 g h.2), (λ h. let (k, e) = has_get gs g h in (k, get_less gs k g e, e)))

pub has_means : (gs : List Geom) (g : Geom) (b : Bool) (o : Option ℕ) → b ≡ is_some o → Found o ↔ OccursBelow gs (length gs) g → IsTrue b ↔ Has g gs
has_means gs g b None e k = ((λ t. absurd (let f : true ≡ false = sym t ∙ e in cc)), (λ h. absurd (k.1 ((all_below gs g).1 h))))
has_means gs g b (Some v) e k = ((λ _. (all_below gs g).0 (k.0 tt)), (λ _. e))
