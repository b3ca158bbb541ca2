-- How many times ids are counted, and which numbers are listed.
use Rattle.std.proofs.Common.{◌≡◌, ◌+◌, ◌<◌, ◌≤◌, ◌^◌, ℕ, zero, suc, Bool, true, false, cond, List, [], ◌∷◌, ◌++◌, length, take, drop, refl, sym, ap, ◌∙◌, Some, unwrap_or, slice_get, get_or, append_assoc, arith, rules}
use Rattle.std.specs.Prelude.{◌&&◌, nat_lt, not}
use Rattle.std.specs.Borrow.{Bor}
use Rattle.std.specs.BTreeMap as tree
use Rattle.std.specs.Map.{lookup}
use Rattle.std.specs.Cmp.{Equal-is, tied_itself}
use Rattle.std.specs.Ordering.{is_eq}
use Rattle.std.specs.declared.cmp.Ordering.{Ordering}
use Rattle.std.specs.declared.cmp.Ordering.TheVariants.{Less, Equal, Greater}
use Rattle.lines.proofs.Dropping.{drop_item}
use Rattle.shapes.specs.Order.{id_cmp}
use Rattle.shapes.specs.OrderLaws.{same_id}
use Rattle.shapes.specs.contracts.shape.IdOrd.TheImpl as id_order
use Rattle.shapes.specs.contracts.shape.IdOrd.TheImpl.Laws.{total-law}
use Rattle.shapes.specs.declared.shape.Id.{Id}
use Rattle.topo.specs.declared.geom.Geom.{Geom}
use Rattle.compare.specs.Quality.Ids.{count_of, ids_in, is_missing, borrowed_cmp, numbers_of, one_if, occurs_again, times}

id_derived_is : (a b : Id) → id_order.cmp-value.it a b ≡ id_cmp a b
id_derived_is a b = search rules

one_id : (a b : Id) → id_order.cmp-value.it a b ≡ Equal → a ≡ b
one_id a b e = same_id a b (sym (id_derived_is a b) ∙ e)

same_ties : (a b : Id) → a ≡ b → is_eq (id_cmp b a) ≡ true
same_ties a b e =
    ap is_eq (sym (id_derived_is b a)) ∙ ap (λ w. is_eq (id_order.cmp-value.it b w)) e ∙ ap is_eq (tied_itself total-law b)

-- ---- counts

-- one more id
count_next : (q : Id) (ids : List Geom) (i : ℕ) (g : Geom) → slice_get ids i ≡ Some g →
    count_of q (ids_in (take (suc i) ids)) ≡ count_of q (ids_in (take i ids)) + one_if (is_eq (id_cmp q g.id))
count_next q [] i g e = absurd cc
count_next q (x ∷ ids) zero g e =
    let s : x ≡ g = cc in
    let t : one_if (is_eq (id_cmp q x.id)) ≡ one_if (is_eq (id_cmp q g.id)) = ap (λ w. one_if (is_eq (id_cmp q w.id))) s in
    omega (arith, t)
count_next q (x ∷ ids) (suc i) g e = let h = count_next q ids i g e in omega (arith, h)

at_most_one : (b : Bool) → one_if b ≤ 1
at_most_one true = omega arith
at_most_one false = omega arith

count_bound : (q : Id) (ids : List Geom) (i : ℕ) → count_of q (ids_in (take i ids)) ≤ i
count_bound q [] zero = omega arith
count_bound q [] (suc i) = omega arith
count_bound q (x ∷ ids) zero = omega arith
count_bound q (x ∷ ids) (suc i) =
    let h = count_bound q ids i in
    let o = at_most_one (is_eq (id_cmp q x.id)) in
    omega (arith, h, o)

pub count_none : (m : tree.BTreeMap (Bor Id) ℕ) (q : Id) → m.entries ≡ [] → times q m ≡ 0
count_none m q e = ap (λ es. unwrap_or (lookup (tree.is_at (λ k. id_order.cmp-value.it q k.now)) es) 0) e

counted_at : (old new : tree.BTreeMap (Bor Id) ℕ) (id : Bor Id) (v : ℕ) → v ≡ times id.now old + 1 →
    ((q : Bor Id) → tree.get borrowed_cmp new q ≡ cond (is_eq (borrowed_cmp id q)) (Some v) (tree.get borrowed_cmp old q)) → (q : Bor Id) →
    times q.now new ≡ times q.now old + one_if (is_eq (id_cmp q.now id.now))
counted_at old new id v made put q = ap (λ o. unwrap_or o 0) (put q) ∙ go (borrowed_cmp id q) refl
  where
    apart : (r : Ordering) → borrowed_cmp id q ≡ r → is_eq r ≡ false → (b : Bool) → is_eq (id_cmp q.now id.now) ≡ b → times q.now old ≡ times q.now old + one_if b
    apart r e f true t =
        let same : q.now ≡ id.now = same_id q.now id.now ((Equal-is (id_cmp q.now id.now)).0 t) in
        let ties : r ≡ Equal = sym e ∙ ap (id_order.cmp-value.it id.now) same ∙ tied_itself total-law id.now in
        let no_tie : true ≡ false = sym (ap is_eq ties) ∙ f in
        absurd cc
    apart r e f false t = omega arith

    go : (r : Ordering) → borrowed_cmp id q ≡ r → unwrap_or (cond (is_eq r) (Some v) (tree.get borrowed_cmp old q)) 0 ≡ times q.now old + one_if (is_eq (id_cmp q.now id.now))
    go Less e = apart Less e refl (is_eq (id_cmp q.now id.now)) refl
    go Equal e =
        let same : id.now ≡ q.now = one_id id.now q.now e in
        made ∙ ap (λ w. times w old + 1) same ∙ ap (λ b. times q.now old + one_if b) (sym (same_ties id.now q.now same))
    go Greater e = apart Greater e refl (is_eq (id_cmp q.now id.now)) refl

pub counted_once : (old new : tree.BTreeMap (Bor Id) ℕ) (id : Bor Id) (v : ℕ) → v ≡ times id.now old + 1 →
    ((q : Bor Id) → tree.get borrowed_cmp new q ≡ cond (is_eq (borrowed_cmp id q)) (Some v) (tree.get borrowed_cmp old q)) → (q : Id) →
    times q new ≡ times q old + one_if (is_eq (id_cmp q id.now))
counted_once old new id v made put q = counted_at old new id v made put (record { ref_ptr = (0, 0); now = q })

pub count_more : (gs : List Geom) (i j : ℕ) (g : Geom) (x : Id) (old new : ℕ) (k : Id) → j ≡ suc i → slice_get gs i ≡ Some g → g.id ≡ x →
    new ≡ old + one_if (is_eq (id_cmp k x)) → old ≡ count_of k (ids_in (take i gs)) → new ≡ count_of k (ids_in (take j gs))
count_more gs i j g x old new k next at is step counted =
    step ∙ (λ m. counted m + one_if (is_eq (id_cmp k (sym is m)))) ∙ sym (count_next k gs i g at) ∙ ap (λ n. count_of k (ids_in (take n gs))) (sym next)

-- ---- numbers

pub numbers_skip : (p : Id → Bool) (ids : List Geom) (n : ℕ) (id : Geom) (numbers all : List ℕ) → n < length ids → id ≡ get_or ids n id → p (get_or ids n id).id ≡ false →
    numbers ++ numbers_of p n (ids_in (drop n ids)) ≡ all → numbers ++ numbers_of p (n + 1) (ids_in (drop (n + 1) ids)) ≡ all
numbers_skip p ids n id numbers all less is fails h =
    ap (λ b. numbers ++ cond b (n ∷ numbers_of p (n + 1) (ids_in (drop (n + 1) ids))) (numbers_of p (n + 1) (ids_in (drop (n + 1) ids)))) (sym (ap (λ w. p w.id) is ∙ fails))
    ∙ ap (λ l. numbers ++ numbers_of p n (ids_in l)) (sym (drop_item ids n id less is))
    ∙ h

pub numbers_take : (p : Id → Bool) (ids : List Geom) (n : ℕ) (id : Geom) (numbers new all : List ℕ) → n < length ids → id ≡ get_or ids n id → p (get_or ids n id).id ≡ true →
    new ≡ numbers ++ (n ∷ []) → numbers ++ numbers_of p n (ids_in (drop n ids)) ≡ all → new ++ numbers_of p (n + 1) (ids_in (drop (n + 1) ids)) ≡ all
numbers_take p ids n id numbers new all less is passes e h =
    ap (λ w. w ++ numbers_of p (n + 1) (ids_in (drop (n + 1) ids))) e
    ∙ append_assoc numbers (n ∷ []) (numbers_of p (n + 1) (ids_in (drop (n + 1) ids)))
    ∙ ap (λ b. numbers ++ cond b (n ∷ numbers_of p (n + 1) (ids_in (drop (n + 1) ids))) (numbers_of p (n + 1) (ids_in (drop (n + 1) ids)))) (sym (ap (λ w. p w.id) is ∙ passes))
    ∙ ap (λ l. numbers ++ numbers_of p n (ids_in l)) (sym (drop_item ids n id less is))
    ∙ h

pub again_is : (gs : List Geom) (m : tree.BTreeMap (Bor Id) ℕ) (q : Id) (b : Bool) → times q m ≡ count_of q (ids_in gs) →
    b ≡ (not (is_missing q) && nat_lt 1 (times q m)) → occurs_again (ids_in gs) q ≡ b
again_is gs m q b t e = ap (λ n. not (is_missing q) && nat_lt 1 n) (sym t) ∙ sym e

pub small : (m : tree.BTreeMap (Bor Id) ℕ) (q : Id) (gs : List Geom) (n : ℕ) → times q m ≡ count_of q (ids_in (take n gs)) → n < length gs → length gs < 2 ^ 63 →
    times q m < 2 ^ 63
small m q gs n e l k = let b = count_bound q gs n in omega (arith, e, b, l, k)
