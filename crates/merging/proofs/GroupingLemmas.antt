-- The leaves of the plans of the three shapes.
use Rattle.std.proofs.Common.{◌≡◌, ℕ, zero, suc, ◌+◌, ◌-◌, ◌/◌, List, [], ◌∷◌, ◌++◌, refl, sym, ◌∙◌, ap, arith}
use Rattle.std.specs.List.{range_with_len}
use Rattle.merging.specs.declared.plan.Plan.{Plan}
use Rattle.merging.specs.declared.plan.Plan.TheVariants.{Leaf, Node'}
use Rattle.merging.specs.Leaves.{leaves}
use Rattle.merging.specs.Groupings.{IsLeaf, IsLeft, IsRight, IsHalves}

ranges_join : (a m n : ℕ) → range_with_len a (m + n) ≡ range_with_len a m ++ range_with_len (a + m) n
ranges_join a zero n = let e : zero + n ≡ n = omega arith in let k : a ≡ a + zero = omega arith in
    ap (range_with_len a) e ∙ ap (λ b. range_with_len b n) k
ranges_join a (suc m) n =
    let e : suc m + n ≡ suc (m + n) = omega arith in
    let k : (a + 1) + m ≡ a + suc m = omega arith in
    ap (range_with_len a) e ∙ ap (λ w. a ∷ w) (ranges_join (a + 1) m n ∙ ap (λ b. range_with_len (a + 1) m ++ range_with_len b n) k)

lone : (i start n : ℕ) → n ≡ 1 → i ≡ start → i ∷ [] ≡ range_with_len start n
lone i start n e k = ap (λ w. w ∷ []) k ∙ sym (ap (range_with_len start) e)

leaf_leaves : (p : Plan) (k : ℕ) → IsLeaf p k → leaves p ≡ range_with_len k 1
leaf_leaves (Leaf i) k h = lone i k 1 refl h
leaf_leaves (Node' p left q right) k h = absurd h

two : (a m b n : ℕ) (s t : List ℕ) → s ≡ range_with_len a m → t ≡ range_with_len b n → b ≡ a + m → (k : ℕ) → m + n ≡ k → s ++ t ≡ range_with_len a k
two a m b n s t e f g k h =
    (λ i. e i ++ f i) ∙ ap (λ w. range_with_len a m ++ range_with_len w n) g ∙ sym (ranges_join a m n) ∙ ap (range_with_len a) h

pub left_leaves : (p : Plan) (n : ℕ) → IsLeft p n → leaves p ≡ range_with_len 0 n
left_leaves (Leaf i) n h = lone i 0 n h.0 h.1
left_leaves (Node' p left q right) n h =
    two 0 (n - 1) (n - 1) 1 (leaves left) (leaves right) (left_leaves left (n - 1) h.1) (leaf_leaves right (n - 1) h.2) (omega arith) n (omega arith)

pub right_leaves : (p : Plan) (start n : ℕ) → IsRight p start n → leaves p ≡ range_with_len start n
right_leaves (Leaf i) start n h = lone i start n h.0 h.1
right_leaves (Node' p left q right) start n h =
    two start 1 (start + 1) (n - 1) (leaves left) (leaves right) (leaf_leaves left start h.1) (right_leaves right (start + 1) (n - 1) h.2) refl n (omega arith)

pub halves_leaves : (p : Plan) (start n : ℕ) → IsHalves p start n → leaves p ≡ range_with_len start n
halves_leaves (Leaf i) start n h = lone i start n h.0 h.1
halves_leaves (Node' p left q right) start n h =
    two start (n / 2) (start + n / 2) (n - n / 2) (leaves left) (leaves right) (halves_leaves left start (n / 2) h.1) (halves_leaves right (start + n / 2) (n - n / 2) h.2) refl n (omega arith)
