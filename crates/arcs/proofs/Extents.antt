-- The extent of one position more.
use Rattle.std.proofs.Common.{◌≡◌, ℤ, Bool, true, false, ◌&&◌, ◌≤ℤ◌, int_le, List, None, map, refl, rules, ap, ◌∙◌, arith}
use Rattle.std.proofs.lemmas.Int.{ints, clamps}
use Rattle.std.specs.Int.{int_min, int_max}
use Rattle.grid.specs.declared.pos.Pos.{Pos}
use Rattle.arcs.specs.Extents.{between, within}
use Rattle.lines.specs.Holding.{IsMarked, Keeps}
use Rattle.arcs.specs.Stored.{AreKept, positions_of, rises}
use Rattle.arcs.specs.declared.stored.StoredArc.{StoredArc}
use Rattle.arcs.specs.declared.arcs_box.Extent.{Extent}

pub both_true : (a b : Bool) → a ≡ true → b ≡ true → (a && b) ≡ true
both_true true b e f = f
both_true false b e f = e

first_true : (a b : Bool) → (a && b) ≡ true → a ≡ true
first_true true b e = refl
first_true false b e = e

second_true : (a b : Bool) → (a && b) ≡ true → b ≡ true
second_true true b e = e
second_true false b e = absurd cc

test_of : (a b : ℤ) → a ≤ℤ b → int_le a b ≡ true
test_of a b h = grind (arith, ints)

of_test : (a b : ℤ) → int_le a b ≡ true → a ≤ℤ b
of_test a b e = grind (arith, ints)

min_under : (a b z : ℤ) → a ≤ℤ z → int_min a b ≤ℤ z
min_under a b z h = omega (arith, ints, clamps)

max_over : (a b z : ℤ) → z ≤ℤ a → z ≤ℤ int_max a b
max_over a b z h = omega (arith, ints, clamps)

min_itself : (a b : ℤ) → int_min a b ≤ℤ b
min_itself a b = omega (arith, ints, clamps)

max_itself : (a b : ℤ) → b ≤ℤ int_max a b
max_itself a b = omega (arith, ints, clamps)

kept : (a b c d y z : ℤ) → c ≡ int_min a y → d ≡ int_max b z → (n : ℤ) → between a n b ≡ true → between c n d ≡ true
kept a b c d y z e f n h =
    both_true (int_le c n) (int_le n d)
    (ap (λ w. int_le w n) e ∙ test_of (int_min a y) n (min_under a y n (of_test a n (first_true (int_le a n) (int_le n b) h))))
    (ap (int_le n) f ∙ test_of n (int_max b z) (max_over b z n (of_test n b (second_true (int_le a n) (int_le n b) h))))

reached : (a b c d z : ℤ) → c ≡ int_min a z → d ≡ int_max b z → between c z d ≡ true
reached a b c d z e f =
    both_true (int_le c z) (int_le z d)
    (ap (λ w. int_le w z) e ∙ test_of (int_min a z) z (min_itself a z))
    (ap (int_le z) f ∙ test_of z (int_max b z) (max_itself b z))

pub widened : (e w : Extent) (p : Pos) → w.west ≡ int_min e.west p.x → w.south ≡ int_min e.south p.y → w.east ≡ int_max e.east p.x → w.north ≡ int_max e.north p.y →
    IsMarked p (within e) (within w)
widened e w p a b c d = (
  (λ q h. both_true (between w.west q.x w.east) (between w.south q.y w.north)
      (kept e.west e.east w.west w.east p.x p.x a c q.x (first_true (between e.west q.x e.east) (between e.south q.y e.north) h))
      (kept e.south e.north w.south w.north p.y p.y b d q.y (second_true (between e.west q.x e.east) (between e.south q.y e.north) h))),
  both_true (between w.west p.x w.east) (between w.south p.y w.north)
      (reached e.west e.east w.west w.east p.x a c) (reached e.south e.north w.south w.north p.y b d),
)

swapped_min : (a b : ℤ) → int_min a b ≡ int_min b a
swapped_min a b = omega (arith, ints, clamps)

swapped_max : (a b : ℤ) → int_max a b ≡ int_max b a
swapped_max a b = omega (arith, ints, clamps)

-- what lies in one of two boxes lies in the box around both
pub joined_keeps : (e f w : Extent) → w.west ≡ int_min e.west f.west → w.south ≡ int_min e.south f.south → w.east ≡ int_max e.east f.east → w.north ≡ int_max e.north f.north →
    Keeps (within e) (within w)
joined_keeps e f w a b c d q h =
    both_true (between w.west q.x w.east) (between w.south q.y w.north)
    (kept e.west e.east w.west w.east f.west f.east a c q.x (first_true (between e.west q.x e.east) (between e.south q.y e.north) h))
    (kept e.south e.north w.south w.north f.south f.north b d q.y (second_true (between e.west q.x e.east) (between e.south q.y e.north) h))

pub joined_keeps_other : (e f w : Extent) → w.west ≡ int_min e.west f.west → w.south ≡ int_min e.south f.south → w.east ≡ int_max e.east f.east → w.north ≡ int_max e.north f.north →
    Keeps (within f) (within w)
joined_keeps_other e f w a b c d =
    joined_keeps f e w (a ∙ swapped_min e.west f.west) (b ∙ swapped_min e.south f.south) (c ∙ swapped_max e.east f.east) (d ∙ swapped_max e.north f.north)

-- arcs of which no box is known
pub alone : (arcs : List StoredArc) → rises (map positions_of arcs) ≡ true → AreKept arcs None
alone arcs r = record { rising = r; held = search rules }
