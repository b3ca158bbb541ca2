-- The segments of arcs are their neighbours that differ.
use Rattle.std.proofs.Common.{◌≡◌, ℕ, List, [], ◌∷◌, ◌⊎◌, inl, inr, refl, sym, ap, ◌∙◌, subst, Option, Some, None, slice_get, unwrap_or}
use Rattle.grid.specs.declared.pos.Pos.{Pos}
use Rattle.theory.specs.Lists.{Beside, Has}
use Rattle.chains.specs.Along.{arc_at, SidesFrom, SidesOf, OnArcs}

-- neighbours that differ
sides_from : (x : Pos) (r : List Pos) (u v : Pos) → SidesFrom x r u v → Beside u v (x ∷ r)
sides_from x [] u v h = absurd h
sides_from x (y ∷ r) u v (inl (n, inl k)) = inl (inl k)
sides_from x (y ∷ r) u v (inl (n, inr k)) = inr (inl (k.1, k.0))
sides_from x (y ∷ r) u v (inr h) = elim (sides_from y r u v h) [ inl k ↦ inl (inr k) | inr k ↦ inr (inr k) ]

from_sides : (x : Pos) (r : List Pos) (u v : Pos) → ¬ (u ≡ v) → Beside u v (x ∷ r) → SidesFrom x r u v
from_sides x [] u v n (inl (inl k)) = absurd k.1
from_sides x [] u v n (inl (inr k)) = absurd k
from_sides x [] u v n (inr (inl k)) = absurd k.1
from_sides x [] u v n (inr (inr k)) = absurd k
from_sides x (y ∷ r) u v n (inl (inl k)) = inl ((λ e. n (k.0 ∙ e ∙ sym k.1)), inl k)
from_sides x (y ∷ r) u v n (inl (inr k)) = inr (from_sides y r u v n (inl k))
from_sides x (y ∷ r) u v n (inr (inl k)) = inl ((λ e. n (k.1 ∙ sym e ∙ sym k.0)), inr (k.1, k.0))
from_sides x (y ∷ r) u v n (inr (inr k)) = inr (from_sides y r u v n (inr k))

pub sides_beside : (c : List Pos) (u v : Pos) → SidesOf c u v → Beside u v c
sides_beside [] u v h = absurd h
sides_beside (x ∷ r) u v h = sides_from x r u v h

pub beside_sides : (c : List Pos) (u v : Pos) → ¬ (u ≡ v) → Beside u v c → SidesOf c u v
beside_sides [] u v n h = absurd (elim h [ inl z ↦ z | inr z ↦ z ])
beside_sides (x ∷ r) u v n h = from_sides x r u v n h

-- an arc of one of the numbers
pub on_arc : (arcs : List (List Pos)) (ks : List ℕ) (u v : Pos) → OnArcs arcs ks u v → (k : ℕ) × (c : List Pos) × Has k ks × (slice_get arcs k ≡ Some c) × SidesOf c u v
on_arc arcs [] u v h = absurd h
on_arc arcs (k ∷ ks) u v (inr h) = let t = on_arc arcs ks u v h in (t.0, t.1, inr t.2, t.3, t.4)
on_arc arcs (k ∷ ks) u v (inl h) = go (slice_get arcs k) refl h
  where
    go : (o : Option (List Pos)) → slice_get arcs k ≡ o → SidesOf (unwrap_or o []) u v →
        (j : ℕ) × (c : List Pos) × Has j (k ∷ ks) × (slice_get arcs j ≡ Some c) × SidesOf c u v
    go None e i = absurd i
    go (Some c) e i = (k, c, inl refl, e, i)

pub arc_on : (arcs : List (List Pos)) (ks : List ℕ) (u v : Pos) (k : ℕ) (c : List Pos) → Has k ks → slice_get arcs k ≡ Some c → SidesOf c u v → OnArcs arcs ks u v
arc_on arcs [] u v k c h e s = absurd h
arc_on arcs (j ∷ ks) u v k c (inl h) e s =
    inl (subst (λ o. SidesOf (unwrap_or o []) u v) (sym e ∙ ap (slice_get arcs) h) s)
arc_on arcs (j ∷ ks) u v k c (inr h) e s = inr (arc_on arcs ks u v k c h e s)
