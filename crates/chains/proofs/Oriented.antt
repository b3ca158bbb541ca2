-- A piece runs along its chain as used, and is marked as free exactly where no stop lies on it.
use Rattle.std.proofs.Common.{◌≡◌, Bool, true, false, cond, not, List, [], ◌∷◌, map, reverse, inl, inr, refl, ap, ◌∙◌, subst}
use Rattle.std.proofs.lemmas.List.{reverse-reverse}
use Rattle.theory.specs.Lists.{Has}
use Rattle.theory.specs.Chain.{IsChain, Free}
use Rattle.theory.proofs.Reversing.{Has-reverse}
use Rattle.grid.specs.declared.pos.Pos.{Pos}
use Rattle.arcs.specs.Among.{Tells}
use Rattle.arcs.specs.Pieces.{used, piece_along, least_direction, is_backwards_less}
use Rattle.chains.specs.Pieces.{begins_free}
use Rattle.arcs.specs.declared.piece.Piece.{Piece}

-- what a piece is, whatever its mark
pub used_along : (free : Bool) (c : List Pos) → used (piece_along free c) ≡ c
used_along free c = go (is_backwards_less c)
  where
    go : (b : Bool) → cond b (reverse (cond b (reverse c) c)) (cond b (reverse c) c) ≡ c
    go true = reverse-reverse c
    go false = refl

pub used_parts : (free : Bool) (cs : List (List Pos)) → map used (map (piece_along free) cs) ≡ cs
used_parts free [] = refl
used_parts free (c ∷ cs) = let e : used (piece_along free c) ≡ c = used_along free c in let h : map used (map (piece_along free) cs) ≡ cs = used_parts free cs in λ i. e i ∷ h i

pub used_all : (free : Bool) (cs : List (List Pos)) (ps : List Piece) → ps ≡ map (piece_along free) cs → map used ps ≡ cs
used_all free cs ps e = ap (map used) e ∙ used_parts free cs

-- the vertices are the same in either direction
pub least_has : (v : Pos) (c : List Pos) → Has v (least_direction c) → Has v c
least_has v c = go (is_backwards_less c)
  where
    go : (b : Bool) → Has v (cond b (reverse c) c) → Has v c
    go true h = subst (Has v) (reverse-reverse c) (Has-reverse v (reverse c) h)
    go false h = h

pub has_least : (v : Pos) (c : List Pos) → Has v c → Has v (least_direction c)
has_least v c = go (is_backwards_less c)
  where
    go : (b : Bool) → Has v c → Has v (cond b (reverse c) c)
    go true h = Has-reverse v c h
    go false h = h

module _ (S : Pos → Pos → Type 0) (J : Pos → Type 0) (Le : Pos → Pos → Type 0) (stop : Pos → Bool)
    (stops : (v : Pos) → stop v ≡ true → J v) (passes : (v : Pos) → stop v ≡ false → ¬ J v) where
  pub marked : (c : List Pos) → IsChain S J Le c → Tells (begins_free stop c) (Free J (least_direction c))
  marked [] k = absurd k
  marked (x ∷ r) k = go (stop x) refl
    where
      go : (b : Bool) → stop x ≡ b → Tells (not b) (Free J (least_direction (x ∷ r)))
      go true e = record {
        yes = λ f. absurd cc;
        no = λ f h. h x (has_least x (x ∷ r) (inl refl)) (stops x e);
      }
      go false e = record {
        yes = λ f v h. elim k.ends [
          | inl t ↦ absurd (passes x e t.0)
          | inr t ↦ t.1 v (least_has v (x ∷ r) h)
        ];
        no = λ f. absurd cc;
      }
