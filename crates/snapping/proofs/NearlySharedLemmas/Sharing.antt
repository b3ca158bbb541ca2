-- Vertices that more than one feature has, counted one by one, and the places of the first pair.
use Rattle.std.proofs.Common.{◌≡◌, ◌+◌, ◌<◌, ◌≤◌, ℕ, zero, suc, Bool, true, false, cond, List, [], ◌∷◌, length, map, take, refl, sym, ap, ◌∙◌, arith}
use Rattle.compare.specs.Quality.Found.{places_of}
use Rattle.compare.specs.Quality.Near.{near_pairs}
use Rattle.compare.specs.declared.quality.pairs.NearPlace.{NearPlace}
use Rattle.compare.specs.declared.quality.vertex.Vertex.{Vertex}
use Rattle.snapping.specs.NearlyShared.Joined.{near_positions, positions_in}
use Rattle.snapping.specs.NearlyShared.Shared.{first_of, first_places, has_two, shared}

pub shared_few : (vs : List Vertex) → length (shared vs) ≤ length vs
shared_few [] = omega arith
shared_few (v ∷ vs) = go (has_two v.uses.now) (shared_few vs)
  where
    go : (b : Bool) → length (shared vs) ≤ length vs → length (cond b (v ∷ shared vs) (shared vs)) ≤ length (v ∷ vs)
    go true h = omega (arith, h)
    go false h = omega (arith, h)

-- the first vertex, and those behind it
pub shared_next : (v : Vertex) (vs ws : List Vertex) → vs ≡ v ∷ ws → cond (has_two v.uses.now) 1 0 + length (shared ws) ≡ length (shared vs)
shared_next v vs ws e = go (has_two v.uses.now) ∙ ap (λ l. length (shared l)) (sym e)
  where
    go : (b : Bool) → cond b 1 0 + length (shared ws) ≡ length (cond b (v ∷ shared ws) (shared ws))
    go true = omega arith
    go false = omega arith

-- the places of the first pair alone say where its vertices lie
pub first_is : (ps : List (Vertex × Vertex)) → first_of (take 1 (map places_of ps)) ≡ first_places ps
first_is [] = refl
first_is (p ∷ ps) = refl

-- ---- all pairs

take_whole : {A : Type 0} (k : ℕ) (l : List A) → length (take k l) < k → take k l ≡ l
take_whole zero l h = absurd (omega (arith, h))
take_whole (suc k) [] h = refl
take_whole (suc k) (x ∷ l) h = ap (λ w. x ∷ w) (take_whole k l (omega (arith, h)))

places_lie : (ps : List (Vertex × Vertex)) → positions_in (map places_of ps) ≡ map (λ p. (p.0.at, p.1.at)) ps
places_lie [] = refl
places_lie (p ∷ ps) = ap (λ l. (p.0.at, p.1.at) ∷ l) (places_lie ps)

-- as many places as are wanted and not fewer are all
pub all_places : (k n : ℕ) (vs : List Vertex) (ps : List (NearPlace × NearPlace)) → ps ≡ take k (map places_of (near_pairs n vs)) → length ps < k →
    positions_in ps ≡ near_positions n vs
all_places k n vs ps e h =
    let l = ap length e in
    ap positions_in (e ∙ take_whole k (map places_of (near_pairs n vs)) (omega (arith, h, l))) ∙ places_lie (near_pairs n vs)
