-- The steps by which rings are put into polygons.
use Rattle.std.proofs.Common.{◌≡◌, ◌<◌, ◌≤◌, ℕ, ◌+◌, zero, suc, true, false, cond, List, [], ◌∷◌, ◌++◌, length, get_or, refl, sym, ap, ◌∙◌, arith, Option, Some, None, Vec}
use Rattle.std.proofs.Math.ListN.{set}
use Rattle.std.specs.Option.{option_map}
use Rattle.std.specs.declared.alloc.Global.{Global}
use Rattle.grid.specs.declared.pos.Pos.{Pos}
use Rattle.fixing.specs.Polygons.{home_of, is_home, put_ring}
use Rattle.fixing.specs.Seen.{polygons_in}

-- a ring put into the polygon at a place
pub put_means : (ps : List (Vec (List Pos) Global)) (k : ℕ) (d new : Vec (List Pos) Global) (ring : List Pos) → k < length ps →
    new.items ≡ (get_or ps k d).items ++ (ring ∷ []) → polygons_in (set ps k new) ≡ put_ring k ring (polygons_in ps)
put_means [] k d new ring h e = absurd (omega arith)
put_means (p ∷ ps) zero d new ring h e = ap (λ w. w ∷ polygons_in ps) e
put_means (p ∷ ps) (suc k) d new ring h e = ap (λ w. p.items ∷ w) (put_means ps k d new ring (omega (arith, h)) e)

-- past the last
pub put_past : (ps : List (Vec (List Pos) Global)) (k : ℕ) (ring : List Pos) → length ps ≤ k → polygons_in ps ≡ put_ring k ring (polygons_in ps)
put_past [] k ring h = refl
put_past (p ∷ ps) zero ring h = absurd (omega (arith, h))
put_past (p ∷ ps) (suc k) ring h = ap (λ w. p.items ∷ w) (put_past ps k ring (omega (arith, h)))

module _ (ring : List Pos) (whole : Option ℕ) (place : ℕ) where
  -- the first home among those that are left is that among all
  abbrev pub IsHomeLeft : List (List (List Pos)) → Type 0
  IsHomeLeft left = option_map (λ k. place + k) (home_of left ring) ≡ whole

  pub home_here : (polygon : List (List Pos)) (all left : List (List (List Pos))) → all ≡ polygon ∷ left → is_home ring polygon ≡ true → IsHomeLeft all → Some place ≡ whole
  home_here polygon all left e t before =
      let z : place + 0 ≡ place = omega arith in
      sym (ap Some z) ∙ sym (ap (λ b. option_map (λ k. place + k) (cond b (Some zero) (option_map (λ k. suc k) (home_of left ring)))) t)
      ∙ sym (ap (λ l. option_map (λ k. place + k) (home_of l ring)) e) ∙ before

  pub home_none : (all : List (List (List Pos))) → all ≡ [] → IsHomeLeft all → None ≡ whole
  home_none all e before = sym (ap (λ l. option_map (λ k. place + k) (home_of l ring)) e) ∙ before

  pub home_later : (polygon : List (List Pos)) (all left : List (List (List Pos))) → all ≡ polygon ∷ left → is_home ring polygon ≡ false → IsHomeLeft all →
      option_map (λ k. (place + 1) + k) (home_of left ring) ≡ whole
  home_later polygon all left e f before =
      go (home_of left ring)
      ∙ sym (ap (λ b. option_map (λ k. place + k) (cond b (Some zero) (option_map (λ k. suc k) (home_of left ring)))) f)
      ∙ sym (ap (λ l. option_map (λ k. place + k) (home_of l ring)) e) ∙ before
    where
      go : (o : Option ℕ) → option_map (λ k. (place + 1) + k) o ≡ option_map (λ k. place + k) (option_map (λ k. suc k) o)
      go None = refl
      go (Some k) = let z : (place + 1) + k ≡ place + suc k = omega arith in ap Some z
