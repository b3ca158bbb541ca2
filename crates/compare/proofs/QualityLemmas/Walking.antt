-- The pairs, as they are taken one by one.
use Rattle.std.proofs.Common.{◌≡◌, ◌+◌, ◌<◌, ◌≤◌, ◌*◌, ◌^◌, ℕ, zero, suc, Bool, true, false, cond, List, [], ◌∷◌, ◌++◌, length, map, take, refl, sym, ap, ◌∙◌, subst, length-append, arith}
use Rattle.std.proofs.lemmas.List.{append_assoc, append-nil, length-map}
use Rattle.compare.specs.Quality.Found.{places_at, places_of}
use Rattle.compare.specs.Quality.Near.{are_near, near_pairs, near_to}
use Rattle.compare.specs.declared.quality.pairs.NearPlace.{NearPlace}
use Rattle.compare.specs.declared.quality.vertex.Vertex.{Vertex}

pub near_few : (s : ℕ) (v : Vertex) (ws : List Vertex) → length (near_to s v ws) ≤ length ws
near_few s v [] = omega arith
near_few s v (w ∷ ws) = go (are_near s v w) (near_few s v ws)
  where
    go : (b : Bool) → length (near_to s v ws) ≤ length ws → length (cond b (w ∷ near_to s v ws) (near_to s v ws)) ≤ length (w ∷ ws)
    go true h = omega (arith, h)
    go false h = omega (arith, h)

-- the pairs of the first vertex, and those of the others
pub pairs_length : (s : ℕ) (v : Vertex) (vs ws : List Vertex) → vs ≡ v ∷ ws → length (near_to s v ws) + length (near_pairs s ws) ≡ length (near_pairs s vs)
pairs_length s v vs ws e =
    let both = length-append (map (λ w. (v, w)) (near_to s v ws)) (near_pairs s ws) in
    let same = length-map {B = Vertex × Vertex} (near_to s v ws) (λ w. (v, w)) in
    let all = ap (λ l. length (near_pairs s l)) e in
    omega (arith, both, same, all)

-- fewer for each vertex than there are vertices
pub pairs_few : (s : ℕ) (vs : List Vertex) → length vs < 2 ^ 63 → length (near_pairs s vs) ≤ 2 ^ 63 * length vs
pairs_few s [] h = omega arith
pairs_few s (v ∷ vs) h =
    let few : length (near_pairs s vs) ≤ 2 ^ 63 * length vs = pairs_few s vs (omega (arith, h)) in
    let here = near_few s v vs in
    let both = length-append (map (λ w. (v, w)) (near_to s v vs)) (near_pairs s vs) in
    let same = length-map {B = Vertex × Vertex} (near_to s v vs) (λ w. (v, w)) in
    omega (arith, h, few, here, both, same)

-- ---- the first of them

take_all : {A : Type 0} (n : ℕ) (xs : List A) → length xs ≤ n → take n xs ≡ xs
take_all zero [] h = refl
take_all zero (x ∷ xs) h = absurd (omega (arith, h))
take_all (suc n) [] h = refl
take_all (suc n) (x ∷ xs) h = ap (λ l. x ∷ l) (take_all n xs (omega (arith, h)))

-- as many as are asked for are there
pub take_full : {A : Type 0} (n : ℕ) (xs ys : List A) → length xs ≡ n → xs ≡ take n (xs ++ ys)
take_full zero [] ys h = refl
take_full zero (x ∷ xs) ys h = absurd (omega (arith, h))
take_full (suc n) [] ys h = absurd (omega (arith, h))
take_full (suc n) (x ∷ xs) ys h = ap (λ l. x ∷ l) (take_full n xs ys (omega (arith, h)))

pub take_few : {A : Type 0} (n : ℕ) (xs ys : List A) → ys ≡ [] → length xs ≤ n → xs ≡ take n (xs ++ ys)
take_few n xs ys e h = sym (take_all n xs h) ∙ ap (take n) (sym (append-nil xs) ∙ ap (λ l. xs ++ l) (sym e))

-- the first of some and others are the first of the first of some, and others
pub take_twice : {A : Type 0} (n : ℕ) (xs ys : List A) → take n (take n xs ++ ys) ≡ take n (xs ++ ys)
take_twice zero xs ys = refl
take_twice (suc n) [] ys = refl
take_twice (suc n) (x ∷ xs) ys = ap (λ l. x ∷ l) (take_twice n xs ys)

pub take_most : {A : Type 0} (n : ℕ) (xs : List A) → length (take n xs) ≤ n
take_most zero xs = omega arith
take_most (suc n) [] = omega arith
take_most (suc n) (x ∷ xs) = let h = take_most n xs in omega (arith, h)

-- the places of the pairs of the first vertex, and those of the others
map_pairs : (v : Vertex) (xs : List Vertex) (ys : List (Vertex × Vertex)) → map places_of (map (λ w. (v, w)) xs ++ ys) ≡ map (places_at v) xs ++ map places_of ys
map_pairs v [] ys = refl
map_pairs v (x ∷ xs) ys = ap (λ l. places_at v x ∷ l) (map_pairs v xs ys)

-- the places, with those of one vertex more
pub recorded_more : (n s : ℕ) (v : Vertex) (vs ws : List Vertex) (old new : List (NearPlace × NearPlace)) → vs ≡ v ∷ ws →
    new ≡ take n (old ++ map (places_at v) (near_to s v ws)) → take n (new ++ map places_of (near_pairs s ws)) ≡ take n (old ++ map places_of (near_pairs s vs))
recorded_more n s v vs ws old new e made =
    ap (λ l. take n (l ++ map places_of (near_pairs s ws))) made ∙ take_twice n (old ++ map (places_at v) (near_to s v ws)) (map places_of (near_pairs s ws))
    ∙ ap (take n) (append_assoc old (map (places_at v) (near_to s v ws)) (map places_of (near_pairs s ws)))
    ∙ ap (λ l. take n (old ++ l)) (sym (map_pairs v (near_to s v ws) (near_pairs s ws)))
    ∙ ap (λ l. take n (old ++ map places_of (near_pairs s l))) (sym e)

-- ---- the vertices behind one, as they are looked at

module _ (s : ℕ) (one next : Vertex) (left rest after : List Vertex) (is : left ≡ next ∷ rest) (kept : near_to s one after ≡ near_to s one rest) where
  met : near_to s one left ≡ cond (are_near s one next) (next ∷ near_to s one after) (near_to s one after)
  met = ap (near_to s one) is ∙ ap (λ l. cond (are_near s one next) (next ∷ l) l) (sym kept)

  pub met_length : cond (are_near s one next) 1 0 + length (near_to s one after) ≡ length (near_to s one left)
  met_length = go (are_near s one next) ∙ sym (ap length met)
    where
      go : (b : Bool) → cond b 1 0 + length (near_to s one after) ≡ length (cond b (next ∷ near_to s one after) (near_to s one after))
      go true = omega arith
      go false = omega arith

  pub met_places : (old : List (NearPlace × NearPlace)) →
      (old ++ cond (are_near s one next) (places_at one next ∷ []) []) ++ map (places_at one) (near_to s one after) ≡ old ++ map (places_at one) (near_to s one left)
  met_places old =
      append_assoc old (cond (are_near s one next) (places_at one next ∷ []) []) (map (places_at one) (near_to s one after))
      ∙ ap (λ l. old ++ l) (go (are_near s one next) ∙ ap (map (places_at one)) (sym met))
    where
      go : (b : Bool) → cond b (places_at one next ∷ []) [] ++ map (places_at one) (near_to s one after) ≡ map (places_at one) (cond b (next ∷ near_to s one after) (near_to s one after))
      go true = refl
      go false = refl

-- one more at most
pub few_more : (b : Bool) (old new : List (NearPlace × NearPlace)) (x : NearPlace × NearPlace) (n : ℕ) → new ≡ old ++ cond b (x ∷ []) [] → length old < n → length new ≤ n
few_more b old new x n e h = subst (λ l. length l ≤ n) (sym e) (go b)
  where
    go : (b : Bool) → length (old ++ cond b (x ∷ []) []) ≤ n
    go true = let both = length-append old (x ∷ []) in omega (arith, both, h)
    go false = let both = length-append old [] in omega (arith, both, h)

pub at_most_one : (b : Bool) → cond b 1 0 ≤ 1
at_most_one true = omega arith
at_most_one false = omega arith
