-- Lists whose equal neighbours are read as one.
use Rattle.std.proofs.Common.{◌≡◌, Bool, true, false, cond, List, [], ◌∷◌, ◌++◌, reverse, refl, sym, ap, ◌∙◌, append_assoc}
use Rattle.std.proofs.lemmas.List.{reverse-append}
use Rattle.std.specs.List.{dedup_from}
use Rattle.grid.specs.declared.pos.Pos.{Pos}
use Rattle.lines.specs.Positions.{position_same, position_total}
use Rattle.lines.specs.Reading.{collapsed}
use Rattle.lines.specs.Turned.{position_cmp}
use Rattle.theory.proofs.JunctionTest.{equal-same_vertex, same_vertex-equal}
use Rattle.theory.proofs.Lists.{last-snoc}
use Rattle.theory.specs.Lists.{last_of}
use Rattle.theory.specs.TopologyFunction.{same_vertex}

abbrev same : Pos → Pos → Bool
same = same_vertex position_cmp

abbrev pub once : List Pos → List Pos
once = collapsed position_cmp

same_is : (p q : Pos) → same p q ≡ true → p ≡ q
same_is p q = same_vertex-equal position_cmp position_total position_same p q

is_same : (p q : Pos) → p ≡ q → same p q ≡ true
is_same p q = equal-same_vertex position_cmp position_total position_same p q

-- it begins with the first position, and stays when it is read again
pub record Begins (k : Pos) (l : List Pos) : Type 0 where
  pub rest : List Pos
  pub whole : once (k ∷ l) ≡ k ∷ rest
  pub again : once (k ∷ rest) ≡ k ∷ rest

pub begins : (k : Pos) (l : List Pos) → Begins k l
begins k [] = record { rest = []; whole = refl; again = refl }
begins k (x ∷ l) = go (same x k) refl (begins k l) (begins x l)
  where
    go : (b : Bool) → same x k ≡ b → Begins k l → Begins x l → Begins k (x ∷ l)
    go true e s t = record {
      rest = s.rest;
      whole = ap (λ b. cond b (once (k ∷ l)) (k ∷ once (x ∷ l))) e ∙ s.whole;
      again = s.again;
    }
    go false e s t = record {
      rest = x ∷ t.rest;
      whole = ap (λ b. cond b (once (k ∷ l)) (k ∷ once (x ∷ l))) e ∙ ap (λ w. k ∷ w) t.whole;
      again = ap (λ b. cond b (once (k ∷ t.rest)) (k ∷ once (x ∷ t.rest))) e ∙ ap (λ w. k ∷ w) t.again;
    }

-- it ends with the last position, from which on it is read of what is put behind
pub record Ends (k : Pos) (l : List Pos) : Type 0 where
  pub front : List Pos
  pub whole : once (k ∷ l) ≡ front ++ (last_of k l ∷ [])
  pub behind : (c : List Pos) → once (k ∷ (l ++ c)) ≡ front ++ once (last_of k l ∷ c)

pub ends : (k : Pos) (l : List Pos) → Ends k l
ends k [] = record { front = []; whole = refl; behind = λ c. refl }
ends k (x ∷ l) = go (same x k) refl (ends k l) (ends x l)
  where
    go : (b : Bool) → same x k ≡ b → Ends k l → Ends x l → Ends k (x ∷ l)
    go true e s t =
        let at : last_of k l ≡ last_of x l = ap (λ w. last_of w l) (sym (same_is x k e)) in
        record {
          front = s.front;
          whole = ap (λ b. cond b (once (k ∷ l)) (k ∷ once (x ∷ l))) e ∙ s.whole ∙ ap (λ w. s.front ++ (w ∷ [])) at;
          behind = λ c. ap (λ b. cond b (once (k ∷ (l ++ c))) (k ∷ once (x ∷ (l ++ c)))) e ∙ s.behind c ∙ ap (λ w. s.front ++ once (w ∷ c)) at;
        }
    go false e s t = record {
      front = k ∷ t.front;
      whole = ap (λ b. cond b (once (k ∷ l)) (k ∷ once (x ∷ l))) e ∙ ap (λ w. k ∷ w) t.whole;
      behind = λ c. ap (λ b. cond b (once (k ∷ (l ++ c))) (k ∷ once (x ∷ (l ++ c)))) e ∙ ap (λ w. k ∷ w) (t.behind c);
    }

-- one more position behind another
one_behind : (q : List Pos) (y x : Pos) → once ((q ++ (y ∷ [])) ++ (x ∷ [])) ≡ cond (same x y) (once (q ++ (y ∷ []))) (once (q ++ (y ∷ [])) ++ (x ∷ []))
one_behind [] y x = go (same x y)
  where
    go : (b : Bool) → cond b (y ∷ []) (y ∷ (x ∷ [])) ≡ cond b (y ∷ []) (y ∷ (x ∷ []))
    go b = refl
one_behind (k ∷ w) y x =
    let s = ends k (w ++ (y ∷ [])) in
    let last : last_of k (w ++ (y ∷ [])) ≡ y = last-snoc k y w in
    let whole : once (k ∷ (w ++ (y ∷ []))) ≡ s.front ++ (y ∷ []) = s.whole ∙ ap (λ v. s.front ++ (v ∷ [])) last in
    s.behind (x ∷ []) ∙ ap (λ v. s.front ++ once (v ∷ (x ∷ []))) last ∙ go (same x y) s.front ∙ ap (λ v. cond (same x y) v (v ++ (x ∷ []))) (sym whole)
  where
    go : (b : Bool) (front : List Pos) → front ++ cond b (y ∷ []) (y ∷ (x ∷ [])) ≡ cond b (front ++ (y ∷ [])) ((front ++ (y ∷ [])) ++ (x ∷ []))
    go true front = refl
    go false front = sym (append_assoc front (y ∷ []) (x ∷ []))

-- of the reversed list it is the reverse
pub once_reversed : (l : List Pos) → once (reverse l) ≡ reverse (once l)
once_reversed [] = refl
once_reversed (x ∷ []) = refl
once_reversed (x ∷ (y ∷ m)) =
    ap once (two x y m) ∙ one_behind (reverse m) y x ∙ go (same y x) refl (once_reversed (y ∷ m))
  where
    snoc : (y : Pos) (m : List Pos) → reverse (y ∷ m) ≡ reverse m ++ (y ∷ [])
    snoc y m = reverse-append (y ∷ []) m

    two : (x y : Pos) (m : List Pos) → reverse (x ∷ (y ∷ m)) ≡ (reverse m ++ (y ∷ [])) ++ (x ∷ [])
    two x y m = snoc x (y ∷ m) ∙ ap (λ w. w ++ (x ∷ [])) (snoc y m)

    turned : (b : Bool) → same y x ≡ b → same x y ≡ b
    turned true e = is_same x y (sym (same_is y x e))
    turned false e = other (same x y) refl
      where
        other : (c : Bool) → same x y ≡ c → same x y ≡ false
        other false f = f
        other true f = let back : same y x ≡ true = is_same y x (sym (same_is x y f)) in absurd cc

    go : (b : Bool) → same y x ≡ b → once (reverse (y ∷ m)) ≡ reverse (once (y ∷ m)) →
        cond (same x y) (once (reverse m ++ (y ∷ []))) (once (reverse m ++ (y ∷ [])) ++ (x ∷ [])) ≡ reverse (cond b (dedup_from same x m) (x ∷ dedup_from same y m))
    go true e before =
        ap (λ c. cond c (once (reverse m ++ (y ∷ []))) (once (reverse m ++ (y ∷ [])) ++ (x ∷ []))) (turned true e)
        ∙ ap once (sym (snoc y m)) ∙ before ∙ ap (λ k. reverse (dedup_from same k m)) (same_is y x e)
    go false e before =
        ap (λ c. cond c (once (reverse m ++ (y ∷ []))) (once (reverse m ++ (y ∷ [])) ++ (x ∷ []))) (turned false e)
        ∙ ap (λ w. once w ++ (x ∷ [])) (sym (snoc y m)) ∙ ap (λ w. w ++ (x ∷ [])) before ∙ sym (snoc x (once (y ∷ m)))
