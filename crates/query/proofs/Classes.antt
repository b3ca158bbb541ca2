-- The classes of values, one by one, and the uses of arcs by class.
use Rattle.std.proofs.Common.{◌≡◌, ◌↔◌, ◌<◌, ◌+◌, ◌++◌, ℕ, zero, suc, Bool, true, false, cond, List, [], ◌∷◌, get_or, length, length-append, ◌⊎◌, inl, inr, refl, sym, ap, ◌∙◌, subst, Option, Some, None, slice_get, arith}
use Rattle.std.specs.Prelude.{is_some, unwrap_or}
use Rattle.std.specs.Map.{update}
use Rattle.std.specs.Str.{bytes_eq}
use Rattle.std.proofs.lemmas.Slice.Eq.{bytes_eq-Decides}
use Rattle.std.specs.Borrow.{Bor}
use Rattle.lines.proofs.Dropping.{item_at}
use Rattle.topo.specs.OfMap.{body_of}
use Rattle.topo.specs.declared.geom.Geom.{Geom}
use Rattle.theory.specs.Lists.{Has}
use Rattle.theory.specs.Users.{UsesArc}
use Rattle.theory.proofs.Lists.{Has-append, Has-append_left, Has-append_right}
use Rattle.query.specs.ByProperty.{AreClasses, AreOneValue, class_in, class_uses, known_then, value_text, values_of}
use Rattle.query.specs.EachOnce.{borrowed}
use Rattle.query.specs.Uses.{body_uses, use_at}
use Rattle.query.specs.declared.uses.Use.{Use}
use Rattle.query.proofs.Meshing.{get_map}
use Rattle.query.proofs.UsesOfBodies.{body_from, has_body}

-- the values of the first n indexes have classes, and the classes of their texts are known
pub record Classed (vs : List (Option (List ℕ))) (n : ℕ) (at : List ℕ → Option ℕ) (cs : List ℕ) : Type 0 where
  pub many : length cs ≡ n
  pub found : (t : List ℕ) (p : ℕ) → at t ≡ Some p → (p < n) × (slice_get vs p ≡ Some (Some t))
  pub none : (i c : ℕ) → slice_get vs i ≡ Some None → slice_get cs i ≡ Some c → c ≡ i
  pub some : (i c : ℕ) (t : List ℕ) → slice_get vs i ≡ Some (Some t) → slice_get cs i ≡ Some c → at t ≡ Some c

get_behind : {A : Type 0} (l : List A) (x y : A) (i : ℕ) → slice_get (l ++ (x ∷ [])) i ≡ Some y → (slice_get l i ≡ Some y) ⊎ ((i ≡ length l) × (y ≡ x))
get_behind [] x y zero e = let same : x ≡ y = cc in inr (refl, sym same)
get_behind [] x y (suc i) e = absurd cc
get_behind (z ∷ l) x y zero e = inl e
get_behind (z ∷ l) x y (suc i) e = elim (get_behind l x y i e) [ inl h ↦ inl h | inr h ↦ inr (ap suc h.0, h.1) ]

one_of : {A : Type 0} (o : Option A) (a b : A) → o ≡ Some a → o ≡ Some b → a ≡ b
one_of o a b e f = let g : Some a ≡ Some b = sym e ∙ f in cc

module _ (vs : List (Option (List ℕ))) (n : ℕ) (at after : List ℕ → Option ℕ) (cs new : List ℕ) (old : Classed vs n at cs) where
  -- one class more
  with_class : (v : Option (List ℕ)) (c : ℕ) → slice_get vs n ≡ Some v → new ≡ cs ++ (c ∷ []) → ((t : List ℕ) (p : ℕ) → after t ≡ Some p → (p < n + 1) × (slice_get vs p ≡ Some (Some t))) →
      (v ≡ None → c ≡ n) → ((t : List ℕ) → v ≡ Some t → after t ≡ Some c) → ((t : List ℕ) (p : ℕ) → at t ≡ Some p → after t ≡ Some p) → Classed vs (n + 1) after new
  with_class v c here made found none some kept = record {
    many = ap length made ∙ length-append cs (c ∷ []) ∙ ap (λ m. m + 1) old.many;
    found = found;
    none = λ i d h k. elim (get_behind cs c d i (sym (ap (λ l. slice_get l i) made) ∙ k)) [
      | inl j ↦ old.none i d h j
      | inr j ↦ (
          let index : i ≡ n = j.0 ∙ old.many in
          j.1 ∙ none (one_of (slice_get vs n) v None here (ap (slice_get vs) (sym index) ∙ h)) ∙ sym index)
    ];
    some = λ i d t h k. elim (get_behind cs c d i (sym (ap (λ l. slice_get l i) made) ∙ k)) [
      | inl j ↦ kept t d (old.some i d t h j)
      | inr j ↦ (
          let index : i ≡ n = j.0 ∙ old.many in
          some t (one_of (slice_get vs n) v (Some t) here (ap (slice_get vs) (sym index) ∙ h)) ∙ ap Some (sym j.1))
    ];
  }

  below : (t : List ℕ) (p : ℕ) → at t ≡ Some p → (p < n + 1) × (slice_get vs p ≡ Some (Some t))
  below t p h = let f = old.found t p h in (omega (arith, f.0), f.1)

  pub classed_step : (v : Option (List ℕ)) (c : ℕ) → slice_get vs n ≡ Some v → new ≡ cs ++ (c ∷ []) → c ≡ class_in at n v → ((t : List ℕ) → after t ≡ known_then at n v t) →
      Classed vs (n + 1) after new
  classed_step None c here made is known =
      with_class None c here made (λ t p h. below t p (sym (known t) ∙ h)) (λ _. is) (λ t e. absurd (let g : None ≡ Some t = e in cc)) (λ t p h. known t ∙ h)
  classed_step (Some s) c here made is known = go (at s) refl is known
    where
      go : (o : Option ℕ) → at s ≡ o → c ≡ unwrap_or o n → ((t : List ℕ) → after t ≡ cond (is_some o) (at t) (cond (bytes_eq s t) (Some n) (at t))) → Classed vs (n + 1) after new
      go (Some p) e is known =
          with_class (Some s) c here made (λ t q h. below t q (sym (known t) ∙ h)) (λ e. absurd cc)
          (λ t f. let same : s ≡ t = cc in known t ∙ ap at (sym same) ∙ e ∙ ap Some (sym is)) (λ t q h. known t ∙ h)
      go None e is known =
          with_class (Some s) c here made found (λ e. absurd cc)
          (λ t f. let same : s ≡ t = cc in known t ∙ ap (λ b. cond b (Some n) (at t)) ((bytes_eq-Decides s t).1 same) ∙ ap Some (sym is)) kept
        where
          found : (t : List ℕ) (q : ℕ) → after t ≡ Some q → (q < n + 1) × (slice_get vs q ≡ Some (Some t))
          found t q h = at_test (bytes_eq s t) refl (sym (known t) ∙ h)
            where
              at_test : (b : Bool) → bytes_eq s t ≡ b → cond b (Some n) (at t) ≡ Some q → (q < n + 1) × (slice_get vs q ≡ Some (Some t))
              at_test true f g =
                  let same : s ≡ t = (bytes_eq-Decides s t).0 f in
                  let index : n ≡ q = cc in
                  (omega (arith, index), ap (slice_get vs) (sym index) ∙ here ∙ ap (λ w. Some (Some w)) same)
              at_test false f g = below t q g

          kept : (t : List ℕ) (q : ℕ) → at t ≡ Some q → after t ≡ Some q
          kept t q h = known t ∙ at_test (bytes_eq s t) refl
            where
              at_test : (b : Bool) → bytes_eq s t ≡ b → cond b (Some n) (at t) ≡ Some q
              at_test true f = absurd (let same : s ≡ t = (bytes_eq-Decides s t).0 f in let g : None ≡ Some q = sym e ∙ ap at same ∙ h in cc)
              at_test false f = h

-- what the classes tell
pub are_classes : (vs : List (Option (List ℕ))) (n : ℕ) (at : List ℕ → Option ℕ) (cs : List ℕ) → n ≡ length vs → Classed vs n at cs → AreClasses vs cs
are_classes vs n at cs all k = record { each = k.many ∙ all; exact = exact }
  where
    exact : (i j c d : ℕ) (v w : Option (List ℕ)) → slice_get vs i ≡ Some v → slice_get vs j ≡ Some w → slice_get cs i ≡ Some c → slice_get cs j ≡ Some d →
        (c ≡ d) ↔ ((i ≡ j) ⊎ AreOneValue v w)
    exact i j c d v w a b e f = (to v w a b, elim_one)
      where
        to : (v w : Option (List ℕ)) → slice_get vs i ≡ Some v → slice_get vs j ≡ Some w → c ≡ d → (i ≡ j) ⊎ AreOneValue v w
        to None None a b q = inl (sym (k.none i c a e) ∙ q ∙ k.none j d b f)
        to None (Some t) a b q =
            let at_d = (k.found t d (k.some j d t b f)).1 in
            let index : d ≡ i = sym q ∙ k.none i c a e in
            absurd (let g : Some (Some t) ≡ Some None = sym at_d ∙ ap (slice_get vs) index ∙ a in cc)
        to (Some t) None a b q =
            let at_c = (k.found t c (k.some i c t a e)).1 in
            let index : c ≡ j = q ∙ k.none j d b f in
            absurd (let g : Some (Some t) ≡ Some None = sym at_c ∙ ap (slice_get vs) index ∙ b in cc)
        to (Some t) (Some s) a b q =
            let at_c = (k.found t c (k.some i c t a e)).1 in
            let at_d = (k.found s d (k.some j d s b f)).1 in
            let g : Some (Some s) ≡ Some (Some t) = sym at_d ∙ ap (slice_get vs) (sym q) ∙ at_c in
            let same : s ≡ t = cc in
            inr (t, refl, ap Some same)

        elim_one : (i ≡ j) ⊎ AreOneValue v w → c ≡ d
        elim_one (inl q) = one_of (slice_get cs j) c d (ap (slice_get cs) (sym q) ∙ e) f
        elim_one (inr (t, g, h)) = one_of (at t) c d (k.some i c t (a ∙ ap Some g) e) (k.some j d t (b ∙ ap Some h) f)

-- ---- the uses of arcs by class

pub classes_from : (cs : List ℕ) (gs : List Geom) (u : Use) → Has u (class_uses cs gs) →
    (n : ℕ) × (g : Geom) × (slice_get cs n ≡ Some u.index) × (slice_get gs n ≡ Some g) × UsesArc u.arc (body_of g.body)
classes_from [] gs u h = absurd h
classes_from (c ∷ cs) [] u h = absurd h
classes_from (c ∷ cs) (g ∷ gs) u h = elim (Has-append u (body_uses c (body_of g.body)) (class_uses cs gs) h) [
  | inl k ↦ (let t = body_from c (body_of g.body) u k in (0, g, ap Some (sym t.0), refl, t.1))
  | inr k ↦ (let t = classes_from cs gs u k in (suc t.0, t.1, t.2, t.3, t.4))
]

pub has_classes : (cs : List ℕ) (gs : List Geom) (n k c : ℕ) (g : Geom) → slice_get cs n ≡ Some c → slice_get gs n ≡ Some g → UsesArc k (body_of g.body) →
    Has (use_at k c) (class_uses cs gs)
has_classes [] gs n k c g e f h = absurd cc
has_classes (d ∷ cs) [] n k c g e f h = absurd cc
has_classes (d ∷ cs) (b ∷ gs) zero k c g e f h =
    let one : d ≡ c = cc in
    let same : b ≡ g = cc in
    Has-append_left (use_at k c) (body_uses d (body_of b.body)) (class_uses cs gs)
    (subst (λ w. Has (use_at k w) (body_uses d (body_of b.body))) one (has_body d k (body_of b.body) (subst (λ w. UsesArc k (body_of w.body)) (sym same) h)))
has_classes (d ∷ cs) (b ∷ gs) (suc n) k c g e f h =
    Has-append_right (use_at k c) (body_uses d (body_of b.body)) (class_uses cs gs) (has_classes cs gs n k c g e f h)

-- the value at an index
pub value_here : (name : List ℕ) (gs : List (Bor Geom)) (n : ℕ) (g : Bor Geom) → n < length gs → g ≡ get_or gs n g →
    slice_get (values_of name (borrowed gs)) n ≡ Some (value_text name g.now.props)
value_here name gs n g m f = get_map (λ h. value_text name h.props) (borrowed gs) n g.now (get_map (λ h. h.now) gs n g (item_at gs n g m f))

pub many_values : (name : List ℕ) (gs : List (Bor Geom)) → length gs ≡ length (values_of name (borrowed gs))
many_values name [] = refl
many_values name (g ∷ gs) = ap suc (many_values name gs)

-- what is known once a text is given the class p
pub known_new : (at after : List ℕ → Option ℕ) (p : ℕ) (t : List ℕ) (v : Option (List ℕ)) → v ≡ Some t → at t ≡ None → ((q : List ℕ) → after q ≡ update bytes_eq at t (Some p) q) →
    (q : List ℕ) → after q ≡ known_then at p v q
known_new at after p t v e none put q =
    put q ∙ sym (ap (λ o. cond (is_some o) (at q) (cond (bytes_eq t q) (Some p) (at q))) none) ∙ sym (ap (λ w. known_then at p w q) e)
