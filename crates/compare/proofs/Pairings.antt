-- The pairs of the layers of two lists in order: what is left of both lists, and then the whole.
use Rattle.std.proofs.Common.{◌≡◌, ◌+◌, ◌<◌, ◌≤◌, ◌⊎◌, ◌++◌, ℕ, zero, suc, List, [], ◌∷◌, inl, inr, refl, sym, ap, ◌∙◌, subst, arith, length, Option, Some, None, Bor, slice_get, append_assoc, append-nil}
use Rattle.std.specs.Prelude.{◌↔◌, map as map_list}
use Rattle.std.specs.List.{AllByRecursion}
use Rattle.std.specs.List.Sorted.{IsStrictlySortedBy}
use Rattle.std.specs.Cmp.Lexicographic.{nat_list_cmp_total, slice_cmp}
use Rattle.std.specs.Option.{option_copied}
use Rattle.std.specs.Ordering.{nat_cmp}
use Rattle.std.specs.Slice.{IsItemAt}
use Rattle.std.specs.declared.cmp.Ordering.{Ordering}
use Rattle.std.specs.declared.cmp.Ordering.TheVariants.{Less, Equal, Greater}
use Rattle.std.proofs.lemmas.Option.{slice_get_past, slice_get_read}
use Rattle.shapes.specs.OrderLaws.{same_text}
use Rattle.theory.specs.Arcs.{Ascends}
use Rattle.theory.specs.Lists.{Has, Pairwise}
use Rattle.theory.proofs.Ascending.{greater_back, less_self}
use Rattle.theory.proofs.ListsOfLists.{Has-map, Pairwise-weaker, get_has, has_get, map_has}
use Rattle.topo.specs.Parts.{LayerParts}
use Rattle.arcs.proofs.Looking.{split_at}
use Rattle.compare.specs.Compared.{AreInOrder, IsNumberOf, IsPairIn, name_of}
use Rattle.compare.specs.Pairing.{IsPairing, order_by_name, pair_by_order}
use Rattle.compare.specs.declared.pairs.LayerPair.{LayerPair}

abbrev R : List ℕ → List ℕ → Ordering
R = slice_cmp nat_cmp

never_before_itself : (q : List ℕ) → ¬ (R q q ≡ Less)
never_before_itself = less_self R nat_list_cmp_total same_text

each : {A : Type 0} (P : A → Type 0) (xs : List A) → AllByRecursion P xs → (x : A) → Has x xs → P x
each P [] a x h = absurd h
each P (y ∷ xs) a x (inl e) = subst P (sym e) a.0
each P (y ∷ xs) a x (inr h) = each P xs a.1 x h

all_of : {A : Type 0} (P : A → Type 0) (xs : List A) → ((x : A) → Has x xs → P x) → AllByRecursion P xs
all_of P [] f = tt
all_of P (x ∷ xs) f = (f x (inl refl), all_of P xs (λ y h. f y (inr h)))

ascends : (qs : List (List ℕ)) → IsStrictlySortedBy R qs → Ascends R qs
unfolding IsStrictlySortedBy
ascends [] s = tt
ascends (q ∷ qs) s = (each (λ r. R q r ≡ Less) qs s.0, ascends qs s.1)

-- a layer comes before those after it
before : (ls : List LayerParts) → AreInOrder ls → (i k : ℕ) (x y : LayerParts) → slice_get ls i ≡ Some x → slice_get ls k ≡ Some y → i < k → R (name_of x) (name_of y) ≡ Less
unfolding IsStrictlySortedBy
before [] s i k x y a b h = absurd cc
before (z ∷ ls) s i zero x y a b h = absurd (omega (arith, h))
before (z ∷ ls) s zero (suc k) x y a b h =
    let e : z ≡ x = cc in
    subst (λ w. R (name_of w) (name_of y) ≡ Less) e
    (each (λ q. R (name_of z) q ≡ Less) (map_list name_of ls) s.0 (name_of y) (Has-map name_of ls y (get_has ls k y b)))
before (z ∷ ls) s (suc i) (suc k) x y a b h = before ls s.1 i k x y a b (omega (arith, h))

one_there : {A : Type 0} (ls : List A) (i k : ℕ) (x y : A) → slice_get ls i ≡ Some x → slice_get ls k ≡ Some y → i ≡ k → x ≡ y
one_there ls i k x y a b e = let t : Some x ≡ Some y = sym a ∙ ap (slice_get ls) e ∙ b in cc

none_behind : {A : Type 0} (ls : List A) (i k : ℕ) (x : A) → slice_get ls i ≡ None → i ≤ k → ¬ (slice_get ls k ≡ Some x)
none_behind [] i k x e h f = absurd cc
none_behind (y ∷ ls) zero k x e h f = absurd cc
none_behind (y ∷ ls) (suc i) zero x e h f = absurd (omega (arith, h))
none_behind (y ∷ ls) (suc i) (suc k) x e h f = none_behind ls i k x e (omega (arith, h)) f

-- ---- what is left of one list

-- a layer with a number of i or above has the name
record IsLeft (ls : List LayerParts) (i : ℕ) (q : List ℕ) : Type 0 where
  at : ℕ
  layer : LayerParts
  low : i ≤ at
  is : slice_get ls at ≡ Some layer
  named : name_of layer ≡ q

-- o is the number of the layer of the name; None where no layer that is left has it
abbrev NumberLeft : List LayerParts → ℕ → List ℕ → Option ℕ → Type 0
NumberLeft ls i q None = ¬ IsLeft ls i q
NumberLeft ls i q (Some k) = IsNumberOf ls q (Some k)

-- of what is left from i on, what is left from j on is all but the name q, which comes first, and o is its number
record Goes (ls : List LayerParts) (i j : ℕ) (q : List ℕ) (o : Option ℕ) : Type 0 where
  number : NumberLeft ls i q o
  only : (r : List ℕ) → IsLeft ls i r → (r ≡ q) ⊎ IsLeft ls j r
  after : (r : List ℕ) → IsLeft ls j r → R q r ≡ Less
  stays : (r : List ℕ) → IsLeft ls j r → IsLeft ls i r

taken : (ls : List LayerParts) → AreInOrder ls → (i : ℕ) (x : LayerParts) → slice_get ls i ≡ Some x → Goes ls i (i + 1) (name_of x) (Some i)
taken ls s i x a = record {
  number = (x, a, refl);
  only = λ r h. elim (split_at i h.at) [
    | inl less ↦ inr (record { at = h.at; layer = h.layer; low = omega (arith, less); is = h.is; named = h.named })
    | inr most ↦ inl (sym h.named ∙ ap name_of (one_there ls h.at i h.layer x h.is a (omega (arith, h.low, most))))
  ];
  after = λ r h. subst (λ w. R (name_of x) w ≡ Less) h.named (before ls s i h.at x h.layer a h.is (omega (arith, h.low)));
  stays = λ r h. record { at = h.at; layer = h.layer; low = omega (arith, h.low); is = h.is; named = h.named };
}

passed : (ls : List LayerParts) (i : ℕ) (q : List ℕ) → ((r : List ℕ) → IsLeft ls i r → R q r ≡ Less) → Goes ls i i q None
passed ls i q f = record { number = λ h. never_before_itself q (f q h); only = λ r h. inr h; after = f; stays = λ r h. h }

none_left : (ls : List LayerParts) (i : ℕ) → slice_get ls i ≡ None → (q : List ℕ) → ¬ IsLeft ls i q
none_left ls i e q h = none_behind ls i h.at h.layer e h.low h.is

-- what comes before the first that is left comes before all that is left
before_left : (ls : List LayerParts) → AreInOrder ls → (i : ℕ) (x : LayerParts) → slice_get ls i ≡ Some x → (q : List ℕ) → R q (name_of x) ≡ Less → (r : List ℕ) → IsLeft ls i r → R q r ≡ Less
before_left ls s i x a q l r h =
    let t : Goes ls i (i + 1) (name_of x) (Some i) = taken ls s i x a in
    elim (t.only r h) [
      | inl e ↦ subst (λ w. R q w ≡ Less) (sym e) l
      | inr k ↦ nat_list_cmp_total.trans q (name_of x) r l (t.after r k)
    ]

number_kept : (ls : List LayerParts) (i j : ℕ) (q : List ℕ) (o : Option ℕ) → Goes ls i j q o → (r : List ℕ) → R q r ≡ Less → (k : Option ℕ) → NumberLeft ls j r k → NumberLeft ls i r k
number_kept ls i j q o t r l None is = λ h. elim (t.only r h) [ inl e ↦ never_before_itself q (subst (λ w. R q w ≡ Less) e l) | inr m ↦ is m ]
number_kept ls i j q o t r l (Some k) is = is

is_there : (ls : List LayerParts) (i : ℕ) (x : LayerParts) → slice_get ls i ≡ Some x → IsLeft ls i (name_of x)
is_there ls i x a = record { at = i; layer = x; low = omega arith; is = a; named = refl }

-- ---- what is left of both

record PairLeft (olds news : List LayerParts) (i j : ℕ) (q : List ℕ) (p : LayerPair) : Type 0 where
  old : NumberLeft olds i q p.old
  new : NumberLeft news j q p.new

-- the pairs of the layers that are left
pub record PairingLeft (olds news : List LayerParts) (i j : ℕ) (ps : List LayerPair) : Type 0 where
  names : List (List ℕ)
  ascend : IsStrictlySortedBy R names
  exact : (q : List ℕ) → Has q names ↔ (IsLeft olds i q ⊎ IsLeft news j q)
  pairs : Pairwise (PairLeft olds news i j) names ps

goes : (olds news : List LayerParts) (i j k l : ℕ) (q : List ℕ) (p : LayerPair) → Goes olds i k q p.old → Goes news j l q p.new → IsLeft olds i q ⊎ IsLeft news j q →
    (ps : List LayerPair) → PairingLeft olds news k l ps → PairingLeft olds news i j (p ∷ ps)
unfolding IsStrictlySortedBy
goes olds news i j k l q p a b there ps left =
    let first : (r : List ℕ) → Has r left.names → R q r ≡ Less = λ r h. elim ((left.exact r).0 h) [ inl o ↦ a.after r o | inr n ↦ b.after r n ] in
    record {
      names = q ∷ left.names;
      ascend = (all_of (λ r. R q r ≡ Less) left.names first, left.ascend);
      exact = λ r. (
        (λ h. elim h [
          | inl e ↦ subst (λ w. IsLeft olds i w ⊎ IsLeft news j w) (sym e) there
          | inr m ↦ elim ((left.exact r).0 m) [ inl o ↦ inl (a.stays r o) | inr n ↦ inr (b.stays r n) ]
        ]),
        (λ h. elim h [
          | inl o ↦ elim (a.only r o) [ inl e ↦ inl e | inr m ↦ inr ((left.exact r).1 (inl m)) ]
          | inr n ↦ elim (b.only r n) [ inl e ↦ inl e | inr m ↦ inr ((left.exact r).1 (inr m)) ]
        ]),
      );
      pairs = (
        record { old = a.number; new = b.number },
        Pairwise-weaker (PairLeft olds news k l) (PairLeft olds news i j) left.names ps
            (λ r s h w. record { old = number_kept olds i k q p.old a r (first r h) s.old w.old; new = number_kept news j l q p.new b r (first r h) s.new w.new })
            left.pairs,
      );
    }

pub nothing_left : (olds news : List LayerParts) (i j : ℕ) → order_by_name (slice_get olds i) (slice_get news j) ≡ None → PairingLeft olds news i j []
unfolding IsStrictlySortedBy
nothing_left olds news i j e = go (slice_get olds i) (slice_get news j) refl refl e
  where
    go : (a b : Option LayerParts) → slice_get olds i ≡ a → slice_get news j ≡ b → order_by_name a b ≡ None → PairingLeft olds news i j []
    go None None f g e = record {
      names = [];
      ascend = tt;
      exact = λ q. ((λ h. absurd h), (λ h. elim h [ inl o ↦ none_left olds i f q o | inr n ↦ none_left news j g q n ]));
      pairs = tt;
    }
    go None (Some y) f g e = absurd cc
    go (Some x) None f g e = absurd cc
    go (Some x) (Some y) f g e = absurd cc

-- the number after that of a pair
abbrev pub number_after : Option ℕ → ℕ → ℕ
number_after None i = i
number_after (Some k) i = i + 1

module _ (olds news : List LayerParts) (s : AreInOrder olds) (t : AreInOrder news) where
  -- the pair that comes first, and those that are left behind it
  pub one_more : (i j : ℕ) (o : Ordering) → order_by_name (slice_get olds i) (slice_get news j) ≡ Some o → (ps : List LayerPair) →
      PairingLeft olds news (number_after (pair_by_order o i j).old i) (number_after (pair_by_order o i j).new j) ps → PairingLeft olds news i j (pair_by_order o i j ∷ ps)
  one_more i j o e ps left = go (slice_get olds i) (slice_get news j) refl refl o e left
    where
      go : (a b : Option LayerParts) → slice_get olds i ≡ a → slice_get news j ≡ b → (o : Ordering) → order_by_name a b ≡ Some o →
          PairingLeft olds news (number_after (pair_by_order o i j).old i) (number_after (pair_by_order o i j).new j) ps → PairingLeft olds news i j (pair_by_order o i j ∷ ps)
      go None None f g o e left = absurd cc
      go (Some x) None f g Less e left =
          goes olds news i j (i + 1) j (name_of x) (pair_by_order Less i j) (taken olds s i x f)
          (passed news j (name_of x) (λ r h. absurd (none_left news j g r h))) (inl (is_there olds i x f)) ps left
      go (Some x) None f g Equal e left = absurd cc
      go (Some x) None f g Greater e left = absurd cc
      go None (Some y) f g Less e left = absurd cc
      go None (Some y) f g Equal e left = absurd cc
      go None (Some y) f g Greater e left =
          goes olds news i j i (j + 1) (name_of y) (pair_by_order Greater i j) (passed olds i (name_of y) (λ r h. absurd (none_left olds i f r h)))
          (taken news t j y g) (inr (is_there news j y g)) ps left
      go (Some x) (Some y) f g Less e left =
          let l : R (name_of x) (name_of y) ≡ Less = cc in
          goes olds news i j (i + 1) j (name_of x) (pair_by_order Less i j) (taken olds s i x f)
          (passed news j (name_of x) (before_left news t j y g (name_of x) l)) (inl (is_there olds i x f)) ps left
      go (Some x) (Some y) f g Equal e left =
          let l : R (name_of x) (name_of y) ≡ Equal = cc in
          goes olds news i j (i + 1) (j + 1) (name_of x) (pair_by_order Equal i j) (taken olds s i x f)
          (subst (λ q. Goes news j (j + 1) q (Some j)) (sym (same_text (name_of x) (name_of y) l)) (taken news t j y g)) (inl (is_there olds i x f)) ps left
      go (Some x) (Some y) f g Greater e left =
          let l : R (name_of x) (name_of y) ≡ Greater = cc in
          goes olds news i j i (j + 1) (name_of y) (pair_by_order Greater i j)
          (passed olds i (name_of y) (before_left olds s i x f (name_of y) (greater_back R nat_list_cmp_total same_text (name_of x) (name_of y) l)))
          (taken news t j y g) (inr (is_there news j y g)) ps left

-- ---- the whole

left_first : (ls : List LayerParts) (q : List ℕ) → IsLeft ls 0 q → Has q (map_list name_of ls)
left_first ls q h = subst (λ w. Has w (map_list name_of ls)) h.named (Has-map name_of ls h.layer (get_has ls h.at h.layer h.is))

first_left : (ls : List LayerParts) (q : List ℕ) → Has q (map_list name_of ls) → IsLeft ls 0 q
first_left ls q h =
    let (l, there, e) = map_has name_of ls q h in
    let (k, at) = has_get ls l there in
    record { at = k; layer = l; low = omega arith; is = at; named = sym e }

number_first : (ls : List LayerParts) (q : List ℕ) (o : Option ℕ) → NumberLeft ls 0 q o → IsNumberOf ls q o
number_first ls q None is = λ l there e. is (first_left ls q (subst (λ w. Has w (map_list name_of ls)) e (Has-map name_of ls l there)))
number_first ls q (Some k) is = is

pub all_paired : (olds news : List LayerParts) (ps : List LayerPair) → PairingLeft olds news 0 0 ps → IsPairing olds news ps
all_paired olds news ps left = record {
  names = left.names;
  ascend = left.ascend;
  exact = λ q. (
    (λ h. elim ((left.exact q).0 h) [ inl o ↦ inl (left_first olds q o) | inr n ↦ inr (left_first news q n) ]),
    (λ h. elim h [ inl o ↦ (left.exact q).1 (inl (first_left olds q o)) | inr n ↦ (left.exact q).1 (inr (first_left news q n)) ]),
  );
  pairs =
      Pairwise-weaker (PairLeft olds news 0 0) (IsPairIn olds news) left.names ps
      (λ q p h w. record { old = number_first olds q p.old w.old; new = number_first news q p.new w.new }) left.pairs;
}

-- ---- the pairs that the code has pushed

-- with the pairs of what is left they are all
abbrev pub AreFirst : List LayerParts → List LayerParts → ℕ → ℕ → List LayerPair → Type 0
AreFirst olds news i j ps = AreInOrder olds → AreInOrder news → (us : List LayerPair) → PairingLeft olds news i j us → IsPairing olds news (ps ++ us)

pub none_first : (olds news : List LayerParts) (ps : List LayerPair) → ps ≡ [] → AreFirst olds news 0 0 ps
none_first olds news ps e = λ s t us left. subst (λ qs. IsPairing olds news (qs ++ us)) (sym e) (all_paired olds news us left)

pub one_pushed : (olds news : List LayerParts) (i j k l : ℕ) (o : Ordering) (ps us : List LayerPair) (p : LayerPair) → Some o ≡ order_by_name (slice_get olds i) (slice_get news j) → p ≡ pair_by_order o i j →
    k ≡ number_after (pair_by_order o i j).old i → l ≡ number_after (pair_by_order o i j).new j → us ≡ ps ++ (p ∷ []) → AreFirst olds news i j ps → AreFirst olds news k l us
one_pushed olds news i j k l o ps us p e f g h all first = λ s t rest left.
    let more : PairingLeft olds news i j (pair_by_order o i j ∷ rest) =
    one_more olds news s t i j o (sym e) rest
    (subst (λ n. PairingLeft olds news n (number_after (pair_by_order o i j).new j) rest) g (subst (λ n. PairingLeft olds news k n rest) h left)) in
    let same : us ++ rest ≡ ps ++ (pair_by_order o i j ∷ rest) = ap (λ qs. qs ++ rest) all ∙ append_assoc ps (p ∷ []) rest ∙ ap (λ q. ps ++ (q ∷ rest)) f in
    subst (IsPairing olds news) (sym same) (first s t (pair_by_order o i j ∷ rest) more)

pub all_pushed : (olds news : List LayerParts) (i j : ℕ) (ps : List LayerPair) → None ≡ order_by_name (slice_get olds i) (slice_get news j) → AreFirst olds news i j ps →
    AreInOrder olds → AreInOrder news → IsPairing olds news ps
all_pushed olds news i j ps e first s t = subst (IsPairing olds news) (append-nil ps) (first s t [] (nothing_left olds news i j (sym e)))

got : {A : Type 0} (xs : List A) (i : ℕ) (r : Option (Bor A)) → IsItemAt xs i r → option_copied r ≡ slice_get xs i
got xs i None h = sym (slice_get_past xs i h.3)
got xs i (Some x) h = sym (slice_get_read xs (length xs) i x.now refl h.3.0 h.1)

-- which layer comes first, as the code asks
pub asked : (olds news : List LayerParts) (i j : ℕ) (a b : Option (Bor LayerParts)) (o : Option Ordering) → IsItemAt olds i a → IsItemAt news j b → o ≡ order_by_name (option_copied a) (option_copied b) →
    o ≡ order_by_name (slice_get olds i) (slice_get news j)
asked olds news i j a b o g h e = e ∙ ap (λ w. order_by_name w (option_copied b)) (got olds i a g) ∙ ap (order_by_name (slice_get olds i)) (got news j b h)

-- ---- there is one such list

one_number : (ls : List LayerParts) → AreInOrder ls → (q : List ℕ) (o u : Option ℕ) → IsNumberOf ls q o → IsNumberOf ls q u → o ≡ u
one_number ls s q None None a b = refl
one_number ls s q None (Some k) a (l, at, named) = absurd (a l (get_has ls k l at) named)
one_number ls s q (Some k) None (l, at, named) b = absurd (b l (get_has ls k l at) named)
one_number ls s q (Some i) (Some k) (x, at, named) (y, there, called) =
    let same : name_of x ≡ name_of y = named ∙ sym called in
    ap Some (elim (split_at i k) [
      | inl less ↦ absurd (never_before_itself (name_of x) (subst (λ w. R (name_of x) w ≡ Less) (sym same) (before ls s i k x y at there less)))
      | inr most ↦ elim (split_at k i) [
        | inl less ↦ absurd (never_before_itself (name_of x) (subst (λ w. R w (name_of x) ≡ Less) (sym same) (before ls s k i y x there at less)))
        | inr least ↦ omega (arith, most, least)
      ]
    ])
