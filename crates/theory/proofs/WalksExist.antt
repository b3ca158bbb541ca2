-- Walks can be taken until no link is left, so each network has a list of all its chains.
use Rattle.std.proofs.Common.{◌≡◌, ◌≤◌, ℕ, zero, suc, List, [], ◌∷◌, ◌++◌, length, ◌⊎◌, inl, inr, refl, sym, ap, ◌∙◌, subst, arith, Option, Some, None}
use Rattle.std.specs.Cmp.{IsTotalOrder}
use Rattle.std.specs.FinMap.{IsAntisymmetric}
use Rattle.std.specs.declared.cmp.Ordering.{Ordering}
use Rattle.theory.proofs.Ascending.{at_most_either, at_most_self}
use Rattle.theory.proofs.Lists.{Beside-flip, Has-append, Has-append_left, Has-append_right}
use Rattle.theory.proofs.Networks.{Joins-flip}
use Rattle.theory.proofs.Turning.{trans_most}
use Rattle.theory.proofs.Walking.{none_some, option_split, passed}
use Rattle.theory.proofs.WalksFindAll.{at_same, joining, same_or_not, stop_or_not}
use Rattle.theory.specs.Geometry.{AtMost}
use Rattle.theory.specs.Lists.{Beside, Has}
use Rattle.theory.specs.Network.{IsNetwork, IsStop, Joins, Network}
use Rattle.theory.specs.Walking.{AreLinks, Found, Noted, Removed, StopsCovered, Walked}

-- nothing where the test says yes
abbrev unless : {A P : Type 0} → Dec P → Option A → Option A
unless (yes e) o = None
unless (no n) o = o

unless_yes : {A P : Type 0} (d : Dec P) (o : Option A) → P → unless d o ≡ None
unless_yes (yes e) o p = refl
unless_yes (no n) o p = absurd (n p)

unless_no : {A P : Type 0} (d : Dec P) (o : Option A) → ¬ P → unless d o ≡ o
unless_no (yes e) o n = absurd (n e)
unless_no (no m) o n = refl

same_some : {A : Type 0} (x y : A) → Some x ≡ Some y → x ≡ y
same_some x y e = cc

-- a list without one place of c
smaller : {V : Type 0} (c : V) (ns : List V) → Has c ns →
    (ms : List V) × (suc (length ms) ≤ length ns) × ((v : V) → Has v ns → ¬ (v ≡ c) → Has v ms)
smaller c [] h = absurd h
smaller c (x ∷ ns) (inl e) = (ns, omega arith, λ v h n. elim h [ inl f ↦ absurd (n (f ∙ sym e)) | inr k ↦ k ])
smaller c (x ∷ ns) (inr h) =
    let t = smaller c ns h in
    (x ∷ t.0, omega (arith, t.1), λ v h n. elim h [ inl f ↦ inl f | inr k ↦ inr (t.2 v k n) ])

-- the list has all vertices that have their links
abbrev AllRecorded : {V : Type 0} → (V → Option (V × V)) → List V → Type 0
AllRecorded {V} m ns = (v : V) → Noted m v → Has v ns

none_recorded : {V : Type 0} (m : V → Option (V × V)) (ns : List V) → AllRecorded m ns → length ns ≤ 0 → (v : V) → m v ≡ None
none_recorded m [] all n v = elim (option_split (m v)) [ inl e ↦ e | inr t ↦ absurd (all v t) ]
none_recorded m (x ∷ ns) all n v = absurd (omega (arith, n))

module _ {V : Type 0} (dec : (a b : V) → Dec (a ≡ b)) where
  -- the links without those of c
  abbrev without : (V → Option (V × V)) → V → V → Option (V × V)
  without m c q = unless (dec q c) (m q)

  removed : (m : V → Option (V × V)) (c : V) → Removed m c (without m c)
  removed m c = record {
    gone = unless_yes (dec c c) (m c) refl;
    rest = λ q n. unless_no (dec q c) (m q) n;
  }

  recorded_yet : (m : V → Option (V × V)) (c v : V) → Noted (without m c) v → (¬ (v ≡ c)) × Noted m v
  recorded_yet m c v t =
      elim (dec v c) [
        | yes e ↦ absurd (none_some (without m c v) (t.0, t.1) (unless_yes (dec v c) (m v) e) t.2)
        | no n ↦ (n, (t.0, t.1, sym (unless_no (dec v c) (m v) n) ∙ t.2))
      ]

  -- a walk from p to c goes on until it comes to a vertex without links
  record Walk (m : V → Option (V × V)) (p c : V) : Type 0 where
    pub list : List V
    pub left : V → Option (V × V)
    pub walked : Walked m p c list left
    pub fewer : (v : V) → Noted left v → Noted m v

  walk : (fuel : ℕ) (m : V → Option (V × V)) (ns : List V) → AllRecorded m ns → length ns ≤ fuel → (p c : V) → Walk m p c
  walk zero m ns all n p c = record { list = []; left = m; walked = (none_recorded m ns all n c, λ q. refl); fewer = λ v t. t }
  walk (suc fuel) m ns all n p c =
      elim (option_split (m c)) [
        | inl e ↦ record { list = []; left = m; walked = (e, λ q. refl); fewer = λ v t. t }
        | inr (a, b, e) ↦
            let s = smaller c ns (all c (a, b, e)) in
            let h = without m c in
            let all' : AllRecorded h s.0 = λ v t. let k = recorded_yet m c v t in s.2 v (all v k.1) k.0 in
            let n' : length s.0 ≤ fuel = omega (arith, n, s.1) in
            elim (dec a p) [
              | yes ap ↦ (let t = walk fuel h s.0 all' n' c b in record {
                list = b ∷ t.list;
                left = t.left;
                walked = (a, b, e, inl (ap, refl), h, removed m c, t.walked);
                fewer = λ v k. (recorded_yet m c v (t.fewer v k)).1;
              })
              | no na ↦ (let t = walk fuel h s.0 all' n' c a in record {
                list = a ∷ t.list;
                left = t.left;
                walked = (a, b, e, inr (na, refl), h, removed m c, t.walked);
                fewer = λ v k. (recorded_yet m c v (t.fewer v k)).1;
              })
            ]
      ]

  -- a segment of the list at v, where it has one
  segment_at : (v : V) (ss : List (V × V)) →
      ((w : V) × (Has {V = V × V} (v, w) ss ⊎ Has {V = V × V} (w, v) ss)) ⊎ ((w : V) → ¬ (Has {V = V × V} (v, w) ss ⊎ Has {V = V × V} (w, v) ss))
  segment_at v [] = inr (λ w h. elim h [ inl z ↦ z | inr z ↦ z ])
  segment_at v (s ∷ ss) =
      elim (dec v s.0) [
        | yes e ↦ inl (s.1, inl (inl (λ i. (e i, s.1))))
        | no n ↦ elim (dec v s.1) [
          | yes e ↦ inl (s.0, inr (inl (λ i. (s.0, e i))))
          | no n' ↦ elim (segment_at v ss) [
            | inl t ↦ inl (t.0, elim t.1 [ inl h ↦ inl (inr h) | inr h ↦ inr (inr h) ])
            | inr f ↦ inr (λ w h. elim h [
              | inl (inl e) ↦ n (ap (λ t. t.0) e)
              | inl (inr k) ↦ f w (inl k)
              | inr (inl e) ↦ n' (ap (λ t. t.1) e)
              | inr (inr k) ↦ f w (inr k)
            ])
          ]
        ]
      ]

-- the ends of segments
abbrev ends_of : {V : Type 0} → List (V × V) → List V
ends_of [] = []
ends_of (s ∷ ss) = s.0 ∷ (s.1 ∷ ends_of ss)

first_end : {V : Type 0} (u v : V) (ss : List (V × V)) → Has {V = V × V} (u, v) ss → Has u (ends_of ss)
first_end u v [] h = h
first_end u v (s ∷ ss) (inl e) = inl (ap (λ t. t.0) e)
first_end u v (s ∷ ss) (inr h) = inr (inr (first_end u v ss h))

second_end : {V : Type 0} (u v : V) (ss : List (V × V)) → Has {V = V × V} (u, v) ss → Has v (ends_of ss)
second_end u v [] h = h
second_end u v (s ∷ ss) (inl e) = inr (inl (ap (λ t. t.1) e))
second_end u v (s ∷ ss) (inr h) = inr (inr (second_end u v ss h))

module _ {V : Type 0} (cmp : V → V → Ordering) (o : IsTotalOrder cmp) (same : IsAntisymmetric cmp) (dec : (a b : V) → Dec (a ≡ b))
    (n : Network V) (ok : IsNetwork n) where
  -- the links at a vertex, by whether it is a stop and has a segment
  link_by : (v : V) → IsStop n v ⊎ (¬ IsStop n v) → ((w : V) × Joins n v w) ⊎ ((w : V) → ¬ Joins n v w) → Option (V × V)
  link_by v (inl j) s = None
  link_by v (inr j) (inl t) = let p = ok.two v t.0 j t.1 in Some (p.0, p.1)
  link_by v (inr j) (inr f) = None

  link_good : (v : V) (d : IsStop n v ⊎ (¬ IsStop n v)) (s : ((w : V) × Joins n v w) ⊎ ((w : V) → ¬ Joins n v w)) (a b : V) → link_by v d s ≡ Some (a, b) →
      (¬ IsStop n v) × Joins n v a × Joins n v b × (¬ (a ≡ b))
  unfolding link_by
  link_good v (inl j) s a b e = absurd cc
  link_good v (inr j) (inr f) a b e = absurd cc
  link_good v (inr j) (inl t) a b e =
      let p = ok.two v t.0 j t.1 in
      let q = same_some {A = V × V} (p.0, p.1) (a, b) e in
      let ea : p.0 ≡ a = ap (λ w. w.0) q in
      let eb : p.1 ≡ b = ap (λ w. w.1) q in
      (j, subst (λ w. Joins n v w) ea p.3, subst (λ w. Joins n v w) eb p.4, λ f. p.2 (ea ∙ f ∙ sym eb))

  link_there : (v w : V) (d : IsStop n v ⊎ (¬ IsStop n v)) (s : ((w : V) × Joins n v w) ⊎ ((w : V) → ¬ Joins n v w)) → ¬ IsStop n v → Joins n v w →
      (a : V) × (b : V) × (link_by v d s ≡ Some (a, b))
  unfolding link_by
  link_there v w (inl j) s nj k = absurd (nj j)
  link_there v w (inr j) (inl t) nj k = let p = ok.two v t.0 j t.1 in (p.0, p.1, refl)
  link_there v w (inr j) (inr f) nj k = absurd (f w k)

  first_links : V → Option (V × V)
  first_links v = link_by v (stop_or_not cmp o same dec n ok v) (segment_at dec v n.segments)

  are_links : AreLinks n first_links
  unfolding first_links
  are_links = record {
    recorded = λ v a b e. link_good v (stop_or_not cmp o same dec n ok v) (segment_at dec v n.segments) a b e;
    every = λ v w j k. link_there v w (stop_or_not cmp o same dec n ok v) (segment_at dec v n.segments) j k;
  }

  -- how far walks have come
  record Taken (ns : List V) : Type 0 where
    pub left : V → Option (V × V)
    pub lists : List (List V)
    pub found : Found cmp n left lists
    pub recorded : AllRecorded left ns

  -- each of these segments that begins at a stop is on a chain
  abbrev Covers : List (V × V) → List (List V) → Type 0
  Covers todo ds = (u v : V) → Has {V = V × V} (u, v) todo → IsStop n u → (d : List V) × Has d ds × Beside u v d

  more : (ns : List V) (t : Taken ns) (todo : List (V × V)) → Covers todo t.lists → (u v : V) → Joins n u v → IsStop n u → IsStop n v ⊎ Noted t.left v →
      (s : Taken ns) × Covers ((u, v) ∷ todo) s.lists
  more ns t todo c u v k ju start =
      let w = walk dec (length ns) t.left ns t.recorded (omega arith) u v in (
        record {
          left = w.left;
          lists = (u ∷ (v ∷ w.list)) ∷ t.lists;
          found = (t.left, t.found, inl (ju, k, start, w.walked));
          recorded = λ x h. t.recorded x (w.fewer x h);
        },
        λ x y h jx. elim h [
          | inl e ↦ (u ∷ (v ∷ w.list), inl refl, inl (inl (ap (λ q. q.0) e, ap (λ q. q.1) e)))
          | inr h' ↦ (let d = c x y h' jx in (d.0, inr d.1, d.2))
        ],
      )

  from_stops : (ns : List V) (todo : List (V × V)) → ((u v : V) → Has {V = V × V} (u, v) todo → Joins n u v) → Taken ns →
      (t : Taken ns) × Covers todo t.lists
  from_stops ns [] joins t = (t, λ u v h j. absurd h)
  from_stops ns (s ∷ todo) joins t =
      let r = from_stops ns todo (λ u v h. joins u v (inr h)) t in
      one r.0 r.1 s.0 s.1 (joins s.0 s.1 (inl refl))
    where
      skip : (r : Taken ns) → Covers todo r.lists → (u v : V) → ¬ IsStop n u → Covers ((u, v) ∷ todo) r.lists
      skip r c u v nj x y (inl e) jx = absurd (nj (subst (λ w. IsStop n w) (ap (λ q. q.0) e) jx))
      skip r c u v nj x y (inr h) jx = c x y h jx

      there : (r : Taken ns) → Covers todo r.lists → (u v : V) → (d : List V) × Has d r.lists × Beside u v d → Covers ((u, v) ∷ todo) r.lists
      there r c u v d x y (inl e) jx =
          (d.0, d.1, subst (λ w. Beside w y d.0) (sym (ap (λ q. q.0) e)) (subst (λ w. Beside u w d.0) (sym (ap (λ q. q.1) e)) d.2))
      there r c u v d x y (inr h) jx = c x y h jx

      one : (r : Taken ns) → Covers todo r.lists → (u v : V) → Joins n u v → (t : Taken ns) × Covers ((u, v) ∷ todo) t.lists
      one r c u v k =
          elim (stop_or_not cmp o same dec n ok u) [
            | inr nj ↦ (r, skip r c u v nj)
            | inl ju ↦ elim (stop_or_not cmp o same dec n ok v) [
              | inl jv ↦ more ns r todo c u v k ju (inl jv)
              | inr nv ↦ elim (option_split (r.left v)) [
                | inr e ↦ more ns r todo c u v k ju (inr e)
                | inl e ↦ (
                  r,
                  there r c u v
                      (let d = passed (Joins n) (IsStop n) (AtMost cmp) (Joins-flip n) ok.two (at_same cmp o same dec n ok) ok.apart
                      (stop_or_not cmp o same dec n ok) (same_or_not dec) (λ d. Has d r.lists) r.left
                      (joining cmp o same dec n ok r.left r.lists r.found) v u nv (Joins-flip n u v k) e in
                      (d.0, d.1, Beside-flip v u d.0 d.2)),
                )
              ]
            ]
          ]

  -- the least vertex that has its links yet, where one has
  least_recorded : (k : V → Option (V × V)) (ns : List V) →
      ((x : V) × Noted k x × ((v : V) → Has v ns → Noted k v → AtMost cmp x v)) ⊎ ((v : V) → Has v ns → k v ≡ None)
  least_recorded k [] = inr (λ v h. absurd h)
  least_recorded k (x ∷ ns) = by (least_recorded k ns) (option_split (k x))
    where
      no_link : (v : V) → Noted k v → k v ≡ None → ⊥
      no_link v t e = none_some (k v) (t.0, t.1) e t.2

      by : ((y : V) × Noted k y × ((v : V) → Has v ns → Noted k v → AtMost cmp y v)) ⊎ ((v : V) → Has v ns → k v ≡ None) →
          (k x ≡ None) ⊎ Noted k x →
          ((y : V) × Noted k y × ((v : V) → Has v (x ∷ ns) → Noted k v → AtMost cmp y v)) ⊎ ((v : V) → Has v (x ∷ ns) → k v ≡ None)
      by (inr f) (inl e) = inr (λ v h. elim h [ inl g ↦ subst (λ w. k w ≡ None) (sym g) e | inr g ↦ f v g ])
      by (inr f) (inr t) = inl (
        x,
        t,
        λ v h q. elim h [
          | inl g ↦ subst (λ w. AtMost cmp x w) (sym g) (at_most_self cmp o same x)
          | inr g ↦ absurd (no_link v q (f v g))
        ],
      )
      by (inl (y, ny, ly)) (inl e) = inl (
        y,
        ny,
        λ v h q. elim h [
          | inl g ↦ absurd (no_link v q (subst (λ w. k w ≡ None) (sym g) e))
          | inr g ↦ ly v g q
        ],
      )
      by (inl (y, ny, ly)) (inr t) =
          elim (at_most_either cmp o same x y) [
            | inl m ↦ inl (
              x,
              t,
              λ v h q. elim h [
                | inl g ↦ subst (λ w. AtMost cmp x w) (sym g) (at_most_self cmp o same x)
                | inr g ↦ trans_most cmp o x y v m (ly v g q)
              ],
            )
            | inr m ↦ inl (
              y,
              ny,
              λ v h q. elim h [
                | inl g ↦ subst (λ w. AtMost cmp y w) (sym g) m
                | inr g ↦ ly v g q
              ],
            )
          ]

  -- walks that left no link
  pub record Done : Type 0 where
    pub left : V → Option (V × V)
    pub lists : List (List V)
    pub found : Found cmp n left lists
    pub none : (v : V) → left v ≡ None
    pub covered : StopsCovered n lists

  round_the_rest : (fuel : ℕ) (ns : List V) (t : Taken ns) → length ns ≤ fuel → StopsCovered n t.lists → Done
  round_the_rest zero ns t m c = record { left = t.left; lists = t.lists; found = t.found; none = none_recorded t.left ns t.recorded m; covered = c }
  round_the_rest (suc fuel) ns t m c =
      elim (least_recorded t.left ns) [
        | inr f ↦ record {
          left = t.left;
          lists = t.lists;
          found = t.found;
          none = λ v. elim (option_split (t.left v)) [ inl e ↦ e | inr e ↦ f v (t.recorded v e) ];
          covered = c;
        }
        | inl (x, (a, b, e), least) ↦
            let h = without dec t.left x in
            let s = smaller x ns (t.recorded x (a, b, e)) in
            let all : AllRecorded h s.0 = λ v q. let k = recorded_yet dec t.left x v q in s.2 v (t.recorded v k.1) k.0 in
            let w = walk dec (length s.0) h s.0 all (omega arith) x a in
            round_the_rest fuel s.0
            (record {
              left = w.left;
              lists = (x ∷ (a ∷ w.list)) ∷ t.lists;
              found = (t.left, t.found, inr (c, (b, h, e, (λ v q. least v (t.recorded v q) q), removed dec t.left x, w.walked)));
              recorded = λ v q. all v (w.fewer v q);
            })
            (omega (arith, m, s.1))
            (λ u v ju k. let d = c u v ju k in (d.0, inr d.1, d.2))
      ]

  flipped : List (V × V) → List (V × V)
  flipped [] = []
  flipped (s ∷ ss) = (s.1, s.0) ∷ flipped ss

  flipped_has : (u v : V) (ss : List (V × V)) → Has {V = V × V} (u, v) (flipped ss) → Has {V = V × V} (v, u) ss
  unfolding flipped
  flipped_has u v [] h = h
  flipped_has u v (s ∷ ss) (inl e) = inl (λ i. ((e i).1, (e i).0))
  flipped_has u v (s ∷ ss) (inr h) = inr (flipped_has u v ss h)

  has_flipped : (u v : V) (ss : List (V × V)) → Has {V = V × V} (v, u) ss → Has {V = V × V} (u, v) (flipped ss)
  unfolding flipped
  has_flipped u v [] h = h
  has_flipped u v (s ∷ ss) (inl e) = inl (λ i. ((e i).1, (e i).0))
  has_flipped u v (s ∷ ss) (inr h) = inr (has_flipped u v ss h)

  both_ways : List (V × V)
  both_ways = n.segments ++ flipped n.segments

  pub walks_exist : Done
  unfolding both_ways
  walks_exist =
      let a = from_stops (ends_of n.segments) both_ways joins
      (record { left = first_links; lists = []; found = are_links; recorded = λ v t. there v t.0 (are_links.recorded v t.0 t.1 t.2).1 }) in
      round_the_rest (length (ends_of n.segments)) (ends_of n.segments) a.0 (omega arith)
      (λ u v ju k. a.1 u v (elim k [
        | inl h ↦ Has-append_left {V = V × V} (u, v) n.segments (flipped n.segments) h
        | inr h ↦ Has-append_right {V = V × V} (u, v) n.segments (flipped n.segments) (has_flipped u v n.segments h)
      ]) ju)
    where
      joins : (u v : V) → Has {V = V × V} (u, v) both_ways → Joins n u v
      joins u v h = elim (Has-append {V = V × V} (u, v) n.segments (flipped n.segments) h) [
        | inl k ↦ inl k
        | inr k ↦ inr (flipped_has u v n.segments k)
      ]

      there : (v a : V) → Joins n v a → Has v (ends_of n.segments)
      there v a (inl h) = first_end v a n.segments h
      there v a (inr h) = second_end a v n.segments h
