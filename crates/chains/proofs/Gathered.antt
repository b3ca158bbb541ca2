-- The lists of ends and visits against the visits of lines and rings.
use Rattle.std.proofs.Common.{◌≡◌, List, [], ◌∷◌, ◌++◌, ◌⊎◌, inl, inr, refl, sym, ap, ◌∙◌, subst}
use Rattle.std.specs.List.Sorted.{IsPermutation, IsSortedByKey}
use Rattle.std.proofs.lemmas.List.Sorted.{IsPermutation-sym}
use Rattle.theory.specs.Lists.{Has, Passes, EndOf, Between, gathered}
use Rattle.theory.specs.LinesAndRings.{around}
use Rattle.theory.specs.Junction.{Visit as Seen, Visits, SameVisit}
use Rattle.theory.specs.Junction.Visit.{end, pair}
use Rattle.theory.specs.Geometry.{Geometry, IsLineOf, IsRingOf, JunctionOf}
use Rattle.theory.specs.Topology.{lines_in, rings_in, forms_of, Shape}
use Rattle.theory.proofs.Lists.{Has-append, Has-append_left, Has-append_right}
use Rattle.theory.proofs.ListsOfLists.{Has-gathered, gathered_from}
use Rattle.grid.specs.declared.pos.Pos.{Pos}
use Rattle.lines.specs.Turned.{position_cmp}
use Rattle.shapes.specs.Maps.{Layers}
use Rattle.chains.specs.Visits.{HaveSame, visit_of, inner_from, inner_of, around_of, ends_of, clashes_of}
use Rattle.chains.specs.VertexFilter.{KeepsClashes}
use Rattle.chains.specs.Seen.{seen, geometry_of}
use Rattle.chains.specs.Index.{IsIndexOf, AreVisitsOf, form_ends, form_visits}
use Rattle.chains.specs.declared.visits.Visit.{Visit}
use Rattle.lines.proofs.SortedLists.{Has-permutation, up_from_sorted}
use Rattle.lines.proofs.Pairs.{pair_same, pair_flip}
use Rattle.chains.proofs.Clashes.{Clash, visit_cmp, visit_total, clash_from_sorted, sorted_from_clash}

pub ends_has : (v : Pos) (l : List Pos) → EndOf v l → Has v (ends_of l)
ends_has v [] h = absurd h
ends_has v (x ∷ []) (inl e) = inl e
ends_has v (x ∷ []) (inr e) = inl e
ends_has v (x ∷ (y ∷ r)) (inl e) = inl e
ends_has v (x ∷ (y ∷ r)) (inr e) = inr (inl e)

pub has_ends : (v : Pos) (l : List Pos) → Has v (ends_of l) → EndOf v l
has_ends v [] h = absurd h
has_ends v (x ∷ []) (inl e) = inl e
has_ends v (x ∷ []) (inr h) = absurd h
has_ends v (x ∷ (y ∷ r)) (inl e) = inl e
has_ends v (x ∷ (y ∷ r)) (inr (inl e)) = inr e
has_ends v (x ∷ (y ∷ r)) (inr (inr h)) = absurd h

visit_flip : (a v b : Pos) → visit_of a v b ≡ visit_of b v a
visit_flip a v b = λ i. record { vertex = v; sides = pair_flip a b i }

visit_at : (a v b x y z : Pos) → a ≡ x → v ≡ y → b ≡ z → visit_of a v b ≡ visit_of x y z
visit_at a v b x y z e f g = λ i. visit_of (e i) (f i) (g i)

passes_from : (a v b x y : Pos) (r : List Pos) → Passes a v b (x ∷ (y ∷ r)) → Has (visit_of a v b) (inner_from x y r)
passes_from a v b x y [] (inl h) = absurd h.1.1
passes_from a v b x y [] (inr (inl h)) = absurd h.1
passes_from a v b x y [] (inr (inr h)) = absurd h
passes_from a v b x y (z ∷ r) (inl h) = inl (visit_at a v b x y z h.0 h.1.0 h.1.1)
passes_from a v b x y (z ∷ r) (inr h) = inr (passes_from a v b y z r h)

passes_has : (a v b : Pos) (l : List Pos) → Passes a v b l → Has (visit_of a v b) (inner_of l)
passes_has a v b [] h = absurd h
passes_has a v b (x ∷ []) (inl h) = absurd h.1
passes_has a v b (x ∷ []) (inr h) = absurd h
passes_has a v b (x ∷ (y ∷ r)) h = passes_from a v b x y r h

pub between_has : (a v b : Pos) (l : List Pos) → Between a v b l → Has (visit_of a v b) (inner_of l)
between_has a v b l (inl h) = passes_has a v b l h
between_has a v b l (inr h) = subst (λ w. Has w (inner_of l)) (visit_flip b v a) (passes_has b v a l h)

-- a visit that stands in a list
pub record Found (w : Visit) (l : List Pos) : Type 0 where
  pub before : Pos
  pub next : Pos
  pub is : w ≡ visit_of before w.vertex next
  pub there : Passes before w.vertex next l

found_from : (w : Visit) (x y : Pos) (r : List Pos) → Has w (inner_from x y r) → Found w (x ∷ (y ∷ r))
found_from w x y [] h = absurd h
found_from w x y (z ∷ r) (inl e) =
    let v : w.vertex ≡ y = ap (λ u. u.vertex) e in
    record { before = x; next = z; is = e ∙ ap (λ u. visit_of x u z) (sym v); there = inl (refl, (v, refl)) }
found_from w x y (z ∷ r) (inr h) =
    let t = found_from w y z r h in record { before = t.before; next = t.next; is = t.is; there = inr t.there }

pub found_in : (w : Visit) (l : List Pos) → Has w (inner_of l) → Found w l
found_in w [] h = absurd h
found_in w (x ∷ []) h = absurd h
found_in w (x ∷ (y ∷ r)) h = found_from w x y r h

same_seen : (a b c d v : Pos) → visit_of a v b ≡ visit_of c v d → SameVisit (pair a b) (pair c d)
same_seen a b c d v e = pair_same a b c d (ap (λ w. w.sides) e)

seen_same : (v w : Pos) (a b c d : Pos) → v ≡ w → SameVisit (pair a b) (pair c d) → visit_of a v b ≡ visit_of c w d
seen_same v w a b c d e (inl h) = visit_at a v b c w d h.0 e h.1
seen_same v w a b c d e (inr h) = visit_flip a v b ∙ visit_at b v a c w d h.1 e h.0

module _ (g : Geometry Pos) (ends : List Pos) (visits : List Visit) (are : AreVisitsOf ends visits g) where
  Seen_so : Pos → Seen Pos → Type 0
  Seen_so = Visits (IsLineOf g) (IsRingOf g)

  pub clash_seen : (v : Pos) → Clash v visits → JunctionOf g v
  unfolding Seen_so
  clash_seen v c =
      let k = are.pairs_only c.one c.has_one in
      let m = are.pairs_only c.other c.has_other in
      inr (
        pair k.0 k.1,
        pair m.0 m.1,
        subst (λ w. Seen_so w (pair k.0 k.1)) c.at_one k.3,
        subst (λ w. Seen_so w (pair m.0 m.1)) c.at_other m.3,
        λ s. c.differ (k.2 ∙ seen_same c.one.vertex c.other.vertex k.0 k.1 m.0 m.1 (c.at_one ∙ sym c.at_other) s ∙ sym m.2),
      )

  seen_clash : (v : Pos) → JunctionOf g v → Has v ends ⊎ Clash v visits
  unfolding Seen_so
  seen_clash v (inl h) = inl (are.ends_all v h)
  seen_clash v (inr t) = two t.0 t.1 t.2 t.3 t.4
    where
      two : (p q : Seen Pos) → Seen_so v p → Seen_so v q → ¬ SameVisit p q → Has v ends ⊎ Clash v visits
      two end q h k d = inl (are.ends_all v h)
      two (pair a b) end h k d = inl (are.ends_all v k)
      two (pair a b) (pair e f) h k d =
          inr (record { one = visit_of a v b; other = visit_of e v f; has_one = are.pairs_all a v b h; has_other = are.pairs_all e v f k; at_one = refl; at_other = refl; differ = λ z. d (same_seen a b e f v z) })

clash_moved : (v : Pos) (xs ys : List Visit) → IsPermutation xs ys → Clash v xs → Clash v ys
clash_moved v xs ys p c = record {
  one = c.one;
  other = c.other;
  has_one = Has-permutation xs ys c.one p c.has_one;
  has_other = Has-permutation xs ys c.other p c.has_other;
  at_one = c.at_one;
  at_other = c.at_other;
  differ = c.differ;
}

-- where each visit that clashes is kept, the same vertices have clashes
clash_kept : (v : Pos) (kept all : List Visit) → KeepsClashes kept all → Clash v all → Clash v kept
clash_kept v kept all keeps c = record {
  one = c.one;
  other = c.other;
  has_one = keeps.clashing c.one c.other c.has_one c.has_other (c.at_one ∙ sym c.at_other) c.differ;
  has_other = keeps.clashing c.other c.one c.has_other c.has_one (c.at_other ∙ sym c.at_one) (λ e. c.differ (sym e));
  at_one = c.at_one;
  at_other = c.at_other;
  differ = c.differ;
}

kept_clash : (v : Pos) (kept all : List Visit) → KeepsClashes kept all → Clash v kept → Clash v all
kept_clash v kept all keeps c = record {
  one = c.one;
  other = c.other;
  has_one = keeps.only c.one c.has_one;
  has_other = keeps.only c.other c.has_other;
  at_one = c.at_one;
  at_other = c.at_other;
  differ = c.differ;
}

-- ends of which some that stand twice are left out
pub ends_alike : (g : Geometry Pos) (ends fewer : List Pos) (all : List Visit) → HaveSame fewer ends → AreVisitsOf ends all g → AreVisitsOf fewer all g
ends_alike g ends fewer all s are = record {
  ends_all = λ v h. (s.members v).1 (are.ends_all v h);
  ends_only = λ v h. are.ends_only v ((s.members v).0 h);
  pairs_all = are.pairs_all;
  pairs_only = are.pairs_only;
}

-- sorted by vertex, looked through, put behind the ends and sorted
pub junctions_kept : (g : Geometry Pos) (ends kept sorted : List Pos) (all visits ordered given : List Visit) → KeepsClashes visits all →
    AreVisitsOf ends all g → IsPermutation visits ordered →
    IsSortedByKey (λ (v : Visit). v.vertex) position_cmp ordered → given ≡ ordered → kept ≡ ends ++ clashes_of given → IsPermutation kept sorted →
    IsIndexOf sorted g
junctions_kept g ends kept sorted all visits ordered given keeps are p s h k q = record {
  all = λ v j. Has-permutation kept sorted v q (subst (Has v) (sym k)
      (elim (seen_clash g ends all are v j) [
        | inl e ↦ Has-append_left v ends (clashes_of given) e
        | inr c ↦ Has-append_right v ends (clashes_of given) (subst (λ w. Has v (clashes_of w)) (sym h)
            (sorted_from_clash v ordered (up_from_sorted visit_cmp visit_total ordered s) (clash_moved v visits ordered p (clash_kept v visits all keeps c))))
      ]));
  only = λ v m.
      elim (Has-append v ends (clashes_of given) (subst (Has v) k (Has-permutation sorted kept v (IsPermutation-sym kept sorted q) m))) [
        | inl a ↦ inl (are.ends_only v a)
        | inr b ↦ clash_seen g ends all are v (kept_clash v visits all keeps (clash_moved v ordered visits (IsPermutation-sym visits ordered p)
            (clash_from_sorted v ordered (subst (λ w. Has v (clashes_of w)) h b))))
      ];
}

-- what is gathered from the forms of a map
module _ (m : Layers) where
  forms : List (Shape Pos)
  forms = forms_of (seen m)

  line_there : (f : Shape Pos) (l : List Pos) → Has f forms → Has l (lines_in f) → IsLineOf (geometry_of m) l
  unfolding forms
  line_there f l h k = Has-gathered lines_in forms f l h k

  ring_there : (f : Shape Pos) (r : List Pos) → Has f forms → Has r (rings_in f) → IsRingOf (geometry_of m) r
  unfolding forms
  ring_there f r h k = Has-gathered rings_in forms f r h k

  pairs_only : (w : Visit) → Has w (gathered form_visits forms) →
      (a : Pos) × (b : Pos) × (w ≡ visit_of a w.vertex b) × Visits (IsLineOf (geometry_of m)) (IsRingOf (geometry_of m)) w.vertex (pair a b)
  pairs_only w h =
      let t = gathered_from form_visits forms w h in
      elim (Has-append w (gathered inner_of (lines_in t.0)) (gathered around_of (rings_in t.0)) t.2) [
        | inl k ↦ (let l = gathered_from inner_of (lines_in t.0) w k in
            let f = found_in w l.0 l.2 in (f.before, f.next, f.is, inl (l.0, line_there t.0 l.0 t.1 l.1, inl f.there)))
        | inr k ↦ (let r = gathered_from around_of (rings_in t.0) w k in
            let f = found_in w (around r.0) r.2 in (f.before, f.next, f.is, inr (r.0, ring_there t.0 r.0 t.1 r.1, inl f.there)))
      ]

  pairs_all : (a v b : Pos) → Visits (IsLineOf (geometry_of m)) (IsRingOf (geometry_of m)) v (pair a b) → Has (visit_of a v b) (gathered form_visits forms)
  unfolding forms
  pairs_all a v b (inl t) =
      let f = gathered_from lines_in forms t.0 t.1 in
      Has-gathered form_visits forms f.0 (visit_of a v b) f.1
      (Has-append_left (visit_of a v b) (gathered inner_of (lines_in f.0)) (gathered around_of (rings_in f.0))
      (Has-gathered inner_of (lines_in f.0) t.0 (visit_of a v b) f.2 (between_has a v b t.0 t.2)))
  pairs_all a v b (inr t) =
      let f = gathered_from rings_in forms t.0 t.1 in
      Has-gathered form_visits forms f.0 (visit_of a v b) f.1
      (Has-append_right (visit_of a v b) (gathered inner_of (lines_in f.0)) (gathered around_of (rings_in f.0))
      (Has-gathered around_of (rings_in f.0) t.0 (visit_of a v b) f.2 (between_has a v b (around t.0) t.2)))

  visits_of_map : AreVisitsOf (gathered form_ends forms) (gathered form_visits forms) (geometry_of m)
  unfolding forms
  visits_of_map = record {
    ends_all = λ v t.
        let f = gathered_from lines_in forms t.0 t.1 in
        Has-gathered form_ends forms f.0 v f.1 (Has-gathered ends_of (lines_in f.0) t.0 v f.2 (ends_has v t.0 t.2));
    ends_only = λ v h.
        let f = gathered_from form_ends forms v h in
        let l = gathered_from ends_of (lines_in f.0) v f.2 in
        (l.0, line_there f.0 l.0 f.1 l.1, has_ends v l.0 l.2);
    pairs_all = pairs_all;
    pairs_only = pairs_only;
  }

  same_visits : (ends : List Pos) (xs ys : List Visit) → HaveSame xs ys → AreVisitsOf ends ys (geometry_of m) → AreVisitsOf ends xs (geometry_of m)
  same_visits ends xs ys s are = record {
    ends_all = are.ends_all;
    ends_only = are.ends_only;
    pairs_all = λ a v b h. (s.members (visit_of a v b)).1 (are.pairs_all a v b h);
    pairs_only = λ w h. are.pairs_only w ((s.members w).0 h);
  }

  pub visits_are : (ends : List Pos) (visits : List Visit) → ends ≡ gathered form_ends (forms_of (seen m)) → HaveSame visits (gathered form_visits (forms_of (seen m))) →
      AreVisitsOf ends visits (geometry_of m)
  unfolding forms
  visits_are ends visits e f =
      same_visits ends visits (gathered form_visits forms) f
      (subst (λ w. AreVisitsOf w (gathered form_visits forms) (geometry_of m)) (sym e) visits_of_map)
