-- The segments that a filter selects, from the spans of the arcs.
use Rattle.std.proofs.Common.{◌≡◌, ◌↔◌, ◌<◌, ◌≤◌, ◌+◌, ℕ, zero, suc, Bool, true, false, List, [], ◌∷◌, length, ◌⊎◌, inl, inr, refl, sym, ap, ◌∙◌, subst, Option, Some, None, slice_get, arith, replicate}
use Rattle.std.specs.Prelude.{map as map_list}
use Rattle.std.specs.Cmp.{tied_itself}
use Rattle.std.specs.Ordering.{is_gt}
use Rattle.grid.specs.declared.pos.Pos.{Pos}
use Rattle.lines.specs.Turned.{position_cmp}
use Rattle.lines.specs.Positions.{position_total, position_same}
use Rattle.shapes.specs.Maps.{Layers}
use Rattle.shapes.specs.Order.{feature_cmp}
use Rattle.shapes.specs.OrderLaws.{feature_cmp_total, same_feature}
use Rattle.shapes.specs.declared.feature.Feature.{Feature}
use Rattle.arcs.specs.Arcs.{Arcs}
use Rattle.chains.specs.Joined.{AmongSegments}
use Rattle.chains.specs.Seen.{form_of, geometry_of}
use Rattle.chains.specs.declared.segment.Segment.{Segment}
use Rattle.theory.specs.Geometry.{AtMost}
use Rattle.theory.specs.LinesAndRings.{Trail}
use Rattle.theory.specs.Lists.{Beside, Has, Steps}
use Rattle.theory.specs.Topology.{Body}
use Rattle.theory.specs.Users.{UsesArc}
use Rattle.theory.proofs.Ascending.{at_most_same, dec_by}
use Rattle.theory.proofs.ListsOfLists.{get_has, has_get}
use Rattle.theory.proofs.UsersOfArcs.{users}
use Rattle.topo.specs.OfMap.{IsOf, body_of}
use Rattle.topo.specs.Parts.{TopologyParts}
use Rattle.topo.proofs.Sound.{are_sound}
use Rattle.chains.specs.Along.{HasArcs}
use Rattle.query.specs.Mesh.{InScope, HasSide, IsLeastWith, IsGreatestWith, AreSelected}
use Rattle.query.specs.Members.{AreMembers, InOrder}
use Rattle.query.specs.Selecting.{AreChosen}
use Rattle.query.specs.Spans.{with_uses}
use Rattle.query.specs.Uses.{bodies_uses, use_at}
use Rattle.query.specs.declared.members.Member.{Member}
use Rattle.query.specs.declared.spans.Span.{Span}
use Rattle.query.specs.declared.uses.Use.{Use}
use Rattle.query.proofs.LayerFeatures.{form_rings, form_segment}
use Rattle.chains.proofs.Siding.{arc_on, beside_sides, on_arc, sides_beside}
use Rattle.query.proofs.Spanning.{Spans, span_of}
use Rattle.query.proofs.UsesOfBodies.{bodies_from, has_bodies}

pub get_less : {A : Type 0} (l : List A) (k : ℕ) (x : A) → slice_get l k ≡ Some x → k < length l
get_less [] k x e = absurd cc
get_less (y ∷ l) zero x e = omega arith
get_less (y ∷ l) (suc k) x e = let h = get_less l k x e in omega (arith, h)

pub map_get : {A B : Type 0} (f : A → B) (l : List A) (i : ℕ) (y : B) → slice_get (map_list f l) i ≡ Some y → (x : A) × (slice_get l i ≡ Some x) × (y ≡ f x)
map_get f [] i y e = absurd cc
map_get f (x ∷ l) zero y e = let same : f x ≡ y = cc in (x, refl, sym same)
map_get f (x ∷ l) (suc i) y e = map_get f l i y e

pub get_map : {A B : Type 0} (f : A → B) (l : List A) (i : ℕ) (x : A) → slice_get l i ≡ Some x → slice_get (map_list f l) i ≡ Some (f x)
get_map f [] i x e = absurd cc
get_map f (y ∷ l) zero x e = let same : y ≡ x = cc in ap (λ w. Some (f w)) same
get_map f (y ∷ l) (suc i) x e = get_map f l i x e

-- what stands earlier does not come after
ordered_at : (ps : List Member) → InOrder ps → (i j : ℕ) (p q : Member) → i ≤ j → slice_get ps i ≡ Some p → slice_get ps j ≡ Some q → AtMost feature_cmp p.feature q.feature
ordered_at [] o i j p q h e f = absurd cc
ordered_at (r ∷ ps) o zero zero p q h e f =
    let a : r ≡ p = cc in
    let b : r ≡ q = cc in
    subst (λ w. is_gt (feature_cmp p.feature w.feature) ≡ false) (sym a ∙ b) (ap is_gt (tied_itself feature_cmp_total p.feature))
ordered_at (r ∷ ps) o zero (suc j) p q h e f =
    let a : r ≡ p = cc in
    subst (λ w. is_gt (feature_cmp w.feature q.feature) ≡ false) a (o.0 q (get_has ps j q f))
ordered_at (r ∷ ps) o (suc i) zero p q h e f = absurd (omega (arith, h))
ordered_at (r ∷ ps) o (suc i) (suc j) p q h e f = ordered_at ps o.1 i j p q (omega (arith, h)) e f

steps_differ : (c : List Pos) → Trail c → (u v : Pos) → Steps u v c → ¬ (u ≡ v)
steps_differ [] t u v h = absurd h
steps_differ (x ∷ l) t u v (inl k) = λ e. (t.0 v k.1).0 (sym k.0 ∙ e)
steps_differ (x ∷ l) t u v (inr k) = steps_differ l t.1 u v k

pub beside_differ : (c : List Pos) → Trail c → (u v : Pos) → Beside u v c → ¬ (u ≡ v)
beside_differ c t u v (inl k) = steps_differ c t u v k
beside_differ c t u v (inr k) = λ e. steps_differ c t v u k (sym e)

module _ (m : Layers) (t : TopologyParts) (of : IsOf m t) (scope : Option (List ℕ)) (ms : List Member) (are : AreMembers m t scope ms) where
  abbrev In : Feature → Type 0
  In f = InScope m scope f

  abbrev bodies : List (Body Pos)
  bodies = map_list (λ p. body_of p.body.now) ms

  abbrev uses : List Use
  uses = bodies_uses 0 (map_list (λ p. body_of p.body.now) ms)

  -- who uses an arc
  use_from : (k i : ℕ) → Has (use_at k i) uses → (p : Member) × (slice_get ms i ≡ Some p) × UsesArc k (body_of p.body.now)
  use_from k i h =
      let (n, b, at, is, used) = bodies_from bodies 0 (use_at k i) h in
      let (p, there, same) = map_get (λ p. body_of p.body.now) ms n b at in
      let index : i ≡ n = omega (arith, is) in
      (p, subst (λ j. slice_get ms j ≡ Some p) (sym index) there, subst (λ w. UsesArc k w) same used)

  use_to : (k i : ℕ) (p : Member) → slice_get ms i ≡ Some p → UsesArc k (body_of p.body.now) → Has (use_at k i) uses
  use_to k i p at used =
      let e : 0 + i ≡ i = omega arith in
      subst (λ n. Has (use_at k n) uses) e (has_bodies bodies 0 i k (body_of p.body.now) (get_map (λ p. body_of p.body.now) ms i p at) used)

  -- a member has a segment where it uses its arc
  has_uses : (p : Member) → Has p ms → (k : ℕ) (c : List Pos) (u v : Pos) → slice_get t.arcs.arcs k ≡ Some c → Beside u v c →
      HasSide u v p.feature ↔ UsesArc k (body_of p.body.now)
  has_uses p h k c u v e b =
      users position_cmp position_total position_same (dec_by position_cmp position_total position_same) (geometry_of m) (are_sound m) t.arcs.arcs of.table.arcs
      (form_of p.feature.shape) (body_of p.body.now) (are.only p h).body (form_rings m p.feature (are.only p h).form) k c u v e b

  -- the ends of a span are the least and the greatest feature that have the arc's segments
  span_ends : (k : ℕ) (c : List Pos) (u v : Pos) → slice_get t.arcs.arcs k ≡ Some c → Beside u v c → (s : Span) → Spans (Some s) (λ q. Has (use_at k q) uses) →
      (p : Member) × (q : Member) × (slice_get ms s.least ≡ Some p) × (slice_get ms s.greatest ≡ Some q) × IsLeastWith In u v p.feature × IsGreatestWith In u v q.feature
  span_ends k c u v e b s (first, last, between) =
      let (p, at, used) = use_from k s.least first in
      let (q, at', used') = use_from k s.greatest last in
      let hp = get_has ms s.least p at in
      let hq = get_has ms s.greatest q at' in (
        p,
        q,
        at,
        at',
        record {
          within = (are.only p hp).within;
          has = (has_uses p hp k c u v e b).1 used;
          least = λ g i h. let (r, j, there, same, kept) = user g i h in subst (λ w. AtMost feature_cmp p.feature w) same (ordered_at ms are.ordered s.least j p r kept.0 at there);
        },
        record {
          within = (are.only q hq).within;
          has = (has_uses q hq k c u v e b).1 used';
          greatest = λ g i h. let (r, j, there, same, kept) = user g i h in subst (λ w. AtMost feature_cmp w q.feature) same (ordered_at ms are.ordered j s.greatest r q kept.1 there at');
        },
      )
    where
      user : (g : Feature) → In g → HasSide u v g → (r : Member) × (j : ℕ) × (slice_get ms j ≡ Some r) × (r.feature ≡ g) × ((s.least ≤ j) × (j ≤ s.greatest))
      user g i h =
          let (r, there, same) = are.all g i in
          let (j, at) = has_get ms r there in
          let used = (has_uses r there k c u v e b).0 (subst (λ w. HasSide u v w) (sym same) h) in
          (r, j, at, same, between j (use_to k j r at used))

  module _ (Says : Feature → Feature → Bool → Type 0) (chosen : List ℕ) (segs : List Segment)
      (choice : AreChosen Says ms (with_uses (replicate (length t.arcs.arcs) None) uses) chosen) (has : HasArcs t.arcs.arcs chosen segs) where
    spanned : (k : ℕ) (c : List Pos) → slice_get t.arcs.arcs k ≡ Some c →
        (o : Option Span) × (slice_get (with_uses (replicate (length t.arcs.arcs) None) uses) k ≡ Some o) × Spans o (λ q. Has (use_at k q) uses)
    spanned k c e = span_of (length t.arcs.arcs) uses k (get_less t.arcs.arcs k c e)

    selected_only : (u v : Pos) → AmongSegments u v segs → (a : Feature) × (b : Feature) × IsLeastWith In u v a × IsGreatestWith In u v b × Says a b true
    selected_only u v h =
        let (k, c, there, e, side) = on_arc t.arcs.arcs chosen u v ((has u v).0 h) in
        let (s, at, answer) = choice.only k there in
        let (o, here, means) = spanned k c e in
        let same : Some o ≡ Some (Some s) = sym here ∙ at in
        let is : o ≡ Some s = cc in
        let (p, q, first, last, least, greatest) = span_ends k c u v e (sides_beside c u v side) s (subst (λ w. Spans w (λ q. Has (use_at k q) uses)) is means) in
        (p.feature, q.feature, least, greatest, answer p q first last)

    selected_all : (u v : Pos) (a b : Feature) → IsLeastWith In u v a → IsGreatestWith In u v b → AmongSegments u v segs ⊎ Says a b false
    selected_all u v a b la lb =
        let (p, there, same) = are.all a la.within in
        let segment = form_segment m p.feature (are.only p there).form u v (subst (λ w. HasSide u v w) (sym same) la.has) in
        let (k, c, e, side) = of.table.once.in_an_arc u v segment in
        let used = (has_uses p there k c u v e side).0 (subst (λ w. HasSide u v w) (sym same) la.has) in
        let (i, at) = has_get ms p there in
        let (o, here, means) = spanned k c e in
        go k c e side i (use_to k i p at used) o here means
      where
        go : (k : ℕ) (c : List Pos) → slice_get t.arcs.arcs k ≡ Some c → Beside u v c → (i : ℕ) → Has (use_at k i) uses → (o : Option Span) →
            slice_get (with_uses (replicate (length t.arcs.arcs) None) uses) k ≡ Some o → Spans o (λ q. Has (use_at k q) uses) →
            AmongSegments u v segs ⊎ Says a b false
        go k c e side i used None here means = absurd (means i used)
        go k c e side i used (Some s) here means =
            let (p, q, first, last, least, greatest) = span_ends k c u v e side s means in
            elim (choice.all k s (get_less (with_uses (replicate (length t.arcs.arcs) None) uses) k (Some s) here) here) [
              | inl in_it ↦ inl ((has u v).1 (arc_on t.arcs.arcs chosen u v k c in_it e
                  (beside_sides c u v (beside_differ c (of.table.once.one_place c (get_has t.arcs.arcs k c e)) u v side) side)))
              | inr answer ↦ (
                  let x : p.feature ≡ a = at_most_same feature_cmp feature_cmp_total same_feature p.feature a (least.least a la.within la.has) (la.least p.feature least.within least.has) in
                  let y : q.feature ≡ b = at_most_same feature_cmp feature_cmp_total same_feature q.feature b (lb.greatest q.feature greatest.within greatest.has) (greatest.greatest b lb.within lb.has) in
                  inr (subst (λ w. Says w b false) x (subst (λ w. Says p.feature w false) y (answer p q first last))))
            ]

    pub are_selected : AreSelected (InScope m scope) Says segs
    are_selected = record { only = selected_only; all = selected_all }

-- in the form of the code
pub selected_by : (m : Layers) (t : TopologyParts) (of : IsOf m t) (scope : Option (List ℕ)) (ms : List Member) → AreMembers m t scope ms →
    (Says : Feature → Feature → Bool → Type 0) (arcs : Arcs) → arcs ≡ t.arcs → (n : ℕ) → n ≡ length arcs.arcs → (first second : List Member) → first ≡ ms → second ≡ ms →
    (spans same : List (Option Span)) → spans ≡ with_uses (replicate n None) (bodies_uses 0 (map_list (λ p. body_of p.body.now) first)) → same ≡ spans →
    (chosen these : List ℕ) → AreChosen Says second same chosen → these ≡ chosen → (segs : List Segment) → HasArcs arcs.arcs these segs →
    AreSelected (InScope m scope) Says segs
selected_by m t of scope ms are Says arcs at n count first second one two spans same spanned again chosen these choice taken segs has =
    let all : n ≡ length t.arcs.arcs = count ∙ ap (λ w. length w.arcs) at in
    let made : same ≡ with_uses (replicate (length t.arcs.arcs) None) (bodies_uses 0 (map_list (λ p. body_of p.body.now) ms)) =
    again ∙ spanned ∙ (λ i. with_uses (replicate (all i) None) (bodies_uses 0 (map_list (λ p. body_of p.body.now) (one i)))) in
    are_selected m t of scope ms are Says chosen segs
    (subst (λ w. AreChosen Says ms w chosen) made (subst (λ w. AreChosen Says w same chosen) two choice))
    (subst (λ w. HasArcs t.arcs.arcs w segs) taken (subst (λ w. HasArcs w.arcs these segs) at has))
