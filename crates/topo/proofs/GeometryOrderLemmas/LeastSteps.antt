-- The least steps along arcs, and the place of the least step of a list of used arcs.
use Rattle.std.proofs.Common.{◌≡◌, ◌≤◌, ◌+◌, false, true, Bool, cond, ℕ, zero, suc, add-one, List, [], ◌∷◌, ◌++◌, ◌⊎◌, inl, inr, refl, sym, ap, ◌∙◌, subst, append_assoc, length, reverse, arith, Option, Some, slice_get}
use Rattle.std.specs.Prelude.{map as map_list, drop, take}
use Rattle.std.proofs.lemmas.Cmp.{tied_itself}
use Rattle.std.proofs.lemmas.List.{length-append, reverse-reverse}
use Rattle.std.specs.Cmp.{IsTotalOrder, upto}
use Rattle.std.specs.Cmp.Lexicographic.{options_total}
use Rattle.std.specs.Option.{option_cmp}
use Rattle.std.specs.Ordering.{is_gt, is_lt, ordering_reverse}
use Rattle.std.specs.declared.cmp.Ordering.{Ordering}
use Rattle.std.specs.declared.cmp.Ordering.TheVariants.{Less, Equal, Greater}
use Rattle.grid.specs.declared.pos.Pos.{Pos}
use Rattle.theory.proofs.Lists.{Has-append, append_nil}
use Rattle.theory.proofs.Reversing.{Steps-reverse}
use Rattle.theory.specs.ArcNumbers.{ArcRef}
use Rattle.theory.specs.Lists.{Has, Steps}
use Rattle.topo.specs.GeometryOrder.Least.{least_at, least_both, least_if, least_of, least_on}
use Rattle.topo.specs.GeometryOrder.Lists.{lead_from, lead_of, turned}
use Rattle.arcs.specs.Steps.{least_from, step, step_back, step_cmp}
use Rattle.topo.specs.declared.geometry_order.least.LeastSteps.{LeastSteps}
use Rattle.topo.specs.declared.geometry_order.lists.Lead.{Lead}
use Rattle.arcs.specs.declared.step.ArcStep.{ArcStep}
use Rattle.arcs.proofs.Steps.{least_is, step_total}

-- a step of the list that comes before no other comes after it
pub record IsLeastStep (c : List Pos) (s : ArcStep) : Type 0 where
  pub there : Steps s.from s.to c
  pub least : (t : ArcStep) → Steps t.from t.to c → is_gt (step_cmp s t) ≡ false

along_least : (p q : Pos) (l : List Pos) → IsLeastStep (p ∷ (q ∷ l)) (least_from step (step p q) q l)
along_least p q l =
    let s = least_from step (step p q) q l in
    let k = least_is step (step p q) q l in
    record {
      there = elim k.found [
        | inl e ↦ inl (ap (λ t. t.from) e, ap (λ t. t.to) e)
        | inr t ↦ inr (subst (λ w. Steps w.from w.to (q ∷ l)) (sym t.3) t.2)
      ];
      least = λ t h. elim h [
        | inl m ↦ subst (λ w. is_gt (step_cmp s w) ≡ false) (λ i. step (sym m.0 i) (sym m.1 i)) k.first
        | inr m ↦ k.all t.from t.to m
      ];
    }

against_least : (p q : Pos) (l : List Pos) → IsLeastStep (reverse (p ∷ (q ∷ l))) (least_from step_back (step q p) q l)
against_least p q l =
    let c = p ∷ (q ∷ l) in
    let s = least_from step_back (step q p) q l in
    let k = least_is step_back (step q p) q l in
    let back : (u v : Pos) → Steps u v (reverse c) → Steps v u c =
    λ u v h. subst (Steps v u) (reverse-reverse c) (Steps-reverse u v (reverse c) h) in
    record {
      there = Steps-reverse s.to s.from c (elim k.found [
        | inl e ↦ inl (ap (λ t. t.to) e, ap (λ t. t.from) e)
        | inr t ↦ inr (subst (λ w. Steps w.to w.from (q ∷ l)) (sym t.3) t.2)
      ]);
      least = λ t h. elim (back t.from t.to h) [
        | inl m ↦ subst (λ w. is_gt (step_cmp s w) ≡ false) (λ i. step (sym m.1 i) (sym m.0 i)) k.first
        | inr m ↦ k.all t.to t.from m
      ];
    }

both_least : (d : List Pos) → 2 ≤ length d → (b : LeastSteps) × (least_both d ≡ Some b) × IsLeastStep d b.forward × IsLeastStep (reverse d) b.backward
both_least [] n = absurd (omega arith)
both_least (p ∷ []) n = absurd (omega arith)
both_least (p ∷ (q ∷ l)) n = (least_on (record { forward = step p q; backward = step q p }) q l, refl, along_least p q l, against_least p q l)

get_mapped : {A B : Type 0} (f : A → B) (l : List A) (i : ℕ) (x : A) → slice_get l i ≡ Some x → slice_get (map_list f l) i ≡ Some (f x)
get_mapped f [] i x e = absurd cc
get_mapped f (y ∷ l) zero x e = let k : y ≡ x = cc in ap (λ w. Some (f w)) k
get_mapped f (y ∷ l) (suc i) x e = get_mapped f l i x e

-- what is noted of a used arc is the least step along it
pub recorded_least : (arcs : List (List Pos)) (a : ArcRef) (d : List Pos) → slice_get arcs a.arc ≡ Some d → 2 ≤ length d →
    (s : ArcStep) × (least_at (least_of arcs) a ≡ Some s) × IsLeastStep (cond a.reversed (reverse d) d) s
recorded_least arcs a d e n =
    let (b, f, h, k) = both_least d n in
    let g : slice_get (least_of arcs) a.arc ≡ Some (Some b) = get_mapped least_both arcs a.arc d e ∙ ap Some f in
    (cond a.reversed b.backward b.forward, ap (λ o. least_if o a) g, go a.reversed b h k)
  where
    go : (r : Bool) (b : LeastSteps) → IsLeastStep d b.forward → IsLeastStep (reverse d) b.backward → IsLeastStep (cond r (reverse d) d) (cond r b.backward b.forward)
    go false b h k = h
    go true b h k = k

-- l has the least step of the list, and the number of arcs up to one that has it
pub record IsLead (least : List (Option LeastSteps)) (used : List ArcRef) (l : Lead) : Type 0 where
  pub front : List ArcRef
  pub arc : ArcRef
  pub back : List ArcRef
  pub parted : used ≡ front ++ (arc ∷ back)
  pub behind : l.behind ≡ length front + 1
  pub step : l.step ≡ least_at least arc
  pub first : (u : ArcRef) → Has u used → is_gt (option_cmp step_cmp l.step (least_at least u)) ≡ false

maybe_total : IsTotalOrder (option_cmp step_cmp)
maybe_total = options_total step_total

module _ (least : List (Option LeastSteps)) where
  one_more : (front : List ArcRef) (best : Lead) (n : ℕ) (a : ArcRef) → n ≡ length front → IsLead least front best →
      IsLead least (front ++ (a ∷ [])) (cond (is_lt (option_cmp step_cmp (least_at least a) best.step)) (record { step = least_at least a; behind = n + 1 }) best)
  one_more front best n a e k = go (option_cmp step_cmp (least_at least a) best.step) refl
    where
      other : option_cmp step_cmp best.step (least_at least a) ≡ ordering_reverse (option_cmp step_cmp (least_at least a) best.step)
      other = maybe_total.antisymm best.step (least_at least a)

      stays : is_gt (option_cmp step_cmp best.step (least_at least a)) ≡ false → IsLead least (front ++ (a ∷ [])) best
      stays h = record {
        front = k.front;
        arc = k.arc;
        back = k.back ++ (a ∷ []);
        parted = ap (λ w. w ++ (a ∷ [])) k.parted ∙ append_assoc k.front (k.arc ∷ k.back) (a ∷ []);
        behind = k.behind;
        step = k.step;
        first = λ u m. elim (Has-append u front (a ∷ []) m) [
          | inl q ↦ k.first u q
          | inr q ↦ elim q [ inl f ↦ subst (λ w. is_gt (option_cmp step_cmp best.step (least_at least w)) ≡ false) (sym f) h | inr z ↦ absurd z ]
        ];
      }

      go : (o : Ordering) → option_cmp step_cmp (least_at least a) best.step ≡ o →
          IsLead least (front ++ (a ∷ [])) (cond (is_lt o) (record { step = least_at least a; behind = n + 1 }) best)
      go Less f = record {
        front = front;
        arc = a;
        back = [];
        parted = refl;
        behind = ap (λ m. m + 1) e;
        step = refl;
        first = λ u m. elim (Has-append u front (a ∷ []) m) [
          | inl q ↦ upto maybe_total (least_at least a) best.step (least_at least u) (ap is_gt f) (k.first u q)
          | inr q ↦ elim q [
            | inl g ↦ subst (λ w. is_gt (option_cmp step_cmp (least_at least a) (least_at least w)) ≡ false) (sym g) (ap is_gt (tied_itself maybe_total (least_at least a)))
            | inr z ↦ absurd z
          ]
        ];
      }
      go Equal f = stays (ap is_gt (other ∙ ap ordering_reverse f))
      go Greater f = stays (ap is_gt (other ∙ ap ordering_reverse f))

  lead_goes : (front : List ArcRef) (best : Lead) (n : ℕ) (used : List ArcRef) → n ≡ length front → IsLead least front best → IsLead least (front ++ used) (lead_from least best n used)
  lead_goes front best n [] e k = subst (λ w. IsLead least w best) (sym (append_nil front)) k
  lead_goes front best n (a ∷ used) e k =
      subst (λ w. IsLead least w (lead_from least best n (a ∷ used))) (append_assoc front (a ∷ []) used)
      (lead_goes (front ++ (a ∷ [])) (cond (is_lt (option_cmp step_cmp (least_at least a) best.step)) (record { step = least_at least a; behind = n + 1 }) best) (n + 1) used
      (simp length-append (omega arith)) (one_more front best n a e k))

  pub lead_is : (a : ArcRef) (used : List ArcRef) → IsLead least (a ∷ used) (lead_of least (a ∷ used))
  lead_is a used = lead_goes (a ∷ []) (record { step = least_at least a; behind = 1 }) 1 used refl (record {
    front = [];
    arc = a;
    back = [];
    parted = refl;
    behind = refl;
    step = refl;
    first = λ u h. elim h [
      | inl e ↦ subst (λ w. is_gt (option_cmp step_cmp (least_at least a) (least_at least w)) ≡ false) (sym e) (ap is_gt (tied_itself maybe_total (least_at least a)))
      | inr z ↦ absurd z
    ];
  })

-- so many arcs are there
pub lead_within : (least : List (Option LeastSteps)) (used : List ArcRef) → (lead_of least used).behind ≤ length used
lead_within least [] = omega arith
lead_within least (a ∷ used) =
    let k = lead_is least a used in
    let e : length (a ∷ used) ≡ length (k.front ++ (k.arc ∷ k.back)) = ap length k.parted in
    let n : (lead_of least (a ∷ used)).behind ≡ length k.front + 1 = k.behind in
    omega (arith, e, n, length-append k.front (k.arc ∷ k.back))

-- the list from behind the arc on, up to its end
pub turned_parts : (front back : List ArcRef) (a : ArcRef) (n : ℕ) → n ≡ length front + 1 → turned (front ++ (a ∷ back)) n ≡ (back ++ front) ++ (a ∷ [])
turned_parts front back a n e =
    ap (turned (front ++ (a ∷ back))) (e ∙ add-one (length front))
    ∙ (λ i. dropped front i ++ took front i)
    ∙ sym (append_assoc back front (a ∷ []))
  where
    dropped : (f : List ArcRef) → drop (suc (length f)) (f ++ (a ∷ back)) ≡ back
    dropped [] = refl
    dropped (x ∷ f) = dropped f

    took : (f : List ArcRef) → take (suc (length f)) (f ++ (a ∷ back)) ≡ f ++ (a ∷ [])
    took [] = refl
    took (x ∷ f) = ap (λ w. x ∷ w) (took f)
