-- The new list of a line or ring along its old one.
use Rattle.std.proofs.Common.{◌≡◌, ℕ, zero, Bool, true, false, cond, List, [], ◌∷◌, ◌++◌, length, map, ◌⊎◌, inl, inr, refl, sym, ap, ◌∙◌, subst, append_assoc, Option, Some, None}
use Rattle.std.proofs.lemmas.List.{append-nil}
use Rattle.std.specs.Cmp.{IsTotalOrder}
use Rattle.std.specs.FinMap.{IsAntisymmetric}
use Rattle.std.specs.declared.cmp.Ordering.{Ordering}
use Rattle.theory.proofs.ArcNumbers.{along_get}
use Rattle.theory.proofs.GroupedPieces.{AllFull, IsFull, not_same, used_head, uses_back, uses_parts}
use Rattle.theory.proofs.Lists.{Has-append, Has-append_left}
use Rattle.theory.proofs.ListsOfLists.{get_has}
use Rattle.theory.proofs.OneTopology.{ring_list_unique}
use Rattle.theory.proofs.RecutBodies.{form_replaced}
use Rattle.theory.proofs.RefinementLaws.{pairwise_at}
use Rattle.theory.proofs.Healed.{old_list}
use Rattle.theory.proofs.HealingKept.{line_list, part_sound, ring_list}
use Rattle.theory.proofs.ReplacedNumbers.{refinement_laws}
use Rattle.theory.proofs.Reversing.{reverse-snoc}
use Rattle.theory.proofs.RingListStart.{Has-Uses, turned_used_is}
use Rattle.theory.proofs.Rotations.{rotation_has, rotation_trans}
use Rattle.theory.proofs.TurnedLists.{rotation_at}
use Rattle.theory.specs.ArcNumbers.{ArcRef, StitchFrom, StitchTo, Uses, UsesOnce, along, backwards, flipped}
use Rattle.theory.specs.Arcs.{AreArcsOf}
use Rattle.theory.specs.Geometry.{Geometry, IsChainOf, IsLineOf, IsRingOf, IsSound, JunctionOf}
use Rattle.theory.specs.LinesAndRings.{IsRotation, closed}
use Rattle.theory.specs.Lists.{Has, last_of}
use Rattle.theory.specs.Refinement.{ArePiecesOfArc, IsPartOf, IsRefinementOf, RefinementLaws, pieces_at, pieces_of_used, replaced, turned_used}
use Rattle.theory.specs.Healing.{AreStarts, Starts, before_start, from_start, is_start, healed_list, healed_body, healed_ring_list, skipped, written}
use Rattle.theory.specs.Topology.{Body, IsFormOf, IsRingList, Shape, lines_in, rings_in}
use Rattle.theory.specs.TopologyFunction.{line_refs, ring_refs}

-- no used arc of a list without repeats is one of the list backwards
not_both : (ps : List ArcRef) → UsesOnce ps → (a : ArcRef) → Has a ps → ¬ Has a (backwards ps)
not_both [] o a h k = h
not_both (x ∷ ps) o a h k =
    elim (Has-append a (backwards ps) (flipped x ∷ []) (subst (λ w. Has a w) (reverse-snoc (flipped x) (map flipped ps)) k)) [
      | inl m ↦ elim h [
        | inl e ↦ o.0 (uses_back x.arc ps (subst (λ w. Uses w.arc (backwards ps)) e (Has-Uses a (backwards ps) m)))
        | inr n ↦ not_both ps o.1 a n m
      ]
      | inr m ↦ elim m [
        | inr z ↦ z
        | inl f ↦ elim h [
          | inl e ↦ not_same x.reversed (ap (λ w. w.reversed) (sym e ∙ f))
          | inr n ↦ o.0 (subst (λ w. Uses w.arc ps) f (Has-Uses a ps n))
        ]
      ]
    ]

once_snoc : (l : List ArcRef) (x : ArcRef) → UsesOnce l → ¬ Uses x.arc l → UsesOnce (l ++ (x ∷ []))
once_snoc [] x o n = ((λ h. h), tt)
once_snoc (y ∷ l) x o n = (
  (λ h. elim (uses_parts y.arc l (x ∷ []) h) [ inl k ↦ o.0 k | inr (inl e) ↦ n (inl (sym e)) | inr (inr z) ↦ z ]),
  once_snoc l x o.1 (λ h. n (inr h)),
)

once_back : (ps : List ArcRef) → UsesOnce ps → UsesOnce (backwards ps)
once_back [] o = tt
once_back (x ∷ ps) o =
    subst UsesOnce (sym (reverse-snoc (flipped x) (map flipped ps)))
    (once_snoc (backwards ps) (flipped x) (once_back ps o.1) (λ h. o.0 (uses_back x.arc ps h)))

pub replaced_join : (pieces : List (List ArcRef)) (us vs : List ArcRef) → replaced pieces (us ++ vs) ≡ replaced pieces us ++ replaced pieces vs
replaced_join pieces [] vs = refl
replaced_join pieces (a ∷ us) vs =
    ap (λ w. pieces_of_used pieces a ++ w) (replaced_join pieces us vs) ∙ sym (append_assoc (pieces_of_used pieces a) (replaced pieces us) (replaced pieces vs))

-- two partings of one list
two_parts : (p q s : List ArcRef) (a : ArcRef) (t : List ArcRef) → p ++ q ≡ s ++ (a ∷ t) →
    ((x : List ArcRef) × (p ≡ s ++ (a ∷ x)) × (t ≡ x ++ q)) ⊎ ((x : List ArcRef) × (s ≡ p ++ x) × (q ≡ x ++ (a ∷ t)))
two_parts [] q s a t e = inr (s, refl, e)
two_parts (y ∷ p) q [] a t e =
    let f : y ≡ a = cc in
    let g : p ++ q ≡ t = cc in
    inl (p, ap (λ w. w ∷ p) f, sym g)
two_parts (y ∷ p) q (z ∷ s) a t e =
    let f : y ≡ z = cc in
    let g : p ++ q ≡ s ++ (a ∷ t) = cc in
    elim (two_parts p q s a t g) [
      | inl k ↦ inl (k.0, (λ i. f i ∷ k.1 i), k.2)
      | inr k ↦ inr (k.0, (λ i. (sym f) i ∷ k.1 i), k.2)
    ]

-- where a piece stands in the list of pieces: within the pieces of one used arc
pub replaced_at : (pieces : List (List ArcRef)) (us s : List ArcRef) (a : ArcRef) (t : List ArcRef) → replaced pieces us ≡ s ++ (a ∷ t) →
    (ns : List ArcRef) × (b : ArcRef) × (ms : List ArcRef) × (p : List ArcRef) × (q : List ArcRef) ×
    (us ≡ ns ++ (b ∷ ms)) × (pieces_of_used pieces b ≡ p ++ (a ∷ q)) × (s ≡ replaced pieces ns ++ p) × (t ≡ q ++ replaced pieces ms)
replaced_at pieces [] [] a t e = absurd cc
replaced_at pieces [] (x ∷ s) a t e = absurd cc
replaced_at pieces (b ∷ us) s a t e =
    elim (two_parts (pieces_of_used pieces b) (replaced pieces us) s a t e) [
      | inl k ↦ ([], b, us, s, k.0, refl, k.1, refl, k.2)
      | inr k ↦
          let r = replaced_at pieces us k.0 a t k.2 in (
            b ∷ r.0,
            r.1,
            r.2,
            r.3,
            r.4,
            ap (λ w. b ∷ w) r.5,
            r.6,
            k.1 ∙ ap (λ w. pieces_of_used pieces b ++ w) r.7 ∙ sym (append_assoc (pieces_of_used pieces b) (replaced pieces r.0) r.3),
            r.8,
          )
    ]

module _ (starts : Starts) where
  skip_all : (more old : List ArcRef) → healed_list starts (length more) (more ++ old) ≡ healed_list starts zero old
  skip_all [] old = refl
  skip_all (a ∷ more) old = skip_all more old

  abbrev Parted : List ArcRef → Type 0
  Parted old = (b : ArcRef) × (y : ArcRef × ℕ) × (t : List ArcRef) × (starts b ≡ Some y) × (from_start starts old ≡ b ∷ t) ×
      (old ≡ before_start starts old ++ (b ∷ t))

  -- where one of the used arcs is noted, the list is parted at the first such
  parted : (old : List ArcRef) (a : ArcRef) (x : ArcRef × ℕ) → Has a old → starts a ≡ Some x → Parted old
  parted [] a x h e = absurd h
  parted (c ∷ old) a x h e = go (starts c) refl h (λ k. parted old a x k e)
    where
      go : (o : Option (ArcRef × ℕ)) → starts c ≡ o → Has a (c ∷ old) → (Has a old → Parted old) → Parted (c ∷ old)
      go (Some y) f h again = (
        c,
        y,
        old,
        f,
        ap (λ w. cond (is_start w) (c ∷ old) (from_start starts old)) f,
        sym (ap (λ w. cond (is_start w) [] (c ∷ before_start starts old) ++ (c ∷ old)) f),
      )
      go None f (inl k) again = absurd (let n : Some x ≡ None = sym e ∙ ap starts k ∙ f in cc)
      go None f (inr k) again =
          let r = again k in (
            r.0,
            r.1,
            r.2,
            r.3,
            ap (λ w. cond (is_start w) (c ∷ old) (from_start starts old)) f ∙ r.4,
            ap (λ w. c ∷ w) r.5 ∙ sym (ap (λ w. cond (is_start w) [] (c ∷ before_start starts old) ++ (r.0 ∷ r.2)) f),
          )

  module _ (pieces : List (List ArcRef)) (are : AreStarts pieces starts) where
    -- along the pieces of used arcs it writes the used arcs
    pub healed_replaced : (us : List ArcRef) → AllFull pieces us → healed_list starts zero (replaced pieces us) ≡ us
    healed_replaced [] f = refl
    healed_replaced (b ∷ us) f =
        let h = used_head b.reversed (pieces_at pieces b.arc) f.0 in
        let n : starts h.0 ≡ Some (b, length h.1) = are.recorded h.0 b h.1 h.2 in
        ap (λ w. healed_list starts zero (w ++ replaced pieces us)) h.2
        ∙ ap (λ w. written w ++ healed_list starts (skipped w) (h.1 ++ replaced pieces us)) n
        ∙ ap (λ w. b ∷ w) (skip_all h.1 (replaced pieces us) ∙ healed_replaced us f.1)

module _ {V : Type 0} (cmp : V → V → Ordering) (o : IsTotalOrder cmp) (same : IsAntisymmetric cmp) (dec : (a b : V) → Dec (a ≡ b))
    (u : Geometry V) (su : IsSound u) (table : List (List V)) (all : AreArcsOf cmp u table)
    (g : Geometry V) (part : IsPartOf g u) (arcs : List (List V)) (pieces : List (List ArcRef))
    (ref : IsRefinementOf cmp g u arcs table pieces) where
  sg : IsSound g
  sg = part_sound g u su part

  laws : RefinementLaws cmp g u arcs table pieces
  laws = refinement_laws cmp o same dec u su table all g sg part arcs pieces ref

  whole : IsPartOf g g
  whole = record { lines = λ l h. h; rings = λ r h. h }

  -- each arc has pieces
  full : (b : ArcRef) (c : List V) → along arcs b ≡ Some c → IsFull (pieces_at pieces b.arc)
  full b c e =
      let t = along_get arcs b c e in
      go (pieces_at pieces b.arc) t.0 (ref.old.arcs_only t.0 (get_has arcs b.arc t.0 t.1)).chain
      (pairwise_at (ArePiecesOfArc cmp (JunctionOf g) (JunctionOf u) table) arcs pieces ref.cut b.arc t.0 t.1)
    where
      go : (ps : List ArcRef) (d : List V) → IsChainOf cmp g d → ArePiecesOfArc cmp (JunctionOf g) (JunctionOf u) table d ps → IsFull ps
      go (p ∷ ps) d k h = (p, ps, refl)
      go [] [] k h = absurd k
      go [] (x ∷ r) k (inl h) = let z : x ∷ r ≡ [] = h.1 in absurd cc
      go [] (x ∷ r) k (inr h) = let z : closed (h.3.0 ∷ h.3.1) ≡ [] = h.3.3 in absurd cc

  all_full : (us : List ArcRef) (x : V) (r : List V) → StitchFrom arcs x us r → AllFull pieces us
  all_full [] x r h = tt
  all_full (b ∷ us) x r h = (full b (x ∷ h.0) h.2, all_full us (last_of x h.0) h.1 h.4)

  all_full_to : (us : List ArcRef) (l : List V) → StitchTo arcs us l → AllFull pieces us
  all_full_to [] l h = tt
  all_full_to (b ∷ us) [] h = absurd h
  all_full_to (b ∷ us) (x ∷ r) h = all_full (b ∷ us) x r h

  full_part : (us vs : List ArcRef) → AllFull pieces (us ++ vs) → AllFull pieces us × AllFull pieces vs
  full_part [] vs f = (tt, f)
  full_part (a ∷ us) vs f = let t = full_part us vs f.1 in ((f.0, t.0), t.1)

  full_join : (us vs : List ArcRef) → AllFull pieces us → AllFull pieces vs → AllFull pieces (us ++ vs)
  full_join [] vs f g = g
  full_join (a ∷ us) vs f g = (f.0, full_join us vs f.1 g)

  used_of : (k : ℕ) (b : Bool) (ps : List ArcRef) → Uses k (cond b (backwards ps) ps) → Uses k ps
  used_of k false ps h = h
  used_of k true ps h = uses_back k ps h

  has_middle : (p : List ArcRef) (a : ArcRef) (q : List ArcRef) → Has a (p ++ (a ∷ q))
  has_middle [] a q = inl refl
  has_middle (x ∷ p) a q = inr (has_middle p a q)

  -- a used old arc that begins a used new one begins each that it stands in
  boundary : (b c a : ArcRef) (more p q : List ArcRef) → pieces_of_used pieces b ≡ a ∷ more → pieces_of_used pieces c ≡ p ++ (a ∷ q) → (p ≡ []) × (c ≡ b)
  boundary b c a more p q e f =
      let ub : Uses a.arc (pieces_at pieces b.arc) = used_of a.arc b.reversed (pieces_at pieces b.arc) (subst (λ w. Uses a.arc w) (sym e) (inl refl)) in
      let uc : Uses a.arc (pieces_at pieces c.arc) =
      used_of a.arc c.reversed (pieces_at pieces c.arc) (Has-Uses a (pieces_of_used pieces c) (subst (λ w. Has a w) (sym f) (has_middle p a q))) in
      let n : b.arc ≡ c.arc = laws.one_home a.arc b.arc c.arc ub uc in
      let f' : cond c.reversed (backwards (pieces_at pieces b.arc)) (pieces_at pieces b.arc) ≡ p ++ (a ∷ q) =
      ap (λ w. cond c.reversed (backwards (pieces_at pieces w)) (pieces_at pieces w)) n ∙ f in
      let t = way b.reversed c.reversed e f' in
      (t.0, λ i. record { arc = sym n i; reversed = sym t.1 i })
    where
      first : (p : List ArcRef) (qs : List ArcRef) → UsesOnce qs → qs ≡ a ∷ more → qs ≡ p ++ (a ∷ q) → p ≡ []
      first [] qs o e f = refl
      first (x ∷ p) qs o e f =
          let k : a ∷ more ≡ x ∷ (p ++ (a ∷ q)) = sym e ∙ f in
          let m : more ≡ p ++ (a ∷ q) = cc in
          absurd ((subst UsesOnce e o).0 (Has-Uses a more (subst (λ w. Has a w) (sym m) (has_middle p a q))))

      way : (s t : Bool) → cond s (backwards (pieces_at pieces b.arc)) (pieces_at pieces b.arc) ≡ a ∷ more →
          cond t (backwards (pieces_at pieces b.arc)) (pieces_at pieces b.arc) ≡ p ++ (a ∷ q) → (p ≡ []) × (s ≡ t)
      way true true e f = (first p (backwards (pieces_at pieces b.arc)) (once_back (pieces_at pieces b.arc) (laws.one_place b.arc)) e f, refl)
      way false false e f = (first p (pieces_at pieces b.arc) (laws.one_place b.arc) e f, refl)
      way false true e f =
          absurd (not_both (pieces_at pieces b.arc) (laws.one_place b.arc) a (subst (λ w. Has a w) (sym e) (inl refl)) (subst (λ w. Has a w) (sym f) (has_middle p a q)))
      way true false e f =
          absurd (not_both (pieces_at pieces b.arc) (laws.one_place b.arc) a (subst (λ w. Has a w) (sym f) (has_middle p a q)) (subst (λ w. Has a w) (sym e) (inl refl)))

  -- no two used new arcs begin with one used old arc
  pub starts_once : (b c a : ArcRef) (more rest : List ArcRef) → pieces_of_used pieces b ≡ a ∷ more → pieces_of_used pieces c ≡ a ∷ rest → (b ≡ c) × (more ≡ rest)
  starts_once b c a more rest e f =
      let h : c ≡ b = (boundary b c a more [] rest e f).1 in
      let k : a ∷ more ≡ a ∷ rest = sym e ∙ ap (pieces_of_used pieces) (sym h) ∙ f in
      (sym h, let m : more ≡ rest = cc in m)

  module _ (starts : Starts) (are : AreStarts pieces starts) where
    -- the new list of a line
    pub new_line : (l : List V) (old : List ArcRef) → IsLineOf g l → StitchTo table old l → StitchTo arcs (healed_list starts zero old) l
    new_line l old i st =
        let new : List ArcRef = line_refs cmp g l in
        let sn : StitchTo arcs new l = line_list cmp o same dec g sg arcs ref.old g whole l i in
        let e : replaced pieces new ≡ old = old_list cmp o same dec u su table all g sg part arcs pieces ref l new old i sn st in
        subst (λ w. StitchTo arcs w l) (sym (ap (healed_list starts zero) (sym e) ∙ healed_replaced starts pieces are new (all_full_to new l sn))) sn

    -- the new list of a ring
    pub new_ring : (r : List V) (old : List ArcRef) → IsRingOf g r → IsRingList cmp (JunctionOf u) table r old →
        IsRingList cmp (JunctionOf g) arcs r (healed_ring_list cmp arcs starts old)
    new_ring r old i st =
        let new : List ArcRef = ring_refs cmp g r in
        let sn : IsRingList cmp (JunctionOf g) arcs r new = ring_list cmp o same dec g sg arcs ref.old g whole r i in
        let full : AllFull pieces new = all_full_to new (closed (sn.0 ∷ sn.1)) sn.3 in
        let t = laws.ring r new i sn in
        let e : old ≡ t.1 ++ t.0 = ring_list_unique cmp o same dec u su table all r old (t.1 ++ t.0) st t.3 in
        let turn : IsRotation (replaced pieces new) old = (t.0, t.1, t.2, e) in
        let f = first new sn.0 sn.1 sn.3 full in
        let p = parted starts old f.0 f.1 (rotation_has (replaced pieces new) old turn f.0 f.2) f.3 in
        let back : IsRotation old ((p.0 ∷ p.2) ++ before_start starts old) = (before_start starts old, p.0 ∷ p.2, p.5, refl) in
        let c = rotation_at (replaced pieces new) p.0 (p.2 ++ before_start starts old) (rotation_trans (replaced pieces new) old (p.0 ∷ (p.2 ++ before_start starts old)) turn back) in
        let d = replaced_at pieces new c.0 p.0 c.1 c.2 in
        let m = are.only p.0 p.1.0 p.1.1 p.3 in
        let k = boundary p.1.0 d.1 p.0 m.0 d.3 d.4 m.1 d.6 in
        let b : List ArcRef = d.1 ∷ d.2 in
        let fulls = full_part d.0 b (subst (AllFull pieces) d.5 full) in
        let head : pieces_of_used pieces d.1 ≡ p.0 ∷ d.4 = d.6 ∙ ap (λ w. w ++ (p.0 ∷ d.4)) k.0 in
        let s : c.0 ≡ replaced pieces d.0 = d.7 ∙ ap (λ w. replaced pieces d.0 ++ w) k.0 ∙ append-nil (replaced pieces d.0) in
        let rot : from_start starts old ++ before_start starts old ≡ replaced pieces (b ++ d.0) =
        ap (λ w. w ++ before_start starts old) p.4
        ∙ ap (λ w. p.0 ∷ w) (c.3 ∙ ap (λ w. w ++ c.0) d.8 ∙ ap (λ w. (d.4 ++ replaced pieces d.2) ++ w) s)
        ∙ ap (λ w. (w ++ replaced pieces d.2) ++ replaced pieces d.0) (sym head)
        ∙ sym (replaced_join pieces b d.0) in
        let join : healed_list starts zero (from_start starts old ++ before_start starts old) ≡ b ++ d.0 =
        ap (healed_list starts zero) rot ∙ healed_replaced starts pieces are (b ++ d.0) (full_join b d.0 fulls.1 fulls.0) in
        let is : IsRingList cmp (JunctionOf g) arcs r (d.0 ++ b) = subst (IsRingList cmp (JunctionOf g) arcs r) d.5 sn in
        subst (IsRingList cmp (JunctionOf g) arcs r)
        (sym (turned_used_is cmp o same dec g sg arcs ref.old r i b d.0 is) ∙ ap (λ w. turned_used cmp arcs w) (sym join)) is
      where
        first : (new : List ArcRef) (x : V) (l : List V) → StitchTo arcs new (closed (x ∷ l)) → AllFull pieces new →
            (a : ArcRef) × (y : ArcRef × ℕ) × Has a (replaced pieces new) × (starts a ≡ Some y)
        first [] x l h f = absurd cc
        first (b ∷ new) x l h f =
            let t = used_head b.reversed (pieces_at pieces b.arc) f.0 in
            (t.0, (b, length t.1), Has-append_left t.0 (pieces_of_used pieces b) (replaced pieces new) (subst (λ w. Has t.0 w) (sym t.2) (inl refl)), are.recorded t.0 b t.1 t.2)

    -- the geometry of a feature that is left
    pub new_form : (f : Shape V) (h : Body V) → ((l : List V) → Has l (lines_in f) → IsLineOf g l) → ((r : List V) → Has r (rings_in f) → IsRingOf g r) →
        IsFormOf (λ l used. StitchTo table used l) (IsRingList cmp (JunctionOf u) table) f h →
        IsFormOf (λ l used. StitchTo arcs used l) (IsRingList cmp (JunctionOf g) arcs) f (healed_body cmp arcs starts h)
    new_form f h lines rings is =
        form_replaced (λ l used. StitchTo table used l) (IsRingList cmp (JunctionOf u) table) (λ l used. StitchTo arcs used l) (IsRingList cmp (JunctionOf g) arcs)
        (healed_list starts zero) (healed_ring_list cmp arcs starts) f h is
        (λ l old i st. new_line l old (lines l i) st) (λ r old i st. new_ring r old (rings r i) st)
