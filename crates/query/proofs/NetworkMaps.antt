-- Each network is that of a map: the chains that meet a stop are its lines, and the others go round its rings.
use Rattle.std.proofs.Common.{◌≡◌, ◌≤◌, List, [], ◌∷◌, ◌++◌, length, ◌⊎◌, ◌↔◌, inl, inr, refl, sym, ap, ◌∙◌, subst, arith}
use Rattle.std.proofs.lemmas.List.{length-append}
use Rattle.std.specs.Cmp.{IsTotalOrder}
use Rattle.std.specs.FinMap.{IsAntisymmetric}
use Rattle.std.specs.declared.cmp.Ordering.{Ordering}
use Rattle.theory.proofs.ArcsAsMap.{three_map}
use Rattle.theory.proofs.Chains.{Chain-Trail}
use Rattle.theory.proofs.ClosedLists.{around_steps, closed_steps}
use Rattle.theory.proofs.Junctions.{junction_law}
use Rattle.theory.proofs.JunctionsGrow.{open_end, stop_end}
use Rattle.theory.proofs.Lists.{Beside-left, front_last, last-snoc}
use Rattle.theory.proofs.Networks.{Joins-flip}
use Rattle.theory.proofs.VisitedAgain.{Trail-turn, ring_turn}
use Rattle.theory.proofs.Walking.{all_covered}
use Rattle.theory.proofs.WalksExist.{walks_exist}
use Rattle.theory.proofs.WalksFindAll.{at_same, joining, same_or_not, stop_or_not}
use Rattle.theory.specs.Chain.{Free}
use Rattle.theory.specs.Geometry.{AtMost, Geometry, IsLineOf, IsRingOf, IsSound, JunctionOf, SegmentOf}
use Rattle.theory.specs.LinesAndRings.{Trail, around, closed}
use Rattle.theory.specs.Lists.{Beside, EndOf, Has, front_of}
use Rattle.theory.specs.Network.{IsChainIn, IsNetwork, IsNetworkOf, IsStop, Joins, Network}
use Rattle.theory.specs.Segments.{OnThree, OnTwo}

-- three are not among two
pub three_in_two : {V : Type 0} (S : V → V → Type 0) (v : V) → OnTwo S v → OnThree S v → ⊥
three_in_two S v t o =
    elim (t.5 o.0 o.3) [
      | inl p ↦ elim (t.5 o.1 o.4) [
        | inl q ↦ o.6 (p ∙ sym q)
        | inr q ↦ elim (t.5 o.2 o.5) [ inl r ↦ o.7 (p ∙ sym r) | inr r ↦ o.8 (q ∙ sym r) ]
      ]
      | inr p ↦ elim (t.5 o.1 o.4) [
        | inr q ↦ o.6 (p ∙ sym q)
        | inl q ↦ elim (t.5 o.2 o.5) [ inr r ↦ o.7 (p ∙ sym r) | inl r ↦ o.8 (q ∙ sym r) ]
      ]
    ]

module _ {V : Type 0} (cmp : V → V → Ordering) (o : IsTotalOrder cmp) (same : IsAntisymmetric cmp) (dec : (a b : V) → Dec (a ≡ b))
    (n : Network V) (ok : IsNetwork n) where
  -- the list meets a stop
  abbrev Meets : List V → Type 0
  Meets c = ¬ Free (IsStop n) c

  -- the map has these chains
  pub record HasChains (ds : List (List V)) (g : Geometry V) : Type 0 where
    pub lines : (l : List V) → IsLineOf g l → Has l ds × Meets l
    pub rings : (r : List V) → IsRingOf g r → Has (closed r) ds × Free (IsStop n) (closed r)
    pub each : (d : List V) → Has d ds → IsLineOf g d ⊎ ((r : List V) × (d ≡ closed r) × IsRingOf g r)

  -- a chain meets a stop, or goes round a ring
  kind : (c : List V) → IsChainIn cmp n c → Meets c ⊎ ((r : List V) × (c ≡ closed r) × Free (IsStop n) (closed r))
  kind [] k = absurd k
  kind (x ∷ []) k = let m : 1 ≤ 0 = k.long in absurd (omega arith)
  kind (x ∷ (y ∷ r)) k =
      elim k.ends [
        | inl j ↦ inl (λ f. f x (inl refl) j.0)
        | inr f ↦
            let e : x ∷ (y ∷ r) ≡ closed (front_of x (y ∷ r)) =
            front_last x (y ∷ r) ∙ ap (λ w. front_of x (y ∷ r) ++ (w ∷ [])) (sym f.0) in
            inr (front_of x (y ∷ r), e, subst (λ w. Free (IsStop n) w) e f.1)
      ]

  with_line : (d : List V) (ds : List (List V)) (g : Geometry V) → Meets d → HasChains ds g →
      HasChains (d ∷ ds) (record { lines = d ∷ g.lines; rings = g.rings })
  with_line d ds g m h = record {
    lines = λ l i. elim i [ inl e ↦ (inl e, subst Meets (sym e) m) | inr k ↦ (let t = h.lines l k in (inr t.0, t.1)) ];
    rings = λ r i. let t = h.rings r i in (inr t.0, t.1);
    each = λ c i. elim i [
      | inl e ↦ inl (inl e)
      | inr k ↦ elim (h.each c k) [ inl j ↦ inl (inr j) | inr j ↦ inr j ]
    ];
  }

  with_ring : (d : List V) (ds : List (List V)) (g : Geometry V) (r : List V) → d ≡ closed r → Free (IsStop n) (closed r) → HasChains ds g →
      HasChains (d ∷ ds) (record { lines = g.lines; rings = r ∷ g.rings })
  with_ring d ds g r e f h = record {
    lines = λ l i. let t = h.lines l i in (inr t.0, t.1);
    rings = λ q i. elim i [
      | inl k ↦ (inl (ap closed k ∙ sym e), subst (λ w. Free (IsStop n) (closed w)) (sym k) f)
      | inr k ↦ (let t = h.rings q k in (inr t.0, t.1))
    ];
    each = λ c i. elim i [
      | inl k ↦ inr (r, k ∙ e, inl refl)
      | inr k ↦ elim (h.each c k) [ inl j ↦ inl j | inr j ↦ inr (j.0, j.1, inr j.2) ]
    ];
  }

  map_of : (ds : List (List V)) → ((d : List V) → Has d ds → IsChainIn cmp n d) → (g : Geometry V) × HasChains ds g
  map_of [] k = (record { lines = []; rings = [] }, record { lines = λ l h. absurd h; rings = λ r h. absurd h; each = λ d h. absurd h })
  map_of (d ∷ ds) k =
      let t = map_of ds (λ c h. k c (inr h)) in
      elim (kind d (k d (inl refl))) [
        | inl m ↦ (record { lines = d ∷ t.0.lines; rings = t.0.rings }, with_line d ds t.0 m t.1)
        | inr q ↦ (record { lines = t.0.lines; rings = q.0 ∷ t.0.rings }, with_ring d ds t.0 q.0 q.1 q.2 t.1)
      ]

  -- a sound map of the network, whose lines begin and end at its stops
  pub record IsOfNetwork (g : Geometry V) : Type 0 where
    pub sound : IsSound g
    pub network : IsNetworkOf n g
    pub from_stop : (v : V) → IsStop n v → (l : List V) × IsLineOf g l × EndOf v l
    pub to_stop : (v : V) (l : List V) → IsLineOf g l → EndOf v l → IsStop n v

  module _ (ds : List (List V)) (chains : (d : List V) → Has d ds → IsChainIn cmp n d)
      (covers : (u v : V) → Joins n u v → (d : List V) × Has d ds × Beside u v d)
      (some : (v : V) → IsStop n v → (w : V) × Joins n v w) (g : Geometry V) (are : HasChains ds g) where
    along : (c : List V) → IsChainIn cmp n c → (x y : V) → Beside x y c → Joins n x y
    along [] k x y b = absurd k
    along (z ∷ r) k x y (inl s) = k.along x y s
    along (z ∷ r) k x y (inr s) = Joins-flip n y x (k.along y x s)

    trail : (c : List V) → IsChainIn cmp n c → Trail c
    trail [] k = absurd k
    trail (x ∷ r) k = Chain-Trail (Joins n) (IsStop n) (AtMost cmp) (Joins-flip n) ok.two (at_same cmp o same dec n ok) x r k

    line_long : (l : List V) → IsChainIn cmp n l → 2 ≤ length l
    line_long [] k = absurd k
    line_long (x ∷ r) k = let m : 1 ≤ length r = k.long in omega (arith, m)

    ring_long : (r : List V) → IsChainIn cmp n (closed r) → 3 ≤ length r
    ring_long [] k = absurd k
    ring_long (p ∷ q) k =
        let m : 3 ≤ length (q ++ (p ∷ [])) = k.closed_long (sym (last-snoc p p q)) in
        omega (arith, m, length-append q (p ∷ []))

    is_sound : IsSound g
    is_sound = record {
      lines = λ l h. let k = chains l (are.lines l h).0 in record { long = line_long l k; once = trail l k };
      rings = λ r h. let k = chains (closed r) (are.rings r h).0 in record { long = ring_long r k; once = trail (closed r) k };
    }

    round : (x y : V) (r : List V) → 3 ≤ length r → Beside x y (closed r) → Beside x y (around r)
    round x y [] m b = b
    round x y (p ∷ q) m (inl b) = inl (closed_steps x y p q (omega (arith, m)) b)
    round x y (p ∷ q) m (inr b) = inr (closed_steps y x p q (omega (arith, m)) b)

    joins : (x y : V) → SegmentOf g x y → Joins n x y
    joins x y (inl (l, i, b)) = along l (chains l (are.lines l i).0) x y b
    joins x y (inr (r, i, b)) =
        along (closed r) (chains (closed r) (are.rings r i).0) x y
        (elim b [ inl k ↦ inl (around_steps x y r k) | inr k ↦ inr (around_steps y x r k) ])

    joined : (x y : V) → Joins n x y → SegmentOf g x y
    joined x y j =
        let t = covers x y j in
        elim (are.each t.0 t.1) [
          | inl i ↦ inl (t.0, i, t.2)
          | inr (r, e, i) ↦ inr (r, i, round x y r (ring_long r (chains (closed r) (are.rings r i).0)) (subst (λ w. Beside x y w) e t.2))
        ]

    line_stop : (v : V) (l : List V) → IsLineOf g l → EndOf v l → IsStop n v
    line_stop v l i e = open_end (Joins n) (IsStop n) (AtMost cmp) l (chains l (are.lines l i).0) (are.lines l i).1 v e

    stop_line : (v : V) → IsStop n v → (l : List V) × IsLineOf g l × EndOf v l
    stop_line v j =
        let s = some v j in
        let t = covers v s.0 s.1 in
        let k = stop_end (Joins n) (IsStop n) (AtMost cmp) t.0 (chains t.0 t.1) v (Beside-left v s.0 t.0 t.2) j in
        elim (are.each t.0 t.1) [
          | inl i ↦ (t.0, i, k.1)
          | inr (r, e, i) ↦ absurd (k.0 (subst (λ w. Free (IsStop n) w) (sym e) (are.rings r i).1))
        ]

    law : (v : V) → JunctionOf g v ↔ (((l : List V) × IsLineOf g l × EndOf v l) ⊎ OnThree (SegmentOf g) v)
    law v = junction_law (IsLineOf g) (IsRingOf g) dec (λ l h. Trail-turn l (is_sound.lines l h).once) (λ r h. ring_turn r (is_sound.rings r h)) v

    junction_stop : (v : V) → JunctionOf g v → IsStop n v
    junction_stop v j =
        elim ((law v).0 j) [
          | inl (l, i, e) ↦ line_stop v l i e
          | inr t ↦ three (three_map (SegmentOf g) (Joins n) joins v t)
        ]
      where
        three : OnThree (Joins n) v → IsStop n v
        three t = elim (stop_or_not cmp o same dec n ok v) [ inl s ↦ s | inr s ↦ absurd (three_in_two (Joins n) v (ok.two v t.0 s t.3) t) ]

    of_network : IsOfNetwork g
    of_network = record {
      sound = is_sound;
      network = record {
        segments = λ u v. (joined u v, joins u v);
        stops = λ v. ((λ j. (law v).1 (inl (stop_line v j))), junction_stop v);
      };
      from_stop = stop_line;
      to_stop = line_stop;
    }

  -- a network whose stops lie on segments is that of such a map
  pub network_map : ((v : V) → IsStop n v → (w : V) × Joins n v w) → (g : Geometry V) × IsOfNetwork g
  network_map some =
      let d = walks_exist cmp o same dec n ok in
      let j = joining cmp o same dec n ok d.left d.lists d.found in
      let t = map_of d.lists j.chains in (
        t.0,
        of_network d.lists j.chains
            (all_covered (Joins n) (IsStop n) (AtMost cmp) (Joins-flip n) ok.two (at_same cmp o same dec n ok) ok.apart
            (stop_or_not cmp o same dec n ok) (same_or_not dec) (λ c. Has c d.lists) d.left j d.none d.covered)
            some t.0 t.1,
      )
