-- What used arcs run along, and stitch to.
use Rattle.std.proofs.Common.{◌≡◌, ℕ, Bool, true, false, cond, List, [], ◌∷◌, ◌++◌, reverse, inl, inr, refl, sym, ap, ◌∙◌, subst, Option, Some, None, slice_get, option_map, ◌≤◌, length, ◌⊎◌, arith, not, map}
use Rattle.std.proofs.lemmas.List.{reverse-reverse}
use Rattle.std.specs.declared.cmp.Ordering.{Ordering}
use Rattle.theory.proofs.Reversing.{reverse-snoc}
use Rattle.theory.specs.ArcNumbers.{ArcRef, AreTaken, StitchFrom, StitchTo, Uses, along, backwards, flipped}
use Rattle.theory.specs.Geometry.{Geometry, JunctionOf}
use Rattle.theory.specs.LinesAndRings.{closed}
use Rattle.theory.specs.Lists.{Has, last_of}
use Rattle.theory.specs.Stitching.{ArePiecesOf, AreRingPiecesOf, Stitched}
use Rattle.theory.specs.Topology.{IsRingList}

-- what a used arc runs along is an arc or the reverse of one
pub along_get : {V : Type 0} (arcs : List (List V)) (a : ArcRef) (c : List V) → along arcs a ≡ Some c →
    (d : List V) × (slice_get arcs a.arc ≡ Some d) × (c ≡ cond a.reversed (reverse d) d)
along_get {V} arcs a c e = go (slice_get arcs a.arc) refl e
  where
    go : (o : Option (List V)) → slice_get arcs a.arc ≡ o → option_map (λ d. cond a.reversed (reverse d) d) o ≡ Some c →
        (d : List V) × (slice_get arcs a.arc ≡ Some d) × (c ≡ cond a.reversed (reverse d) d)
    go None g f = absurd cc
    go (Some d) g f = (d, g, (let k : Some (cond a.reversed (reverse d) d) ≡ Some c = f in cc))

-- used arcs along pieces stitch to what the pieces stitch to
pub taken_stitch : {V : Type 0} (arcs : List (List V)) (used : List ArcRef) (cs : List (List V)) (x : V) (r : List V) →
    AreTaken arcs used cs → Stitched x cs r → StitchFrom arcs x used r
taken_stitch arcs [] [] x r t s = s
taken_stitch arcs [] (c ∷ cs) x r t s = absurd t
taken_stitch arcs (a ∷ used) [] x r t s = absurd t
taken_stitch arcs (a ∷ used) (c ∷ cs) x r t s =
    (s.0, s.1, t.0 ∙ ap Some s.2, s.3, taken_stitch arcs used cs (last_of x s.0) s.1 t.1 s.4)

pub taken_line : {V : Type 0} (cmp : V → V → Ordering) (g : Geometry V) (arcs : List (List V)) (used : List ArcRef) (cs : List (List V)) (l : List V) →
    2 ≤ length l → ArePiecesOf cmp g l cs → AreTaken arcs used cs → StitchTo arcs used l
taken_line cmp g arcs used cs [] n p t = absurd p
taken_line cmp g arcs [] [] (x ∷ r) n p t =
    let k : 2 ≤ length (x ∷ []) = subst (λ w. 2 ≤ length (x ∷ w)) p.1 n in absurd (omega arith)
taken_line cmp g arcs [] (c ∷ cs) (x ∷ r) n p t = absurd t
taken_line cmp g arcs (a ∷ used) cs (x ∷ r) n p t = taken_stitch arcs (a ∷ used) cs x r t p.1

pub taken_ring : {V : Type 0} (cmp : V → V → Ordering) (g : Geometry V) (arcs : List (List V)) (used : List ArcRef) (cs : List (List V)) (r : List V) →
    AreRingPiecesOf cmp g r cs → AreTaken arcs used cs → IsRingList cmp (JunctionOf g) arcs r used
taken_ring {V} cmp g arcs used cs r p t =
    (p.0, p.1, p.2, taken_line cmp g arcs used cs (closed (p.0 ∷ p.1)) (long p.0 p.1) p.3 t)
  where
    long : (x : V) (l : List V) → 2 ≤ length (closed (x ∷ l))
    long x [] = omega arith
    long x (y ∷ l) = omega arith

-- what used arcs stitch to, by the lists that they run along
pub taken_of : {V : Type 0} (arcs : List (List V)) (x : V) (used : List ArcRef) (r : List V) → StitchFrom arcs x used r →
    (cs : List (List V)) × AreTaken arcs used cs × Stitched x cs r
taken_of arcs x [] r h = ([], tt, h)
taken_of arcs x (a ∷ used) r h =
    let t = taken_of arcs (last_of x h.0) used h.1 h.4 in
    ((x ∷ h.0) ∷ t.0, (h.2, t.1), (h.0, h.1, refl, h.3, t.2))

pub taken_join : {V : Type 0} (arcs : List (List V)) (us vs : List ArcRef) (cs ds : List (List V)) → AreTaken arcs us cs → AreTaken arcs vs ds →
    AreTaken arcs (us ++ vs) (cs ++ ds)
taken_join arcs [] vs [] ds h k = k
taken_join arcs [] vs (c ∷ cs) ds h k = absurd h
taken_join arcs (u ∷ us) vs [] ds h k = absurd h
taken_join arcs (u ∷ us) vs (c ∷ cs) ds h k = (h.0, taken_join arcs us vs cs ds h.1 k)

pub along_flipped : {V : Type 0} (arcs : List (List V)) (a : ArcRef) (c : List V) → along arcs a ≡ Some c → along arcs (flipped a) ≡ Some (reverse c)
along_flipped {V} arcs a c e =
    let t = along_get arcs a c e in
    ap (option_map (λ d. cond (not a.reversed) (reverse d) d)) t.1 ∙ ap Some (go a.reversed t.0 ∙ ap reverse (sym t.2))
  where
    go : (b : Bool) (d : List V) → cond (not b) (reverse d) d ≡ reverse (cond b (reverse d) d)
    go false d = refl
    go true d = sym (reverse-reverse d)

pub taken_back : {V : Type 0} (arcs : List (List V)) (us : List ArcRef) (cs : List (List V)) → AreTaken arcs us cs →
    AreTaken arcs (backwards us) (reverse (map reverse cs))
taken_back arcs [] [] h = tt
taken_back arcs [] (c ∷ cs) h = absurd h
taken_back arcs (u ∷ us) [] h = absurd h
taken_back arcs (u ∷ us) (c ∷ cs) h =
    subst (λ w. AreTaken arcs w (reverse (map reverse (c ∷ cs)))) (sym (reverse-snoc (flipped u) (map flipped us)))
    (subst (λ w. AreTaken arcs (backwards us ++ (flipped u ∷ [])) w) (sym (reverse-snoc (reverse c) (map reverse cs)))
    (taken_join arcs (backwards us) (flipped u ∷ []) (reverse (map reverse cs)) (reverse c ∷ [])
    (taken_back arcs us cs h.1) (along_flipped arcs u c h.0, tt)))

-- the lists that an arc's number is used along
pub uses_along : {V : Type 0} (arcs : List (List V)) (us : List ArcRef) (cs : List (List V)) → AreTaken arcs us cs → (k : ℕ) → Uses k us →
    (c : List V) × Has c cs × (d : List V) × (slice_get arcs k ≡ Some d) × ((c ≡ d) ⊎ (c ≡ reverse d))
uses_along arcs [] [] h k u = absurd u
uses_along arcs [] (c ∷ cs) h k u = absurd h
uses_along arcs (a ∷ us) [] h k u = absurd h
uses_along {V} arcs (a ∷ us) (c ∷ cs) h k (inl e) =
    let t = along_get arcs a c h.0 in
    (c, inl refl, t.0, ap (λ w. slice_get arcs w) e ∙ t.1, go a.reversed t.0 t.2)
  where
    go : (b : Bool) (d : List V) → c ≡ cond b (reverse d) d → (c ≡ d) ⊎ (c ≡ reverse d)
    go false d e = inl e
    go true d e = inr e
uses_along arcs (a ∷ us) (c ∷ cs) h k (inr u) =
    let t = uses_along arcs us cs h.1 k u in (t.0, inr t.1, t.2, t.3, t.4)

pub along_used : {V : Type 0} (arcs : List (List V)) (us : List ArcRef) (cs : List (List V)) → AreTaken arcs us cs → (c : List V) → Has c cs →
    (k : ℕ) × Uses k us × (d : List V) × (slice_get arcs k ≡ Some d) × ((c ≡ d) ⊎ (c ≡ reverse d))
along_used arcs [] [] h c u = absurd u
along_used arcs [] (d ∷ cs) h c u = absurd h
along_used arcs (a ∷ us) [] h c u = absurd h
along_used {V} arcs (a ∷ us) (d ∷ cs) h c (inl e) =
    let t = along_get arcs a d h.0 in
    (a.arc, inl refl, t.0, t.1, go a.reversed t.0 t.2)
  where
    go : (b : Bool) (k : List V) → d ≡ cond b (reverse k) k → (c ≡ k) ⊎ (c ≡ reverse k)
    go false k f = inl (e ∙ f)
    go true k f = inr (e ∙ f)
along_used arcs (a ∷ us) (d ∷ cs) h c (inr u) =
    let t = along_used arcs us cs h.1 c u in (t.0, inr t.1, t.2, t.3, t.4)

pub to_from : {V : Type 0} (arcs : List (List V)) (used : List ArcRef) (x : V) (r : List V) → StitchTo arcs used (x ∷ r) → StitchFrom arcs x used r
to_from arcs [] x r h = absurd cc
to_from arcs (a ∷ used) x r h = h

pub from_to : {V : Type 0} (arcs : List (List V)) (used : List ArcRef) (x : V) (r : List V) → 1 ≤ length r → StitchFrom arcs x used r → StitchTo arcs used (x ∷ r)
from_to arcs [] x r n h = let k : 1 ≤ 0 = subst (λ w. 1 ≤ length w) h n in absurd (omega arith)
from_to arcs (a ∷ used) x r n h = h
