-- Whether a position is one of the keys.
use Rattle.std.proofs.Common.{◌≡◌, Bool, true, false, ◌||◌, List, [], ◌∷◌, inl, inr, refl, sym, ◌∙◌, subst, ◌↔◌, ◌⊎◌, IsTrue}
use Rattle.theory.specs.Lists.{Has}
use Rattle.grid.specs.declared.pos.Pos.{Pos}
use Rattle.theory.specs.Geometry.{Geometry, IsSound, SegmentOf, JunctionOf}
use Rattle.theory.specs.Segments.{OnThree}
use Rattle.theory.proofs.ProvedLaws.{junction_by_segments}
use Rattle.chains.specs.Index.{IsIndexOf, EndsALine}
use Rattle.arcs.specs.Among.{Tells, among}
use Rattle.lines.specs.Pairs.{position_eq}
use Rattle.lines.proofs.Positions.{position_true, position_refl}
use Rattle.lines.specs.Positions.{position_total, position_same}
use Rattle.lines.specs.Turned.{position_cmp}

pub among_has : (keys : List Pos) (v : Pos) → among keys v ≡ true → Has v keys
among_has [] v e = absurd cc
among_has (k ∷ keys) v e = go (position_eq v k) refl e (among_has keys v)
  where
    go : (b : Bool) → position_eq v k ≡ b → (b || among keys v) ≡ true → (among keys v ≡ true → Has v keys) → Has v (k ∷ keys)
    go true p f ih = inl (position_true v k p)
    go false p f ih = inr (ih f)

pub has_among : (keys : List Pos) (v : Pos) → Has v keys → among keys v ≡ true
has_among [] v h = absurd h
has_among (k ∷ keys) v (inl e) = rw (subst (λ w. position_eq v w ≡ true) e (position_refl v)) refl
has_among (k ∷ keys) v (inr h) = go (position_eq v k) (has_among keys v h)
  where
    go : (b : Bool) → among keys v ≡ true → (b || among keys v) ≡ true
    go true e = refl
    go false e = e

-- what a look-up tells
pub if_among : (keys : List Pos) (v : Pos) (b : Bool) → Tells b (Has v keys) → b ≡ among keys v
if_among keys v true t = sym (has_among keys v (t.yes refl))
if_among keys v false t = go (among keys v) refl
  where
    go : (b : Bool) → among keys v ≡ b → false ≡ b
    go true e = absurd (t.no refl (among_has keys v e))
    go false e = refl

-- the answer of a look-up in the index of a map
pub is_known : (js : List Pos) (v : Pos) (b : Bool) → b ≡ among js v → (g : Geometry Pos) → IsIndexOf js g → IsTrue b ↔ JunctionOf g v
is_known js v b e g i = (
  (λ h. i.only v (among_has js v (sym e ∙ h))),
  (λ j. e ∙ has_among js v (i.all v j)),
)

-- the same by the segments of the map
pub is_known_by_segments : (js : List Pos) (v : Pos) (b : Bool) → b ≡ among js v → (g : Geometry Pos) → IsSound g → IsIndexOf js g →
    IsTrue b ↔ (EndsALine g v ⊎ OnThree (SegmentOf g) v)
is_known_by_segments js v b e g s i =
    let k = is_known js v b e g i in
    let law = junction_by_segments position_cmp g (record { total = position_total; same = position_same }) s v in (
      (λ h. law.0 (k.0 h)),
      (λ h. k.1 (law.1 h)),
    )
