-- Lists that begin where they start least, as the code tells it.
use Rattle.std.proofs.Common.{◌≡◌, Bool, true, false, cond, List, [], ◌∷◌, inl, inr, refl, sym, ap, ◌∙◌, subst, Option, Some, None, unwrap_or}
use Rattle.std.specs.Cmp.{tied_itself}
use Rattle.std.specs.Ordering.{is_lt, is_gt, ordering_reverse, ordering_then}
use Rattle.std.specs.declared.cmp.Ordering.{Ordering}
use Rattle.std.specs.declared.cmp.Ordering.TheVariants.{Less, Equal, Greater}
use Rattle.grid.specs.declared.pos.Pos.{Pos}
use Rattle.lines.specs.Positions.{position_same, position_total}
use Rattle.lines.specs.Turned.{position_cmp}
use Rattle.theory.proofs.Ascending.{at_most_self}
use Rattle.theory.specs.ArcNumbers.{ArcRef, StartsLeast, along}
use Rattle.theory.specs.Geometry.{AtMost}
use Rattle.theory.specs.Lists.{Has}
use Rattle.theory.specs.Validity.{BeginsLeast}
use Rattle.arcs.specs.Steps.{first_of, step, step_along, step_cmp}
use Rattle.arcs.specs.declared.step.ArcStep.{ArcStep}
use Rattle.validate.specs.RingStarts.{before_if, none_starts, none_starts_if, starts_least}

abbrev from_or : Pos → Option ArcStep → Pos
from_or d None = d
from_or d (Some s) = s.from

abbrev to_or : Pos → Option ArcStep → Pos
to_or d None = d
to_or d (Some s) = s.to

-- the step at the start of what is run along
step_is : (arcs : List (List Pos)) (a : ArcRef) (y z : Pos) → step_along arcs a ≡ Some (step y z) → (q : List Pos) × (along arcs a ≡ Some (y ∷ (z ∷ q)))
step_is arcs a y z e = go (along arcs a) e
  where
    go : (o : Option (List Pos)) → first_of (unwrap_or o []) ≡ Some (step y z) → (q : List Pos) × (o ≡ Some (y ∷ (z ∷ q)))
    go None e = absurd cc
    go (Some []) e = absurd cc
    go (Some (x ∷ [])) e = absurd cc
    go (Some (x ∷ (w ∷ r))) e = (r, λ i. Some (from_or x (e i) ∷ (to_or w (e i) ∷ r)))

is_step : (arcs : List (List Pos)) (a : ArcRef) (y z : Pos) (q : List Pos) → along arcs a ≡ Some (y ∷ (z ∷ q)) → step_along arcs a ≡ Some (step y z)
is_step arcs a y z q e = ap (λ o. first_of (unwrap_or o [])) e

lt_not : (r s : Ordering) → r ≡ ordering_reverse s → is_lt r ≡ false → is_gt s ≡ false
lt_not r Less e h = refl
lt_not r Equal e h = refl
lt_not r Greater e h = absurd (let k : is_lt r ≡ true = ap is_lt e in let m : true ≡ false = sym k ∙ h in cc)

not_lt : (r s : Ordering) → r ≡ ordering_reverse s → is_gt s ≡ false → is_lt r ≡ false
not_lt r Less e h = ap is_lt e
not_lt r Equal e h = ap is_lt e
not_lt r Greater e h = absurd cc

-- v is not before y exactly where y is at most v
pub most_of : (v y : Pos) → is_lt (position_cmp v y) ≡ false → AtMost position_cmp y v
most_of v y e = lt_not (position_cmp v y) (position_cmp y v) (position_total.antisymm v y) e

pub of_most : (v y : Pos) → AtMost position_cmp y v → is_lt (position_cmp v y) ≡ false
of_most v y e = not_lt (position_cmp v y) (position_cmp y v) (position_total.antisymm v y) e

first_not : (o p : Ordering) → is_lt (ordering_then o p) ≡ false → is_lt o ≡ false
first_not Less p e = e
first_not Equal p e = refl
first_not Greater p e = refl

-- a step that doesn't come before y, z
no_less : (v w y z : Pos) → is_lt (step_cmp (step v w) (step y z)) ≡ false → AtMost position_cmp y v × (v ≡ y → AtMost position_cmp z w)
no_less v w y z e = (
  most_of v y (first_not (position_cmp v y) (position_cmp w z) e),
  (λ f. most_of w z (sym (ap (λ o. is_lt (ordering_then o (position_cmp w z))) (ap (position_cmp v) (sym f) ∙ tied_itself position_total v)) ∙ e)),
)

no_before : (v w y z : Pos) → AtMost position_cmp y v → (v ≡ y → AtMost position_cmp z w) → is_lt (step_cmp (step v w) (step y z)) ≡ false
no_before v w y z h k = go (position_cmp v y) refl (of_most v y h)
  where
    go : (o : Ordering) → position_cmp v y ≡ o → is_lt o ≡ false → is_lt (ordering_then o (position_cmp w z)) ≡ false
    go Less e f = f
    go Equal e f = of_most w z (k (position_same v y e))
    go Greater e f = refl

module _ (arcs : List (List Pos)) (y z : Pos) where
  starts_means : (us : List ArcRef) → none_starts arcs (step y z) us ≡ true → StartsLeast position_cmp arcs y z us
  starts_means us e = record {
    first = λ b v w s h f. (each us e b v w s h f).0;
    second = λ b v w s h f. (each us e b v w s h f).1;
  }
    where
      each : (us : List ArcRef) → none_starts arcs (step y z) us ≡ true → (b : ArcRef) (v w : Pos) (s : List Pos) → Has b us → along arcs b ≡ Some (v ∷ (w ∷ s)) →
          AtMost position_cmp y v × (v ≡ y → AtMost position_cmp z w)
      each [] e b v w s h f = absurd h
      each (a ∷ us) e b v w s h f = go (before_if (step_along arcs a) (step y z)) refl e h (λ d i. each us d b v w s i f)
        where
          go : (t : Bool) → before_if (step_along arcs a) (step y z) ≡ t → cond t false (none_starts arcs (step y z) us) ≡ true → Has b (a ∷ us) →
              (none_starts arcs (step y z) us ≡ true → Has b us → AtMost position_cmp y v × (v ≡ y → AtMost position_cmp z w)) → AtMost position_cmp y v × (v ≡ y → AtMost position_cmp z w)
          go true p e h ih = absurd cc
          go false p e (inr i) ih = ih e i
          go false p e (inl i) ih =
              let g : step_along arcs a ≡ Some (step v w) = is_step arcs a v w s (subst (λ c. along arcs c ≡ Some (v ∷ (w ∷ s))) i f) in
              no_less v w y z (sym (ap (λ o. before_if o (step y z)) g) ∙ p)

  if_starts : (us : List ArcRef) → StartsLeast position_cmp arcs y z us → none_starts arcs (step y z) us ≡ true
  if_starts [] h = refl
  if_starts (a ∷ us) h =
      ap (λ b. cond b false (none_starts arcs (step y z) us)) (go (step_along arcs a) refl)
      ∙ if_starts us (record { first = λ b v w s i f. h.first b v w s (inr i) f; second = λ b v w s i f. h.second b v w s (inr i) f })
    where
      go : (o : Option ArcStep) → step_along arcs a ≡ o → before_if o (step y z) ≡ false
      go None e = refl
      go (Some s) e =
          let t = step_is arcs a s.from s.to e in
          no_before s.from s.to y z (h.first a s.from s.to t.0 (inl refl) t.1) (h.second a s.from s.to t.0 (inl refl) t.1)

pub least_means : (arcs : List (List Pos)) (us : List ArcRef) → starts_least arcs us ≡ true → BeginsLeast position_cmp arcs us
least_means arcs [] e = absurd cc
least_means arcs (a ∷ us) e = go (step_along arcs a) refl e
  where
    go : (o : Option ArcStep) → step_along arcs a ≡ o → none_starts_if arcs o us ≡ true → BeginsLeast position_cmp arcs (a ∷ us)
    go None p e = absurd cc
    go (Some s) p e =
        let t = step_is arcs a s.from s.to p in
        let itself : before_if (step_along arcs a) s ≡ false =
        ap (λ o. before_if o s) p
        ∙ no_before s.from s.to s.from s.to (at_most_self position_cmp position_total position_same s.from) (λ f. at_most_self position_cmp position_total position_same s.to) in
        (s.from, s.to, t.0, t.1, starts_means arcs s.from s.to (a ∷ us) (ap (λ b. cond b false (none_starts arcs s us)) itself ∙ e))

pub if_least : (arcs : List (List Pos)) (us : List ArcRef) → BeginsLeast position_cmp arcs us → starts_least arcs us ≡ true
if_least arcs [] h = absurd h
if_least arcs (a ∷ us) (y, z, q, e, h) =
    ap (λ o. none_starts_if arcs o us) (is_step arcs a y z q e)
    ∙ if_starts arcs y z us (record { first = λ b v w s i f. h.first b v w s (inr i) f; second = λ b v w s i f. h.second b v w s (inr i) f })
