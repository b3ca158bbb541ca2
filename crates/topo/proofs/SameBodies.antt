-- Bodies that the derived test finds equal are equal.
use Rattle.std.proofs.Common.{◌≡◌, Bool, true, false, List, [], ◌∷◌, refl, sym, ap, ◌∙◌, nat_eq}
use Rattle.std.proofs.lemmas.Bool.{eqb-true}
use Rattle.grid.specs.contracts.pos.PosPartialEq.TheImpl as pos_eq
use Rattle.grid.specs.declared.pos.Pos.{Pos}
use Rattle.lines.proofs.Positions.{both_true, derived_eq, position_eq_is, position_true}
use Rattle.arcs.specs.contracts.table.ArcRefPartialEq.TheImpl as ref_eq
use Rattle.theory.specs.ArcNumbers.{ArcRef}
use Rattle.shapes.specs.declared.form.Form.TheVariants.{Null, Point, MultiPoint, Line, MultiLine, Polygon, MultiPolygon}
use Rattle.topo.specs.Bodies.{Body}
use lib.Pointwise.{pointwise}
use mathlib.Core.Bool.{beq}

each_same : {A : Type 0} (eq : A → A → Bool) → ((x y : A) → eq x y ≡ true → x ≡ y) → (xs ys : List A) → pointwise eq xs ys ≡ true → xs ≡ ys
each_same eq same [] [] e = refl
each_same eq same [] (y ∷ ys) e = absurd cc
each_same eq same (x ∷ xs) [] e = absurd cc
each_same eq same (x ∷ xs) (y ∷ ys) e =
    let t = both_true (eq x y) (pointwise eq xs ys) e in
    let first = same x y t.0 in
    let rest = each_same eq same xs ys t.1 in
    λ i. first i ∷ rest i

position_same : (p q : Pos) → pos_eq.eq-value.it p q ≡ true → p ≡ q
position_same p q e = position_true p q (position_eq_is p q ∙ sym (derived_eq p q) ∙ e)

flags_same : (s t : Bool) → beq s t ≡ true → s ≡ t
flags_same true true e = refl
flags_same true false e = absurd cc
flags_same false true e = absurd cc
flags_same false false e = refl

ref_same : (a b : ArcRef) → ref_eq.eq-value.it a b ≡ true → a ≡ b
ref_same a b e =
    let t = both_true (nat_eq a.arc b.arc) (beq a.reversed b.reversed) e in
    let number = eqb-true a.arc b.arc t.0 in
    let flag = flags_same a.reversed b.reversed t.1 in
    λ i. record { arc = number i; reversed = flag i }

refs_same : (us vs : List ArcRef) → pointwise ref_eq.eq-value.it us vs ≡ true → us ≡ vs
refs_same = each_same ref_eq.eq-value.it ref_same

lists_same : (us vs : List (List ArcRef)) → pointwise (pointwise ref_eq.eq-value.it) us vs ≡ true → us ≡ vs
lists_same = each_same (pointwise ref_eq.eq-value.it) refs_same

-- bodies of one kind and equal lists
abbrev pub body_eq : Body → Body → Bool
body_eq Null Null = true
body_eq (Point p) (Point q) = pos_eq.eq-value.it p q
body_eq (MultiPoint ps) (MultiPoint qs) = pointwise pos_eq.eq-value.it ps qs
body_eq (Line us) (Line vs) = pointwise ref_eq.eq-value.it us vs
body_eq (MultiLine us) (MultiLine vs) = pointwise (pointwise ref_eq.eq-value.it) us vs
body_eq (Polygon us) (Polygon vs) = pointwise (pointwise ref_eq.eq-value.it) us vs
body_eq (MultiPolygon us) (MultiPolygon vs) = pointwise (pointwise (pointwise ref_eq.eq-value.it)) us vs
body_eq a b = false

-- from what the derived test answers
pub body_same : (a b : Body) (found : Bool) → found ≡ true → found ≡ body_eq a b → a ≡ b
body_same a b found e f = same a b (sym f ∙ e)
  where
    same : (a b : Body) → body_eq a b ≡ true → a ≡ b
    same Null Null e = refl
    same (Point p) (Point q) e = ap Point (position_same p q e)
    same (MultiPoint ps) (MultiPoint qs) e = ap MultiPoint (each_same pos_eq.eq-value.it position_same ps qs e)
    same (Line us) (Line vs) e = ap Line (refs_same us vs e)
    same (MultiLine us) (MultiLine vs) e = ap MultiLine (lists_same us vs e)
    same (Polygon us) (Polygon vs) e = ap Polygon (lists_same us vs e)
    same (MultiPolygon us) (MultiPolygon vs) e = ap MultiPolygon (each_same (pointwise (pointwise ref_eq.eq-value.it)) lists_same us vs e)
    same a b e = absurd cc
