-- Numbers behind the second of a position.
use Rattle.std.proofs.Common.{◌≡◌, ◌≢◌, ℕ, ◌+◌, ◌<◌, ◌≤◌, length, get_or, drop, not, Bool, true, false, List, [], ◌∷◌, Some, None, IsTrue, refl, sym, ap, ◌∙◌, subst, arith}
use Rattle.std.proofs.lemmas.List.{drop_more, drop_all}
use Rattle.std.specs.declared.alloc.Global.{Global}
use Rattle.json.specs.Json.{Json, null, boolean, number, string, array, object}
use Rattle.json.specs.Find.{as_number}
use Rattle.json.specs.Value.{value_view, items_view}
use Rattle.json.specs.declared.value.Value.{Value}
use Rattle.decimal_maps.specs.Positions.{IsHeight, AreHeights}
use Rattle.decimal_maps.specs.Tally.{with_height}
use Rattle.decimal_maps.specs.declared.rules.DecimalGrid.{DecimalGrid}
use Rattle.decimal_maps.specs.declared.tally.Tally.{Tally}
use Rattle.decimal_faults.specs.Parts.{each_faults}
use Rattle.decimal_faults.specs.Positions.{behind_two, height_faults, may_have}
use Rattle.decimal_faults.proofs.Items.{Values, faulty_item, faulty_later}

pub behind : (vs : Values) → items_view (drop 2 vs) ≡ behind_two (items_view vs)
behind [] = refl
behind (x ∷ []) = refl
behind (x ∷ y ∷ vs) = refl

is_false : (b : Bool) → not b ≡ true → b ≡ false
is_false true e = cc
is_false false e = refl

not_refused : (grid : DecimalGrid) (vs : Values) → IsTrue (may_have grid (items_view vs)) → 2 < length vs → grid.refuses_heights ≡ false
not_refused grid [] h less = absurd (omega arith)
not_refused grid (x ∷ []) h less = absurd (omega arith)
not_refused grid (x ∷ y ∷ []) h less = absurd (omega arith)
not_refused grid (x ∷ y ∷ z ∷ vs) h less = is_false grid.refuses_heights h

height : (grid : DecimalGrid) (j : Json) (s : List ℕ) → as_number j ≡ Some s → grid.refuses_heights ≡ false → IsHeight grid j
height grid null s e h = cc
height grid (boolean b) s e h = cc
height grid (number t) s e h = h
height grid (string t) s e h = cc
height grid (array js) s e h = cc
height grid (object ms) s e h = cc

-- the heights before i are counted
pub record Counted (grid : DecimalGrid) (vs : Values) (i : ℕ) (a c : Tally) : Type 0 where
  pub from : 2 ≤ i
  pub means : (b : Tally) → AreHeights grid (items_view (drop i vs)) c b → AreHeights grid (items_view (drop 2 vs)) a b
  pub faulty : each_faults height_faults i (items_view (drop i vs)) ≢ [] → each_faults height_faults 2 (items_view (drop 2 vs)) ≢ []

pub counted_none : (grid : DecimalGrid) (vs : Values) (a : Tally) → Counted grid vs 2 a a
counted_none grid vs a = record { from = omega arith; means = λ b h. h; faulty = λ h. h }

pub counted_more : (grid : DecimalGrid) (vs : Values) (i : ℕ) (v : Value Global) (s : List ℕ) (a c d : Tally) → i < length vs → v ≡ get_or vs i v → IsTrue (may_have grid (items_view vs)) → as_number (value_view v) ≡ Some s
    → d ≡ with_height c → Counted grid vs i a c → Counted grid vs (i + 1) a d
counted_more grid vs i v s a c d less is may one put h = record {
  from = omega (arith, h.from);
  means = λ b rest.
      h.means b (subst (λ us. AreHeights grid (items_view us) c b) (sym here_is)
      (height grid (value_view v) s one (not_refused grid vs may (omega (arith, h.from))), subst (λ t. AreHeights grid (items_view (drop (i + 1) vs)) t b) put rest));
  faulty = λ rest. h.faulty (faulty_later height_faults vs i v less is rest);
}
  where
    here_is : drop i vs ≡ v ∷ drop (i + 1) vs
    here_is = drop_more vs i v less ∙ ap (λ u. u ∷ drop (i + 1) vs) (sym is)

pub counted_all : (grid : DecimalGrid) (vs : Values) (i : ℕ) (a c : Tally) → length vs ≤ i → Counted grid vs i a c → AreHeights grid (items_view (drop 2 vs)) a c
counted_all grid vs i a c past h = h.means c (subst (λ us. AreHeights grid (items_view us) c c) (sym (drop_all i vs past)) refl)

no_number : (j : Json) → as_number j ≡ None → height_faults j ≢ []
no_number null e = λ h. cc
no_number (boolean b) e = λ h. cc
no_number (number s) e = absurd cc
no_number (string s) e = λ h. cc
no_number (array js) e = λ h. cc
no_number (object ms) e = λ h. cc

pub counted_not : (grid : DecimalGrid) (vs : Values) (i : ℕ) (v : Value Global) (a c : Tally) → i < length vs → v ≡ get_or vs i v → as_number (value_view v) ≡ None → Counted grid vs i a c → each_faults height_faults 2 (items_view (drop 2 vs)) ≢ []
counted_not grid vs i v a c less is none h = h.faulty (faulty_item height_faults vs i v less is (no_number (value_view v) none))
