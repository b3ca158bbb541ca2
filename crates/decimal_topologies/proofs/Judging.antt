-- The faults of numbers of arcs, one after another.
use Rattle.std.proofs.Common.{◌≡◌, ℕ, ◌+◌, ◌<◌, ◌≤◌, length, get_or, drop, List, [], ◌∷◌, ◌++◌, Option, None, Result, refl, sym, ap, ◌∙◌, append_assoc, append-nil}
use Rattle.std.proofs.lemmas.List.{drop_more, drop_all}
use Rattle.json.specs.Json.{Json}
use Rattle.json.specs.Value.{value_view, items_view}
use Rattle.json.specs.declared.value.Value.{Value}
use Rattle.std.specs.declared.alloc.Global.{Global}
use Rattle.faults.specs.Path.{index}
use Rattle.faults.specs.Fault.{Pair}
use Rattle.faults.specs.declared.fault.FaultKind.{FaultKind}
use Rattle.grid.specs.declared.pos.Pos.{Pos}
use Rattle.reading.specs.Fault.{under}
use Rattle.decimal_faults.proofs.Items.{Values}
use Rattle.decimal_arcs.specs.Seen.{seen_arcs}
use Rattle.decimal_topologies.specs.Stitching.{along_if, ends, number_faults, numbers_faults, ref_of}
use Rattle.decimal_topologies.specs.declared.numbers.ArcRef.{ArcRef}
use Rattle.decimal_topologies.proofs.Tables.{Table, seen-length}

-- these were found of the numbers before i, and the arc before i ends there
pub record Judged (ts : Table) (vs : Values) (i : ℕ) (end : Option Pos) (found : List Pair) : Type 0 where
  pub all : found ++ numbers_faults (seen_arcs ts) end i (items_view (drop i vs)) ≡ numbers_faults (seen_arcs ts) None 0 (items_view vs)

pub judged_none : (ts : Table) (vs : Values) → Judged ts vs 0 None []
judged_none ts vs = record { all = refl }

-- the number of a value
pub number_is : (ts : Table) (j : Json) (r : Result ArcRef FaultKind) → r ≡ ref_of (length ts) j → ref_of (length (seen_arcs ts)) j ≡ r
number_is ts j r is = ap (λ n. ref_of n j) (seen-length ts) ∙ sym is

-- one more number
numbers_more : (ts : Table) (vs : Values) (i : ℕ) (end : Option Pos) (v : Value Global) (r : Result ArcRef FaultKind) → i < length vs → v ≡ get_or vs i v → r ≡ ref_of (length ts) (value_view v)
    → numbers_faults (seen_arcs ts) end i (items_view (drop i vs)) ≡ under (index i) (number_faults (seen_arcs ts) end r) ++ numbers_faults (seen_arcs ts) (ends (along_if (seen_arcs ts) r)) (i + 1) (items_view (drop (i + 1) vs))
numbers_more ts vs i end v r less is number =
    ap (λ us. numbers_faults (seen_arcs ts) end i (items_view us)) (drop_more vs i v less ∙ ap (λ u. u ∷ drop (i + 1) vs) (sym is))
    ∙ ap (λ s. under (index i) (number_faults (seen_arcs ts) end s) ++ numbers_faults (seen_arcs ts) (ends (along_if (seen_arcs ts) s)) (i + 1) (items_view (drop (i + 1) vs))) (number_is ts (value_view v) r number)

pub judged_more : (ts : Table) (vs : Values) (i : ℕ) (end later : Option Pos) (v : Value Global) (r : Result ArcRef FaultKind) (found part now : List Pair) → i < length vs → v ≡ get_or vs i v → r ≡ ref_of (length ts) (value_view v)
    → Judged ts vs i end found → part ≡ number_faults (seen_arcs ts) end r → now ≡ found ++ under (index i) part → later ≡ ends (along_if (seen_arcs ts) r) → Judged ts vs (i + 1) later now
judged_more ts vs i end later v r found part now less is number h one put after = record {
  all = ap (λ e. now ++ numbers_faults (seen_arcs ts) e (i + 1) (items_view (drop (i + 1) vs))) after
      ∙ ap (λ ps. ps ++ numbers_faults (seen_arcs ts) (ends (along_if (seen_arcs ts) r)) (i + 1) (items_view (drop (i + 1) vs))) (put ∙ ap (λ ps. found ++ under (index i) ps) one)
      ∙ append_assoc found (under (index i) (number_faults (seen_arcs ts) end r)) _ ∙ ap (λ ps. found ++ ps) (sym (numbers_more ts vs i end v r less is number)) ∙ h.all;
}

pub judged_all : (ts : Table) (vs : Values) (i : ℕ) (end : Option Pos) (found : List Pair) → length vs ≤ i → Judged ts vs i end found → found ≡ numbers_faults (seen_arcs ts) None 0 (items_view vs)
judged_all ts vs i end found past h = sym (append-nil found) ∙ ap (λ us. found ++ numbers_faults (seen_arcs ts) end i (items_view us)) (sym (drop_all i vs past)) ∙ h.all
