-- Lists in which an element rests on those before it.
use Rattle.std.proofs.Common.{◌≡◌, ℕ, ◌+◌, ◌<◌, ◌≤◌, length, get_or, drop, List, [], ◌∷◌, ◌++◌, map, sym, ap, ◌∙◌, subst, arith}
use Rattle.std.specs.Cmp.{nat_cmp_is}
use Rattle.std.specs.declared.cmp.Ordering.TheVariants.{Less}
use Rattle.std.proofs.lemmas.List.{drop_more, drop_all}
use Rattle.serde_json.specs.Data.{Data}
use Rattle.serde_json.specs.View.{view}
use Rattle.serde_json.specs.declared.value.Value.{Value}
use Rattle.faults.specs.Path.{index}
use Rattle.faults.specs.Fault.{Pair, Lifted}
use Rattle.reading.specs.Fault.{under, LeastOrWant}
use Rattle.reading.specs.Scan.{scan_faults}
use Rattle.faults.specs.declared.fault.Fault.{Fault}
use Rattle.reading.proofs.Least.{After, after_none, after_under, after_append, lifted}

after_scan : {S : Type 0} (of : S → Data → List Pair) (next : S → Data → S) (s : S) (i j : ℕ) (ds : List Data) → i < j → After (index i) (scan_faults of next s j ds)
after_scan of next s i j [] less = after_none (index i)
after_scan of next s i j (d ∷ ds) less =
    after_append (index i) (under (index j) (of s d)) _ (after_under (index i) (index j) (of s d) (sym (nat_cmp_is i j Less less))) (after_scan of next (next s d) i (j + 1) ds (omega arith))

scan_more : {S : Type 0} (of : S → Data → List Pair) (next : S → Data → S) (s : S) (vs : List Value) (i : ℕ) (v : Value) → i < length vs → v ≡ get_or vs i v
    → scan_faults of next s i (map view (drop i vs)) ≡ under (index i) (of s (view v)) ++ scan_faults of next (next s (view v)) (i + 1) (map view (drop (i + 1) vs))
scan_more of next s vs i v less is = rw (drop_more vs i v less, ← is)

pub scan_passed : {S : Type 0} (of : S → Data → List Pair) (next : S → Data → S) (s t : S) (vs : List Value) (i : ℕ) (v : Value) → i < length vs → v ≡ get_or vs i v → of s (view v) ≡ [] → next s (view v) ≡ t
    → scan_faults of next s i (map view (drop i vs)) ≡ scan_faults of next t (i + 1) (map view (drop (i + 1) vs))
scan_passed of next s t vs i v less is none goes =
    scan_more of next s vs i v less is ∙ ap (λ ps. under (index i) ps ++ scan_faults of next (next s (view v)) (i + 1) (map view (drop (i + 1) vs))) none ∙ ap (λ u. scan_faults of next u (i + 1) (map view (drop (i + 1) vs))) goes

pub scan_refused : {S : Type 0} (of : S → Data → List Pair) (next : S → Data → S) (s : S) (vs : List Value) (i : ℕ) (v : Value) (old new : Fault) → i < length vs → v ≡ get_or vs i v
    → LeastOrWant (of s (view v)) old → Lifted (index i) old new → LeastOrWant (scan_faults of next s i (map view (drop i vs))) new
scan_refused of next s vs i v old new less is part up =
    subst (λ ps. LeastOrWant ps new) (sym (scan_more of next s vs i v less is))
    (lifted (index i) (of s (view v)) _ old new part up (after_scan of next _ i (i + 1) _ (omega arith)))

pub scan_done : {S : Type 0} (of : S → Data → List Pair) (next : S → Data → S) (s : S) (vs : List Value) (i : ℕ) → length vs ≤ i → scan_faults of next s i (map view (drop i vs)) ≡ []
scan_done of next s vs i past = rw (drop_all i vs past)
