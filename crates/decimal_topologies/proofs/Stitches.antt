-- Places that are put one after another, and counted.
use Rattle.std.proofs.Common.{◌≡◌, ℕ, ◌+◌, ◌<◌, ◌≤◌, Bool, true, false, nat_lt, length, get_or, drop, map, List, [], ◌∷◌, ◌++◌, Option, Some, unwrap_or, Result, slice_get, refl, sym, ap, ◌∙◌, arith, append_assoc, append-nil}
use Rattle.std.proofs.lemmas.Bool.{lt-ltb}
use Rattle.std.proofs.lemmas.List.{drop_more, drop_all, map-append}
use Rattle.std.specs.declared.alloc.Global.{Global}
use Rattle.json.specs.Json.{Items, Json}
use Rattle.json.specs.Value.{value_view, items_view}
use Rattle.json.specs.declared.value.Value.{Value}
use Rattle.faults.specs.declared.fault.FaultKind.{FaultKind}
use Rattle.grid.specs.declared.pos.Pos.{Pos}
use Rattle.decimal_faults.proofs.Items.{Values}
use Rattle.decimal_maps.specs.declared.tally.Tally.{Tally}
use Rattle.decimal_arcs.specs.Seen.{seen_arcs}
use Rattle.decimal_topologies.specs.Stitching.{along_if, behind, places_at, positions_along, ref_of, stitched, stitched_behind}
use Rattle.decimal_arcs.specs.Tallies.{with_place, with_places}
use Rattle.decimal_arcs.specs.declared.place.Place.{Place}
use Rattle.decimal_topologies.specs.declared.numbers.ArcRef.{ArcRef}
use Rattle.decimal_topologies.proofs.Judging.{number_is}
use Rattle.decimal_topologies.proofs.Tables.{Table, dropped}

abbrev pub positions : List Place → List Pos
positions ps = map (λ p. p.at) ps

pub with_places-append : (ps qs : List Place) (t : Tally) → with_places (ps ++ qs) t ≡ with_places qs (with_places ps t)
with_places-append [] qs t = refl
with_places-append (p ∷ ps) qs t = with_places-append ps qs (with_place p t)

-- ---- the places along one arc

-- those from `first` up to i were put behind others, and counted
pub record Put (ps : List Place) (first i : ℕ) (before found : List Pos) (old tally : Tally) : Type 0 where
  pub put : found ++ positions (drop i ps) ≡ before ++ positions (drop first ps)
  pub counted : with_places (drop i ps) tally ≡ with_places (drop first ps) old

pub put_none : (ps : List Place) (first : ℕ) (found : List Pos) (tally : Tally) → Put ps first first found found tally tally
put_none ps first found tally = record { put = refl; counted = refl }

pub put_more : (ps : List Place) (first i : ℕ) (p : Place) (before found now : List Pos) (old tally later : Tally) → slice_get ps i ≡ Some p → Put ps first i before found old tally
    → now ≡ found ++ p.at ∷ [] → later ≡ with_place p tally → Put ps first (i + 1) before now old later
put_more ps first i p before found now old tally later is h put count = record {
  put = ap (λ l. l ++ positions (drop (i + 1) ps)) put ∙ append_assoc found (p.at ∷ []) _ ∙ ap (λ qs. found ++ positions qs) (sym (dropped ps i p is)) ∙ h.put;
  counted = ap (with_places (drop (i + 1) ps)) count ∙ ap (λ qs. with_places qs tally) (sym (dropped ps i p is)) ∙ h.counted;
}

pub put_all-put : (ps : List Place) (first i : ℕ) (before found : List Pos) (old tally : Tally) → length ps ≤ i → Put ps first i before found old tally → found ≡ before ++ positions (drop first ps)
put_all-put ps first i before found old tally past h = sym (append-nil found) ∙ ap (λ qs. found ++ positions qs) (sym (drop_all i ps past)) ∙ h.put

pub put_all-counted : (ps : List Place) (first i : ℕ) (before found : List Pos) (old tally : Tally) → length ps ≤ i → Put ps first i before found old tally → tally ≡ with_places (drop first ps) old
put_all-counted ps first i before found old tally past h = ap (λ qs. with_places qs tally) (sym (drop_all i ps past)) ∙ h.counted

-- ---- the places of one value

pub places_of : (ts : Table) (j : Json) (r : Result ArcRef FaultKind) (o : Option (List Place)) → r ≡ ref_of (length ts) j → o ≡ along_if (seen_arcs ts) r → places_at (seen_arcs ts) j ≡ unwrap_or o []
places_of ts j r o number is = ap (λ s. unwrap_or (along_if (seen_arcs ts) s) []) (number_is ts j r number) ∙ ap (λ p. unwrap_or p []) (sym is)

pub none_behind : (more : Bool) (ps : List Place) → ps ≡ [] → behind more ps ≡ []
none_behind false ps e = e
none_behind true ps e = ap (drop 1) e

-- ---- arcs one after another

-- those before i were stitched together, and counted
pub record Stitched (ts : Table) (vs : Values) (i : ℕ) (found : List Pos) (old tally : Tally) : Type 0 where
  pub put : found ++ positions (stitched_behind (seen_arcs ts) (nat_lt 0 i) (items_view (drop i vs))) ≡ positions_along (seen_arcs ts) (items_view vs)
  pub counted : with_places (stitched_behind (seen_arcs ts) (nat_lt 0 i) (items_view (drop i vs))) tally ≡ with_places (stitched (seen_arcs ts) (items_view vs)) old

pub stitched_none : (ts : Table) (vs : Values) (tally : Tally) → Stitched ts vs 0 [] tally tally
stitched_none ts vs tally = record { put = refl; counted = refl }

later : (i : ℕ) → nat_lt 0 (i + 1) ≡ true
later i = lt-ltb 0 (i + 1) (omega arith)

pub stitched_more : (ts : Table) (vs : Values) (i : ℕ) (v : Value Global) (found now : List Pos) (old tally after : Tally) → i < length vs → v ≡ get_or vs i v → Stitched ts vs i found old tally
    → now ≡ found ++ positions (behind (nat_lt 0 i) (places_at (seen_arcs ts) (value_view v))) → after ≡ with_places (behind (nat_lt 0 i) (places_at (seen_arcs ts) (value_view v))) tally
    → Stitched ts vs (i + 1) now old after
stitched_more ts vs i v found now old tally after less is h put count = record {
  put = ap (λ b. now ++ positions (stitched_behind (seen_arcs ts) b rest)) (later i)
      ∙ ap (λ l. l ++ positions (stitched_behind (seen_arcs ts) true rest)) put
      ∙ append_assoc found (positions arc) _
      ∙ ap (λ l. found ++ l) (sym (map-append (λ p. p.at) arc (stitched_behind (seen_arcs ts) true rest)))
      ∙ ap (λ us. found ++ positions (stitched_behind (seen_arcs ts) (nat_lt 0 i) (items_view us))) (sym here) ∙ h.put;
  counted = ap (λ b. with_places (stitched_behind (seen_arcs ts) b rest) after) (later i)
      ∙ ap (with_places (stitched_behind (seen_arcs ts) true rest)) count
      ∙ sym (with_places-append arc (stitched_behind (seen_arcs ts) true rest) tally)
      ∙ ap (λ us. with_places (stitched_behind (seen_arcs ts) (nat_lt 0 i) (items_view us)) tally) (sym here) ∙ h.counted;
}
  where
    rest : Items
    rest = items_view (drop (i + 1) vs)

    arc : List Place
    arc = behind (nat_lt 0 i) (places_at (seen_arcs ts) (value_view v))

    here : drop i vs ≡ v ∷ drop (i + 1) vs
    here = drop_more vs i v less ∙ ap (λ u. u ∷ drop (i + 1) vs) (sym is)

pub stitched_all-put : (ts : Table) (vs : Values) (i : ℕ) (found : List Pos) (old tally : Tally) → length vs ≤ i → Stitched ts vs i found old tally → found ≡ positions_along (seen_arcs ts) (items_view vs)
stitched_all-put ts vs i found old tally past h =
    sym (append-nil found) ∙ ap (λ us. found ++ positions (stitched_behind (seen_arcs ts) (nat_lt 0 i) (items_view us))) (sym (drop_all i vs past)) ∙ h.put

pub stitched_all-counted : (ts : Table) (vs : Values) (i : ℕ) (found : List Pos) (old tally : Tally) → length vs ≤ i → Stitched ts vs i found old tally → tally ≡ with_places (stitched (seen_arcs ts) (items_view vs)) old
stitched_all-counted ts vs i found old tally past h =
    ap (λ us. with_places (stitched_behind (seen_arcs ts) (nat_lt 0 i) (items_view us)) tally) (sym (drop_all i vs past)) ∙ h.counted
