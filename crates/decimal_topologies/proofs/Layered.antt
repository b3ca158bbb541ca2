-- Layers one after another, by their names.
use Rattle.std.proofs.Common.{◌≡◌, ◌≢◌, ℕ, ◌+◌, ◌<◌, ◌≤◌, length, get_or, drop, List, [], ◌∷◌, ◌++◌, Option, Some, None, refl, sym, ap, ◌∙◌, subst, append_assoc, append-nil}
use Rattle.std.proofs.lemmas.List.{drop_more, drop_all}
use Rattle.std.specs.Borrow.{Bor}
use Rattle.std.specs.BTreeMap.{insert_entry}
use Rattle.std.specs.Cmp.Lexicographic.{slice_cmp}
use Rattle.std.specs.Ordering.{match_ordering, nat_cmp}
use Rattle.std.specs.declared.cmp.Ordering.{Ordering}
use Rattle.std.specs.declared.cmp.Ordering.TheVariants.{Less, Equal, Greater}
use Rattle.std.specs.declared.alloc.Global.{Global}
use Rattle.json.specs.Json.{Json, Members}
use Rattle.json.specs.Find.{as_object, get}
use Rattle.json.specs.Value.{value_view, members_view}
use Rattle.json.specs.declared.value.Value.{Value}
use Rattle.faults.specs.Path.{name}
use Rattle.faults.specs.Fault.{Pair}
use Rattle.fixing.specs.declared.rules.FixingRules.{FixingRules}
use Rattle.reading.specs.Fault.{under}
use Rattle.reading.proofs.Faultless.{under_none, first_none, second_none}
use Rattle.decimal_faults.specs.Parts.{member_faults, object_faults, there}
use Rattle.decimal_maps.specs.declared.rules.MapRules.{MapRules}
use Rattle.decimal_faults.proofs.Faulty.{faulty_member}
use Rattle.decimal_topologies.specs.Features.{layer_faults}
use Rattle.decimal_topologies.specs.Geometries.{TopologyParts}
use Rattle.decimal_topologies.specs.Layers.{AreNamedLayers, IsNamedLayer, chosen_faults, layers_faults, seen_named, with_members}
use Rattle.decimal_topologies.specs.declared.objects.TopologyLayer.{TopologyLayer}

-- a name and a value that are borrowed
abbrev pub Entry : Type 0
Entry = Bor (List ℕ) × Bor (Value Global)

-- ---- the members in their order

seen_insert : (es : List Entry) (k : Bor (List ℕ)) (v : Bor (Value Global)) → seen_named (insert_entry (λ x y. slice_cmp nat_cmp x.now y.now) es k v) ≡ insert_entry (slice_cmp nat_cmp) (seen_named es) k.now (value_view v.now)
seen_insert [] k v = refl
seen_insert (e ∷ es) k v = go (slice_cmp nat_cmp k.now e.0.now) (seen_insert es k v)
  where
    go : (o : Ordering) → seen_named (insert_entry (λ x y. slice_cmp nat_cmp x.now y.now) es k v) ≡ insert_entry (slice_cmp nat_cmp) (seen_named es) k.now (value_view v.now) → seen_named (match_ordering o ((k, v) ∷ e ∷ es) ((e.0, v) ∷ es) (e ∷ insert_entry (λ x y. slice_cmp nat_cmp x.now y.now) es k v))
        ≡ match_ordering o ((k.now, value_view v.now) ∷ seen_named (e ∷ es)) ((e.0.now, value_view v.now) ∷ seen_named es) ((e.0.now, value_view e.1.now) ∷ insert_entry (slice_cmp nat_cmp) (seen_named es) k.now (value_view v.now))
    go Less more = refl
    go Equal more = refl
    go Greater more = ap (λ ls. (e.0.now, value_view e.1.now) ∷ ls) more

-- a member of an object
abbrev pub Member : Type 0
Member = Bor (List ℕ) × Value Global

-- the members before i stand among these, in their order
pub record Ordered (ms : List Member) (i : ℕ) (found : List Entry) : Type 0 where
  pub all : with_members (seen_named found) (members_view (drop i ms)) ≡ with_members [] (members_view ms)

pub ordered_none : (ms : List Member) → Ordered ms 0 []
ordered_none ms = record { all = refl }

pub ordered_more : (ms : List Member) (i : ℕ) (m : Member) (k : Bor (List ℕ)) (v : Bor (Value Global)) (found now : List Entry) → i < length ms → m ≡ get_or ms i m → k.now ≡ m.0.now → value_view v.now ≡ value_view m.1
    → Ordered ms i found → now ≡ insert_entry (λ x y. slice_cmp nat_cmp x.now y.now) found k v → Ordered ms (i + 1) now
ordered_more ms i m k v found now less is named valued h put = record {
  all = ap (λ es. with_members (seen_named es) rest) put
      ∙ ap (λ ls. with_members ls rest) (seen_insert found k v)
      ∙ ap (λ n. with_members (insert_entry (slice_cmp nat_cmp) (seen_named found) n (value_view v.now)) rest) named
      ∙ ap (λ j. with_members (insert_entry (slice_cmp nat_cmp) (seen_named found) m.0.now j) rest) valued
      ∙ ap (λ us. with_members (seen_named found) (members_view us)) (sym here) ∙ h.all;
}
  where
    rest : Members
    rest = members_view (drop (i + 1) ms)

    here : drop i ms ≡ m ∷ drop (i + 1) ms
    here = drop_more ms i m less ∙ ap (λ u. u ∷ drop (i + 1) ms) (sym is)

pub ordered_all : (ms : List Member) (i : ℕ) (found : List Entry) → length ms ≤ i → Ordered ms i found → seen_named found ≡ with_members [] (members_view ms)
ordered_all ms i found past h = ap (λ us. with_members (seen_named found) (members_view us)) (sym (drop_all i ms past)) ∙ h.all

-- ---- faults

module _ (t : TopologyParts) (rules : MapRules) where
  -- these were found of the layers before the rest
  pub record Judged (fixing : FixingRules) (all rest : List Entry) (found : List Pair) : Type 0 where
    pub same : found ++ layers_faults t rules fixing (seen_named rest) ≡ layers_faults t rules fixing (seen_named all)

  pub judged_none : (fixing : FixingRules) (all : List Entry) → Judged fixing all all []
  judged_none fixing all = record { same = refl }

  pub judged_more : (fixing : FixingRules) (all rest left : List Entry) (e : Entry) (found part now : List Pair) → rest ≡ e ∷ left → Judged fixing all rest found → part ≡ layer_faults t rules fixing (value_view e.1.now)
      → now ≡ found ++ under (name e.0.now) part → Judged fixing all left now
  judged_more fixing all rest left e found part now is h one put = record {
    same = ap (λ ps. ps ++ layers_faults t rules fixing (seen_named left)) (put ∙ ap (λ ps. found ++ under (name e.0.now) ps) one)
        ∙ append_assoc found (under (name e.0.now) (layer_faults t rules fixing (value_view e.1.now))) _
        ∙ ap (λ es. found ++ layers_faults t rules fixing (seen_named es)) (sym is) ∙ h.same;
  }

  pub judged_all : (fixing : FixingRules) (all rest : List Entry) (found : List Pair) → rest ≡ [] → Judged fixing all rest found → found ≡ layers_faults t rules fixing (seen_named all)
  judged_all fixing all rest found none h = sym (append-nil found) ∙ ap (λ es. found ++ layers_faults t rules fixing (seen_named es)) (sym none) ∙ h.same

  -- ---- meaning

  -- these were made of the layers before the rest
  pub record Made (all rest : List Entry) (made : List TopologyLayer) : Type 0 where
    pub means : (xs : List TopologyLayer) → AreNamedLayers t rules (seen_named rest) xs → AreNamedLayers t rules (seen_named all) (made ++ xs)
    pub faulty : (fixing : FixingRules) → layers_faults t rules fixing (seen_named rest) ≢ [] → layers_faults t rules fixing (seen_named all) ≢ []

  pub made_none : (all : List Entry) → Made all all []
  made_none all = record { means = λ xs h. h; faulty = λ fixing h. h }

  pub made_more : (all rest left : List Entry) (e : Entry) (x : TopologyLayer) (made now : List TopologyLayer) → rest ≡ e ∷ left → Made all rest made → IsNamedLayer t rules (e.0.now, value_view e.1.now) x → now ≡ made ++ x ∷ [] → Made all left now
  made_more all rest left e x made now is h one put = record {
    means = λ xs more.
        subst (λ ys. AreNamedLayers t rules (seen_named all) ys) (sym (append_assoc made (x ∷ []) xs) ∙ ap (λ ys. ys ++ xs) (sym put))
        (h.means (x ∷ xs) (subst (λ es. AreNamedLayers t rules (seen_named es) (x ∷ xs)) (sym is) (one, more)));
    faulty = λ fixing more. h.faulty fixing (λ none. more (second_none (under (name e.0.now) (layer_faults t rules fixing (value_view e.1.now))) _ (ap (λ es. layers_faults t rules fixing (seen_named es)) (sym is) ∙ none)));
  }

  pub made_all : (all rest : List Entry) (made : List TopologyLayer) → rest ≡ [] → Made all rest made → AreNamedLayers t rules (seen_named all) made
  made_all all rest made none h = subst (λ ys. AreNamedLayers t rules (seen_named all) ys) (append-nil made) (h.means [] (subst (λ es. AreNamedLayers t rules (seen_named es) []) (sym none) tt))

  pub faulty_here : (fixing : FixingRules) (all rest left : List Entry) (e : Entry) (made : List TopologyLayer) → rest ≡ e ∷ left → Made all rest made → layer_faults t rules fixing (value_view e.1.now) ≢ [] → layers_faults t rules fixing (seen_named all) ≢ []
  faulty_here fixing all rest left e made is h faulty = h.faulty fixing (λ none.
      faulty (under_none (name e.0.now) (layer_faults t rules fixing (value_view e.1.now)) (first_none (under (name e.0.now) (layer_faults t rules fixing (value_view e.1.now))) _ (ap (λ es. layers_faults t rules fixing (seen_named es)) (sym is) ∙ none))))

-- ---- the only object that is read

module _ (t : TopologyParts) (rules : MapRules) (fixing : FixingRules) (n : List ℕ) (j : Json) where
  pub missing_only : None ≡ get n j → chosen_faults t rules fixing (Some n) j ≢ []
  missing_only e none = go (as_object j) none
    where
      go : (o : Option Members) → object_faults (member_faults n (layer_faults t rules fixing) j) o ≡ [] → ⊥
      go None h = cc
      go (Some ms) h = let m = ap (λ k. under (name n) (there (layer_faults t rules fixing) k)) e ∙ h in cc

  pub faulty_only : (k : Json) → Some k ≡ get n j → layer_faults t rules fixing k ≢ [] → chosen_faults t rules fixing (Some n) j ≢ []
  faulty_only k e faulty none = go (as_object j) none
    where
      go : (o : Option Members) → object_faults (member_faults n (layer_faults t rules fixing) j) o ≡ [] → ⊥
      go None h = cc
      go (Some ms) h = faulty_member n (layer_faults t rules fixing) j k e faulty h
