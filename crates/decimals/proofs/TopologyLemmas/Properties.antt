-- Properties with their numbers as they were.
use Rattle.std.proofs.Common.{◌≡◌, ℕ, ℤ, zero, suc, ◌+◌, ◌<◌, Bool, true, false, cond, List, [], ◌∷◌, drop, length, get_or, BTreeMap, String, string_bytes, Option, Some, None, is_some, Ordering, nat_cmp, bytes_eq, refl, sym, ap, ◌∙◌, arith}
use Rattle.std.proofs.lemmas.Map.Text.{btree_map_updates_text}
use Rattle.std.specs.Borrow.{Bor}
use Rattle.std.specs.BTreeMap.{UpdatesBy, btree_map_len, get_by_text}
use Rattle.std.specs.Cmp.Lexicographic.{slice_cmp}
use Rattle.std.specs.Prelude.{◌||◌}
use Rattle.std.specs.String.{string_cmp}
use Rattle.std.specs.declared.alloc.Global.{Global}
use Rattle.attributes.proofs.Printing.{stay_back}
use Rattle.attributes.specs.Back.{properties_back}
use Rattle.attributes.specs.declared.rules.Scale.{Scale}
use Rattle.shapes.specs.Parts.{properties_text}
use Rattle.shapes.specs.declared.props.Props.{Props}
use Rattle.topo.specs.Parts.{LayerParts}
use Rattle.decimals.specs.Topology.Laws.{PropertiesStay}
use Rattle.decimals.specs.Topology.LayersBack.{are_numbers, is_named, layer_in}
use Rattle.decimals.specs.declared.topology.rules.BackRules.{BackRules}

abbrev Numbers : Type 0
Numbers = BTreeMap (String Global) ℕ

abbrev compare : List ℕ → String Global → Ordering
compare name k = slice_cmp nat_cmp name (string_bytes k)

-- ---- names

either : (v : ℕ) (b : Bool) (o : Option ℕ) (rest : Bool) → (is_some (cond b (Some v) o) || rest) ≡ (is_some o || (b || rest))
either v true None rest = refl
either v true (Some n) rest = refl
either v false o rest = refl

name_step : (names : List (Bor (List ℕ))) (i : ℕ) (d : Bor (List ℕ)) → i < length names → drop i names ≡ get_or names i d ∷ drop (i + 1) names
name_step [] i d within = absurd (omega arith)
name_step (n ∷ ns) zero d within = refl
name_step (n ∷ ns) (suc i) d within = let e : suc i + 1 ≡ suc (i + 1) = omega arith in rw e (name_step ns i d (omega arith))

-- one name more is a column
pub name_more : (old new : Numbers) (names : List (Bor (List ℕ))) (i : ℕ) (d : Bor (List ℕ)) (key : List ℕ) (v : ℕ) → i < length names → key ≡ (get_or names i d).now
    → UpdatesBy string_cmp (compare key) old new (Some v)
    → ((q : List ℕ) → (is_some (get_by_text old q) || is_named (drop i names) q) ≡ is_named names q)
    → (q : List ℕ) → (is_some (get_by_text new q) || is_named (drop (i + 1) names) q) ≡ is_named names q
name_more old new names i d key v within same updates before q =
    let rest = is_named (drop (i + 1) names) q in
    let name = (get_or names i d).now in
    let found : get_by_text new q ≡ cond (bytes_eq name q) (Some v) (get_by_text old q) =
    btree_map_updates_text key old new (Some v) updates q ∙ ap (λ k. cond (bytes_eq k q) (Some v) (get_by_text old q)) same in
    ap (λ o. is_some o || rest) found
    ∙ (either v (bytes_eq name q) (get_by_text old q) rest
    ∙ (ap (λ l. is_some (get_by_text old q) || is_named l q) (sym (name_step names i d within)) ∙ before q))

-- ---- no columns

pub no_entries : {X : Type 0} (l : List X) → length l ≡ 0 → l ≡ []
no_entries [] e = refl
no_entries (x ∷ l) e = absurd (omega (arith, e))

-- an empty map has no column
pub no_columns : (numbers : Numbers) → numbers.entries ≡ [] → (q : List ℕ) → is_some (get_by_text numbers q) ≡ false
no_columns numbers none q = rw none refl

-- ---- texts

-- with no columns and no scales properties stay
pub none_back : (numbers : Numbers) (scales : List Scale) (p : Props) → btree_map_len numbers ≡ 0 → scales ≡ []
    → properties_back (λ name. is_some (get_by_text numbers name)) scales (properties_text p) ≡ properties_text p
none_back numbers scales p empty none = (λ i. properties_back (λ name. no_columns numbers (no_entries numbers.entries empty) name i) (none i) p.text) ∙ stay_back p

-- columns that are alike make one layer
pub alike : (f g : List ℕ → Bool) (r : BackRules) (areas : List ℤ) (l : LayerParts) → ((q : List ℕ) → f q ≡ g q) → layer_in f r areas l ≡ layer_in g r areas l
alike f g r areas l same = ap (λ h. layer_in h r areas l) (λ i q. same q i)

-- with no columns and no scales the text of each geometry's properties stays
pub properties_stay : PropertiesStay
properties_stay r features areas g none empty = (λ i. properties_back (are_numbers (none i) features) (empty i) (properties_text g.props)) ∙ stay_back g.props
