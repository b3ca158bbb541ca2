-- Lemmas on the feature that an error of a text lies in.
use Rattle.std.proofs.Common.{◌≡◌, ℕ, ◌-◌, Bool, true, false, List, [], ◌∷◌, Some, None, Option, ap, codes, drop, length, map, refl, string_bytes, sym, take, ◌∙◌}
use Rattle.std.specs.Prelude.{if◌then◌else◌, option_and_then}
use Rattle.std.proofs.lemmas.Bool.{eqb-true}
use Rattle.std.proofs.lemmas.List.{drop-map, take-map, take_rest}
use Rattle.std.proofs.lemmas.Slice.Eq.{bytes_eq-Decides}
use Rattle.lines.proofs.Positions.{both_true}
use Rattle.faults.specs.contracts.fault.StepPartialEq.TheImpl as step_eq
use Rattle.faults.specs.Fault.{turn_of}
use Rattle.faults.specs.Path.{Turn, index, name}
use Rattle.faults.specs.declared.fault.Step.{Step}
use Rattle.faults.specs.declared.fault.Step.TheVariants.{Index, Name}
use Rattle.serde_json.specs.Data.{Data}
use Rattle.fault_reports.specs.declared.features.Format.{Format}
use Rattle.fault_reports.specs.FaultyFeatures.{faulty_feature, faulty_id, goes_into, has_type, id_of, steps_in_geojson, steps_in_topology, steps_to_feature, steps_to_layer, value_at}
use lib.Pointwise.{pointwise}

pick_true : {A : Type 0} (b : Bool) (x y : A) → true ≡ b → x ≡ (if b then x else y)
pick_true b x y h = ap (λ c. if c then x else y) h

pick_false : {A : Type 0} (b : Bool) (x y : A) → false ≡ b → y ≡ (if b then x else y)
pick_false b x y h = ap (λ c. if c then x else y) h

pub geojson_element : (text : Data) (path : List Turn) → true ≡ goes_into (codes "features") path → Some 2 ≡ steps_in_geojson text path
unfolding steps_in_geojson
geojson_element text path h = pick_true _ _ _ h

pub geojson_whole : (text : Data) (path : List Turn) → false ≡ goes_into (codes "features") path → true ≡ has_type (codes "Feature") text → Some 0 ≡ steps_in_geojson text path
unfolding steps_in_geojson
geojson_whole text path h typed = pick_true _ _ _ typed ∙ pick_false _ _ _ h

pub geojson_none : (text : Data) (path : List Turn) → false ≡ goes_into (codes "features") path → false ≡ has_type (codes "Feature") text → None ≡ steps_in_geojson text path
unfolding steps_in_geojson
geojson_none text path h typed = pick_false _ _ _ typed ∙ pick_false _ _ _ h

pub topology_none : (text : Data) (path : List Turn) → false ≡ goes_into (codes "objects") path → None ≡ steps_in_topology text path
unfolding steps_in_topology
topology_none text path h = pick_false _ _ _ h

in_rest : (wanted : List ℕ) (path : List Step) (b : Bool) → b ≡ goes_into wanted (map turn_of (take (length path - 2) (drop 2 path))) → b ≡ goes_into wanted (drop 2 (map turn_of path))
in_rest wanted path b h = h ∙ ap (λ p. goes_into wanted (map turn_of p)) (take_rest path 2) ∙ ap (goes_into wanted) (sym (drop-map turn_of 2 path))

pub topology_element : (text : Data) (path : List Step) → true ≡ goes_into (codes "objects") (map turn_of path) → true ≡ goes_into (codes "geometries") (map turn_of (take (length path - 2) (drop 2 path)))
    → Some 4 ≡ steps_in_topology text (map turn_of path)
unfolding steps_in_topology
topology_element text path h in' = pick_true _ _ _ (in_rest (codes "geometries") path true in') ∙ pick_true _ _ _ h

pub topology_layer : (text : Data) (path : List Step) (layer : Option Data) (r : Option ℕ) → true ≡ goes_into (codes "objects") (map turn_of path) → false ≡ goes_into (codes "geometries") (map turn_of (take (length path - 2) (drop 2 path)))
    → layer ≡ value_at (map turn_of (take 2 path)) text → r ≡ option_and_then steps_to_layer layer → r ≡ steps_in_topology text (map turn_of path)
unfolding steps_in_topology
topology_layer text path layer r h in' at is =
    is ∙ ap (option_and_then steps_to_layer) (at ∙ ap (λ p. value_at p text) (sym (take-map turn_of 2 path)))
    ∙ pick_false _ _ _ (in_rest (codes "geometries") path false in') ∙ pick_true _ _ _ h

-- a layer that is a collection, and one that is not
pub layer_of_many : (layer : Data) → true ≡ has_type (codes "GeometryCollection") layer → None ≡ steps_to_layer layer
layer_of_many layer h = pick_true _ _ _ h

pub layer_of_one : (layer : Data) → false ≡ has_type (codes "GeometryCollection") layer → Some 2 ≡ steps_to_layer layer
layer_of_one layer h = pick_false _ _ _ h

-- the path of a feature leads to it
pub path_leads : (format : Format) (text : Data) (path part : List Step) (n : ℕ) → part ≡ take n path → Some n ≡ steps_to_feature format text (map turn_of path)
    → value_at (map turn_of part) text ≡ faulty_feature format text (map turn_of path)
path_leads format text path part n from steps =
    ap (λ p. value_at (map turn_of p) text) from ∙ ap (λ p. value_at p text) (sym (take-map turn_of n path))
    ∙ ap (option_and_then (λ k. value_at (take k (map turn_of path)) text)) steps

-- steps that the derived test finds equal lead to one place
step_same : (a b : Step) → step_eq.eq-value.it a b ≡ true → turn_of a ≡ turn_of b
step_same (Name a) (Name b) e = ap name ((bytes_eq-Decides (string_bytes a) (string_bytes b)).0 e)
step_same (Index i) (Index j) e = ap index (eqb-true i j e)
step_same (Name a) (Index j) e = absurd cc
step_same (Index i) (Name b) e = absurd cc

steps_same : (us vs : List Step) → pointwise step_eq.eq-value.it us vs ≡ true → map turn_of us ≡ map turn_of vs
steps_same [] [] e = refl
steps_same [] (b ∷ vs) e = absurd cc
steps_same (a ∷ us) [] e = absurd cc
steps_same (a ∷ us) (b ∷ vs) e =
    let t = both_true (step_eq.eq-value.it a b) (pointwise step_eq.eq-value.it us vs) e in
    let first = step_same a b t.0 in
    let rest = steps_same us vs t.1 in
    λ i. first i ∷ rest i

-- errors below one path to a feature have one id
pub one_id : (format : Format) (text : Data) (one other us vs : List Step) → value_at (map turn_of us) text ≡ faulty_feature format text (map turn_of one)
    → value_at (map turn_of vs) text ≡ faulty_feature format text (map turn_of other) → pointwise step_eq.eq-value.it us vs ≡ true
    → faulty_id format text (map turn_of one) ≡ faulty_id format text (map turn_of other)
one_id format text one other us vs is that same =
    ap (option_and_then id_of) (sym is ∙ ap (λ p. value_at p text) (steps_same us vs same) ∙ that)
