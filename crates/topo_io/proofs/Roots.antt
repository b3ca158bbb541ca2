-- The members of a topology.
use Rattle.std.proofs.Common.{◌≡◌, List, [], ◌∷◌, ◌++◌, Option, Some, None, String, Global, Vec, codes, map, refl, sym, ap, ◌∙◌, subst, arith, All, Contains, Result, Ok, Err, OnOk, IfOk}
use Rattle.std.proofs.lemmas.List.Elements.{All-append, All-map, Contains-append_left}
use Rattle.std.specs.List.{AllZip}
use Rattle.std.specs.declared.cmp.Ordering.TheVariants.{Less}
use Rattle.serde_json.specs.Data.{Data, Items, Members, no_members, member}
use Rattle.serde_json.specs.Find.{get, as_array}
use Rattle.faults.specs.Path.{Turn, name}
use Rattle.faults.specs.Fault.{Pair, prefixed, pair_of}
use Rattle.faults.specs.declared.fault.Fault.{Fault}
use Rattle.faults.specs.declared.fault.FaultKind.TheVariants.{OutOfMemory}
use Rattle.grid.specs.declared.pos.Pos.{Pos}
use Rattle.shapes.specs.declared.feature.Feature.{Feature}
use Rattle.reading.specs.Fault.{turn_cmp, under, IsUpto, LeastOrWant}
use Rattle.reading.specs.Info.{member_or_null}
use Rattle.reading.specs.Parts.{there, elements, list_faults, member_faults, MeanMembers}
use Rattle.reading.specs.Plain.{plain}
use Rattle.reading.proofs.Entries.{named}
use Rattle.reading.proofs.Lists.{zip_is}
use Rattle.reading.proofs.Members.{member_there}
use Rattle.topo_io.specs.Limits.{no_limits, limits_on}
use Rattle.topo_io.specs.Arcs.{known, arc_faults, arc_of, arcs_of}
use Rattle.topo_io.specs.Geometries.{layer_features}
use Rattle.topo_io.specs.Layers.{plain_layer}
use Rattle.topo_io.specs.Roots.{arcs_by, arcs_if_array, arcs_in, layers_in, limits_by, transform_of, objects_faults, content_faults}
use Rattle.topo_io.specs.declared.reader.position.Limits.{Limits}

-- what members mean, as plain layers
pub mean_layers : (arcs : List (List Pos)) (ms : Members) (ls : List (String Global × Vec Feature Global)) → MeanMembers (λ d (fs : Vec Feature Global). map plain fs.items ≡ layer_features arcs d) ms (map named ls) → map plain_layer ls ≡ layers_in arcs ms
mean_layers arcs no_members [] h = refl
mean_layers arcs no_members (m ∷ ls) h = absurd h
mean_layers arcs (member k d ms) [] h = absurd h
mean_layers arcs (member k d ms) (m ∷ ls) h = λ i. (h.0.0 i, h.0.1 i) ∷ mean_layers arcs ms ls h.1 i

pub under_none : (t : Turn) (ps : List Pair) → under t ps ≡ [] → ps ≡ []
under_none t [] e = refl
under_none t (p ∷ ps) e = cc

pub array_known : (l : Limits) (d : Data) (o : Option Items) → as_array d ≡ o → list_faults (arc_faults l) d ≡ [] → arcs_if_array l d o ≡ known (arcs_of d)
array_known l d None is none = cc
array_known l d (Some ds) is none = ap (λ ps. arcs_by ps d) none

arcs_there : (l : Limits) (v d : Data) → get (codes "arcs") v ≡ Some d → member_faults (codes "arcs") (list_faults (arc_faults l)) v ≡ [] → arcs_in l v ≡ known (arcs_of d)
arcs_there l v d is none =
    let found : list_faults (arc_faults l) d ≡ [] = under_none (name (codes "arcs")) _ (rw is at none) in
    rw is (array_known l d (as_array d) refl found)

-- arcs without faults are known
pub arcs_known : (l : Limits) (v : Data) → member_faults (codes "arcs") (list_faults (arc_faults l)) v ≡ [] → arcs_in l v ≡ known (arcs_of (member_or_null (codes "arcs") v))
arcs_known l v none = by (get (codes "arcs") v) refl
  where
    by : (o : Option Data) → get (codes "arcs") v ≡ o → arcs_in l v ≡ known (arcs_of (member_or_null (codes "arcs") v))
    by None is =
        let missing : under (name (codes "arcs")) (there (list_faults (arc_faults l)) None) ≡ [] = subst (λ o. under (name (codes "arcs")) (there (list_faults (arc_faults l)) o) ≡ []) is none in cc
    by (Some d) is = arcs_there l v d is none ∙ ap (λ x. known (arcs_of x)) (sym (member_there (codes "arcs") v d is))

-- arcs that were read without faults are those that are known
arcs_read : (l : Limits) (v : Data) (xs arcs : List (List Pos)) → arcs ≡ xs → AllZip (λ d x. x ≡ arc_of d) (elements (member_or_null (codes "arcs") v)) xs → member_faults (codes "arcs") (list_faults (arc_faults l)) v ≡ [] → arcs_in l v ≡ known arcs
arcs_read l v xs arcs same read none =
    arcs_known l v none ∙ ap known (sym (same ∙ zip_is arc_of (elements (member_or_null (codes "arcs") v)) xs read))

-- then the faults of the content are those of the objects over these arcs
pub content_over : (l : Limits) (v : Data) (xs arcs : List (List Pos)) → arcs ≡ xs → AllZip (λ d x. x ≡ arc_of d) (elements (member_or_null (codes "arcs") v)) xs → member_faults (codes "arcs") (list_faults (arc_faults l)) v ≡ [] →
    content_faults l v ≡ member_faults (codes "objects") (objects_faults l (known arcs)) v
content_over l v xs arcs same read none =
    ap (λ ps. ps ++ member_faults (codes "objects") (objects_faults l (arcs_in l v)) v) none
    ∙ ap (λ k. member_faults (codes "objects") (objects_faults l k) v) (arcs_read l v xs arcs same read none)

pub limits_known : (ps : List Pair) (t : Data) → ps ≡ [] → limits_by ps t ≡ limits_on (transform_of t)
limits_known ps t none = ap (λ qs. limits_by qs t) none

pub limits_none : (ps : List Pair) (t : Data) (f : Fault) → LeastOrWant ps f → (f.kind ≡ OutOfMemory → ⊥) → limits_by ps t ≡ no_limits
limits_none [] t f h real = let none = (h.least real).present in absurd (omega (arith, none.1))
limits_none (p ∷ ps) t f h real = refl

-- paths that begin with an earlier turn
abbrev pub BeginsBefore : Turn → List Turn → Type 0
BeginsBefore t [] = ⊥
BeginsBefore t (u ∷ us) = turn_cmp u t ≡ Less

pub record Before (t : Turn) (ps : List Pair) : Type 0 where
  pub all : All (λ p. BeginsBefore t p.path) ps

pub before_under : (t u : Turn) (ps : List Pair) → turn_cmp u t ≡ Less → Before t (under u ps)
before_under t u ps less = record { all = All-map (λ p. BeginsBefore t p.path) (prefixed u) ps (λ k d h. less) }

pub before_append : (t : Turn) (ps qs : List Pair) → Before t ps → Before t qs → Before t (ps ++ qs)
before_append t ps qs a b = record { all = All-append (λ p. BeginsBefore t p.path) ps qs a.all b.all }

upto_later : (t : Turn) (p q : Pair) → BeginsBefore t p.path → IsUpto p (prefixed t q)
upto_later t p q h = by p.path refl h
  where
    by : (us : List Turn) → p.path ≡ us → BeginsBefore t us → IsUpto p (prefixed t q)
    by [] e h = absurd h
    by (u ∷ us) e h = rw (e, h)

contained : {A : Type 0} (P : A → Type 0) (xs : List A) (x : A) → All P xs → Contains xs x → P x
contained P xs x all h = subst P h.2 (all h.0 x h.1)

-- the faults of a member count only after those of earlier members
pub earlier : (t : Turn) (ps qs : List Pair) (f : Fault) → LeastOrWant ps f → Before t ps → LeastOrWant (ps ++ under t qs) f
earlier t ps qs f part before = record {
  least = λ real.
      let h = part.least real in
      let begins = contained (λ p. BeginsBefore t p.path) ps (pair_of f) before.all h.present in record {
        present = Contains-append_left ps (under t qs) (pair_of f) h.present;
        first = All-append (IsUpto (pair_of f)) ps (under t qs) h.first (All-map (IsUpto (pair_of f)) (prefixed t) qs (λ k d h. upto_later t (pair_of f) _ begins));
      };
}

pub append_none : {A : Type 0} (ps qs : List A) → ps ≡ [] → qs ≡ [] → ps ++ qs ≡ []
append_none ps qs e f = rw (e, f) refl

-- arcs and objects come before the transform
pub content_before : (l : Limits) (v : Data) → Before (name (codes "transform")) (content_faults l v)
content_before l v = before_append (name (codes "transform")) _ _ (before_under (name (codes "transform")) (name (codes "arcs")) _ refl) (before_under (name (codes "transform")) (name (codes "objects")) _ refl)

pub never : {X E : Type 0} (r : Result X E) (P : X → Type 0) → OnOk r ⊥ → IfOk r P
never (Ok x) P none = absurd none
never (Err e) P none = tt
