-- Marks of arcs, one after another.
use Rattle.std.proofs.Common.{◌≡◌, ℕ, ◌+◌, ◌<◌, ◌≤◌, zero, suc, Bool, true, false, ◌||◌, nat_eq, nat_lt, length, get_or, drop, List, [], ◌∷◌, Option, Some, None, Result, Ok, Err, refl, sym, ap, ◌∙◌, subst, arith, ne_eqb, bytes_eq, codes, if◌then◌else◌}
use Rattle.std.proofs.Math.ListN.{set}
use Rattle.std.proofs.lemmas.Bool.{eq-eqb, ltb-true}
use Rattle.std.proofs.lemmas.List.{drop_more}
use Rattle.std.specs.declared.alloc.Global.{Global}
use Rattle.json.specs.Json.{Json, null, boolean, number, string, array, object, Items, Members}
use Rattle.json.specs.Find.{as_array, as_number, as_object}
use Rattle.json.specs.Tree.{depth, members_depth}
use Rattle.json.specs.Value.{value_view, items_view, members_view}
use Rattle.json.specs.declared.value.Value.{Value}
use Rattle.faults.specs.declared.fault.FaultKind.{FaultKind}
use Rattle.faults.specs.declared.fault.FaultKind.TheVariants.{NoArc}
use Rattle.numerals.specs.Whole.{whole_of}
use Rattle.decimal_topologies.specs.Stitching.{number_ref, ref_at, ref_of, whole_ref}
use Rattle.decimal_topologies.specs.Layers.{seen_named}
use Rattle.decimal_topologies.specs.Used.{is_arc, layers_use_arc, list_uses_arc, marked, member_uses_arc, members_use_arc, names_arc, some_names_arc, some_use_arc, uses_arc}
use Rattle.decimal_topologies.specs.declared.numbers.ArcRef.{ArcRef}
use Rattle.decimal_topologies.proofs.Layered.{Entry, Member}

or_assoc : (a b c : Bool) → (a || b) || c ≡ a || (b || c)
or_assoc true b c = refl
or_assoc false b c = refl

or_false : (a : Bool) → a || false ≡ a
or_false true = refl
or_false false = refl

-- marks by two tests, one after the other
pub marked_twice : (f g : ℕ → Bool) (i : ℕ) (bs : List Bool) → marked g i (marked f i bs) ≡ marked (λ k. f k || g k) i bs
marked_twice f g i [] = refl
marked_twice f g i (b ∷ bs) = ap (λ c. c ∷ marked g (i + 1) (marked f (i + 1) bs)) (or_assoc b (f i) (g i)) ∙ ap (λ cs. (b || (f i || g i)) ∷ cs) (marked_twice f g (i + 1) bs)

-- marks by a test that says none
pub marked_none : (f : ℕ → Bool) (i : ℕ) (bs : List Bool) → ((k : ℕ) → f k ≡ false) → marked f i bs ≡ bs
marked_none f i [] never = refl
marked_none f i (b ∷ bs) never = ap (λ c. (b || c) ∷ marked f (i + 1) bs) (never i) ∙ ap (λ c. c ∷ marked f (i + 1) bs) (or_false b) ∙ ap (λ cs. b ∷ cs) (marked_none f (i + 1) bs never)

-- marks by tests that say the same
pub marked_alike : (f g : ℕ → Bool) (i : ℕ) (bs : List Bool) → ((k : ℕ) → f k ≡ g k) → marked f i bs ≡ marked g i bs
marked_alike f g i [] same = refl
marked_alike f g i (b ∷ bs) same = ap (λ c. (b || c) ∷ marked f (i + 1) bs) (same i) ∙ ap (λ cs. (b || g i) ∷ cs) (marked_alike f g (i + 1) bs same)

pub marked-length : (f : ℕ → Bool) (i : ℕ) (bs : List Bool) → length (marked f i bs) ≡ length bs
marked-length f i [] = refl
marked-length f i (b ∷ bs) = ap suc (marked-length f (i + 1) bs)

-- ---- one mark

marked_past : (m i : ℕ) (bs : List Bool) → m < i → marked (nat_eq m) i bs ≡ bs
marked_past m i [] less = refl
marked_past m i (b ∷ bs) less =
    ap (λ c. (b || c) ∷ marked (nat_eq m) (i + 1) bs) (ne_eqb m i (λ e. omega (arith, e))) ∙ ap (λ c. c ∷ marked (nat_eq m) (i + 1) bs) (or_false b) ∙ ap (λ cs. b ∷ cs) (marked_past m (i + 1) bs (omega arith))

or_true : (a : Bool) → a || true ≡ true
or_true true = refl
or_true false = refl

marked_at : (bs : List Bool) (k i m : ℕ) → m ≡ i + k → k < length bs → set bs k true ≡ marked (nat_eq m) i bs
marked_at [] k i m is less = absurd (omega arith)
marked_at (b ∷ bs) zero i m is less =
    sym (ap (λ c. (b || c) ∷ marked (nat_eq m) (i + 1) bs) (eq-eqb m i (omega (arith, is))) ∙ ap (λ c. c ∷ marked (nat_eq m) (i + 1) bs) (or_true b) ∙ ap (λ cs. true ∷ cs) (marked_past m (i + 1) bs (omega (arith, is))))
marked_at (b ∷ bs) (suc k) i m is less =
    ap (λ cs. b ∷ cs) (marked_at bs k (i + 1) m (omega (arith, is)) (omega arith))
    ∙ sym (ap (λ c. (b || c) ∷ marked (nat_eq m) (i + 1) bs) (ne_eqb m i (λ e. omega (arith, is, e))) ∙ ap (λ c. c ∷ marked (nat_eq m) (i + 1) bs) (or_false b))

-- the mark of one arc
pub marked_one : (bs : List Bool) (k : ℕ) → k < length bs → set bs k true ≡ marked (nat_eq k) 0 bs
marked_one bs k less = marked_at bs k 0 k (omega arith) less

-- an arc that is named is there
pub ref_within : (n : ℕ) (j : Json) (u : ArcRef) → ref_of n j ≡ Ok u → u.arc < n
ref_within n j u e = text_of (as_number j) e
  where
    inside : (v : ArcRef) (b : Bool) → nat_lt v.arc n ≡ b → (if b then Ok v else Err NoArc) ≡ Ok u → u.arc < n
    inside v true less e = let same : v ≡ u = cc in subst (λ w. w.arc < n) same (ltb-true v.arc n less)
    inside v false less e = cc

    whole : (o : Option (Bool × ℕ)) → whole_ref n o ≡ Ok u → u.arc < n
    whole None e = cc
    whole (Some w) e = inside (ref_at w.0 w.1) (nat_lt (ref_at w.0 w.1).arc n) refl e

    text_of : (o : Option (List ℕ)) → number_ref n o ≡ Ok u → u.arc < n
    text_of None e = cc
    text_of (Some text) e = whole (whole_of text) e

-- the mark of what a value names
pub marked_named : (bs : List Bool) (j : Json) (r : Result ArcRef FaultKind) (u : ArcRef) → r ≡ ref_of (length bs) j → r ≡ Ok u → set bs u.arc true ≡ marked (λ i. is_arc i (ref_of (length bs) j)) 0 bs
marked_named bs j r u is named =
    marked_one bs u.arc (ref_within (length bs) j u (sym is ∙ named)) ∙ ap (λ s. marked (λ i. is_arc i s) 0 bs) (sym named ∙ is)

pub marked_unnamed : (bs : List Bool) (j : Json) (r : Result ArcRef FaultKind) (k : FaultKind) → r ≡ ref_of (length bs) j → r ≡ Err k → bs ≡ marked (λ i. is_arc i (ref_of (length bs) j)) 0 bs
marked_unnamed bs j r k is fault =
    sym (ap (λ s. marked (λ i. is_arc i s) 0 bs) (sym is ∙ fault) ∙ marked_none (λ i. false) 0 bs (λ i. refl))

-- ---- loops

module _ {E : Type 0} (one : ℕ → ℕ → E → Bool) (all : ℕ → ℕ → List E → Bool) where
  -- the marks of the rest make those of all
  pub record Marks (xs rest : List E) (before now : List Bool) : Type 0 where
    pub same : marked (λ k. all (length before) k rest) 0 now ≡ marked (λ k. all (length before) k xs) 0 before
    pub len : length now ≡ length before

  pub marks_none : (xs : List E) (before : List Bool) → Marks xs xs before before
  marks_none xs before = record { same = refl; len = refl }

  pub marks_more : ((n k : ℕ) (x : E) (xs : List E) → all n k (x ∷ xs) ≡ (one n k x || all n k xs)) → (xs rest left : List E) (x : E) (before now after : List Bool) → rest ≡ x ∷ left
      → Marks xs rest before now → after ≡ marked (λ k. one (length now) k x) 0 now → Marks xs left before after
  marks_more cons xs rest left x before now after is h mark = record {
    same = ap (marked (λ k. all n k left) 0) (mark ∙ ap (λ m. marked (λ k. one m k x) 0 now) h.len)
        ∙ marked_twice (λ k. one n k x) (λ k. all n k left) 0 now
        ∙ sym (marked_alike (λ k. all n k (x ∷ left)) (λ k. one n k x || all n k left) 0 now (λ k. cons n k x left))
        ∙ ap (λ us. marked (λ k. all n k us) 0 now) (sym is) ∙ h.same;
    len = ap length mark ∙ marked-length (λ k. one (length now) k x) 0 now ∙ h.len;
  }
    where
      n : ℕ
      n = length before

  pub marks_all : ((n k : ℕ) → all n k [] ≡ false) → (xs rest : List E) (before now : List Bool) → rest ≡ [] → Marks xs rest before now → now ≡ marked (λ k. all (length before) k xs) 0 before
  marks_all nil xs rest before now none h =
      sym (ap (λ us. marked (λ k. all (length before) k us) 0 now) none ∙ marked_none (λ k. all (length before) k []) 0 now (λ k. nil (length before) k)) ∙ h.same

-- ---- numbers and geometries

abbrev pub number_at : ℕ → ℕ → Value Global → Bool
number_at n k v = names_arc n k (value_view v)

abbrev pub numbers_at : ℕ → ℕ → List (Value Global) → Bool
numbers_at n k vs = some_names_arc n k (items_view vs)

abbrev pub geometry_at : ℕ → ℕ → Value Global → Bool
geometry_at n k v = uses_arc n k (value_view v)

abbrev pub geometries_at : ℕ → ℕ → List (Value Global) → Bool
geometries_at n k vs = some_use_arc n k (items_view vs)

abbrev pub member_at : ℕ → ℕ → Member → Bool
member_at n k m = member_uses_arc n k m.0.now (value_view m.1)

abbrev pub members_at : ℕ → ℕ → List Member → Bool
members_at n k ms = members_use_arc n k (members_view ms)

abbrev pub layer_at : ℕ → ℕ → Entry → Bool
layer_at n k e = uses_arc n k (value_view e.1.now)

abbrev pub layers_at : ℕ → ℕ → List Entry → Bool
layers_at n k es = layers_use_arc n k (seen_named es)

-- what an index names, and what is behind it
pub here_is : {E : Type 0} (xs : List E) (i : ℕ) (x : E) → i < length xs → x ≡ get_or xs i x → drop i xs ≡ x ∷ drop (i + 1) xs
here_is xs i x less is = drop_more xs i x less ∙ ap (λ u. u ∷ drop (i + 1) xs) (sym is)

-- a value that is no list
pub no_list : (n k : ℕ) (j : Json) → None ≡ as_array j → is_arc k (ref_of n j) ≡ names_arc n k j
no_list n k null e = refl
no_list n k (boolean b) e = refl
no_list n k (number s) e = refl
no_list n k (string s) e = refl
no_list n k (array js) e = cc
no_list n k (object ms) e = refl

pub list_is : (n k : ℕ) (j : Json) (js : Items) → Some js ≡ as_array j → some_names_arc n k js ≡ names_arc n k j
list_is n k null js e = cc
list_is n k (boolean b) js e = cc
list_is n k (number s) js e = cc
list_is n k (string s) js e = cc
list_is n k (array is) js e = let same : is ≡ js = cc in ap (some_names_arc n k) (sym same)
list_is n k (object ms) js e = cc

pub no_geometries : (n k : ℕ) (j : Json) → None ≡ as_array j → list_uses_arc n k j ≡ false
no_geometries n k null e = refl
no_geometries n k (boolean b) e = refl
no_geometries n k (number s) e = refl
no_geometries n k (string s) e = refl
no_geometries n k (array js) e = cc
no_geometries n k (object ms) e = refl

pub geometries_are : (n k : ℕ) (j : Json) (js : Items) → Some js ≡ as_array j → some_use_arc n k js ≡ list_uses_arc n k j
geometries_are n k null js e = cc
geometries_are n k (boolean b) js e = cc
geometries_are n k (number s) js e = cc
geometries_are n k (string s) js e = cc
geometries_are n k (array is) js e = let same : is ≡ js = cc in ap (some_use_arc n k) (sym same)
geometries_are n k (object ms) js e = cc

pub no_members : (n k : ℕ) (j : Json) → None ≡ as_object j → uses_arc n k j ≡ false
no_members n k null e = refl
no_members n k (boolean b) e = refl
no_members n k (number s) e = refl
no_members n k (string s) e = refl
no_members n k (array js) e = refl
no_members n k (object ms) e = cc

pub members_are : (n k : ℕ) (j : Json) (ms : Members) → Some ms ≡ as_object j → members_use_arc n k ms ≡ uses_arc n k j
members_are n k null ms e = cc
members_are n k (boolean b) ms e = cc
members_are n k (number s) ms e = cc
members_are n k (string s) ms e = cc
members_are n k (array js) ms e = cc
members_are n k (object ns) ms e = let same : ns ≡ ms = cc in ap (members_use_arc n k) (sym same)

pub no_member : (n k : ℕ) (name : List ℕ) (j : Json) → bytes_eq name (codes "arcs") ≡ false → bytes_eq name (codes "geometries") ≡ false → member_uses_arc n k name j ≡ false
no_member n k name j other neither = rw (other, neither) refl

-- ---- how deep values nest

pub object_depth : (j : Json) (ms : Members) → Some ms ≡ as_object j → members_depth ms < depth j
object_depth null ms e = cc
object_depth (boolean b) ms e = cc
object_depth (number s) ms e = cc
object_depth (string s) ms e = cc
object_depth (array js) ms e = cc
object_depth (object ns) ms e = let same : ns ≡ ms = cc in omega (arith, ap members_depth same)

pub member_depth : (ms : List Member) (i : ℕ) (m : Member) → i < length ms → m ≡ get_or ms i m → depth (value_view m.1) ≤ members_depth (members_view ms)
member_depth [] i m less is = absurd (omega arith)
member_depth (n ∷ ms) zero m less is = omega (arith, ap (λ u. depth (value_view u.1)) is)
member_depth (n ∷ ms) (suc i) m less is = omega (arith, member_depth ms i m (omega arith) is)
