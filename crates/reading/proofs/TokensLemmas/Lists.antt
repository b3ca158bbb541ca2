-- Arrays, an element at a time.
use Rattle.std.proofs.Common.{◌≡◌, ℕ, Bool, ◌-◌, ◌<◌, ◌≤◌, List, [], ◌∷◌, ◌++◌, length, Option, Some, None, refl, sym, ap, ◌∙◌, subst, arith, append-nil, append_assoc}
use Rattle.std.specs.List.{AllZip}
use Rattle.json.specs.Token.{Token, begin_array, end_array}
use Rattle.json.specs.Json.{items, value, parse_map, after_end_array}
use Rattle.json.proofs.Grammar.{value_is, value-begin_array, closed_array}
use Rattle.serde_json.specs.Data.{Num, Data, array, Items, no_items, item}
use Rattle.serde_json.specs.Read.{of_json, of_items, converted, number_of}
use Rattle.serde_json.specs.View.{items_of, items_view, view}
use Rattle.serde_json.specs.declared.value.Value.{Value}
use Rattle.reading.proofs.TokensLemmas.Reading.{converted-array, item_read, items_over}
use Rattle.faults.specs.Fault.{Pair}
use Rattle.reading.specs.Tokens.Reads.{Gives, GivesItems, Meets, Reads, ReadsArray, ReadsRest}

abbrev pub before_items : List Data → Items → Items
before_items [] rest = rest
before_items (d ∷ ds) rest = item d (before_items ds rest)

before_none : (ds : List Data) → before_items ds no_items ≡ items_of ds
before_none [] = refl
before_none (d ∷ ds) = ap (item d) (before_none ds)

before_push : (ds : List Data) (d : Data) (rest : Items) → before_items ds (item d rest) ≡ before_items (ds ++ d ∷ []) rest
before_push [] d rest = refl
before_push (e ∷ ds) d rest = ap (item e) (before_push ds d rest)

one_more : (ds : List Data) (d : Data) (r : Option (Items × List Token)) → parse_map (before_items ds) (parse_map (item d) r) ≡ parse_map (before_items (ds ++ d ∷ [])) r
one_more ds d None = refl
one_more ds d (Some p) = ap (λ es. Some (es, p.1)) (before_push ds d p.0)

none_before : (r : Option (Items × List Token)) → r ≡ parse_map (before_items []) r
none_before None = refl
none_before (Some p) = refl

zip_push : {X : Type 0} (R : Data → X → Type 0) (ds : List Data) (xs : List X) (d : Data) (x : X) → AllZip R ds xs → R d x → AllZip R (ds ++ d ∷ []) (xs ++ x ∷ [])
zip_push R [] [] d x h now = (now, tt)
zip_push R [] (y ∷ ys) d x h now = absurd h
zip_push R (e ∷ es) [] d x h now = absurd h
zip_push R (e ∷ es) (y ∷ ys) d x h now = (h.0, zip_push R es ys d x h.1 now)

-- no value begins with the bracket that closes an array
pub never_closed : (depth : ℕ) (ts new : List Token) (d : Data) (o : Option (List Token)) → after_end_array ts ≡ o → Gives depth ts d new → o ≡ None
never_closed depth ts new d None is given = refl
never_closed depth ts new d (Some r) is given =
    let closed = closed_array ts r is in
    let none : converted of_json (value depth ts) ≡ None = ap (λ us. converted of_json (value depth us)) closed ∙ ap (converted of_json) (value_is depth (end_array ∷ r)) in
    absurd (cc)

module _ {X : Type 0} (F : Data → List Pair) (R : Data → X → Type 0) (depth : ℕ) where
  -- the elements between `old` and `new`
  pub record Passed (old new : List Token) (before after : List X) : Type 0 where
    pub from : List Data
    pub made : List X
    pub pushed : after ≡ before ++ made
    pub meant : AllZip (Meets F R) from made
    pub left : (n : ℕ) → length old ≤ n → (m : ℕ) × (length new ≤ m) × (converted of_items (items (value depth) n old) ≡ parse_map (before_items from) (converted of_items (items (value depth) m new)))

  pub passed_none : (ts : List Token) (before : List X) → Passed ts ts before before
  passed_none ts before = record {
    from = [];
    made = [];
    pushed = sym (append-nil before);
    meant = tt;
    left = λ n enough. (n, enough, none_before _);
  }

  pub passed_more : (old mid new : List Token) (before after pushed : List X) (x : X) → Passed old mid before after → Reads F R depth mid new x → length new < length mid → pushed ≡ after ++ x ∷ [] → Passed old new before pushed
  passed_more old mid new before after pushed x p r less is = record {
    from = p.from ++ r.from ∷ [];
    made = p.made ++ x ∷ [];
    pushed = is ∙ ap (λ xs. xs ++ x ∷ []) p.pushed ∙ append_assoc before p.made (x ∷ []);
    meant = zip_push (Meets F R) p.from p.made r.from x p.meant (r.faultless, r.meant);
    left = λ n enough.
        let q = p.left n enough in
        let going = never_closed depth mid new r.from (after_end_array mid) refl r.given in (
          q.0 - 1,
          omega (arith, q.1, less),
          q.2 ∙ ap (parse_map (before_items p.from)) (item_read (value depth) q.0 mid new r.from (omega (arith, q.1, less)) going r.given) ∙ one_more p.from r.from _,
        );
  }

  pub passed_all : (old mid new : List Token) (before after : List X) → Passed old mid before after → after_end_array mid ≡ Some new → ReadsRest F R depth old new before after
  passed_all old mid new before after p closed = record {
    from = p.from;
    made = p.made;
    given = λ n enough.
        let q = p.left n enough in
        q.2 ∙ ap (parse_map (before_items p.from)) (items_over (value depth) q.0 mid new q.1 closed) ∙ ap (λ ds. Some (ds, new)) (before_none p.from);
    meant = p.meant;
    pushed = p.pushed;
  }

pub array_read : {X : Type 0} (F : Data → List Pair) (R : Data → X → Type 0) (depth : ℕ) (old mid new : List Token) (xs : List X) → 0 < depth → old ≡ begin_array ∷ mid → ReadsRest F R (depth - 1) mid new [] xs → ReadsArray F R depth old new xs
array_read F R depth old mid new xs some opens rest = record {
  from = rest.from;
  given = ap (λ ts. converted of_json (value depth ts)) opens ∙ ap (converted of_json) (value-begin_array depth mid some) ∙ converted-array (items (value (depth - 1)) (length mid) mid) ∙ ap (parse_map array) (rest.given (length mid) (omega arith));
  meant = subst (AllZip (Meets F R) rest.from) (sym rest.pushed) rest.meant;
}

-- ---- the same, of what is passed over

module _ (depth : ℕ) where
  -- the elements between `old` and `new`
  pub record Gone (old new : List Token) : Type 0 where
    pub from : List Data
    pub fuel : ℕ
    pub enough : length new ≤ fuel
    pub left : converted of_items (items (value depth) (length old) old) ≡ parse_map (before_items from) (converted of_items (items (value depth) fuel new))

  pub gone_none : (ts : List Token) → Gone ts ts
  gone_none ts = record { from = []; fuel = length ts; enough = omega arith; left = none_before _ }

  pub gone_more : (old mid new : List Token) (d : Data) → Gone old mid → Gives depth mid d new → length new < length mid → Gone old new
  gone_more old mid new d p given less =
      let going = never_closed depth mid new d (after_end_array mid) refl given in
      record {
        from = p.from ++ d ∷ [];
        fuel = p.fuel - 1;
        enough = omega (arith, p.enough, less);
        left = p.left ∙ ap (parse_map (before_items p.from)) (item_read (value depth) p.fuel mid new d (omega (arith, p.enough, less)) going given) ∙ one_more p.from d _;
      }

  pub gone_all : (old mid new : List Token) → Gone old mid → after_end_array mid ≡ Some new → (ds : Items) × GivesItems depth old ds new
  gone_all old mid new p closed = (_, p.left ∙ ap (parse_map (before_items p.from)) (items_over (value depth) p.fuel mid new p.enough closed))

pub array_gone : (depth : ℕ) (old mid new : List Token) (ds : Items) → 0 < depth → old ≡ begin_array ∷ mid → GivesItems (depth - 1) mid ds new → Gives depth old (array ds) new
array_gone depth old mid new ds some opens given =
    ap (λ ts. converted of_json (value depth ts)) opens ∙ ap (converted of_json) (value-begin_array depth mid some) ∙ converted-array (items (value (depth - 1)) (length mid) mid) ∙ ap (parse_map array) given

-- ---- single tokens

pub string_gives : (depth : ℕ) (old new : List Token) (s : List ℕ) → old ≡ Token.string s ∷ new → Gives depth old (Data.string s) new
string_gives depth old new s is = ap (λ ts. converted of_json (value depth ts)) is ∙ ap (converted of_json) (value_is depth (Token.string s ∷ new))

pub boolean_gives : (depth : ℕ) (old new : List Token) (b : Bool) → old ≡ Token.boolean b ∷ new → Gives depth old (Data.boolean b) new
boolean_gives depth old new b is = ap (λ ts. converted of_json (value depth ts)) is ∙ ap (converted of_json) (value_is depth (Token.boolean b ∷ new))

pub null_gives : (depth : ℕ) (old new : List Token) → old ≡ Token.null ∷ new → Gives depth old Data.null new
null_gives depth old new is = ap (λ ts. converted of_json (value depth ts)) is ∙ ap (converted of_json) (value_is depth (Token.null ∷ new))

pub number_gives : (depth : ℕ) (old new : List Token) (s : List ℕ) (m : Num) → old ≡ Token.number s ∷ new → number_of s ≡ Some m → Gives depth old (Data.number m) new
number_gives depth old new s m is written =
    ap (λ ts. converted of_json (value depth ts)) is ∙ ap (converted of_json) (value_is depth (Token.number s ∷ new)) ∙ rw written refl

-- ---- values

abbrev pub NoFaults : Data → List Pair
NoFaults d = []

abbrev pub IsSeen : Data → Value → Type 0
IsSeen d v = d ≡ view v

seen : (ds : List Data) (vs : List Value) → AllZip (Meets NoFaults IsSeen) ds vs → items_of ds ≡ items_view vs
seen [] [] h = refl
seen [] (v ∷ vs) h = absurd h
seen (d ∷ ds) [] h = absurd h
seen (d ∷ ds) (v ∷ vs) h = ap (λ e. item e (items_of ds)) h.0.1 ∙ ap (item (view v)) (seen ds vs h.1)

pub seen_gives : (depth : ℕ) (old new : List Token) (vs : List Value) → ReadsRest NoFaults IsSeen depth old new [] vs → GivesItems depth old (items_view vs) new
seen_gives depth old new vs r = r.given (length old) (omega arith) ∙ ap (λ ds. Some (ds, new)) (seen r.from vs (subst (AllZip (Meets NoFaults IsSeen) r.from) (sym r.pushed) r.meant))
