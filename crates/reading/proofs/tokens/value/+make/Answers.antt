use Rattle.std.proofs.Common.{◌≡◌, ◌<◌, [], ◌∷◌, length, Some, None, string_bytes, refl, sym, ap, ◌∙◌, subst, arith, rules}
use Rattle.json.specs.Token.{Token}
use Rattle.json.specs.Json.{after_end_array, read_key}
use Rattle.json.specs.Reads.{token_of}
use Rattle.json.proofs.Grammar.{read_key-shorter}
use Rattle.serde_json.specs.Data as data_of
use Rattle.serde_json.specs.Data.{put}
use Rattle.serde_json.specs.View.{view, number_view, items_view, members_view}
use Rattle.serde_json.specs.declared.value.Value.{String, Number, Bool, Null, the_lemmas}
use Rattle.serde_json.proofs.Views.{view-Array, view-Object, members_view-insert_entry}
use Rattle.reading.specs.Tokens.Reads.{Gives, Reads}
use Rattle.reading.proofs.TokensLemmas.Lists.{NoFaults, IsSeen, Passed, passed_none, passed_more, passed_all, seen_gives, array_gone, string_gives, boolean_gives, null_gives, number_gives}
use Rattle.reading.proofs.TokensLemmas.Objects.{known_none, known_more, members_are, object_gone}
use Rattle.reading.proofs.tokens.value.+make.Goals as goal

pub make_items-items-init : goal.make_items-items-init
make_items-items-init t c = record {
  passed = subst (λ vs. Passed NoFaults IsSeen c.args.depth c.args.reader.now c.args.reader.now [] vs) (sym c.new-found.ensures.items) (passed_none NoFaults IsSeen c.args.depth c.args.reader.now []);
  no_longer = omega arith;
}

pub make_items-items-preserved : goal.make_items-items-preserved
make_items-items-preserved t c =
    let l = c.items in
    let new = c.make_value.new.reader in
    let v = c.in_ok-item.item in
    let going : (after_end_array l.reader ≡ None) × (c.take_end_array.new.self ≡ l.reader) = grind arith in
    let given = subst (λ ts. Gives c.args.depth ts (view v) new) going.1 c.in_ok-item.ensures.read in
    let less : length new < length l.reader = rw (← going.1) c.in_ok-item.ensures.shorter in
    let reads : Reads NoFaults IsSeen c.args.depth l.reader new v = record { from = view v; given = given; faultless = refl; meant = refl } in
    record {
      passed = passed_more NoFaults IsSeen c.args.depth c.args.reader.now l.reader new [] l.found.items c.push.new.self.items v l.invariant.passed reads less c.in-Ok.ensures.items;
      no_longer = omega (arith, l.invariant.no_longer, less);
    }

pub make_items-returns-clause-read : goal.make_items-returns-clause-read
make_items-returns-clause-read t c =
    seen_gives c.args.depth c.args.reader.now c.take_end_array.new.self c.items.found.items
    (passed_all NoFaults IsSeen c.args.depth c.args.reader.now c.items.reader c.take_end_array.new.self [] c.items.found.items c.items.invariant.passed (grind arith))

pub make_members-members-init : goal.make_members-members-init
make_members-members-init t c = record {
  known = known_none _ c.args.depth c.args.reader.now (ap members_view (sym c.new-found.ensures.empty));
  no_longer = omega arith;
}

pub make_members-returns-in_default-clause-read : goal.make_members-returns-in_default-clause-read
make_members-returns-in_default-clause-read t c =
    let l = c.members in
    let over : read_key l.reader ≡ Some (None, c.next_key.new.self) = grind arith in
    members_are (members_view l.found.entries) c.args.depth c.args.reader.now l.reader c.next_key.new.self l.invariant.known over

pub make_members-members-preserved : goal.make_members-members-preserved
make_members-members-preserved t c =
    let l = c.members in
    let k = c.in-Some.name.now in
    let behind = c.next_key.new.self in
    let v = c.in_ok-member.member in
    let new = c.make_value.new.reader in
    let named : read_key l.reader ≡ Some (Some k, behind) = grind arith in
    let given = c.in_ok-member.ensures.read in
    let less = c.in_ok-member.ensures.shorter in
    let copy : string_bytes c.in_ok-key.key ≡ k = c.in_ok-key.ensures in
    let inserted : put k (view v) (members_view l.found.entries) ≡ members_view c.insert.new.self.entries =
    sym (ap members_view c.in-Ok-insert.ensures.entries ∙ members_view-insert_entry l.found.entries c.in_ok-key.key v ∙ ap (λ name. put name (view v) (members_view l.found.entries)) copy) in
    record {
      known = known_more (λ ms. ms ≡ members_view l.found.entries) (λ ms. ms ≡ members_view c.insert.new.self.entries) c.args.depth c.args.reader.now l.reader behind new k (view v) l.invariant.known named given less
          (λ ms same. ap (put k (view v)) same ∙ inserted);
      no_longer = omega (arith, l.invariant.no_longer, read_key-shorter l.reader (Some k) behind named, less);
    }

pub make_value-returns-in_ok-copy_text-in-String-clause-read : goal.make_value-returns-in_ok-copy_text-in-String-clause-read
make_value-returns-in_ok-copy_text-in-String-clause-read t c =
    let first : c.args.reader.now ≡ token_of c.in_ok-token.token ∷ c.next.new.self = grind arith in
    let is : c.args.reader.now ≡ Token.string c.in-String.text.now ∷ c.next.new.self = grind (arith, first) in
    let v = String c.in_ok-copy_text-in-String.field-0 in
    let seen : view v ≡ data_of.string (string_bytes c.in_ok-copy_text-in-String.field-0) = search (rules, the_lemmas) in
    let copy = ap data_of.string c.in_ok-copy_text-in-String.ensures in
    string_gives c.args.depth c.args.reader.now c.next.new.self c.in-String.text.now is ∙ ap (λ d. Some (d, c.next.new.self)) (sym (seen ∙ copy))

pub make_value-returns-in-Bool-clause-read : goal.make_value-returns-in-Bool-clause-read
make_value-returns-in-Bool-clause-read t c =
    let first : c.args.reader.now ≡ token_of c.in_ok-token.token ∷ c.next.new.self = grind arith in
    let is : c.args.reader.now ≡ Token.boolean c.in-Bool.b ∷ c.next.new.self = grind (arith, first) in
    let seen : view (Bool c.in-Bool.b) ≡ data_of.boolean c.in-Bool.b = search (rules, the_lemmas) in
    boolean_gives c.args.depth c.args.reader.now c.next.new.self c.in-Bool.b is ∙ ap (λ d. Some (d, c.next.new.self)) (sym seen)

pub make_value-returns-in-Null-clause-read : goal.make_value-returns-in-Null-clause-read
make_value-returns-in-Null-clause-read t c =
    let first : c.args.reader.now ≡ token_of c.in_ok-token.token ∷ c.next.new.self = grind arith in
    let is : c.args.reader.now ≡ Token.null ∷ c.next.new.self = grind (arith, first) in
    let seen : view Null ≡ data_of.null = search (rules, the_lemmas) in
    null_gives c.args.depth c.args.reader.now c.next.new.self is ∙ ap (λ d. Some (d, c.next.new.self)) (sym seen)

pub make_value-returns-in-Some-clause-read : goal.make_value-returns-in-Some-clause-read
make_value-returns-in-Some-clause-read t c =
    let first : c.args.reader.now ≡ token_of c.in_ok-token.token ∷ c.next.new.self = grind arith in
    let is : c.args.reader.now ≡ Token.number c.in-Number.text.now ∷ c.next.new.self = grind (arith, first) in
    let n = c.in-Some.number in
    let seen : view (Number n) ≡ data_of.number (number_view n) = search (rules, the_lemmas) in
    number_gives c.args.depth c.args.reader.now c.next.new.self c.in-Number.text.now (number_view n) is (sym c.in-Some.ensures) ∙ ap (λ d. Some (d, c.next.new.self)) (sym seen)

pub make_value-returns-in_ok-make_items-in-BeginArray-clause-read : goal.make_value-returns-in_ok-make_items-in-BeginArray-clause-read
make_value-returns-in_ok-make_items-in-BeginArray-clause-read t c =
    let first : c.args.reader.now ≡ token_of c.in_ok-token.token ∷ c.next.new.self = grind arith in
    let opens = first ∙ ap (λ k. token_of k ∷ c.next.new.self) c.in-BeginArray.is in
    let found = c.in_ok-make_items-in-BeginArray in
    let some : 0 < c.args.depth = omega arith in
    array_gone c.args.depth c.args.reader.now c.next.new.self c.make_items.new.reader (items_view found.field-0.items) some opens found.ensures.read ∙ ap (λ d. Some (d, c.make_items.new.reader)) (sym (view-Array found.field-0))

pub make_value-returns-in_ok-make_members-in-BeginObject-clause-read : goal.make_value-returns-in_ok-make_members-in-BeginObject-clause-read
make_value-returns-in_ok-make_members-in-BeginObject-clause-read t c =
    let first : c.args.reader.now ≡ token_of c.in_ok-token.token ∷ c.next.new.self = grind arith in
    let opens = first ∙ ap (λ k. token_of k ∷ c.next.new.self) c.in-BeginObject.is in
    let found = c.in_ok-make_members-in-BeginObject in
    let some : 0 < c.args.depth = omega arith in
    object_gone c.args.depth c.args.reader.now c.next.new.self c.make_members.new.reader (members_view found.field-0.entries) some opens found.ensures.read ∙ ap (λ d. Some (d, c.make_members.new.reader)) (sym (view-Object found.field-0))
