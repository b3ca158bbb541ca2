use Rattle.std.proofs.Common.{◌≡◌, ◌∙◌, ◌++◌, ◌∷◌, Bool, List, ℕ, ap, is_some, string_bytes, subst}
use Rattle.std.specs.BTreeMap.{get_by_text}
use Rattle.json.specs.Print.{quoted}
use Rattle.serde_json.specs.View.{members_view, view}
use Rattle.serde_json.specs.Written.{comma_if}
use Rattle.attributes.specs.Back.{value_back}
use Rattle.attributes.specs.Values.{places_of}
use Rattle.attributes.proofs.Printing.{IsBehind, begins, ends, one_more}
use Rattle.attributes.proofs.back.members_text.Goals as goal

pub loop-name-init : goal.loop-name-init
loop-name-init c =
    begins (λ name. is_some (get_by_text c.args.numbers.now name)) c.args.scales.now (string_bytes c.in_ok-text.text) (members_view c.into_iter-name-iterator.result) (members_view c.args.members.now.entries)
    c.in_ok-text.ensures.ok (ap members_view (c.into_iter-name-iterator.ensures.into_iter_gives ∙ c.iter-name-items.ensures.rest))

pub loop-name-preserved : goal.loop-name-preserved
loop-name-preserved c =
    let numeric : List ℕ → Bool = λ name. is_some (get_by_text c.args.numbers.now name) in
    let scales = c.args.scales.now in
    let text = string_bytes c.loop-name.text in
    let later = c.loop-name.later in
    let k = string_bytes c.in-Some.name.now in
    let d = view c.in-Some.value.now in
    let all = members_view c.args.members.now.entries in
    let flag : c.contains_key-is_numeric.result ≡ numeric k = c.contains_key-is_numeric.ensures ∙ ap numeric c.as_str.ensures.value in
    let places : c.places_of-places.result ≡ places_of scales k = c.places_of-places.ensures ∙ ap (places_of scales) c.deref.ensures in
    one_more numeric scales text (string_bytes c.push_member.new.text) later k d (members_view c.next.new.self) all
    (subst (λ es. IsBehind numeric scales text later (members_view es) all) c.in-Some.ensures.steps c.loop-name.invariant)
    (λ whole. c.in_ok-push_member.ensures whole
    ∙ ap (λ n. text ++ (comma_if later ++ (quoted n ++ 58 ∷ value_back c.contains_key-is_numeric.result c.places_of-places.result d))) c.deref-in-loop-name.ensures
    ∙ ap (λ b. text ++ (comma_if later ++ (quoted k ++ 58 ∷ value_back b c.places_of-places.result d))) flag
    ∙ ap (λ o. text ++ (comma_if later ++ (quoted k ++ 58 ∷ value_back (numeric k) o d))) places)

pub returns : goal.returns
returns c =
    ends (λ name. is_some (get_by_text c.args.numbers.now name)) c.args.scales.now (string_bytes c.loop-name.text) (string_bytes c.push_str.new.self) c.loop-name.later (members_view c.loop-name.name-iterator)
    (members_view c.args.members.now.entries) c.loop-name.invariant (ap members_view c.in-None.ensures.steps.0) c.in_ok-push_str.ensures.bytes
