-- Items from the first on, and members from the last on.
use Rattle.std.proofs.Common.{◌≡◌, ℕ, ◌+◌, ◌-◌, ◌^◌, min, true, false, List, [], ◌∷◌, ◌++◌, refl, sym, ap, ◌∙◌, arith}
use Rattle.std.specs.declared.alloc.Global.{Global}
use Rattle.std.specs.Prelude.{is_some, if◌then◌else◌}
use Rattle.json.specs.Json as json
use Rattle.json.specs.Value.{items_view as json_items, value_view}
use Rattle.json.specs.declared.value.Value as tree
use Rattle.serde_json.specs.Data.{Data, Items, no_items, item, Members, put}
use Rattle.serde_json.specs.Find.{get_member}
use Rattle.serde_json.specs.View.{items_view, view}
use Rattle.serde_json.specs.declared.value.Value.{Value}
use Rattle.attributes.specs.Attributes.{counted}
use Rattle.attributes.specs.Values.{comes_later, data_of, items_of, members_of, members_reals, number_or, reals_of, scaled_property, unless_number}
use Rattle.attributes.specs.declared.rules.Reals.{Reals}
use Rattle.attributes.specs.declared.rules.Scale.{Scale}
use Rattle.attributes.proofs.Keeping.{present}

-- values before items
abbrev pub before : List Value → Items → Items
before [] rest = rest
before (v ∷ vs) rest = item (view v) (before vs rest)

pub before_none : (vs : List Value) → before vs no_items ≡ items_view vs
before_none [] = refl
before_none (v ∷ vs) = ap (item (view v)) (before_none vs)

pub before_push : (vs : List Value) (v : Value) (rest : Items) → before (vs ++ v ∷ []) rest ≡ before vs (item (view v) rest)
before_push [] v rest = refl
before_push (w ∷ vs) v rest = ap (item (view w)) (before_push vs v rest)

capped : (most a b c m n : ℕ) → min b most ≡ min (a + m) most → min c most ≡ min (b + n) most → min c most ≡ min (a + (n + m)) most
capped most a b c m n e f = omega arith

capped_before : (most b c r n : ℕ) → min c most ≡ min (b + n) most → min (c + r) most ≡ min (b + (n + r)) most
capped_before most b c r n e = omega arith

-- a count behind others
pub counted_more : (a b c m n : ℕ) → counted b ≡ counted (a + m) → counted c ≡ counted (b + n) → counted c ≡ counted (a + (n + m))
counted_more a b c m n e f = capped (2 ^ 64 - 1) a b c m n e f

-- a count before others
pub counted_before : (b c r n : ℕ) → counted c ≡ counted (b + n) → counted (c + r) ≡ counted (b + (n + r))
counted_before b c r n e = capped_before (2 ^ 64 - 1) b c r n e

-- one item of those that are left
pub item_next : (rule : Reals) (vs : List Value) (v : Value) (x : tree.Value Global) (xs : List (tree.Value Global)) (whole : Items) → view v ≡ data_of rule (value_view x)
    → before vs (items_of rule (json_items (x ∷ xs))) ≡ whole → before (vs ++ v ∷ []) (items_of rule (json_items xs)) ≡ whole
item_next rule vs v x xs whole same e = before_push vs v _ ∙ ap (λ d. before vs (item d (items_of rule (json_items xs)))) same ∙ e

module _ (rule : Reals) (ss : List Scale) (k : List ℕ) (j : json.Json) (ms : json.Members) (made : Members) (was : made ≡ members_of rule ss ms) where
  later_is : comes_later k ms ≡ is_some (get_member k made)
  later_is = sym (present rule ss k ms) ∙ ap (λ m. is_some (get_member k m)) (sym was)

  -- a member that comes again later
  pub skipped : is_some (get_member k made) ≡ true → made ≡ members_of rule ss (json.member k j ms)
  skipped e = was ∙ sym (ap (λ b. if b then members_of rule ss ms else put k (number_or (scaled_property ss k j) (data_of rule j)) (members_of rule ss ms)) (later_is ∙ e))

  pub skipped_reals : (a r : ℕ) → is_some (get_member k made) ≡ true → counted r ≡ counted (a + members_reals rule ss ms) → counted r ≡ counted (a + members_reals rule ss (json.member k j ms))
  skipped_reals a r e f = f ∙ sym (ap (λ b. counted (a + (if b then members_reals rule ss ms else unless_number (scaled_property ss k j) (reals_of rule j) + members_reals rule ss ms))) (later_is ∙ e))

  -- a member that is the last of its name
  pub kept : (d : Data) → is_some (get_member k made) ≡ false → d ≡ number_or (scaled_property ss k j) (data_of rule j) → put k d made ≡ members_of rule ss (json.member k j ms)
  kept d e same =
      ap (λ m. put k d m) was ∙ ap (λ v. put k v (members_of rule ss ms)) same
      ∙ sym (ap (λ b. if b then members_of rule ss ms else put k (number_or (scaled_property ss k j) (data_of rule j)) (members_of rule ss ms)) (later_is ∙ e))

  pub kept_reals : (a b c : ℕ) → is_some (get_member k made) ≡ false → counted b ≡ counted (a + members_reals rule ss ms) → counted c ≡ counted (b + unless_number (scaled_property ss k j) (reals_of rule j))
      → counted c ≡ counted (a + members_reals rule ss (json.member k j ms))
  kept_reals a b c e f g =
      counted_more a b c (members_reals rule ss ms) (unless_number (scaled_property ss k j) (reals_of rule j)) f g
      ∙ sym (ap (λ b. counted (a + (if b then members_reals rule ss ms else unless_number (scaled_property ss k j) (reals_of rule j) + members_reals rule ss ms))) (later_is ∙ e))
