-- Objects, a member at a time.
use Rattle.std.proofs.Common.{◌≡◌, ℕ, ◌-◌, ◌<◌, ◌≤◌, List, ◌∷◌, length, Some, None, refl, ap, ◌∙◌, arith}
use Rattle.json.specs.Token.{Token, begin_object}
use Rattle.json.specs.Json.{members, value, parse_map, read_key}
use Rattle.json.proofs.Grammar.{value-begin_object, read_key-shorter}
use Rattle.serde_json.specs.Data.{Data, object, Members, no_members, put}
use Rattle.serde_json.specs.Read.{of_json, of_members, converted}
use Rattle.reading.specs.Tokens.Reads.{Gives, GivesMembers}
use Rattle.reading.proofs.TokensLemmas.Reading.{converted-object, member_read, members_over}

-- the members between `old` and `new`, of which K holds
pub record Known (K : Members → Type 0) (depth : ℕ) (old new : List Token) : Type 0 where
  pub members_so_far : Members
  pub known : K members_so_far
  pub fuel : ℕ
  pub enough : length new ≤ fuel
  pub left : converted (λ ms. of_members ms no_members) (members (value depth) (length old) old) ≡ converted (λ ms. of_members ms members_so_far) (members (value depth) fuel new)

pub known_none : (K : Members → Type 0) (depth : ℕ) (ts : List Token) → K no_members → Known K depth ts ts
known_none K depth ts h = record { members_so_far = no_members; known = h; fuel = length ts; enough = omega arith; left = refl }

pub known_more : (K L : Members → Type 0) (depth : ℕ) (old mid behind new : List Token) (k : List ℕ) (d : Data) → Known K depth old mid → read_key mid ≡ Some (Some k, behind) → Gives depth behind d new → length new < length behind → ((ms : Members) → K ms → L (put k d ms)) → Known L depth old new
known_more K L depth old mid behind new k d known key given less step =
    let shorter = read_key-shorter mid (Some k) behind key in
    record {
      members_so_far = put k d known.members_so_far;
      known = step known.members_so_far known.known;
      fuel = known.fuel - 1;
      enough = omega (arith, known.enough, shorter, less);
      left = known.left ∙ member_read (value depth) known.members_so_far known.fuel k mid behind new d (omega (arith, known.enough, shorter)) key given;
    }

pub members_all : (K : Members → Type 0) (depth : ℕ) (old mid new : List Token) → Known K depth old mid → read_key mid ≡ Some (None, new) → (ms : Members) × GivesMembers depth old ms new
members_all K depth old mid new known over = (known.members_so_far, known.left ∙ members_over (value depth) known.members_so_far known.fuel mid new known.enough over)

pub object_gone : (depth : ℕ) (old mid new : List Token) (ms : Members) → 0 < depth → old ≡ begin_object ∷ mid → GivesMembers (depth - 1) mid ms new → Gives depth old (object ms) new
object_gone depth old mid new ms some opens given =
    ap (λ ts. converted of_json (value depth ts)) opens ∙ ap (converted of_json) (value-begin_object depth mid some) ∙ converted-object (members (value (depth - 1)) (length mid) mid) ∙ ap (parse_map object) given

-- members of which nothing is asked
abbrev pub AnyMembers : Members → Type 0
AnyMembers ms = Unit {0}

pub members_are : (found : Members) (depth : ℕ) (old mid new : List Token) → Known (λ ms. ms ≡ found) depth old mid → read_key mid ≡ Some (None, new) → GivesMembers depth old found new
members_are found depth old mid new known over = known.left ∙ members_over (value depth) known.members_so_far known.fuel mid new known.enough over ∙ ap (λ ms. Some (ms, new)) known.known

pub members_known : (K : Members → Type 0) (depth : ℕ) (old mid new : List Token) → Known K depth old mid → read_key mid ≡ Some (None, new) → (ms : Members) × GivesMembers depth old ms new × K ms
members_known K depth old mid new known over = (
  known.members_so_far,
  known.left ∙ members_over (value depth) known.members_so_far known.fuel mid new known.enough over,
  known.known,
)
