-- Members of objects: looking one up where some may be missing, and objects that read back.
use Rattle.std.proofs.Common.{◌≡◌, ℕ, List, false, Option, Some, None, Ordering, Less, Equal, Greater, is_eq, IsUtf8, refl, ap}
use Rattle.std.specs.Prelude.{⊤}
use Rattle.std.specs.Ordering.{nat_cmp, match_ordering}
use Rattle.std.specs.Cmp.Lexicographic.{slice_cmp}
use Rattle.serde_json.specs.Data.{Data, Members}
use Rattle.serde_json.specs.Find.{get_member}
use Rattle.round_trip.specs.Compact.Values.{given}
use Rattle.round_trip.specs.Compact.Good.{Good}
use Rattle.round_trip.proofs.CompactLemmas.GoodParts.{ComesBefore, GoodMembers}

either : (o : Ordering) (a b : Option Data) → is_eq o ≡ false → match_ordering o a b a ≡ a
either Less a b e = refl
either Equal a b e = absurd (cc)
either Greater a b e = refl

-- a member of another name
pub get_past : (k l : List ℕ) (o : Option Data) (ms : Members) → is_eq (slice_cmp nat_cmp k l) ≡ false → get_member k (given l o ms) ≡ get_member k ms
get_past k l None ms e = refl
get_past k l (Some d) ms e = either (slice_cmp nat_cmp k l) (get_member k ms) (Some d) e

-- the member of the name, where no later one has it
pub get_here : (k : List ℕ) (o : Option Data) (ms : Members) → slice_cmp nat_cmp k k ≡ Equal → get_member k ms ≡ None → get_member k (given k o ms) ≡ o
get_here k None ms e none = none
get_here k (Some d) ms e none = ap (λ c. match_ordering c (get_member k ms) (Some d) (get_member k ms)) e

abbrev pub OptionGood : ℕ → Option Data → Type 0
OptionGood n None = ⊤
OptionGood n (Some d) = Good n d

pub ComesBefore-given : (k l : List ℕ) (o : Option Data) (ms : Members) → slice_cmp nat_cmp k l ≡ Less → ComesBefore k ms → ComesBefore k (given l o ms)
ComesBefore-given k l None ms e h = h
ComesBefore-given k l (Some d) ms e h = (e, h)

pub GoodMembers-given : (n : ℕ) (k : List ℕ) (o : Option Data) (ms : Members) → IsUtf8 k → ComesBefore k ms → OptionGood n o → GoodMembers n ms → GoodMembers n (given k o ms)
GoodMembers-given n k None ms u c g h = h
GoodMembers-given n k (Some d) ms u c g h = (u, c, g, h)
