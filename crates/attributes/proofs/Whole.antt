-- What values become has no float.
use Rattle.std.proofs.Common.{◌≡◌, ℕ, ℤ, pos, negsuc, Bool, true, false, List, [], Option, Some, None, Ordering, Less, Equal, Greater, nat_cmp, refl}
use Rattle.std.proofs.lemmas.Bool.{or_from, or_parts}
use Rattle.std.specs.Cmp.Lexicographic.{slice_cmp}
use Rattle.std.specs.Ordering.{match_ordering}
use Rattle.std.specs.Prelude.{◌^◌, if◌then◌else◌, nat_lt, option_and_then}
use Rattle.json.specs.Json as json
use Rattle.serde_json.specs.Data.{Data, Num, unsigned, negative, float, number, Members, no_members, member, put}
use Rattle.serde_json.specs.Read.{number_of}
use Rattle.serde_json.specs.Written.{has_float, items_have_float, members_have_float}
use Rattle.attributes.specs.Numerals.{in_64_bits, integer_of, number_or_text, number_value, spelled, whole}
use Rattle.attributes.specs.Values.{comes_later, data_of, items_of, members_of, number_or, scaled_property}
use Rattle.attributes.specs.declared.rules.Reals.{Reals}
use Rattle.attributes.specs.declared.rules.Reals.TheVariants.{Whole, Text, Refuse}
use Rattle.attributes.specs.declared.rules.Scale.{Scale}

among : (o : Ordering) (a b c : Members) → members_have_float a ≡ false → members_have_float b ≡ false → members_have_float c ≡ false → members_have_float (match_ordering o a b c) ≡ false
among Less a b c e f g = e
among Equal a b c e f g = f
among Greater a b c e f g = g

put_whole : (k : List ℕ) (d : Data) (ms : Members) → has_float d ≡ false → members_have_float ms ≡ false → members_have_float (put k d ms) ≡ false
put_whole k d no_members e f = or_from _ _ e refl
put_whole k d (member l b ms) e f =
    let parts = or_parts (has_float b) (members_have_float ms) f in
    among (slice_cmp nat_cmp k l) _ _ _ (or_from _ _ e f) (or_from _ _ e parts.1) (or_from _ _ parts.0 (put_whole k d ms e parts.1))

if_whole : (b : Bool) (n : Num) (text : List ℕ) → has_float (number n) ≡ false → has_float (number_or_text (if b then Some n else None) text) ≡ false
if_whole true n text e = e
if_whole false n text e = refl

numeral_whole : (n : Option Num) (text : List ℕ) → has_float (number_or_text (whole n) text) ≡ false
numeral_whole None text = refl
numeral_whole (Some (unsigned n)) text = refl
numeral_whole (Some (negative z)) text = refl
numeral_whole (Some (float x)) text = refl

-- a whole number that a numeral is worth
worth_whole : (z : Option ℤ) (text : List ℕ) → has_float (number_or_text (option_and_then in_64_bits z) text) ≡ false
worth_whole None text = refl
worth_whole (Some (pos n)) text = if_whole (nat_lt n (2 ^ 64)) (unsigned n) text refl
worth_whole (Some (negsuc n)) text = if_whole (nat_lt n (2 ^ 63)) (negative (negsuc n)) text refl

number_whole : (rule : Reals) (s : List ℕ) → has_float (number_value rule s) ≡ false
number_whole Whole s = worth_whole (integer_of s) (spelled s)
number_whole Text s = numeral_whole (number_of s) (spelled s)
number_whole Refuse s = worth_whole (integer_of s) (spelled s)

scaled_whole : (n : Option ℤ) (d : Data) → has_float d ≡ false → has_float (number_or n d) ≡ false
scaled_whole None d e = e
scaled_whole (Some (pos n)) d e = refl
scaled_whole (Some (negsuc n)) d e = refl

unless_later : (later : Bool) (k : List ℕ) (d : Data) (ms : Members) → has_float d ≡ false → members_have_float ms ≡ false → members_have_float (if later then ms else put k d ms) ≡ false
unless_later true k d ms e f = f
unless_later false k d ms e f = put_whole k d ms e f

mutual
  pub no_float : (rule : Reals) (j : json.Json) → has_float (data_of rule j) ≡ false
  no_float rule json.null = refl
  no_float rule (json.boolean b) = refl
  no_float rule (json.number s) = number_whole rule s
  no_float rule (json.string s) = refl
  no_float rule (json.array js) = no_floats rule js
  no_float rule (json.object ms) = no_float_among rule [] ms

  no_floats : (rule : Reals) (js : json.Items) → items_have_float (items_of rule js) ≡ false
  no_floats rule json.no_items = refl
  no_floats rule (json.item j js) = or_from _ _ (no_float rule j) (no_floats rule js)

  pub no_float_among : (rule : Reals) (ss : List Scale) (ms : json.Members) → members_have_float (members_of rule ss ms) ≡ false
  no_float_among rule ss json.no_members = refl
  no_float_among rule ss (json.member k j ms) =
      unless_later (comes_later k ms) k _ _ (scaled_whole (scaled_property ss k j) (data_of rule j) (no_float rule j)) (no_float_among rule ss ms)
