-- Data whose compact text reads back, built part by part.
use Rattle.std.proofs.Common.{◌≡◌, ℕ, ℤ, suc, ◌^◌, ◌<◌, ◌≤◌, pos, negsuc, max, List, [], ◌∷◌, Bool, true, false, Option, Some, option_map, option_and_then, Less, Greater, refl, sym, ap, ap₂, ◌∙◌, subst, arith, append-nil, IsUtf8}
use Rattle.std.proofs.lemmas.Cmp.{nat_list_cmp_total}
use Rattle.std.proofs.lemmas.Fmt.{IsAscii-decimal}
use Rattle.std.proofs.lemmas.Str.{IsUtf8-append, IsUtf8-nil, IsUtf8-from_ascii}
use Rattle.std.specs.Prelude.{⊤}
use Rattle.std.specs.Ordering.{nat_cmp, ordering_reverse}
use Rattle.std.specs.Cmp.Lexicographic.{slice_cmp}
use Rattle.json.specs.Token.{Token}
use Rattle.json.specs.Lex.{tokens}
use Rattle.json.specs.Print.{IsNumber}
use Rattle.json.specs.Json as json
use Rattle.json.specs.Tree as tree
use Rattle.json.proofs.Printed.Tokens.{tokens-print}
use Rattle.json.proofs.Printed.Trees.{value-json_tokens, ArePrintable-json_tokens}
use Rattle.json.proofs.Printed.Decimals.{IsNumber-decimal, IsNumber-signed_decimal}
use Rattle.json.proofs.Printed.Utf8.{IsUtf8-quoted, IsUtf8-are_ascii}
use Rattle.json.proofs.Numbered.{ArePrintableOrBad-tokens, value-HasNumbers}
use Rattle.serde_json.specs.Data.{Data, null, boolean, number, string, array, object, Items, no_items, item, Members, no_members, member, put, depth, items_depth, members_depth}
use Rattle.serde_json.specs.Find.{of_integer}
use Rattle.serde_json.specs.Read.{number_of, of_json, of_items, of_members, max_depth, read}
use Rattle.serde_json.specs.View.{items_of}
use Rattle.serde_json.specs.Written.{number_text, outline, items_outline, members_outline, compact_text, items_text, members_text, comma_if}
use Rattle.round_trip.specs.Compact.Good.{Good}
use Rattle.serde_json.proofs.Numbers.{number_of-decimal, number_of-negative}
use Rattle.serde_json.proofs.Texts.{print-outline}

-- the numbers that `serde_json` reads as integers
abbrev pub Fits : ℤ → Type 0
Fits (pos n) = n < 2 ^ 64
Fits (negsuc n) = n < 2 ^ 63

abbrev whole : Option (json.Json × List Token) → Option Data
whole o = option_and_then of_json (option_and_then (λ p. json.if_last p.0 p.1) o)

pub deeper : (m n : ℕ) (d : Data) → m ≤ n → Good m d → Good n d
deeper m n d h g = record { reads = g.reads; numbers = g.numbers; utf8 = g.utf8; shallow = omega (arith, g.shallow) }

mutual
  depth-outline : (d : Data) → tree.depth (outline d) ≡ depth d
  depth-outline null = refl
  depth-outline (boolean b) = refl
  depth-outline (number n) = refl
  depth-outline (string s) = refl
  depth-outline (array ds) = ap suc (depth-items ds)
  depth-outline (object ms) = ap suc (depth-members ms)

  depth-items : (ds : Items) → tree.items_depth (items_outline ds) ≡ items_depth ds
  depth-items no_items = refl
  depth-items (item d ds) = ap₂ max (depth-outline d) (depth-items ds)

  depth-members : (ms : Members) → tree.members_depth (members_outline ms) ≡ members_depth ms
  depth-members no_members = refl
  depth-members (member k d ms) = ap₂ max (depth-outline d) (depth-members ms)

tokens-compact_text : (d : Data) → tree.HasNumbers (outline d) → tokens (compact_text d) ≡ tree.json_tokens (outline d)
tokens-compact_text d h = ap tokens (sym (print-outline d)) ∙ tokens-print _ (ArePrintable-json_tokens (outline d) h)

value-outline : (d : Data) → depth d ≤ max_depth → json.value max_depth (tree.json_tokens (outline d)) ≡ Some (outline d, [])
value-outline d shallow = ap (json.value max_depth) (sym (append-nil _)) ∙ value-json_tokens (outline d) max_depth [] (omega (arith, depth-outline d))

pub read-Good : (d : Data) → Good max_depth d → read (compact_text d) ≡ Some d
read-Good d g = ap whole (ap (json.value max_depth) (tokens-compact_text d g.numbers) ∙ value-outline d g.shallow) ∙ g.reads

-- ---- parts

number_reads : (z : ℤ) → Fits z → number_of (number_text (of_integer z)) ≡ Some (of_integer z)
number_reads (pos n) h = number_of-decimal n h
number_reads (negsuc n) h = number_of-negative n h

number_prints : (z : ℤ) → Fits z → IsNumber (number_text (of_integer z))
number_prints (pos n) h = IsNumber-decimal n h
number_prints (negsuc n) h = IsNumber-signed_decimal (negsuc n) h

number_utf8 : (z : ℤ) → Fits z → IsUtf8 (number_text (of_integer z))
number_utf8 (pos n) h = IsUtf8-from_ascii _ (IsAscii-decimal n h)
number_utf8 (negsuc n) h = IsUtf8-append (45 ∷ []) _ (IsUtf8-are_ascii _ refl) (IsUtf8-from_ascii _ (IsAscii-decimal (suc n) (omega arith)))

pub Good-number : (n : ℕ) (z : ℤ) → Fits z → Good n (number (of_integer z))
Good-number n z h = record { reads = ap (option_map number) (number_reads z h); numbers = number_prints z h; utf8 = number_utf8 z h; shallow = omega arith }

pub Good-string : (n : ℕ) (s : List ℕ) → IsUtf8 s → Good n (string s)
Good-string n s h = record { reads = refl; numbers = tt; utf8 = IsUtf8-quoted s h; shallow = omega arith }

pub Good-null : (n : ℕ) → Good n null
Good-null n = record { reads = refl; numbers = tt; utf8 = IsUtf8-are_ascii _ refl; shallow = omega arith }

abbrev pub AllGood : ℕ → List Data → Type 0
AllGood n [] = ⊤
AllGood n (d ∷ ds) = Good n d × AllGood n ds

ascii_before : (x : ℕ) (xs : List ℕ) → IsUtf8 (x ∷ []) → IsUtf8 xs → IsUtf8 (x ∷ xs)
ascii_before x xs h k = IsUtf8-append (x ∷ []) xs h k

comma_utf8 : (later : Bool) → IsUtf8 (comma_if later)
comma_utf8 true = IsUtf8-are_ascii _ refl
comma_utf8 false = IsUtf8-nil

items_read : (n : ℕ) (ds : List Data) → AllGood n ds → of_items (items_outline (items_of ds)) ≡ Some (items_of ds)
items_read n [] h = refl
items_read n (d ∷ ds) h =
    ap (option_and_then (λ e. option_map (item e) (of_items (items_outline (items_of ds))))) h.0.reads ∙ ap (option_map (item d)) (items_read n ds h.1)

items_have_numbers : (n : ℕ) (ds : List Data) → AllGood n ds → tree.ItemsHaveNumbers (items_outline (items_of ds))
items_have_numbers n [] h = tt
items_have_numbers n (d ∷ ds) h = (h.0.numbers, items_have_numbers n ds h.1)

items_utf8 : (n : ℕ) (later : Bool) (ds : List Data) → AllGood n ds → IsUtf8 (items_text later (items_of ds))
items_utf8 n later [] h = IsUtf8-are_ascii _ refl
items_utf8 n later (d ∷ ds) h = IsUtf8-append _ _ (comma_utf8 later) (IsUtf8-append _ _ h.0.utf8 (items_utf8 n true ds h.1))

items_shallow : (n : ℕ) (ds : List Data) → AllGood n ds → items_depth (items_of ds) ≤ n
items_shallow n [] h = omega arith
items_shallow n (d ∷ ds) h = omega (arith, h.0.shallow, items_shallow n ds h.1)

pub Good-array : (n : ℕ) (ds : List Data) → AllGood n ds → Good (suc n) (array (items_of ds))
Good-array n ds h = record {
  reads = ap (option_map array) (items_read n ds h);
  numbers = items_have_numbers n ds h;
  utf8 = ascii_before 91 _ (IsUtf8-are_ascii _ refl) (items_utf8 n false ds h);
  shallow = omega (arith, items_shallow n ds h);
}

-- ---- objects

-- the name comes before those of the members
abbrev pub ComesBefore : List ℕ → Members → Type 0
ComesBefore k no_members = ⊤
ComesBefore k (member l d ms) = (slice_cmp nat_cmp k l ≡ Less) × ComesBefore k ms

abbrev pub GoodMembers : ℕ → Members → Type 0
GoodMembers n no_members = ⊤
GoodMembers n (member k d ms) = IsUtf8 k × ComesBefore k ms × Good n d × GoodMembers n ms

-- one list of members after another
abbrev before : Members → Members → Members
before no_members ms = ms
before (member k d done) ms = member k d (before done ms)

before-none : (done : Members) → before done no_members ≡ done
before-none no_members = refl
before-none (member k d done) = ap (member k d) (before-none done)

before-one : (done : Members) (k : List ℕ) (d : Data) (ms : Members) → before (before done (member k d no_members)) ms ≡ before done (member k d ms)
before-one no_members k d ms = refl
before-one (member l e done) k d ms = ap (member l e) (before-one done k d ms)

-- the names of the members come before k
abbrev AreBelow : Members → List ℕ → Type 0
AreBelow no_members k = ⊤
AreBelow (member l d ms) k = (slice_cmp nat_cmp l k ≡ Less) × AreBelow ms k

greater : (k l : List ℕ) → slice_cmp nat_cmp l k ≡ Less → slice_cmp nat_cmp k l ≡ Greater
greater k l e = nat_list_cmp_total.antisymm k l ∙ ap ordering_reverse e

put_last : (k : List ℕ) (d : Data) (done : Members) → AreBelow done k → put k d done ≡ before done (member k d no_members)
put_last k d no_members h = refl
put_last k d (member l e done) h = rw (greater k l h.0) (ap (member l e) (put_last k d done h.1))

-- the names of the first list come before those of the second
abbrev AllBelow : Members → Members → Type 0
AllBelow done no_members = ⊤
AllBelow done (member k d ms) = AreBelow done k × AllBelow done ms

below_more : (done : Members) (k l : List ℕ) (d : Data) → AreBelow done l → slice_cmp nat_cmp k l ≡ Less → AreBelow (before done (member k d no_members)) l
below_more no_members k l d h e = (e, tt)
below_more (member m f done) k l d h e = (h.0, below_more done k l d h.1 e)

all_below : (done : Members) (k : List ℕ) (d : Data) (ms : Members) → AllBelow done ms → ComesBefore k ms → AllBelow (before done (member k d no_members)) ms
all_below done k d no_members h c = tt
all_below done k d (member l e ms) h c = (below_more done k l d h.0 c.0, all_below done k d ms h.1 c.1)

none_below : (ms : Members) → AllBelow no_members ms
none_below no_members = tt
none_below (member k d ms) = (tt, none_below ms)

members_read : (n : ℕ) (done ms : Members) → AllBelow done ms → GoodMembers n ms → of_members (members_outline ms) done ≡ Some (before done ms)
members_read n done no_members b h = ap Some (sym (before-none done))
members_read n done (member k d ms) b h =
    ap (option_and_then (λ e. of_members (members_outline ms) (put k e done))) h.2.reads
    ∙ ap (of_members (members_outline ms)) (put_last k d done b.0)
    ∙ members_read n (before done (member k d no_members)) ms (all_below done k d ms b.1 h.1) h.3
    ∙ ap Some (before-one done k d ms)

members_have_numbers : (n : ℕ) (ms : Members) → GoodMembers n ms → tree.MembersHaveNumbers (members_outline ms)
members_have_numbers n no_members h = tt
members_have_numbers n (member k d ms) h = (h.2.numbers, members_have_numbers n ms h.3)

members_utf8 : (n : ℕ) (later : Bool) (ms : Members) → GoodMembers n ms → IsUtf8 (members_text later ms)
members_utf8 n later no_members h = IsUtf8-are_ascii _ refl
members_utf8 n later (member k d ms) h =
    IsUtf8-append _ _ (comma_utf8 later)
    (IsUtf8-append _ _ (IsUtf8-quoted k h.0) (ascii_before 58 _ (IsUtf8-are_ascii _ refl) (IsUtf8-append _ _ h.2.utf8 (members_utf8 n true ms h.3))))

members_shallow : (n : ℕ) (ms : Members) → GoodMembers n ms → members_depth ms ≤ n
members_shallow n no_members h = omega arith
members_shallow n (member k d ms) h = omega (arith, h.2.shallow, members_shallow n ms h.3)

pub Good-object : (n : ℕ) (ms : Members) → GoodMembers n ms → Good (suc n) (object ms)
Good-object n ms h = record {
  reads = ap (option_map object) (members_read n no_members ms (none_below ms) h);
  numbers = members_have_numbers n ms h;
  utf8 = ascii_before 123 _ (IsUtf8-are_ascii _ refl) (members_utf8 n false ms h);
  shallow = omega (arith, members_shallow n ms h);
}

-- what a text of properties says of its value makes it good
pub Good-text : (t : List ℕ) (d : Data) → read t ≡ Some d → tokens t ≡ tree.json_tokens (outline d) → t ≡ compact_text d → IsUtf8 t → depth d ≤ 64 → Good 64 d
Good-text t d reads lexed text utf8 shallow =
    let deep : depth d ≤ max_depth = omega arith in
    let parsed : json.value max_depth (tokens t) ≡ Some (outline d, []) = ap (json.value max_depth) lexed ∙ value-outline d deep in
    record {
      reads = sym (ap whole parsed) ∙ reads;
      numbers = value-HasNumbers max_depth (tokens t) [] (outline d) (ArePrintableOrBad-tokens t) parsed;
      utf8 = subst IsUtf8 text utf8;
      shallow = shallow;
    }
