-- The texts of a file: one, or those of a sequence.
use Rattle.std.specs.Prelude.{ℕ, ◌==◌, List, [], ◌∷◌, Option, Some, None, Bool, true, false, not, if◌then◌else◌, take, drop}
use Rattle.std.specs.List.{filter, list_all, slice_split}
use Rattle.std.specs.Cmp.Lexicographic.{pointwise}
use Rattle.json.specs.Word.{is_space}
use Rattle.rounded_maps.specs.declared.source.TheConstants.{MARK, RECORD_SEPARATOR, LINE_FEED}

-- the bytes behind a byte order mark in front [RFC 8259, 8.1]
abbrev pub without_mark : List ℕ → List ℕ
without_mark bytes = if pointwise (λ a b. a == b) (take 3 bytes) MARK then drop 3 bytes else bytes

-- what separates the texts: the record separator where it is the first byte, else the line feed [RFC 8142]
abbrev pub separator_of : List ℕ → ℕ
separator_of [] = LINE_FEED
separator_of (b ∷ bytes) = if b == RECORD_SEPARATOR then RECORD_SEPARATOR else LINE_FEED

-- the bytes between separators
abbrev pub parts_of : ℕ → List ℕ → List (List ℕ)
parts_of separator bytes = slice_split (λ b. b == separator) bytes

-- those of the bytes behind a separator, if there is one
abbrev pub parts_behind : ℕ → Option (List ℕ) → List (List ℕ)
parts_behind separator None = []
parts_behind separator (Some bytes) = parts_of separator bytes

-- white space alone [RFC 8259, 2]
abbrev pub is_blank : List ℕ → Bool
is_blank part = list_all is_space part

-- the parts that are texts
abbrev pub texts_among : List (List ℕ) → List (List ℕ)
texts_among parts = filter (λ part. not (is_blank part)) parts

-- the texts of a sequence [RFC 8142; lines own]
abbrev pub records_of : List ℕ → List (List ℕ)
records_of bytes = texts_among (parts_of (separator_of bytes) bytes)

-- the texts of a file: those of a sequence, or the one that it is
abbrev pub texts_in : Bool → List ℕ → List (List ℕ)
texts_in true bytes = records_of (without_mark bytes)
texts_in false bytes = without_mark bytes ∷ []
