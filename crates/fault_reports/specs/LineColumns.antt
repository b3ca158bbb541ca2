-- Lines and columns of a text.
use Rattle.std.specs.Prelude.{◌≡◌, ℕ, ◌+◌, ◌<◌, ◌≤◌, ◌==◌, Bool, List, Some, count_by, length, slice_get, take}
use Rattle.std.specs.Fmt.{is_char_start}
use Rattle.std.specs.List.{after_last}
use Rattle.fault_reports.specs.declared.line_columns.LineColumn.{LineColumn}

-- the byte ends a line
abbrev pub is_line_feed : ℕ → Bool
is_line_feed b = b == 10

-- what a text has of its last line
unfoldable pub last_line : List ℕ → List ℕ
last_line text = after_last is_line_feed text

-- the place behind a text: its line is one more than the line feeds, its column one more than the characters that begin in the last line
unfoldable pub place_behind : List ℕ → LineColumn
place_behind text = record { line = 1 + count_by is_line_feed text; column = 1 + count_by is_char_start (last_line text) }

-- an offset beside its number
abbrev pub offset_of : ℕ × ℕ → ℕ
offset_of e = e.0

-- the number is that of the offset
abbrev pub IsNumbered : List ℕ → ℕ × ℕ → Type 0
IsNumbered offsets e = slice_get offsets e.1 ≡ Some e.0

-- at the number of an offset of a text is its place
abbrev pub IsPlacedIn : List ℕ → List LineColumn → ℕ × ℕ → Type 0
IsPlacedIn text places e = e.0 ≤ length text → e.1 < length places → slice_get places e.1 ≡ Some (place_behind (take e.0 text))
