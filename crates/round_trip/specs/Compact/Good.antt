-- Values whose compact text reads back.
use Rattle.std.specs.Prelude.{◌≡◌, ℕ, ◌≤◌, Some, IsUtf8}
use Rattle.json.specs.Tree as tree
use Rattle.serde_json.specs.Data.{Data, depth}
use Rattle.serde_json.specs.Read.{of_json, max_depth}
use Rattle.serde_json.specs.Written.{outline, compact_text}
use Rattle.reading.specs.Text.{document}

-- the text of the value reads back as it, also as a part of a longer text, and nests at most so deep
pub record Good (limit : ℕ) (d : Data) : Type 0 where
  pub reads : of_json (outline d) ≡ Some d
  pub numbers : tree.HasNumbers (outline d)
  pub utf8 : IsUtf8 (compact_text d)
  pub shallow : depth d ≤ limit

-- the text of a good value that nests within JSON's limit is a document of that value
abbrev pub GoodTextsAreRead : Type 0
GoodTextsAreRead = (d : Data) → Good max_depth d → document (compact_text d) ≡ Some d
