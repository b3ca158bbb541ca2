-- Numbers of reports.
use Rattle.std.specs.Prelude.{ℕ, List, ◌++◌}
use Rattle.std.specs.Fmt.{decimal}
use Rattle.sinks.specs.Texts.{list_text}

-- a number behind its name
abbrev pub member_text : List ℕ → ℕ → List ℕ
member_text name n = name ++ decimal n

-- a list of numbers
abbrev pub numbers_text : List ℕ → List ℕ
numbers_text ns = list_text decimal ns
