-- The parts of a report as its text has them.
use Rattle.std.specs.Prelude.{ℕ, List, Option, option_map}
use Rattle.shapes.specs.Parts.{spelled_text}
use Rattle.sinks.specs.Texts.{list_text}
use Rattle.report_texts.specs.ReportText.{Joins, Shares, place_text, report_of}
use Rattle.report_texts.specs.declared.report_line.JoinedCounts.{JoinedCounts}
use Rattle.report_texts.specs.declared.report_line.MapOrigin.{MapOrigin}
use Rattle.report_texts.specs.declared.report_line.RoundingReport.{RoundingReport}
use Rattle.report_texts.specs.declared.report_line.SharedCounts.{SharedCounts}

-- the place of a map's text, and the name that this gives it
abbrev pub map_origin : MapOrigin → Option (List ℕ) × ℕ
map_origin o = (option_map spelled_text o.layer, o.text)

-- where a map is from
abbrev pub map_origin_text : MapOrigin → List ℕ
map_origin_text o = place_text (map_origin o)

-- the counts of what is joined
abbrev pub joined_counts : JoinedCounts → Joins
joined_counts j = (j.joined, (j.wide, j.first))

-- the counts of what is shared
abbrev pub shared_counts : SharedCounts → Shares
shared_counts s = (s.shared, (s.near, s.first))

-- the lists and the counts, and the line's end
abbrev pub line_text : RoundingReport → List ℕ
line_text r = report_of (list_text map_origin_text r.origins.now) r.outcomes.now r.equal.now (joined_counts r.joined) (shared_counts r.shared)
