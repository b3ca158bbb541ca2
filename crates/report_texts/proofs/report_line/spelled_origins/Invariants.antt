-- The origins so far, with those that are left, are all.
use Rattle.std.proofs.Common.{◌≡◌, ◌++◌, drop, map}
use Rattle.report_texts.specs.ReportParts.{map_origin}
use Rattle.report_texts.specs.ReportText.{origin_of}
use Rattle.report_texts.proofs.report_line.spelled_origins.Given as goal

abbrev pub invariant-loop-origin : goal.invariant-loop-origin
invariant-loop-origin l = map map_origin l.spelled.items ++ map origin_of (drop l.origin-index l.fn.origins) ≡ map origin_of l.fn.origins
