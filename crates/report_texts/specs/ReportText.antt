-- What became of maps, as a JSON object on a line.
use Rattle.std.specs.Prelude.{ℕ, ℤ, Bool, true, false, List, [], ◌++◌, Option, Some, None, Vec, codes, length, map, option_map, slice_get, string_bytes}
use Rattle.std.specs.declared.alloc.Global.{Global}
use Rattle.std.specs.Fmt.{decimal}
use Rattle.report_texts.specs.Parts.{member_text, numbers_text}
use Rattle.fixing.specs.declared.rules.FeatureFixes.{FeatureFixes}
use Rattle.fixing.specs.declared.rules.Fixes.{Fixes}
use Rattle.grid.specs.Fits.{x_of, y_of}
use Rattle.grid.specs.declared.pos.Pos.{Pos}
use Rattle.rounded_maps.specs.declared.building.Rounded.{Rounded}
use Rattle.rounded_maps.specs.declared.equal.EqualFeatures.{EqualFeatures}
use Rattle.rounded_maps.specs.declared.files.Origin.{Origin}
use Rattle.rounded_maps.specs.declared.outcome.Outcome.{Outcome}
use Rattle.shapes.specs.Spelling.{spelling_of}
use Rattle.sinks.specs.Texts.{list_text, pair_text}
use Rattle.snapping.specs.NearlyShared.Joined.{moved_in, wide_in}
use Rattle.snapping.specs.declared.nearly_shared.clusters.Clusters.{Clusters}
use Rattle.snapping.specs.declared.nearly_shared.counts.VertexCounts.{VertexCounts}

-- a feature of which something was fixed: its number, and how much
abbrev pub fixed_text : FeatureFixes → List ℕ
fixed_text f =
    codes "[" ++ ((decimal f.feature ++ (member_text (codes ",") f.fixes.closed ++ member_text (codes ",") f.fixes.collapsed))
    ++ ((member_text (codes ",") f.fixes.folded ++ (member_text (codes ",") f.fixes.collections ++ member_text (codes ",") f.fixes.lost)) ++ codes "]"))

-- how much was fixed
abbrev pub fix_counts : Fixes → List ℕ
fix_counts f =
    (member_text (codes ",\"closed\":") f.closed ++ member_text (codes ",\"collapsed\":") f.collapsed)
    ++ (member_text (codes ",\"folded\":") f.folded ++ (member_text (codes ",\"collections\":") f.collections ++ member_text (codes ",\"lost\":") f.lost))

-- how many features and positions there are, and what became of numbers
abbrev pub counts_text : Outcome → List ℕ
counts_text o =
    (member_text (codes "{\"features\":") o.features ++ member_text (codes ",\"positions\":") o.tally.positions)
    ++ ((member_text (codes ",\"moved\":") o.tally.moved ++ member_text (codes ",\"furthest\":") o.tally.furthest)
    ++ (member_text (codes ",\"heights\":") o.tally.heights ++ member_text (codes ",\"reals\":") o.reals))

-- what became of a map
abbrev pub outcome_text : Outcome → List ℕ
outcome_text o = counts_text o ++ (fix_counts o.fixes ++ (codes ",\"fixed\":" ++ (list_text fixed_text o.fixed.items ++ codes "}")))

-- a name as JSON, or null
abbrev pub name_or_null : Option (List ℕ) → List ℕ
name_or_null None = codes "null"
name_or_null (Some n) = spelling_of n

-- where a map is from: the place of its text, and the name that this gives it
abbrev pub place_text : Option (List ℕ) × ℕ → List ℕ
place_text p = (codes "{\"layer\":" ++ name_or_null p.0) ++ ((codes ",\"text\":" ++ decimal p.1) ++ codes "}")

-- where a map is from
abbrev pub origin_of : Origin → Option (List ℕ) × ℕ
origin_of o = (option_map string_bytes o.layer, o.text)

-- the numbers of a position
abbrev pub position_of : Pos → ℤ × ℤ
position_of p = (x_of p, y_of p)

-- a position, or null
abbrev pub position_text : Option (ℤ × ℤ) → List ℕ
position_text None = codes "null"
position_text (Some p) = pair_text p.0 p.1

-- two positions, or null
abbrev pub pair_or_null : Option ((ℤ × ℤ) × (ℤ × ℤ)) → List ℕ
pair_or_null None = codes "null"
pair_or_null (Some p) = (codes "[" ++ pair_text p.0.0 p.0.1) ++ (codes "," ++ (pair_text p.1.0 p.1.1 ++ codes "]"))

-- how many positions were moved to others, how many clusters weren't, and where the first of these is
abbrev pub Joins : Type 0
Joins = ℕ × (ℕ × Option (ℤ × ℤ))

-- the same of clusters, none where none were asked for
abbrev pub joined_of : Option Clusters → Joins
joined_of None = (0, (0, None))
joined_of (Some c) = (length (moved_in c), (length (wide_in c), option_map position_of (slice_get (wide_in c) 0)))

-- the same as members
abbrev pub joined_text : Joins → List ℕ
joined_text j = (member_text (codes ",\"joined\":") j.0 ++ member_text (codes ",\"too_wide\":") j.1.0) ++ (codes ",\"first_too_wide\":" ++ position_text j.1.1)

-- how many positions are shared and nearly shared, and where the first pair of these is
abbrev pub Shares : Type 0
Shares = ℕ × (ℕ × Option ((ℤ × ℤ) × (ℤ × ℤ)))

-- the same of counts, none where none were asked for
abbrev pub shared_of : Option VertexCounts → Shares
shared_of None = (0, (0, None))
shared_of (Some c) = (c.shared, (c.near, option_map (λ p. (position_of p.0, position_of p.1)) c.first))

-- the same as members
abbrev pub shared_text : Shares → List ℕ
shared_text s = member_text (codes ",\"shared\":") s.0 ++ ((codes ",\"nearly_shared\":" ++ decimal s.1.0) ++ (codes ",\"first_nearly_shared\":" ++ pair_or_null s.1.1))

-- the lists of equal features, where they were asked for
abbrev pub equal_of : Option (Vec EqualFeatures Global) → List EqualFeatures
equal_of None = []
equal_of (Some e) = e.items

-- the lists of a report, that of the origins as a text, with its counts, and the line's end
abbrev pub report_of : List ℕ → List Outcome → List EqualFeatures → Joins → Shares → List ℕ
report_of origins outcomes equal joins shares =
    ((codes "{\"maps\":" ++ origins)
    ++ ((codes ",\"outcomes\":" ++ list_text outcome_text outcomes) ++ (codes ",\"equal\":" ++ list_text (λ e. numbers_text e.features.items) equal)))
    ++ (joined_text joins ++ (shared_text shares ++ codes "}\n"))

-- what became of maps, as a JSON object and a line's end
abbrev pub report_line : Rounded → List ℕ
report_line r = report_of (list_text place_text (map origin_of r.origins.items)) r.outcomes.items (equal_of r.equal) (joined_of r.clusters) (shared_of r.counts)

-- the same where it is asked for, else nothing
abbrev pub report_if : Bool → Rounded → List ℕ
report_if true rounded = report_line rounded
report_if false rounded = []
