use Rattle.std.proofs.Common.{◌∷◌, ◌++◌, ◌∙◌, ap, sym}
use Rattle.std.specs.Prelude.{codes, map}
use Rattle.sinks.proofs.Left.{left_step, left_part}
use Rattle.query.specs.Keyed.{member_text, members}
use Rattle.query.proofs.keyed.write_members.Goals as goal

pub loop-geometry-preserved : goal.loop-geometry-preserved
loop-geometry-preserved g c =
    left_step _ c.loop-geometry.invariant
    (ap (λ gs. members c.loop-geometry.separator.0.now c.args.geometries.now gs (map (λ v. v.items) c.loop-geometry.left.now)) c.in-Some.ensures.cases.0
    ∙ ap (λ ls. members c.loop-geometry.separator.0.now c.args.geometries.now (c.in-Some.geometry.now ∷ c.in-Some.behind.now) (map (λ v. v.items) ls)) c.in-Some-split_first.ensures.cases.0
    ∙ ap (λ v. member_text c.loop-geometry.separator.0.now c.args.geometries.now c.in-Some.geometry.now v
    ++ members (codes ",") c.args.geometries.now c.in-Some.behind.now (map (λ v. v.items) c.in-Some-split_first.after.now)) (sym c.as_slice.ensures.value))
    c.in-Ok.ensures.whole

pub returns-in-Err-clause-part : goal.returns-in-Err-clause-part
returns-in-Err-clause-part g c =
    left_part _ c.loop-geometry.invariant
    (ap (λ gs. members c.loop-geometry.separator.0.now c.args.geometries.now gs (map (λ v. v.items) c.loop-geometry.left.now)) c.in-Some.ensures.cases.0
    ∙ ap (λ ls. members c.loop-geometry.separator.0.now c.args.geometries.now (c.in-Some.geometry.now ∷ c.in-Some.behind.now) (map (λ v. v.items) ls)) c.in-Some-split_first.ensures.cases.0
    ∙ ap (λ v. member_text c.loop-geometry.separator.0.now c.args.geometries.now c.in-Some.geometry.now v
    ++ members (codes ",") c.args.geometries.now c.in-Some.behind.now (map (λ v. v.items) c.in-Some-split_first.after.now)) (sym c.as_slice.ensures.value))
    c.in-Err.ensures.part
