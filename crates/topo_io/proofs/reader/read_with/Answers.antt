use Rattle.std.proofs.Common.{◌≡◌, [], ◌++◌, codes, sym, ap, ◌∙◌, subst, rules}
use Rattle.serde_json.specs.View.{view}
use Rattle.faults.specs.Path.{name}
use Rattle.reading.specs.Fault.{LeastOrWant, under}
use Rattle.reading.proofs.Results.{on_ok_map, err_map}
use Rattle.topo_io.specs.Limits.{limits_on}
use Rattle.topo_io.specs.Roots.{content_faults, limits_of, transform_faults}
use Rattle.topo_io.proofs.Roots.{limits_known, earlier, content_before, append_none, never}
use Rattle.topo_io.proofs.reader.read_with.Goals as goal

pub returns-in_err-layers-in-Ok-clause-err : goal.returns-in_err-layers-in-Ok-clause-err
returns-in_err-layers-in-Ok-clause-err c =
    let t = view c.args.transform.now in
    let v = view c.args.value.now in
    let same : c.of.result ≡ limits_of t = c.of.ensures ∙ ap limits_on c.in-Ok.ensures.made ∙ sym (limits_known (transform_faults t) t c.in-Ok.ensures.ok) in
    let part : LeastOrWant (content_faults (limits_of t) v ++ under (name (codes "transform")) (transform_faults t)) c.in_err-layers-in-Ok.field-0.0 =
    earlier (name (codes "transform")) (content_faults (limits_of t) v) (transform_faults t) c.in_err-layers-in-Ok.field-0.0 (subst (λ l. LeastOrWant (content_faults l v) c.in_err-layers-in-Ok.field-0.0) same c.in_err-layers-in-Ok.ensures.err) (content_before (limits_of t) v) in
    search (rules, part)

pub returns-in_ok-layers-in-Ok-clause-ok : goal.returns-in_ok-layers-in-Ok-clause-ok
returns-in_ok-layers-in-Ok-clause-ok c =
    let t = view c.args.transform.now in
    let v = view c.args.value.now in
    let same : c.of.result ≡ limits_of t = c.of.ensures ∙ ap limits_on c.in-Ok.ensures.made ∙ sym (limits_known (transform_faults t) t c.in-Ok.ensures.ok) in
    append_none _ _ (subst (λ l. content_faults l v ≡ []) same c.in_ok-layers-in-Ok.ensures.ok) (ap (under (name (codes "transform"))) c.in-Ok.ensures.ok)

pub returns-in-Err-clause-ok : goal.returns-in-Err-clause-ok
returns-in-Err-clause-ok c = on_ok_map c.read_faulty.result _ _ c.read_faulty.ensures.ok (λ none. absurd none)

pub returns-in-Err-clause-grid : goal.returns-in-Err-clause-grid
returns-in-Err-clause-grid c = never c.read_faulty.result _ c.read_faulty.ensures.ok

pub returns-in-Err-clause-layers : goal.returns-in-Err-clause-layers
returns-in-Err-clause-layers c = never c.read_faulty.result _ c.read_faulty.ensures.ok

pub returns-in-Err-clause-distinct : goal.returns-in-Err-clause-distinct
returns-in-Err-clause-distinct c = never c.read_faulty.result _ c.read_faulty.ensures.ok

pub returns-in-Err-clause-err : goal.returns-in-Err-clause-err
returns-in-Err-clause-err c = err_map c.read_faulty.result _ _ c.read_faulty.ensures.err (λ f h. h (view c.args.transform.now) c.in-Err.ensures.err)
