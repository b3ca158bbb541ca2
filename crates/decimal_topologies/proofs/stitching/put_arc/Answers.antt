use Rattle.std.proofs.Common.{◌≡◌, ◌++◌, drop, Ok, Err, Some, None, OnOk, refl, sym, ap, ◌∙◌, subst, append-nil}
use Rattle.json.specs.Value.{value_view}
use Rattle.decimal_arcs.specs.Seen.{seen_arcs}
use Rattle.decimal_arcs.specs.Tallies.{with_places}
use Rattle.decimal_topologies.specs.Stitching.{behind, directed}
use Rattle.decimal_topologies.proofs.Stitches.{none_behind, places_of, positions}
use Rattle.decimal_topologies.proofs.stitching.put_arc.Goals.{then-more, else-more}
use Rattle.decimal_topologies.proofs.stitching.put_arc.Goals as goal

pub returns-in_default-clause-put : goal.returns-in_default-clause-put
returns-in_default-clause-put c =
    let none = none_behind c.args.more _ (places_of c.args.arcs.now (value_view c.args.value.now) (Err c.in_default.field-0) None c.in_default.ensures refl) in
    sym (ap (λ ps. c.args.found.now.items ++ positions ps) none ∙ append-nil c.args.found.now.items)

pub returns-in_default-clause-counted : goal.returns-in_default-clause-counted
returns-in_default-clause-counted c =
    let none = none_behind c.args.more _ (places_of c.args.arcs.now (value_view c.args.value.now) (Err c.in_default.field-0) None c.in_default.ensures refl) in
    sym (ap (λ ps. with_places ps c.args.tally.now) none)

pub returns-in_default-arc_of-clause-put : goal.returns-in_default-arc_of-clause-put
returns-in_default-arc_of-clause-put c =
    let none = none_behind c.args.more _ (places_of c.args.arcs.now (value_view c.args.value.now) (Ok c.in-Ok.used) None c.in-Ok.ensures c.in_default-arc_of.ensures) in
    sym (ap (λ ps. c.args.found.now.items ++ positions ps) none ∙ append-nil c.args.found.now.items)

pub returns-in_default-arc_of-clause-counted : goal.returns-in_default-arc_of-clause-counted
returns-in_default-arc_of-clause-counted c =
    let none = none_behind c.args.more _ (places_of c.args.arcs.now (value_view c.args.value.now) (Ok c.in-Ok.used) None c.in-Ok.ensures c.in_default-arc_of.ensures) in
    sym (ap (λ ps. with_places ps c.args.tally.now) none)

pub returns-clause-put : goal.returns-clause-put
returns-clause-put c =
    let ps = directed c.in-Ok.used.backwards c.in-Some.places.now in
    let named = places_of c.args.arcs.now (value_view c.args.value.now) (Ok c.in-Ok.used) (Some ps) c.in-Ok.ensures c.in-Some.ensures in
    let first : drop c.if-more.first ps ≡ behind c.args.more ps = elim c.if-more.branch [
      | then-more w ↦ ap (λ n. drop n ps) w.first-is ∙ ap (λ b. behind b ps) (sym w.if-more.true)
      | else-more w ↦ ap (λ n. drop n ps) w.first-is ∙ ap (λ b. behind b ps) (sym w.if-more.false)
    ] in
    subst (λ qs. OnOk c.put_along.result (c.put_along.new.found.items ≡ c.args.found.now.items ++ positions qs)) (first ∙ ap (behind c.args.more) (sym named)) c.put_along.ensures.put

pub returns-clause-counted : goal.returns-clause-counted
returns-clause-counted c =
    let ps = directed c.in-Ok.used.backwards c.in-Some.places.now in
    let named = places_of c.args.arcs.now (value_view c.args.value.now) (Ok c.in-Ok.used) (Some ps) c.in-Ok.ensures c.in-Some.ensures in
    let first : drop c.if-more.first ps ≡ behind c.args.more ps = elim c.if-more.branch [
      | then-more w ↦ ap (λ n. drop n ps) w.first-is ∙ ap (λ b. behind b ps) (sym w.if-more.true)
      | else-more w ↦ ap (λ n. drop n ps) w.first-is ∙ ap (λ b. behind b ps) (sym w.if-more.false)
    ] in
    subst (λ qs. OnOk c.put_along.result (c.put_along.new.tally ≡ with_places qs c.args.tally.now)) (first ∙ ap (behind c.args.more) (sym named)) c.put_along.ensures.counted
