use Rattle.std.proofs.Common.{◌∙◌, ℕ, Bool, List, ap, is_some, map, subst, sym}
use Rattle.std.proofs.lemmas.Result.{IfOk-weaker}
use Rattle.std.specs.BTreeMap.{get_by_text}
use Rattle.attributes.specs.Columns.{AreColumns}
use Rattle.decimals.proofs.TopologyLemmas.Properties.{alike, no_columns}
use Rattle.decimals.specs.Topology.LayersBack.{are_numbers, props_of}
use Rattle.decimals.proofs.topology.turning.Turning.layer.Goals as goal

pub returns-in-None : goal.returns-in-None
returns-in-None c =
    let r = c.args.self.now.rules in
    let l = c.args.layer.now in
    let features = map props_of l.geometries in
    let found : List ℕ → Bool = λ q. is_some (get_by_text c.new.result q) in
    IfOk-weaker c.layer_in.result _ _
    (λ made is. is ∙ alike found (are_numbers r.numbers features) r c.args.self.now.areas.items l (λ q. no_columns c.new.result c.new.ensures.empty q ∙ ap (λ n. are_numbers n features q) (sym c.in-None.is)))
    c.layer_in.ensures

pub returns-in_ok-columns_named-in-Named : goal.returns-in_ok-columns_named-in-Named
returns-in_ok-columns_named-in-Named c =
    let r = c.args.self.now.rules in
    let l = c.args.layer.now in
    let features = map props_of l.geometries in
    let named = c.in_ok-columns_named-in-Named.field-0 in
    let found : List ℕ → Bool = λ q. is_some (get_by_text named q) in
    IfOk-weaker c.layer_in-in-Named.result _ _
    (λ made is. is ∙ alike found (are_numbers r.numbers features) r c.args.self.now.areas.items l (λ q. c.in_ok-columns_named-in-Named.ensures q ∙ ap (λ n. are_numbers n features q) (sym c.in-Named.is)))
    c.layer_in-in-Named.ensures

pub returns-in_ok-columns-in-Columns : goal.returns-in_ok-columns-in-Columns
returns-in_ok-columns-in-Columns c =
    let r = c.args.self.now.rules in
    let l = c.args.layer.now in
    let features = map props_of l.geometries in
    let found : List ℕ → Bool = λ q. is_some (get_by_text c.numbers.result.now q) in
    IfOk-weaker c.layer_in-in-Columns.result _ _
    (λ made is. is ∙ alike found (are_numbers r.numbers features) r c.args.self.now.areas.items l
    (λ q. ap is_some (c.numbers.ensures features (subst (λ gs. AreColumns c.in_ok-columns-in-Columns.columns (map props_of gs)) c.geometries.ensures c.in_ok-columns-in-Columns.ensures) q)
    ∙ ap (λ n. are_numbers n features q) (sym c.in-Columns.is)))
    c.layer_in-in-Columns.ensures
