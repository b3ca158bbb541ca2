use Rattle.std.proofs.Common.{◌≡◌, List, [], ◌∷◌, length, refl, arith, ap, ◌∙◌, sym, map, subst}
use Rattle.shapes.specs.Maps.{set_of, with_features}
use Rattle.reading.specs.Meant.{AreFeatures}
use Rattle.geojson_io.specs.Features.{features_of_text}
use Rattle.outputs.proofs.BuiltTextLemmas.Layers.{SoFarMap, map_started, map_more, map_done}
use Rattle.outputs.proofs.BuiltTextLemmas.Refusals.{begun, one_more, refusal_at}
use Rattle.outputs.proofs.built_text.building.read_layers.Goals as goal

nothing_left : {X : Type 0} (xs : List X) → length xs ≡ 0 → xs ≡ []
nothing_left [] e = refl
nothing_left (x ∷ xs) e = absurd (omega arith)

pub loop-source-init : goal.loop-source-init
loop-source-init g c =
    let t = c.args.grid.now in
    let texts = map (λ s. (g.N.AsStr.text s.0, g.T.AsSlice.items s.1)) c.args.texts.now in
    record {
      judged = begun t (map (λ s. g.T.AsSlice.items s.1) c.args.texts.now);
      collected = subst (SoFarMap t texts texts) (sym c.new-map.ensures) (map_started t texts);
    }

pub loop-source-preserved : goal.loop-source-preserved
loop-source-preserved g c =
    let t = c.args.grid.now in
    let name = g.N.AsStr.text in
    let bytes = g.T.AsSlice.items in
    let source = c.in-Some.source.now in
    let m = c.loop-source.map in
    let s = set_of c.in-Ok.features in
    let split = c.in-Some.ensures.cases.0 in
    let are : AreFeatures s (features_of_text t (bytes source.1)) = rw c.as_slice.ensures at c.in-Ok.ensures.made in
    let added = c.in_ok-map-in-Ok.ensures ∙ ap (λ n. with_features m n s) c.as_str.ensures in
    record {
      judged = one_more _ _ _ _ _ _ c.loop-source.invariant.judged (ap (map (λ s. bytes s.1)) split) (rw c.as_slice.ensures at c.in-Ok.ensures.ok);
      collected =
          subst (SoFarMap t (map (λ s. (name s.0, bytes s.1)) c.args.texts.now) (map (λ s. (name s.0, bytes s.1)) c.in-Some.after.now)) (sym added)
          (map_more t (map (λ s. (name s.0, bytes s.1)) c.args.texts.now) (map (λ s. (name s.0, bytes s.1)) c.loop-source.left.now) (name source.0) (bytes source.1) (map (λ s. (name s.0, bytes s.1)) c.in-Some.after.now) m s c.loop-source.invariant.collected (ap (map (λ s. (name s.0, bytes s.1))) split) are);
    }

pub returns-in-Err-clause-refused : goal.returns-in-Err-clause-refused
returns-in-Err-clause-refused g c =
    refusal_at _ _ _ _ _ _ _ _ c.loop-source.invariant.judged (ap (map (λ s. g.T.AsSlice.items s.1)) c.in-Some.ensures.cases.0)
    (rw c.as_slice.ensures at c.in-Err.ensures.err) c.refuse_text.ensures

pub returns-clause-map : goal.returns-clause-map
returns-clause-map g c =
    let t = c.args.grid.now in
    let texts = map (λ s. (g.N.AsStr.text s.0, g.T.AsSlice.items s.1)) c.args.texts.now in
    let m = c.loop-source.map in
    map_done t texts m (subst (λ left. SoFarMap t texts left m) (ap (map (λ s. (g.N.AsStr.text s.0, g.T.AsSlice.items s.1))) (nothing_left c.loop-source.left.now c.in_default.ensures.cases)) c.loop-source.invariant.collected)
