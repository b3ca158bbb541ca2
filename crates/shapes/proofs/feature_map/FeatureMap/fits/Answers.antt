use Rattle.std.proofs.Common.{◌∙◌, refl, sym, subst}
use Rattle.shapes.specs.Fitting.{MapFits}
use Rattle.shapes.proofs.FitsLemmas.{EntriesFit, fits_all, fits_each}
use Rattle.shapes.proofs.feature_map.FeatureMap.fits.Goals as goal

pub returns-then-not-fits : goal.returns-then-not-fits
returns-then-not-fits c =
    let g = c.args.grid.now in
    let entries = c.self.inside.layers.entries in
    let first = c.into_iter-layer-iterator.ensures.into_iter_gives ∙ c.iter-layer-items.ensures.rest in (
      λ e. cc,
      λ fits.
          let all = fits_each g entries (subst (MapFits g) (sym c.self.view_is) fits) entries c.iter-layer-items.ensures.found in
          let rest = c.loop-layer.invariant.0 (subst (EntriesFit g) (sym first) all) in
          let yes = c.fits.ensures.1 (subst (EntriesFit g) c.in-Some.ensures.steps rest).0 in cc,
    )

pub returns : goal.returns
returns c =
    let g = c.args.grid.now in
    let entries = c.self.inside.layers.entries in
    let first = c.into_iter-layer-iterator.ensures.into_iter_gives ∙ c.iter-layer-items.ensures.rest in
    let all = c.loop-layer.invariant.1 (subst (EntriesFit g) (sym c.in-None.ensures.steps.0) tt) in
    (λ _. subst (MapFits g) c.self.view_is (fits_all g entries (subst (EntriesFit g) first all)), λ _. refl)
