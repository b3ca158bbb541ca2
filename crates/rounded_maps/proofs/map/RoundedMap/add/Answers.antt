use Rattle.std.proofs.Common.{◌≡◌, ◌+◌, ◌∙◌, ap, arith, length}
use Rattle.rounded_maps.specs.Fixed.{numbered}
use Rattle.rounded_maps.proofs.map.RoundedMap.add.Goals as goal

pub returns-clause-fixed : goal.returns-clause-fixed
returns-clause-fixed c =
    let got = c.len-number.ensures in
    let ok = c.args.self.now.features.ok in
    let len : c.len-number.result ≡ length c.args.self.now.features.items = omega (arith, got, ok) in
    let f = c.in_ok-fix_feature.field-0 in (
      f,
      c.in_ok-push.ensures.items,
      record {
        id = c.in_ok-fix_feature.ensures.id ∙ c.in_ok-attributes.ensures.id ∙ ap (λ n. numbered c.args.numbers (n + 1) c.args.feature.attributes.id) len;
        props = c.in_ok-fix_feature.ensures.props ∙ c.in_ok-attributes.ensures.props;
        left = c.in_ok-fix_feature.ensures.left;
        fixes = c.in_ok-fix_feature.ensures.fixes;
      },
    )
